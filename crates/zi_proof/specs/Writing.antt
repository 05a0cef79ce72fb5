-- What a writer leaves: the text, or where memory was refused a part of it.
use Rattle.std.specs.Prelude.{◌≡◌, ℕ, List, ◌++◌, Result, Ok, Err}
use Rattle.zi_text.specs.declared.memory.Memory.{Memory}

-- only added to
abbrev pub Grown : List ℕ → List ℕ → Type 0
Grown old new = (more : List ℕ) × (new ≡ old ++ more)

abbrev pub Puts : {X : Type 0} → List ℕ → List ℕ → Result X Memory → List ℕ → Type 0
Puts old text (Ok x) new = new ≡ old ++ text
Puts old text (Err e) new = Grown old new
