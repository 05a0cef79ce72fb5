-- Why words are refused, by how many are left from the wrong one on. The contracts inside the crate cite this.
use Rattle.std.specs.Prelude.{ℕ, ◌≤◌, ◌-◌, List, length}
use Rattle.zi_text.specs.Front.{StopsAt}
use Rattle.zi_words.specs.declared.refusal.Refusal.{Refusal}
use Rattle.zi_words.specs.declared.refusal.Refusal.TheVariants.{Left, Memory}
use Rattle.zi_words.specs.Forms.{Word}

-- the words ask for something
abbrev pub Asks : {X : Type 0} → (List Word → X → Type 0) → List Word → Type 0
Asks {X} Rel ws = (x : X) × Rel ws x

-- they aren't right, and so many are left from where they stop being a front of right words
pub record LeftAt (AreGood : List Word → Type 0) (ws : List Word) (n : ℕ) : Type 0 where
  pub within : n ≤ length ws
  pub wrong : ¬ AreGood ws
  pub stops : StopsAt AreGood ws (length ws - n)

-- why they are refused; want of memory says nothing
abbrev pub Refused : {X : Type 0} → (List Word → X → Type 0) → List Word → Refusal → Type 0
Refused Rel ws (Left n) = LeftAt (Asks Rel) ws n
Refused Rel ws Memory = Unit {0}
