-- What the writer answers.
use Rattle.std.specs.Prelude.{◌≡◌, ℕ, ◌+◌, ◌-◌, ◌^◌, min, List, [], ◌∷◌, ◌++◌, Option, Some, None, Result, Ok, Err, if◌then◌else◌}
use Rattle.zi_docout.specs.Amiss.{Standing, is_amiss}
use Rattle.zi_docout.specs.declared.fault.WriteFault.{WriteFault}
use Rattle.zi_docout.specs.declared.fault.WriteFault.TheVariants as faults

-- a number as it is answered: one past 2 ^ 64 - 1 stands still there
abbrev pub told : ℕ → ℕ
told n = min n (2 ^ 64 - 1)

-- The element that is named is the first that can't be written. Where none is named, and memory wasn't refused, all can.
abbrev pub IsFirst : Option ℕ → Result Unit WriteFault → Type 0
IsFirst first (Ok u) = first ≡ None
IsFirst first (Err (faults.Unwritable p)) = (n : ℕ) × (first ≡ Some n) × (p ≡ told n)
IsFirst first (Err faults.Memory) = Unit {0}

-- The elements counted on from the number n: the first that can't be written, or the number behind the last.
abbrev pub walk : ℕ → List Standing → Result ℕ ℕ
walk n [] = Ok n
walk n (e ∷ es) = if is_amiss e then Err n else walk (told (n + 1)) es

-- What comes of writing elements behind old: their text, and the number behind the last; or the first that can't be written.
abbrev pub Writes : ℕ → List Standing → List ℕ → List ℕ → List ℕ → Result ℕ WriteFault → Type 0
Writes n es text old new (Ok m) = (walk n es ≡ Ok m) × (new ≡ old ++ text)
Writes n es text old new (Err (faults.Unwritable p)) = walk n es ≡ Err p
Writes n es text old new (Err faults.Memory) = Unit {0}
