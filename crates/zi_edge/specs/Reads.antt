-- What was taken in of a reader.
use Rattle.std.specs.Prelude.{◌≡◌, ℕ, ◌<◌, ◌≤◌, List, ◌++◌, length, Option, IfSome}
use Rattle.zi_edge.specs.declared.reading.Taken.{Taken}
use Rattle.zi_edge.specs.declared.reading.Taken.TheVariants.{Whole, TooMuch}

-- Of what a reader was to give, where that is known: all of it, within the limit, stands behind what was in the buffer; or it is more
-- than the limit, and the buffer is as before.
abbrev pub TakesIn : Option (List ℕ) → ℕ → List ℕ → Taken → List ℕ → Type 0
TakesIn given limit old Whole new = (bytes : List ℕ) × (new ≡ old ++ bytes) × (length bytes ≤ limit) × IfSome given (λ all. bytes ≡ all)
TakesIn given limit old TooMuch new = (new ≡ old) × IfSome given (λ all. limit < length all)
