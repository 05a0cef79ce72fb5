-- What the cells of the marks show: a cell speaks where its stamp is the present one.
use Rattle.std.specs.Prelude.{◌≡◌, ℕ, ◌==◌, Bool, false, cond, List, length, ◌+◌, slice_index_or, Option, Some, None}
use Rattle.zi_proof.specs.declared.marks.Cell.{Cell}
use Rattle.zi_formula.specs.declared.formula.Formula.{Formula}
use Rattle.zi_proof.specs.Known.{Known}

abbrev pub shown : ℕ → Cell → Option Bool
shown present c = cond (c.stamp == present) (Some c.sign) None

abbrev pub fresh_cell : Cell
fresh_cell = record { stamp = 0; sign = false }

-- what is known by a list of what is known of each variable
abbrev pub known_by : List (Option Bool) → Known
known_by m x = slice_index_or m x None

-- the marks have room for the formula's variables
abbrev pub MadeFor : Formula → List (Option Bool) → Type 0
MadeFor f m = length m ≡ f.variables + 1
