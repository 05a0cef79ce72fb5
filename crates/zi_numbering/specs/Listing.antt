-- Which interfaces some places are of.
use Rattle.std.specs.Prelude.{◌≡◌, ℕ, ◌<◌, ◌==◌, Bool, List, length, slice_index_or, false}
use Rattle.std.specs.List.{list_any}
use Rattle.zi_choice.specs.Walk.{Place}

abbrev pub comes_to : List Place → ℕ → Bool
comes_to ps i = list_any (λ p. p.interface == i) ps

-- for each of so many interfaces whether one of the places is of it
pub record AreListed (n : ℕ) (ps : List Place) (marks : List Bool) : Type 0 where
  pub each : length marks ≡ n
  pub are : (i : ℕ) → i < n → slice_index_or marks i false ≡ comes_to ps i
