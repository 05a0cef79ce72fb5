-- What holds of the trees of every document.
use Rattle.std.specs.Prelude.{◌≡◌, ℕ, false, List, [], ◌∷◌, map}
use Rattle.zi_policy.specs.Platform.{listed}
use Rattle.zi_sels.specs.declared.types.Selection.{Selection}
use Rattle.zi_sels.specs.declared.types.Selections.{Selections}
use Rattle.zi_showing.specs.Tree.{Trees, addresses_in}

-- no address stands twice
abbrev pub AreOnce : List (List ℕ) → Type 0
AreOnce [] = Unit {0}
AreOnce (u ∷ us) = (listed u us ≡ false) × AreOnce us

-- The addresses that are shown are those of the selections, and none is shown twice.
pub record ShowsEachOnce (sels : Selections) (trees : Trees) : Type 0 where
  pub same : (u : List ℕ) → listed u (addresses_in trees) ≡ listed u (map (λ (x : Selection). x.interface) sels.items)
  pub once : AreOnce (addresses_in trees)
