-- Selections by their interfaces.
use Rattle.std.specs.Prelude.{◌≡◌, ℕ, List, bytes_eq}
use Rattle.std.specs.List.{position_from}
use Rattle.std.specs.Map.{lookup}
use Rattle.zi_sels.specs.declared.types.Selection.{Selection}

-- for each address the place of the first of these selections that is for it
abbrev pub AreTheirPlaces : List Selection → List (List ℕ × ℕ) → Type 0
AreTheirPlaces items es = (q : List ℕ) → lookup (bytes_eq q) es ≡ position_from (λ x. bytes_eq x.interface q) 0 items
