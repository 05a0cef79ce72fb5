-- What is selected depends on a walk by its used commands alone.
use Rattle.std.proofs.Common.{◌≡◌, ℕ, ◌+◌, List, [], ◌∷◌, ◌++◌, Option, Some, None, refl, ap, ◌∙◌}
use Rattle.std.specs.Option.{option_map}
use Rattle.std.specs.Prelude.{option_to_list}
use Rattle.zi_universe.specs.declared.types.Candidate.{Candidate}
use Rattle.zi_universe.specs.declared.types.Interface.{Interface}
use Rattle.zi_choice.specs.Choice.{Choice, chosen}
use Rattle.zi_choice.specs.Walk.{Walk, Use}
use Rattle.zi_sels.specs.Chosen.{selection_by, selected_at, selected_from, selected}

-- a walk with these commands
abbrev using : List Use → Walk
using used = record { places = []; used = used }

same_by : (u : List Interface) (s : Choice) (v w : Walk) → v.used ≡ w.used → (i : ℕ) (uri : List ℕ) (k : Candidate)
    → selection_by u s v i uri k ≡ selection_by u s w i uri k
unfolding selection_by
same_by u s v w e i uri k = ap (λ (used : List Use). selection_by u s (using used) i uri k) e

same_found : (u : List Interface) (s : Choice) (v w : Walk) → v.used ≡ w.used → (i : ℕ) (uri : List ℕ) (found : Option Candidate)
    → option_to_list (option_map (selection_by u s v i uri) found) ≡ option_to_list (option_map (selection_by u s w i uri) found)
same_found u s v w e i uri None = refl
same_found u s v w e i uri (Some k) = ap (λ x. x ∷ []) (same_by u s v w e i uri k)

same_from : (u : List Interface) (s : Choice) (v w : Walk) → v.used ≡ w.used → (i : ℕ) (is : List Interface)
    → selected_from u s v i is ≡ selected_from u s w i is
same_from u s v w e i [] = refl
same_from u s v w e i (x ∷ is) =
    ap (λ a. a ++ selected_from u s v (i + 1) is) (same_found u s v w e i x.uri (chosen u s i))
    ∙ ap (λ b. selected_at u s w i x ++ b) (same_from u s v w e (i + 1) is)

pub same_selected : (u : List Interface) (s : Choice) (v w : Walk) → v.used ≡ w.used → selected u s v ≡ selected u s w
same_selected u s v w e = same_from u s v w e 0 u
