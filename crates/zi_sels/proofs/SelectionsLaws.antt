-- What is selected with the commands that a walk uses, sorted, are the selections of a choice.
use Rattle.std.proofs.Common.{◌≡◌, List, map, sym, ap, subst, ◌∙◌}
use Rattle.std.specs.Prelude.{IsPermutation, IsSortedBy}
use Rattle.std.specs.Ordering.{nat_cmp, is_lt}
use Rattle.std.specs.Cmp.Lexicographic.{slice_cmp}
use Rattle.zi_universe.specs.declared.types.Interface.{Interface}
use Rattle.zi_universe.specs.declared.types.Requirement.{Requirement}
use Rattle.zi_universe.specs.Whole.{IsWhole}
use Rattle.zi_choice.specs.declared.traced.Used.{Used}
use Rattle.zi_choice.specs.declared.traced.Traced.{Traced}
use Rattle.zi_choice.specs.Choice.{Choice}
use Rattle.zi_choice.specs.Traces.{as_use, as_walk}
use Rattle.zi_choice.specs.Walk.{Walks}
use Rattle.zi_sels.specs.declared.types.Selection.{Selection}
use Rattle.zi_sels.specs.declared.types.Selections.{Selections}
use Rattle.zi_sels.specs.Chosen.{selected, AreSelected}
use Rattle.zi_sels.specs.Using.{walk_with}
use Rattle.zi_sels.proofs.SelectedLaws.{same_selected}
use Rattle.zi_sels.proofs.SortedLaws.{sorted_selected}

pub are_selected : (u names : List Interface) (req : Requirement) (s picks : Choice) (t : Traced) (used : List Used) (before after : List Selection) (sels : Selections)
    → names ≡ u → picks ≡ s → Walks names req picks (as_walk t) → used ≡ t.used → before ≡ selected names picks (walk_with used) → IsWhole u
    → IsPermutation before after → IsSortedBy (λ x y. is_lt (slice_cmp nat_cmp x.interface y.interface)) after
    → sels.interface ≡ req.interface → sels.command ≡ req.command → sels.items ≡ after → AreSelected u req s sels
are_selected u names req s picks t used before after sels named picked walks uses made whole same up interface command items =
    let walk = as_walk t in
    let all : before ≡ selected u s walk =
    made ∙ (ap (λ v. selected v picks (walk_with used)) named ∙ (ap (λ v. selected u v (walk_with used)) picked ∙ same_selected u s (walk_with used) walk (ap (map as_use) uses))) in
    let moved : IsPermutation (selected u s walk) sels.items =
    subst (λ v. IsPermutation v sels.items) all (subst (λ v. IsPermutation before v) (sym items) same) in
    record {
      walk = walk;
      walks = subst (λ v. Walks u req v walk) picked (subst (λ v. Walks v req picks walk) named walks);
      interface = interface;
      command = command;
      same = moved;
      sorted = sorted_selected u s walk sels.items whole moved (subst (λ v. IsSortedBy (λ x y. is_lt (slice_cmp nat_cmp x.interface y.interface)) v) (sym items) up);
    }
