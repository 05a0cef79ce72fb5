-- What a core shows, and how it is come to.
use Rattle.std.proofs.Common.{◌≡◌, ℕ, zero, suc, ◌+◌, ◌<◌, ◌≤◌, Bool, true, false, List, [], ◌∷◌, length, map, get_or, refl, sym, ap, ◌∙◌, subst, arith}
use Rattle.std.specs.List.{All}
use Rattle.std.proofs.lemmas.Bool.{and_parts, and_from}
use Rattle.zi_formula.specs.declared.formula.Constraint.{Constraint}
use Rattle.zi_formula.specs.declared.formula.Constraint.TheVariants.{AtMostOne}
use Rattle.zi_formula.specs.declared.formula.Formula.{Formula}
use Rattle.zi_formula.specs.Truth.{constraint_true, all_true, Models}
use Rattle.zi_universe.specs.declared.types.Requirement.{Requirement}
use Rattle.zi_universe.specs.declared.types.Interface.{Interface}
use Rattle.zi_build.specs.Clauses.{rules, formula, constraint_of}
use Rattle.zi_build.proofs.Central.{none_is_no_model}
use Rattle.zi_conflict.specs.Core.{constraint_at, only, HasNoModel, Ascending, IsCore}
use Rattle.zi_conflict.specs.Laws.{CoreIsNone}
use Rattle.zi_conflict.specs.Resting.{numbers_to, IsPart}
use Rattle.zi_conflict.proofs.PartLaws.{part_own, part_ascending, to_ascending}

-- each constraint is true in a model, and where there is none it is no condition
true_at : (cs : List Constraint) (v : ℕ → Bool) (n : ℕ) → all_true v cs ≡ true → constraint_true v (constraint_at cs n) ≡ true
true_at [] v n m = refl
true_at (c ∷ cs) v zero m = (and_parts (constraint_true v c) (all_true v cs) m).0
true_at (c ∷ cs) v (suc n) m = true_at cs v n (and_parts (constraint_true v c) (all_true v cs) m).1

models_only : (f : Formula) (ns : List ℕ) (v : ℕ → Bool) → Models v f → Models v (only f ns)
models_only f [] v m = refl
models_only f (n ∷ ns) v m = and_from (constraint_true v (constraint_at f.constraints n)) (all_true v (map (constraint_at f.constraints) ns)) (true_at f.constraints v n m) (models_only f ns v m)

pub core_is_none : CoreIsNone
core_is_none u req ns h = (none_is_no_model u req).1 (λ v m. h.none v (models_only (formula u req) ns v m))

map_count : {A B : Type 0} (g : A → B) (xs : List A) → length (map g xs) ≡ length xs
map_count g [] = refl
map_count g (x ∷ xs) = ap suc (map_count g xs)

pub core_is : (u : List Interface) (req : Requirement) (f : Formula) (ns : List ℕ) → f ≡ formula u req → IsPart ns (numbers_to (length f.constraints)) → HasNoModel (only f ns) → IsCore u req ns
core_is u req f ns e p none = record {
  own = subst (λ k. All (λ n. n < k) ns) (ap (λ (g : Formula). length g.constraints) e ∙ map_count (constraint_of u) (rules u req)) (part_own f ns p);
  order = part_ascending ns (numbers_to (length f.constraints)) p (to_ascending (length f.constraints));
  none = subst (λ g. HasNoModel (only g ns)) e none;
}
