-- The laws that join choices and models.
use Rattle.std.proofs.Common.{◌≡◌, ℕ, Bool, false, cond, ◌||◌, ◌&&◌, List, [], ◌∷◌, map, refl, sym, ap, ap₂, ◌∙◌}
use Rattle.zi_universe.specs.declared.types.Requirement.{Requirement}
use Rattle.zi_universe.specs.declared.types.Interface.{Interface}
use Rattle.zi_choice.specs.Choice.{Choice, pick, candidate_at}
use Rattle.zi_choice.specs.Walk.{Walk}
use Rattle.zi_choice.specs.Valid.{IsValid}
use Rattle.zi_formula.specs.Truth.{clause_true, none_true, group_true, constraint_true, all_true, assigned, Models}
use Rattle.zi_choice.specs.Vars.{Var, Cand, var_number}
use Rattle.zi_build.specs.Clauses.{Says, Rule, Some_of, One_of, rules, lit_of, constraint_of, formula}
use Rattle.zi_build.specs.Laws.{IsCandidatePart, IsOfModel, IsOnWalk, ValidIsModel, NoneIsNoModel, ModelHoldsValid}
use Rattle.zi_choice.proofs.Base.{Iff, candidate_is}
use Rattle.zi_build.proofs.Meaning.{Means}
use Rattle.zi_build.proofs.Read.{says_true, some_true, none_of, one_true, rule_true, rules_true, rules_mean}
use Rattle.zi_build.proofs.MeansValid.{Suited, means_valid}
use Rattle.zi_choice.proofs.WalkFacts.{on_is}
use Rattle.zi_build.proofs.ValidMeans.{chosen_vars, pick_eq, pick_is, valid_means}
use Rattle.zi_build.proofs.Model.{held, held_valid, held_true}
use Rattle.zi_build.proofs.Numbers.{table, at_number}
use Rattle.zi_build.specs.There.{Listed}
use Rattle.zi_build.proofs.Formed.{rules_listed, rules_agree}
use Rattle.zi_text.proofs.ListLaws.{some_is, some_of}

abbrev pub by_var : List Interface → (ℕ → Bool) → Var → Bool
by_var u v x = v (var_number u x)

clause_moves : (u : List Interface) (v : ℕ → Bool) (ls : List Says) → clause_true v (map (lit_of u) ls) ≡ some_true (by_var u v) ls
clause_moves u v [] = refl
clause_moves u v (l ∷ ls) = ap (λ b. says_true (by_var u v) l || b) (clause_moves u v ls)

none_moves : (u : List Interface) (v : ℕ → Bool) (xs : List Var) → none_true v (map (var_number u) xs) ≡ none_of (by_var u v) xs
none_moves u v [] = refl
none_moves u v (x ∷ xs) = ap (λ b. cond (by_var u v x) false b) (none_moves u v xs)

group_moves : (u : List Interface) (v : ℕ → Bool) (xs : List Var) → group_true v (map (var_number u) xs) ≡ one_true (by_var u v) xs
group_moves u v [] = refl
group_moves u v (x ∷ xs) = ap₂ (λ a b. cond (by_var u v x) a b) (none_moves u v xs) (group_moves u v xs)

rule_moves : (u : List Interface) (v : ℕ → Bool) (r : Rule) → constraint_true v (constraint_of u r) ≡ rule_true (by_var u v) r
rule_moves u v (Some_of ls) = clause_moves u v ls
rule_moves u v (One_of xs) = group_moves u v xs

rules_move : (u : List Interface) (v : ℕ → Bool) (rs : List Rule) → all_true v (map (constraint_of u) rs) ≡ rules_true (by_var u v) rs
rules_move u v [] = refl
rules_move u v (r ∷ rs) = ap₂ (λ a b. a && b) (rule_moves u v r) (rules_move u v rs)

-- a model is an assignment of which the families hold
pub models_mean : (u : List Interface) (req : Requirement) (v : ℕ → Bool) → Iff (Models v (formula u req)) (Means u req (by_var u v))
models_mean u req v =
    (λ h. (rules_mean u req (by_var u v)).0 (sym (rules_move u v (rules u req)) ∙ h), λ h. rules_move u v (rules u req) ∙ (rules_mean u req (by_var u v)).1 h)

-- what is true of the variables of a valid choice, by their numbers
pub values_of : List Interface → Choice → Walk → ℕ → Bool
values_of u s a = assigned (table (λ x. chosen_vars u s a x) u)

pub values_at : (u : List Interface) (s : Choice) (a : Walk) (x : Var) → Listed u x → values_of u s a (var_number u x) ≡ chosen_vars u s a x
unfolding values_of
values_at u s a x h = at_number (λ x. chosen_vars u s a x) u x false h

pub valid_models : (u : List Interface) (req : Requirement) (s : Choice) (v : IsValid u req s) → Models (values_of u s v.walk) (formula u req)
valid_models u req s v =
    let w : Var → Bool = λ x. chosen_vars u s v.walk x in
    rules_move u (values_of u s v.walk) (rules u req)
    ∙ rules_agree u (by_var u (values_of u s v.walk)) w (values_at u s v.walk) (rules u req) (rules_listed u req)
    ∙ (rules_mean u req w).1 (valid_means u req s v)

valid_part : (u : List Interface) (req : Requirement) (s : Choice) (v : IsValid u req s) → IsCandidatePart u (values_of u s v.walk) s
valid_part u req s v = record {
  fits = v.fits;
  are_true = λ i c p. let k = some_of (candidate_at u i c) (v.fits.there i c p) in values_at u s v.walk (Cand i c) (k.0, sym (candidate_is u i c) ∙ k.1) ∙ pick_is (pick s i) c p;
  are_chosen = λ i c h t. let k = some_of (candidate_at u i c) h in pick_eq (pick s i) c (sym (values_at u s v.walk (Cand i c) (k.0, sym (candidate_is u i c) ∙ k.1)) ∙ t);
}

model_valid : (u : List Interface) (req : Requirement) (s : Choice) → IsOfModel u req s → IsOnWalk u req s → IsValid u req s
model_valid u req s m o =
    let w : Var → Bool = by_var u m.0 in
    let suited : Suited u w s o.0 = record {
      sound = λ i c p. let k = some_of (candidate_at u i c) (m.1.fits.there i c p) in (k.0, sym (candidate_is u i c) ∙ k.1, m.1.are_true i c p);
      full = λ i c k on at t. m.1.are_chosen i c (some_is (candidate_at u i c) k (candidate_is u i c ∙ at)) t;
    } in
    means_valid u req w ((models_mean u req m.0).0 m.2) s o.0 o.1 suited m.1.fits.each (λ i c p. (on_is u req s o.0 o.1 i ((o.2 i).0 (some_is (pick s i) c p))).1)

pub valid_is_model : ValidIsModel
valid_is_model u req s =
    (λ v. ((values_of u s v.walk, valid_part u req s v, valid_models u req s v), (v.walk, v.walks, v.exactly)), λ h. model_valid u req s h.0 h.1)

pub model_holds : ModelHoldsValid
model_holds u req v h =
    let m = (models_mean u req v).0 h in (held u req (by_var u v) m, held_valid u req (by_var u v) m, held_true u req (by_var u v) m)

pub none_is_no_model : NoneIsNoModel
none_is_no_model u req =
    (λ none v m. let h = model_holds u req v m in none h.0 h.1, λ none s v. none (values_of u s v.walk) (valid_models u req s v))
