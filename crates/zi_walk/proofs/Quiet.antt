-- Where no constraint has more to say and what is chosen is known, what is known to be true is a model of the families by
-- itself; so every command that is used, and 64-bit where it is needed, is known.
use Rattle.std.proofs.Common.{◌≡◌, ℕ, Bool, true, false, not, cond, ◌||◌, ◌&&◌, List, [], ◌∷◌, length, map, refl, sym, ap, ◌∙◌, subst, Option, Some, None, inl, inr}
use Rattle.std.proofs.lemmas.Bool.{false≢true, cases_Bool, and_parts, or_left, or_right, not-true, not_from_false, or_cases}
use Rattle.zi_proof.specs.Known.{Known, says, is_false, standing, by_standing, Fails, Goes}
use Rattle.zi_proof.proofs.Sound.{Agrees}
use Rattle.zi_sat.specs.Trail.{fails, silent, all_silent}
use Rattle.zi_universe.specs.declared.types.Requirement.{Requirement}
use Rattle.zi_universe.specs.declared.types.Interface.{Interface}
use Rattle.zi_choice.specs.Choice.{Choice, pick, chosen}
use Rattle.zi_choice.specs.Valid.{IsValid}
use Rattle.zi_choice.specs.Vars.{Var, Cand, Cmd, Wide, var_number}
use Rattle.zi_build.specs.Clauses.{Says, yes, Rule, Some_of, One_of, rules, lit_of, constraint_of, formula}
use Rattle.zi_choice.proofs.Base.{chosen_is, chosen_from}
use Rattle.zi_choice.proofs.WalkFacts.{Need}
use Rattle.zi_build.proofs.Meaning.{Means}
use Rattle.zi_build.proofs.MeansValid.{all_are_used}
use Rattle.zi_build.proofs.ValidMeans.{chosen_vars, pick_eq, use_at, used_case, wide_to}
use Rattle.zi_build.proofs.Read.{says_true, some_true, none_of, one_true, rule_true, rules_true, rules_mean}
use Rattle.zi_build.specs.There.{Listed}
use Rattle.zi_build.proofs.Formed.{Every, SaysListed, RuleListed, rules_listed}
use Rattle.zi_build.proofs.Shapes.{IsCand, AsksCand, NegThen, Shape, shapes}
use Rattle.zi_build.proofs.Central.{by_var}
use Rattle.zi_walk.proofs.Passed.{IsOf, says_some}

module _ (u : List Interface) (req : Requirement) (k : Known) (v : ℕ → Bool) (s : Choice) (agrees : Agrees v k) (of : IsOf u v s) (cand_known : (i c : ℕ) → pick s i ≡ Some c → says (k (var_number u (Cand i c))) true ≡ true) where
  abbrev pub w : Var → Bool
  w y = says (k (var_number u y)) true

  below : (y : Var) → w y ≡ true → v (var_number u y) ≡ true
  below y t = agrees (var_number u y) true (says_some (k (var_number u y)) t)

  stays_false : (y : Var) → v (var_number u y) ≡ false → w y ≡ false
  stays_false y f = elim (cases_Bool (w y)) [ inl t ↦ absurd (false≢true (sym f ∙ below y t)) | inr g ↦ g ]

  lit_known : (y : Var) (b : Bool) → (b ≡ true → IsCand y) → Listed u y → cond b (v (var_number u y)) (not (v (var_number u y))) ≡ true → cond b (w y) (not (w y)) ≡ true
  lit_known y false h l t = not_from_false (w y) (stays_false y (not-true (v (var_number u y)) t))
  lit_known (Cand i c) true h l t = cand_known i c (of.full i c l.0 l.1 t)
  lit_known (Cmd i c n) true h l t = absurd (h refl)
  lit_known Wide true h l t = absurd (h refl)

  some_known : (ls : List Says) → Every AsksCand ls → SaysListed u ls → some_true (by_var u v) ls ≡ true → some_true w ls ≡ true
  some_known [] h l t = absurd (false≢true t)
  some_known (x ∷ ls) h l t =
      elim (or_cases (says_true (by_var u v) x) (some_true (by_var u v) ls) t) [ inl p ↦ or_left (says_true w x) (some_true w ls) (lit_known x.of x.holds h.0 l.0 p) | inr q ↦ or_right (says_true w x) (some_true w ls) (some_known ls h.1 l.1 q) ]

  goes_not : (b : Bool) (g : Known) → fails (cond b Fails (Goes g)) ≡ true → b ≡ true
  goes_not true g e = refl
  goes_not false g e = absurd (false≢true e)

  last_known : (z : Var) → fails (by_standing k (standing k (lit_of u (yes z) ∷ []))) ≡ true → some_true w (yes z ∷ []) ≡ true
  last_known z q = at (k (var_number u z)) refl q
    where
      at : (o : Option Bool) → k (var_number u z) ≡ o → fails (by_standing k (cond (says o false) [] (lit_of u (yes z) ∷ []))) ≡ true → (says (k (var_number u z)) true || false) ≡ true
      at None e h = or_left (says (k (var_number u z)) true) false (goes_not (says (k (var_number u z)) true) _ h)
      at (Some true) e h = or_left (says (k (var_number u z)) true) false (ap (λ o. says o true) e)
      at (Some false) e h = absurd (false≢true h)

  neg_case : (x : Says) (ls : List Says) → x.holds ≡ false → w x.of ≡ true → fails (by_standing k (standing k (map (lit_of u) (x ∷ ls)))) ≡ true → fails (by_standing k (standing k (map (lit_of u) ls))) ≡ true
  neg_case x ls h t q = at (is_false k (lit_of u x)) (ap (λ b. says (k (var_number u x.of)) (not b)) h ∙ t) q
    where
      at : (b : Bool) → b ≡ true → fails (by_standing k (cond b (standing k (map (lit_of u) ls)) (lit_of u x ∷ standing k (map (lit_of u) ls)))) ≡ true → fails (by_standing k (standing k (map (lit_of u) ls))) ≡ true
      at true e g = g
      at false e g = absurd (false≢true e)

  horn : (z : Var) (ls : List Says) → NegThen z ls → fails (by_standing k (standing k (map (lit_of u) ls))) ≡ true → some_true w ls ≡ true
  horn z [] h q = absurd h
  horn z (x ∷ ls) (inl h) q =
      elim (cases_Bool (w x.of)) [
        | inl t ↦ or_right (says_true w x) (some_true w ls) (horn z ls h.1 (neg_case x ls h.0 t q))
        | inr f ↦ or_left (says_true w x) (some_true w ls) (ap (λ b. cond b (w x.of) (not (w x.of))) h.0 ∙ not_from_false (w x.of) f)
      ]
  horn z (x ∷ ls) (inr h) q =
      subst (λ ys. some_true w ys ≡ true) (sym (ap (λ y. y ∷ ls) h.0 ∙ ap (λ ys. yes z ∷ ys) h.1)) (last_known z (subst (λ ys. fails (by_standing k (standing k (map (lit_of u) ys))) ≡ true) (ap (λ y. y ∷ ls) h.0 ∙ ap (λ ys. yes z ∷ ys) h.1) q))

  none_case : (y : Var) (b c r t : Bool) → v (var_number u y) ≡ b → w y ≡ c → (r ≡ true → t ≡ true) → cond b false r ≡ true → cond c false t ≡ true
  none_case y true c r t e f h g = absurd (false≢true g)
  none_case y false true r t e f h g = absurd (false≢true (sym e ∙ below y f))
  none_case y false false r t e f h g = h g

  none_less : (xs : List Var) → none_of (by_var u v) xs ≡ true → none_of w xs ≡ true
  none_less [] h = refl
  none_less (x ∷ xs) h = none_case x (v (var_number u x)) (w x) (none_of (by_var u v) xs) (none_of w xs) refl refl (none_less xs) h

  drop_case : (b r t : Bool) → (r ≡ true → t ≡ true) → cond b false r ≡ true → cond b r t ≡ true
  drop_case true r t h g = absurd (false≢true g)
  drop_case false r t h g = h g

  drop_none : (ys : List Var) → none_of w ys ≡ true → one_true w ys ≡ true
  drop_none [] g = refl
  drop_none (y ∷ ys) g = drop_case (w y) (none_of w ys) (one_true w ys) (drop_none ys) g

  one_case : (y : Var) (b c nv ov nw ow : Bool) → v (var_number u y) ≡ b → w y ≡ c → (nv ≡ true → nw ≡ true) → (ov ≡ true → ow ≡ true) → (nw ≡ true → ow ≡ true) → cond b nv ov ≡ true → cond c nw ow ≡ true
  one_case y true true nv ov nw ow e f n o d g = n g
  one_case y true false nv ov nw ow e f n o d g = d (n g)
  one_case y false true nv ov nw ow e f n o d g = absurd (false≢true (sym e ∙ below y f))
  one_case y false false nv ov nw ow e f n o d g = o g

  one_less : (xs : List Var) → one_true (by_var u v) xs ≡ true → one_true w xs ≡ true
  one_less [] h = refl
  one_less (x ∷ xs) h =
      one_case x (v (var_number u x)) (w x) (none_of (by_var u v) xs) (one_true (by_var u v) xs) (none_of w xs) (one_true w xs) refl refl (none_less xs) (one_less xs) (drop_none xs) h

  rule_known : (r : Rule) → Shape r → RuleListed u r → rule_true (by_var u v) r ≡ true → silent k (constraint_of u r) ≡ true → rule_true w r ≡ true
  rule_known (Some_of ls) (inl h) l t q = some_known ls h l t
  rule_known (Some_of ls) (inr h) l t q = horn h.0 ls h.1 q
  rule_known (One_of xs) h l t q = one_less xs t

  rules_known : (rs : List Rule) → Every Shape rs → Every (RuleListed u) rs → rules_true (by_var u v) rs ≡ true → all_silent k (map (constraint_of u) rs) ≡ true → rules_true w rs ≡ true
  rules_known [] h l t q = refl
  rules_known (r ∷ rs) h l t q =
      let a = and_parts (rule_true (by_var u v) r) (rules_true (by_var u v) rs) t in
      let b = and_parts (silent k (constraint_of u r)) (all_silent k (map (constraint_of u) rs)) q in
      ap (λ x. x && rules_true w rs) (rule_known r h.0 l.0 a.0 b.0) ∙ rules_known rs h.1 l.1 a.1 b.1

  pub known_means : Means u req (by_var u v) → all_silent k (formula u req).constraints ≡ true → Means u req w
  known_means m q =
      (rules_mean u req w).0 (rules_known (rules u req) (shapes u req) (rules_listed u req) ((rules_mean u req (by_var u v)).1 m) q)

  -- what is true of the choice is known
  pub true_known : Means u req (by_var u v) → all_silent k (formula u req).constraints ≡ true → (valid : IsValid u req s) → (y : Var) → Listed u y → chosen_vars u s valid.walk y ≡ true → w y ≡ true
  true_known m q valid (Cand i c) l t = cand_known i c (pick_eq (pick s i) c t)
  true_known m q valid (Cmd i c n) l t =
      let mw = known_means m q in
      let b = and_parts _ (use_at valid.walk i n (chosen u s i)) t in
      let p = pick_eq (pick s i) c b.0 in
      let e = chosen_is u s i c l.0 p l.2 in
      let used = used_case u req s valid i c n l.0 l.1 l.3 (subst (λ o. use_at valid.walk i n o ≡ true) e b.1) in
      all_are_used u req w mw s (λ j d g. let x = of.sound j d g in (x.0, x.1, cand_known j d g)) valid.walk valid.walks (Need i l.1.name) used.0 c n l.0 p l.2 used.1
  true_known m q valid Wide l t =
      let x = wide_to u s (length u) t in
      let c = chosen_from u s x.0 x.1 x.2 in
      ((known_means m q).each x.0 c.0 x.1 c.2).bits64 (cand_known x.0 c.0 c.1) x.3
