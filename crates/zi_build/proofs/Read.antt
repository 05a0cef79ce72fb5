-- The list of constraints is true of an assignment exactly where its families hold.
use Rattle.std.proofs.Common.{◌≡◌, ℕ, zero, suc, ◌==◌, ◌+◌, ◌<◌, Bool, true, false, not, cond, ◌||◌, ◌&&◌, List, [], ◌∷◌, ◌++◌, length, refl, sym, ap, ap₂, ◌∙◌, subst, arith, Option, Some, None, ◌⊎◌, inl, inr, eqb-true}
use Rattle.std.specs.Prelude.{slice_get}
use Rattle.std.proofs.lemmas.Bool.{false≢true, false_from_ne_true, and_parts, and_from, or_left, or_right, cases_Bool, or_cases}
use Rattle.std.proofs.lemmas.Option.{same_Some}
use Rattle.zi_policy.specs.declared.types.Width.{Width}
use Rattle.zi_policy.specs.declared.types.Width.TheVariants.{Any, Bits32, Bits64}
use Rattle.zi_parts.specs.declared.types.Dep.{Dep}
use Rattle.zi_parts.specs.declared.types.DepKind.{DepKind}
use Rattle.zi_parts.specs.declared.types.DepKind.TheVariants.{Essential, Recommended, Restricts}
use Rattle.zi_parts.specs.declared.types.Command.{Command}
use Rattle.zi_universe.specs.declared.types.Requirement.{Requirement}
use Rattle.zi_universe.specs.declared.types.Candidate.{Candidate}
use Rattle.zi_universe.specs.declared.types.Interface.{Interface}
use Rattle.zi_choice.specs.Choice.{number, needs_of, command_place}
use Rattle.zi_choice.specs.Walk.{wanted}
use Rattle.zi_choice.specs.Valid.{group}
use Rattle.zi_choice.specs.Vars.{Var, Cand, Cmd, Wide, candidates_of}
use Rattle.zi_build.specs.Clauses.{same_var, Says, yes, no, Rule, Some_of, One_of, same_says, without, once, clause, each, keep, is_admitted, at_target, among, admitted_one, refused_one, admission, having, named_one, naming, named_by, need, needs, of_width, of_command, of_candidate, of_interface, two_or_more, one_var, group_of, root_one, wanted_one, of_requirement, rules}
use Rattle.zi_choice.proofs.Base.{interface_at, candidates_at, Iff}
use Rattle.zi_build.proofs.Meaning.{IsAt, UsesOne, Uses, HasOne, DepMeans, AllMean, HasRoot, AtMostOneOf, CandidateMeans, Means}
use Rattle.zi_build.proofs.MeansValid.{recommended_apart, restricts_apart}
use Rattle.zi_feed.specs.IdLaws.{none_some}

abbrev pub says_true : (Var → Bool) → Says → Bool
says_true w l = cond l.holds (w l.of) (not (w l.of))

abbrev pub some_true : (Var → Bool) → List Says → Bool
some_true w [] = false
some_true w (l ∷ ls) = says_true w l || some_true w ls

abbrev pub none_of : (Var → Bool) → List Var → Bool
none_of w [] = true
none_of w (x ∷ xs) = cond (w x) false (none_of w xs)

abbrev pub one_true : (Var → Bool) → List Var → Bool
one_true w [] = true
one_true w (x ∷ xs) = cond (w x) (none_of w xs) (one_true w xs)

abbrev pub rule_true : (Var → Bool) → Rule → Bool
rule_true w (Some_of ls) = some_true w ls
rule_true w (One_of xs) = one_true w xs

abbrev pub rules_true : (Var → Bool) → List Rule → Bool
rules_true w [] = true
rules_true w (r ∷ rs) = rule_true w r && rules_true w rs

pub app_true : (w : Var → Bool) (a b : List Rule) → Iff (rules_true w (a ++ b) ≡ true) ((rules_true w a ≡ true) × (rules_true w b ≡ true))
app_true w [] b = (λ h. (refl, h), λ h. h.1)
app_true w (r ∷ a) b = (
  λ h. let s = and_parts (rule_true w r) (rules_true w (a ++ b)) h in let t = (app_true w a b).0 s.1 in (and_from (rule_true w r) (rules_true w a) s.0 t.0, t.1),
  λ h. let s = and_parts (rule_true w r) (rules_true w a) h.0 in and_from (rule_true w r) (rules_true w (a ++ b)) s.0 ((app_true w a b).1 (s.1, h.1)),
)

pub one_rule : (w : Var → Bool) (r : Rule) → Iff (rules_true w (r ∷ []) ≡ true) (rule_true w r ≡ true)
one_rule w r = (λ h. (and_parts (rule_true w r) true h).0, λ h. and_from (rule_true w r) true h refl)

-- what is said of each item holds exactly where it holds of each by its place
pub each_true : {A : Type 0} (w : Var → Bool) (n : ℕ) (f : ℕ → A → List Rule) (xs : List A) → Iff (rules_true w (each n f xs) ≡ true) ((k : ℕ) (x : A) → slice_get xs k ≡ Some x → rules_true w (f (n + k) x) ≡ true)
each_true w n f [] = (λ h k x e. absurd (none_some e), λ h. refl)
each_true {A = A} w n f (y ∷ ys) = (
  λ h k x e. forth ((app_true w (f n y) (each (suc n) f ys)).0 h).0 (λ k x e. (each_true w (suc n) f ys).0 ((app_true w (f n y) (each (suc n) f ys)).0 h).1 k x e) k x e,
  λ h. (app_true w (f n y) (each (suc n) f ys)).1 (
    let z : n + 0 ≡ n = omega arith in subst (λ m. rules_true w (f m y) ≡ true) z (h 0 y refl),
    (each_true w (suc n) f ys).1 (λ k x e. let z : n + suc k ≡ suc n + k = omega arith in subst (λ m. rules_true w (f m x) ≡ true) z (h (suc k) x e)),
  ),
)
  where
    forth : rules_true w (f n y) ≡ true → ((k : ℕ) (x : A) → slice_get ys k ≡ Some x → rules_true w (f (suc n + k) x) ≡ true) → (k : ℕ) (x : A) → slice_get (y ∷ ys) k ≡ Some x → rules_true w (f (n + k) x) ≡ true
    forth a b zero x e = let z : n ≡ n + 0 = omega arith in subst (λ m. rules_true w (f m x) ≡ true) z (subst (λ t. rules_true w (f n t) ≡ true) (same_Some _ _ e) a)
    forth a b (suc k) x e = let z : suc n + k ≡ n + suc k = omega arith in subst (λ m. rules_true w (f m x) ≡ true) z (b k x e)

pub each0_true : {A : Type 0} (w : Var → Bool) (f : ℕ → A → List Rule) (xs : List A) → Iff (rules_true w (each 0 f xs) ≡ true) ((k : ℕ) (x : A) → slice_get xs k ≡ Some x → rules_true w (f k x) ≡ true)
each0_true w f xs = (
  λ h k x e. let z : 0 + k ≡ k = omega arith in subst (λ m. rules_true w (f m x) ≡ true) z ((each_true w 0 f xs).0 h k x e),
  λ h. (each_true w 0 f xs).1 (λ k x e. let z : k ≡ 0 + k = omega arith in subst (λ m. rules_true w (f m x) ≡ true) z (h k x e)),
)

-- a literal once or twice is the same
pub var_eq : (x y : Var) → same_var x y ≡ true → x ≡ y
var_eq (Cand i c) (Cand j d) e = let b = and_parts (i == j) (c == d) e in ap₂ (λ x y. Cand x y) (eqb-true i j b.0) (eqb-true c d b.1)
var_eq (Cand i c) (Cmd j d k) e = absurd (false≢true e)
var_eq (Cand i c) Wide e = absurd (false≢true e)
var_eq (Cmd i c l) (Cand j d) e = absurd (false≢true e)
var_eq (Cmd i c l) (Cmd j d k) e =
    let b = and_parts (i == j) (c == d && l == k) e in
    let b2 = and_parts (c == d) (l == k) b.1 in
    ap₂ (λ x y. Cmd x y l) (eqb-true i j b.0) (eqb-true c d b2.0) ∙ ap (λ z. Cmd j d z) (eqb-true l k b2.1)
var_eq (Cmd i c l) Wide e = absurd (false≢true e)
var_eq Wide (Cand j d) e = absurd (false≢true e)
var_eq Wide (Cmd j d k) e = absurd (false≢true e)
var_eq Wide Wide e = refl

bool_eq : (a b : Bool) → cond a b (not b) ≡ true → a ≡ b
bool_eq true true e = refl
bool_eq true false e = absurd (false≢true e)
bool_eq false true e = absurd (false≢true e)
bool_eq false false e = refl

lit_eq : (w : Var → Bool) (l m : Says) → same_says l m ≡ true → says_true w l ≡ says_true w m
lit_eq w l m e =
    let b = and_parts (same_var l.of m.of) (cond l.holds m.holds (not m.holds)) e in
    ap₂ (λ x y. cond x (w y) (not (w y))) (bool_eq l.holds m.holds b.1) (var_eq l.of m.of b.0)

or_absorb : (a b c : Bool) → (a || b) ≡ (a || c) → (a || (a || b)) ≡ (a || c)
or_absorb true b c e = refl
or_absorb false b c e = e

or_swap : (a m b c : Bool) → (a || b) ≡ (a || c) → (a || (m || b)) ≡ (a || (m || c))
or_swap true m b c e = refl
or_swap false true b c e = refl
or_swap false false b c e = e

drop_case : (w : Var → Bool) (l m : Says) (ms rest : List Says) (b : Bool) → same_says l m ≡ b → (says_true w l || some_true w rest) ≡ (says_true w l || some_true w ms) → (says_true w l || some_true w (cond b rest (m ∷ rest))) ≡ (says_true w l || (says_true w m || some_true w ms))
drop_case w l m ms rest true e h =
    sym (subst (λ x. (says_true w l || (x || some_true w ms)) ≡ (says_true w l || some_true w rest)) (lit_eq w l m e) (or_absorb (says_true w l) (some_true w ms) (some_true w rest) (sym h)))
drop_case w l m ms rest false e h = or_swap (says_true w l) (says_true w m) (some_true w rest) (some_true w ms) h

drop_true : (w : Var → Bool) (l : Says) (ms : List Says) → (says_true w l || some_true w (without l ms)) ≡ (says_true w l || some_true w ms)
drop_true w l [] = refl
drop_true w l (m ∷ ms) = drop_case w l m ms (without l ms) (same_says l m) refl (drop_true w l ms)

once_true : (w : Var → Bool) (ls : List Says) → some_true w (once ls) ≡ some_true w ls
once_true w [] = refl
once_true w (l ∷ ls) = drop_true w l (once ls) ∙ ap (λ x. says_true w l || x) (once_true w ls)

pub clause_is : (w : Var → Bool) (ls : List Says) → Iff (rule_true w (clause ls) ≡ true) (some_true w ls ≡ true)
clause_is w ls = (λ h. sym (once_true w ls) ∙ h, λ h. once_true w ls ∙ h)

-- a clause that begins with `not y`
imp_b : (y b : Bool) → Iff ((not y || b) ≡ true) (y ≡ true → b ≡ true)
imp_b true b = (λ h e. h, λ h. h refl)
imp_b false b = (λ h e. absurd (false≢true e), λ h. refl)

imp : (w : Var → Bool) (y : Var) (ls : List Says) → Iff (rule_true w (clause (no y ∷ ls)) ≡ true) (w y ≡ true → some_true w ls ≡ true)
imp w y ls =
    (λ h. (imp_b (w y) (some_true w ls)).0 ((clause_is w (no y ∷ ls)).0 h), λ h. (clause_is w (no y ∷ ls)).1 ((imp_b (w y) (some_true w ls)).1 h))

imp_one : (w : Var → Bool) (y : Var) (ls : List Says) → Iff (rules_true w (clause (no y ∷ ls) ∷ []) ≡ true) (w y ≡ true → some_true w ls ≡ true)
imp_one w y ls = (λ h. (imp w y ls).0 ((one_rule w (clause (no y ∷ ls))).0 h), λ h. (one_rule w (clause (no y ∷ ls))).1 ((imp w y ls).1 h))

-- `not y, not x` and more
imp_two : (w : Var → Bool) (y x : Var) (ls : List Says) → Iff (rule_true w (clause (no y ∷ no x ∷ ls)) ≡ true) (w y ≡ true → w x ≡ true → some_true w ls ≡ true)
imp_two w y x ls =
    (λ h t. (imp_b (w x) (some_true w ls)).0 ((imp w y (no x ∷ ls)).0 h t), λ h. (imp w y (no x ∷ ls)).1 (λ t. (imp_b (w x) (some_true w ls)).1 (h t)))

or_nil : (b : Bool) → Iff ((b || false) ≡ true) (b ≡ true)
or_nil true = (λ h. refl, λ h. refl)
or_nil false = (λ h. h, λ h. h)

or_not : (b : Bool) → Iff ((not b || false) ≡ true) (b ≡ false)
or_not true = (λ h. absurd (false≢true h), λ h. absurd (false≢true (sym h)))
or_not false = (λ h. refl, λ h. refl)

keep_some : (w : Var → Bool) (b : Bool) (x : Var) → Iff (some_true w (keep b (yes x)) ≡ true) ((b ≡ true) × (w x ≡ true))
keep_some w true x = (λ h. (refl, (or_nil (w x)).0 h), λ h. (or_nil (w x)).1 h.1)
keep_some w false x = (λ h. absurd (false≢true h), λ h. absurd (false≢true h.0))

keep_rule : (w : Var → Bool) (b : Bool) (r : Rule) → Iff (rules_true w (keep b r) ≡ true) (b ≡ true → rule_true w r ≡ true)
keep_rule w true r = (λ h e. (one_rule w r).0 h, λ h. (one_rule w r).1 (h refl))
keep_rule w false r = (λ h e. absurd (false≢true e), λ h. refl)

some_app : (w : Var → Bool) (a b : List Says) → Iff (some_true w (a ++ b) ≡ true) ((some_true w a ≡ true) ⊎ (some_true w b ≡ true))
some_app w [] b = (λ h. inr h, λ h. elim h [ inl p ↦ absurd (false≢true p) | inr q ↦ q ])
some_app w (l ∷ a) b = (
  λ h. elim (or_cases (says_true w l) (some_true w (a ++ b)) h) [ inl p ↦ inl (or_left (says_true w l) (some_true w a) p) | inr q ↦ elim ((some_app w a b).0 q) [ inl p ↦ inl (or_right (says_true w l) (some_true w a) p) | inr r ↦ inr r ] ],
  λ h. elim h [ inl p ↦ elim (or_cases (says_true w l) (some_true w a) p) [ inl x ↦ or_left (says_true w l) (some_true w (a ++ b)) x | inr y ↦ or_right (says_true w l) (some_true w (a ++ b)) ((some_app w a b).1 (inl y)) ] | inr q ↦ or_right (says_true w l) (some_true w (a ++ b)) ((some_app w a b).1 (inr q)) ],
)

-- one of what is said of each item holds where it does of one, by its place
abbrev SomeAt : {A : Type 0} → (Var → Bool) → ℕ → (ℕ → A → List Says) → List A → Type 0
SomeAt {A} w n f xs = (k : ℕ) × (x : A) × (slice_get xs k ≡ Some x) × (some_true w (f (n + k) x) ≡ true)

some_each : {A : Type 0} (w : Var → Bool) (n : ℕ) (f : ℕ → A → List Says) (xs : List A) → Iff (some_true w (each n f xs) ≡ true) (SomeAt w n f xs)
some_each w n f [] = (λ h. absurd (false≢true h), λ h. absurd (none_some h.2))
some_each {A = A} w n f (y ∷ ys) = (
  λ h. elim ((some_app w (f n y) (each (suc n) f ys)).0 h) [
    | inl p ↦ let z : n ≡ n + 0 = omega arith in (0, y, refl, subst (λ m. some_true w (f m y) ≡ true) z p)
    | inr q ↦ let r = (some_each w (suc n) f ys).0 q in let r0 = r.0 in let z : suc n + r0 ≡ n + suc r0 = omega arith in (suc r0, r.1, r.2, subst (λ m. some_true w (f m r.1) ≡ true) z r.3)
  ],
  λ h. back (λ z. (some_each w (suc n) f ys).1 z) h.0 h.1 h.2 h.3,
)
  where
    back : (SomeAt w (suc n) f ys → some_true w (each (suc n) f ys) ≡ true) → (k : ℕ) (x : A) → slice_get (y ∷ ys) k ≡ Some x → some_true w (f (n + k) x) ≡ true → some_true w (f n y ++ each (suc n) f ys) ≡ true
    back later zero x e t =
        let z : n + 0 ≡ n = omega arith in (some_app w (f n y) (each (suc n) f ys)).1 (inl (subst (λ v. some_true w (f n v) ≡ true) (sym (same_Some _ _ e)) (subst (λ m. some_true w (f m x) ≡ true) z t)))
    back later (suc k) x e t =
        let z : n + suc k ≡ suc n + k = omega arith in (some_app w (f n y) (each (suc n) f ys)).1 (inr (later (k, x, e, subst (λ m. some_true w (f m x) ≡ true) z t)))

some_each0 : {A : Type 0} (w : Var → Bool) (f : ℕ → A → List Says) (xs : List A) → Iff (some_true w (each 0 f xs) ≡ true) ((k : ℕ) × (x : A) × (slice_get xs k ≡ Some x) × (some_true w (f k x) ≡ true))
some_each0 w f xs = (
  λ h. let r = (some_each w 0 f xs).0 h in let r0 = r.0 in let z : 0 + r0 ≡ r0 = omega arith in (r0, r.1, r.2, subst (λ m. some_true w (f m r.1) ≡ true) z r.3),
  λ h. let h0 = h.0 in let z : h0 ≡ 0 + h0 = omega arith in (some_each w 0 f xs).1 (h0, h.1, h.2, subst (λ m. some_true w (f m h.1) ≡ true) z h.3),
)

-- the same among the candidates of the interface that a dependency is on
target_true : (u : List Interface) (w : Var → Bool) (f : ℕ → ℕ → Candidate → List Rule) (o : Option ℕ) → Iff (rules_true w (at_target u f o) ≡ true) ((j e : ℕ) (k : Candidate) → o ≡ Some j → IsAt u j e k → rules_true w (f j e k) ≡ true)
target_true u w f None = (λ h j e k n at. absurd (none_some n), λ h. refl)
target_true u w f (Some i) = (
  λ h j e k n at. let q : i ≡ j = same_Some _ _ n in subst (λ x. rules_true w (f x e k) ≡ true) q ((each0_true w (f i) (candidates_of u i)).0 h e k (subst (λ x. IsAt u x e k) (sym q) at)),
  λ h. (each0_true w (f i) (candidates_of u i)).1 (λ e k at. h i e k refl at),
)

target_some : (u : List Interface) (w : Var → Bool) (f : ℕ → ℕ → Candidate → List Says) (o : Option ℕ) → Iff (some_true w (at_target u f o) ≡ true) ((j : ℕ) × (e : ℕ) × (k : Candidate) × (o ≡ Some j) × IsAt u j e k × (some_true w (f j e k) ≡ true))
target_some u w f None = (λ h. absurd (false≢true h), λ h. absurd (none_some h.3))
target_some u w f (Some i) = (
  λ h. let r = (some_each0 w (f i) (candidates_of u i)).0 h in (i, r.0, r.1, refl, r.2, r.3),
  λ h. let q : i ≡ h.0 = same_Some _ _ h.3 in (some_each0 w (f i) (candidates_of u i)).1 (h.1, h.2, subst (λ x. IsAt u x h.1 h.2) (sym q) h.4, subst (λ x. some_true w (f x h.1 h.2) ≡ true) (sym q) h.5),
)

-- need(y, d)
admitted_true : (u : List Interface) (w : Var → Bool) (d : Dep) → Iff (some_true w (among u d (admitted_one d)) ≡ true) (HasOne u w d)
admitted_true u w d = (
  λ h. let r = (target_some u w (admitted_one d) (number u d.interface)).0 h in let k = (keep_some w (is_admitted d r.2) (Cand r.0 r.1)).0 r.5 in
      record { interface = r.0; candidate = r.1; item = r.2; target = r.3; there = r.4; admitted = k.0; is_true = k.1 },
  λ h. (target_some u w (admitted_one d) (number u d.interface)).1 (h.interface, h.candidate, h.item, h.target, h.there, (keep_some w (is_admitted d h.item) (Cand h.interface h.candidate)).1 (h.admitted, h.is_true)),
)

abbrev Refused : List Interface → (Var → Bool) → Dep → Type 0
Refused u w d = (j e : ℕ) (k : Candidate) → number u d.interface ≡ Some j → IsAt u j e k → w (Cand j e) ≡ true → is_admitted d k ≡ true

refuse_one : (w : Var → Bool) (y x : Var) (b : Bool) → Iff (rules_true w (keep (not b) (clause (no y ∷ no x ∷ []))) ≡ true) (w y ≡ true → w x ≡ true → b ≡ true)
refuse_one w y x true = (λ h t q. refl, λ h. refl)
refuse_one w y x false =
    (λ h t q. (imp_two w y x []).0 ((one_rule w (clause (no y ∷ no x ∷ []))).0 h) t q, λ h. (one_rule w (clause (no y ∷ no x ∷ []))).1 ((imp_two w y x []).1 h))

refused_true : (u : List Interface) (w : Var → Bool) (y : Var) (d : Dep) → Iff (rules_true w (among u d (refused_one y d)) ≡ true) (w y ≡ true → Refused u w d)
refused_true u w y d = (
  λ h t j e k n at x. (refuse_one w y (Cand j e) (is_admitted d k)).0 ((target_true u w (refused_one y d) (number u d.interface)).0 h j e k n at) t x,
  λ h. (target_true u w (refused_one y d) (number u d.interface)).1 (λ j e k n at. (refuse_one w y (Cand j e) (is_admitted d k)).1 (λ t x. h t j e k n at x)),
)

abbrev Admission : List Interface → (Var → Bool) → Dep → DepKind → Type 0
Admission u w d k = (k ≡ Essential → HasOne u w d) × ((k ≡ Essential → ⊥) → Refused u w d)

admission_true : (u : List Interface) (w : Var → Bool) (y : Var) (d : Dep) (k : DepKind) → Iff (rules_true w (admission u y d k) ≡ true) (w y ≡ true → Admission u w d k)
admission_true u w y d Essential =
    (λ h t. (λ q. (admitted_true u w d).0 ((imp_one w y (among u d (admitted_one d))).0 h t), λ f. absurd (f refl)), λ h. (imp_one w y (among u d (admitted_one d))).1 (λ t. (admitted_true u w d).1 ((h t).0 refl)))
admission_true u w y d Recommended =
    (λ h t. (λ q. absurd (recommended_apart q), λ f. (refused_true u w y d).0 h t), λ h. (refused_true u w y d).1 (λ t. (h t).1 recommended_apart))
admission_true u w y d Restricts =
    (λ h t. (λ q. absurd (restricts_apart q), λ f. (refused_true u w y d).0 h t), λ h. (refused_true u w y d).1 (λ t. (h t).1 restricts_apart))

having_true : (w : Var → Bool) (j e : ℕ) (o : Option ℕ) → Iff (some_true w (having j e o) ≡ true) (UsesOne w j e o)
having_true w j e None = (λ h. absurd (false≢true h), λ h. absurd h)
having_true w j e (Some n) = or_nil (w (Cmd j e n))

abbrev Named : List Interface → (Var → Bool) → Dep → List (List ℕ) → Type 0
Named u w d names = (j e : ℕ) (k : Candidate) → number u d.interface ≡ Some j → IsAt u j e k → is_admitted d k ≡ true → w (Cand j e) ≡ true → Uses w j e k names

name_true : (w : Var → Bool) (y : Var) (d : Dep) (name : List ℕ) (j e : ℕ) (k : Candidate) → Iff (rules_true w (named_one y d name j e k) ≡ true) (w y ≡ true → is_admitted d k ≡ true → w (Cand j e) ≡ true → UsesOne w j e (command_place k name))
name_true w y d name j e k =
    let hs = having j e (command_place k name) in (
      λ h t a x. (having_true w j e (command_place k name)).0 ((imp_two w y (Cand j e) hs).0 ((keep_rule w (is_admitted d k) (clause (no y ∷ no (Cand j e) ∷ hs))).0 h a) t x),
      λ h. (keep_rule w (is_admitted d k) (clause (no y ∷ no (Cand j e) ∷ hs))).1 (λ a. (imp_two w y (Cand j e) hs).1 (λ t x. (having_true w j e (command_place k name)).1 (h t a x))),
    )

naming_true : (u : List Interface) (w : Var → Bool) (y : Var) (d : Dep) (names : List (List ℕ)) → Iff (rules_true w (naming u y d names) ≡ true) (w y ≡ true → Named u w d names)
naming_true u w y d [] = (λ h t j e k n at a x. tt, λ h. refl)
naming_true u w y d (name ∷ names) =
    let first = among u d (named_one y d name) in (
      λ h t j e k n at a x. let s = (app_true w first (naming u y d names)).0 h in
          ((name_true w y d name j e k).0 ((target_true u w (named_one y d name) (number u d.interface)).0 s.0 j e k n at) t a x, (naming_true u w y d names).0 s.1 t j e k n at a x),
      λ h. (app_true w first (naming u y d names)).1 (
        (target_true u w (named_one y d name) (number u d.interface)).1 (λ j e k n at. (name_true w y d name j e k).1 (λ t a x. (h t j e k n at a x).0)),
        (naming_true u w y d names).1 (λ t j e k n at a x. (h t j e k n at a x).1),
      ),
    )

need_true : (u : List Interface) (w : Var → Bool) (y : Var) (d : Dep) → Iff (rules_true w (need u y d) ≡ true) (w y ≡ true → DepMeans u w d)
need_true u w y d = (
  λ h t. let s = (app_true w (admission u y d d.kind) (naming u y d (named_by d))).0 h in let a = (admission_true u w y d d.kind).0 s.0 t in record { essential = a.0; refused = a.1; named = (naming_true u w y d (named_by d)).0 s.1 t },
  λ h. (app_true w (admission u y d d.kind) (naming u y d (named_by d))).1 ((admission_true u w y d d.kind).1 (λ t. ((h t).essential, (h t).refused)), (naming_true u w y d (named_by d)).1 (λ t. (h t).named)),
)

needs_true : (u : List Interface) (w : Var → Bool) (y : Var) (ds : List Dep) → Iff (rules_true w (needs u y ds) ≡ true) (w y ≡ true → AllMean u w ds)
needs_true u w y [] = (λ h t. tt, λ h. refl)
needs_true u w y (d ∷ ds) = (
  λ h t. let s = (app_true w (need u y d) (needs u y ds)).0 h in ((need_true u w y d).0 s.0 t, (needs_true u w y ds).0 s.1 t),
  λ h. (app_true w (need u y d) (needs u y ds)).1 ((need_true u w y d).1 (λ t. (h t).0), (needs_true u w y ds).1 (λ t. (h t).1)),
)

command_true : (u : List Interface) (w : Var → Bool) (i c n : ℕ) (m : Command) → Iff (rules_true w (of_command u i c n m) ≡ true) (w (Cmd i c n) ≡ true → (w (Cand i c) ≡ true) × AllMean u w (needs_of m))
command_true u w i c n m =
    let x = Cmd i c n in
    let first = clause (no x ∷ yes (Cand i c) ∷ []) in
    let rest = needs u x (needs_of m) in (
      λ h t. let s = and_parts (rule_true w first) (rules_true w rest) h in ((or_nil (w (Cand i c))).0 ((imp w x (yes (Cand i c) ∷ [])).0 s.0 t), (needs_true u w x (needs_of m)).0 s.1 t),
      λ h. and_from (rule_true w first) (rules_true w rest) ((imp w x (yes (Cand i c) ∷ [])).1 (λ t. (or_nil (w (Cand i c))).1 (h t).0)) ((needs_true u w x (needs_of m)).1 (λ t. (h t).1)),
    )

-- bit groups
b64_32 : ◌≡◌ {A = Width} Bits64 Bits32 → ⊥
b64_32 e = cc

any_64 : ◌≡◌ {A = Width} Any Bits64 → ⊥
any_64 e = cc

any_32 : ◌≡◌ {A = Width} Any Bits32 → ⊥
any_32 e = cc

width_true : (w : Var → Bool) (y : Var) (b : Width) → Iff (rules_true w (of_width y b) ≡ true) (w y ≡ true → (b ≡ Bits64 → w Wide ≡ true) × (b ≡ Bits32 → w Wide ≡ false))
width_true w y Bits64 =
    (λ h t. (λ q. (or_nil (w Wide)).0 ((imp_one w y (yes Wide ∷ [])).0 h t), λ q. absurd (b64_32 q)), λ h. (imp_one w y (yes Wide ∷ [])).1 (λ t. (or_nil (w Wide)).1 ((h t).0 refl)))
width_true w y Bits32 =
    (λ h t. (λ q. absurd (b64_32 (sym q)), λ q. (or_not (w Wide)).0 ((imp_one w y (no Wide ∷ [])).0 h t)), λ h. (imp_one w y (no Wide ∷ [])).1 (λ t. (or_not (w Wide)).1 ((h t).1 refl)))
width_true w y Any = (λ h t. (λ q. absurd (any_64 q), λ q. absurd (any_32 q)), λ h. refl)

candidate_true : (u : List Interface) (w : Var → Bool) (i c : ℕ) (k : Candidate) → Iff (rules_true w (of_candidate u i c k) ≡ true) (CandidateMeans u w i c k)
candidate_true u w i c k =
    let a = of_width (Cand i c) (group k) in
    let d = needs u (Cand i c) k.imp.deps in
    let m = each 0 (of_command u i c) k.imp.commands in (
      λ h. let s = (app_true w a (d ++ m)).0 h in let q = (app_true w d m).0 s.1 in
          record {
            bits64 = λ t. ((width_true w (Cand i c) (group k)).0 s.0 t).0;
            bits32 = λ t. ((width_true w (Cand i c) (group k)).0 s.0 t).1;
            deps = (needs_true u w (Cand i c) k.imp.deps).0 q.0;
            commands = λ n x e. (command_true u w i c n x).0 ((each0_true w (of_command u i c) k.imp.commands).0 q.1 n x e);
          },
      λ h. (app_true w a (d ++ m)).1 (
        (width_true w (Cand i c) (group k)).1 (λ t. (h.bits64 t, h.bits32 t)),
        (app_true w d m).1 ((needs_true u w (Cand i c) k.imp.deps).1 h.deps, (each0_true w (of_command u i c) k.imp.commands).1 (λ n x e. (command_true u w i c n x).1 (h.commands n x e))),
      ),
    )

cond_false : (b r : Bool) → Iff (cond b false r ≡ true) ((b ≡ false) × (r ≡ true))
cond_false true r = (λ h. absurd (false≢true h), λ h. absurd (false≢true (sym h.0)))
cond_false false r = (λ h. (refl, h), λ h. h.1)

none_each : (w : Var → Bool) (i n : ℕ) (ks : List Candidate) → Iff (none_of w (each n (one_var i) ks) ≡ true) ((c : ℕ) → c < length ks → w (Cand i (n + c)) ≡ false)
none_each w i n [] = (λ h c l. absurd (omega (arith, l)), λ h. refl)
none_each w i n (k ∷ ks) = (
  λ h. let s = (cond_false (w (Cand i n)) (none_of w (each (suc n) (one_var i) ks))).0 h in forth s.0 ((none_each w i (suc n) ks).0 s.1),
  λ h. (cond_false (w (Cand i n)) (none_of w (each (suc n) (one_var i) ks))).1 (
    let z : n + 0 ≡ n = omega arith in subst (λ x. w (Cand i x) ≡ false) z (h 0 (omega arith)),
    (none_each w i (suc n) ks).1 (λ c l. let z : n + suc c ≡ suc n + c = omega arith in subst (λ x. w (Cand i x) ≡ false) z (h (suc c) (omega (arith, l)))),
  ),
)
  where
    forth : w (Cand i n) ≡ false → ((c : ℕ) → c < length ks → w (Cand i (suc n + c)) ≡ false) → (c : ℕ) → c < length (k ∷ ks) → w (Cand i (n + c)) ≡ false
    forth a b zero l = let z : n ≡ n + 0 = omega arith in subst (λ x. w (Cand i x) ≡ false) z a
    forth a b (suc c) l = let z : suc n + c ≡ n + suc c = omega arith in subst (λ x. w (Cand i x) ≡ false) z (b c (omega (arith, l)))

abbrev OneFrom : (Var → Bool) → ℕ → ℕ → ℕ → Type 0
OneFrom w i n len = (c d : ℕ) → c < len → d < len → w (Cand i (n + c)) ≡ true → w (Cand i (n + d)) ≡ true → c ≡ d

one_case : (w : Var → Bool) (i n len : ℕ) (b nr r : Bool) → w (Cand i n) ≡ b → Iff (nr ≡ true) ((c : ℕ) → c < len → w (Cand i (suc n + c)) ≡ false) → Iff (r ≡ true) (OneFrom w i (suc n) len) → Iff (cond b nr r ≡ true) (OneFrom w i n (suc len))
one_case w i n len true nr r e f g = (λ h. forth (f.0 h), λ h. f.1 (λ c l. false_from_ne_true (w (Cand i (suc n + c))) (λ t. back h c l t)))
  where
    forth : ((c : ℕ) → c < len → w (Cand i (suc n + c)) ≡ false) → OneFrom w i n (suc len)
    forth a zero zero l m p q = refl
    forth a zero (suc d) l m p q =
        absurd (let z : n + suc d ≡ suc n + d = omega arith in false≢true (sym (a d (omega (arith, m))) ∙ subst (λ x. w (Cand i x) ≡ true) z q))
    forth a (suc c) d l m p q =
        absurd (let z : n + suc c ≡ suc n + c = omega arith in false≢true (sym (a c (omega (arith, l))) ∙ subst (λ x. w (Cand i x) ≡ true) z p))

    back : OneFrom w i n (suc len) → (c : ℕ) → c < len → w (Cand i (suc n + c)) ≡ true → ⊥
    back h c l t =
        let z : n ≡ n + 0 = omega arith in
        let y : suc n + c ≡ n + suc c = omega arith in
        let x : 0 ≡ suc c = h 0 (suc c) (omega arith) (omega (arith, l)) (subst (λ x. w (Cand i x) ≡ true) z e) (subst (λ x. w (Cand i x) ≡ true) y t) in
        omega (arith, x)
one_case w i n len false nr r e f g = (λ h. forth (g.0 h), λ h. g.1 (back h))
  where
    forth : OneFrom w i (suc n) len → OneFrom w i n (suc len)
    forth a zero d l m p q = absurd (let z : n + 0 ≡ n = omega arith in false≢true (sym e ∙ subst (λ x. w (Cand i x) ≡ true) z p))
    forth a (suc c) zero l m p q = absurd (let z : n + 0 ≡ n = omega arith in false≢true (sym e ∙ subst (λ x. w (Cand i x) ≡ true) z q))
    forth a (suc c) (suc d) l m p q =
        let y : n + suc c ≡ suc n + c = omega arith in
        let z : n + suc d ≡ suc n + d = omega arith in
        ap suc (a c d (omega (arith, l)) (omega (arith, m)) (subst (λ x. w (Cand i x) ≡ true) y p) (subst (λ x. w (Cand i x) ≡ true) z q))

    back : OneFrom w i n (suc len) → OneFrom w i (suc n) len
    back h c d l m p q =
        let y : suc n + c ≡ n + suc c = omega arith in
        let z : suc n + d ≡ n + suc d = omega arith in
        let x : suc c ≡ suc d = h (suc c) (suc d) (omega (arith, l)) (omega (arith, m)) (subst (λ x. w (Cand i x) ≡ true) y p) (subst (λ x. w (Cand i x) ≡ true) z q) in
        omega (arith, x)

one_each : (w : Var → Bool) (i n : ℕ) (ks : List Candidate) → Iff (one_true w (each n (one_var i) ks) ≡ true) (OneFrom w i n (length ks))
one_each w i n [] = (λ h c d l. absurd (omega (arith, l)), λ h. refl)
one_each w i n (k ∷ ks) =
    one_case w i n (length ks) (w (Cand i n)) (none_of w (each (suc n) (one_var i) ks)) (one_true w (each (suc n) (one_var i) ks)) refl (none_each w i (suc n) ks) (one_each w i (suc n) ks)

one_from_zero : (w : Var → Bool) (i len : ℕ) → Iff (OneFrom w i 0 len) (AtMostOneOf w i len)
one_from_zero w i len = (
  λ h c d l m p q. let y : c ≡ 0 + c = omega arith in let z : d ≡ 0 + d = omega arith in h c d l m (subst (λ x. w (Cand i x) ≡ true) y p) (subst (λ x. w (Cand i x) ≡ true) z q),
  λ h c d l m p q. let y : 0 + c ≡ c = omega arith in let z : 0 + d ≡ d = omega arith in h c d l m (subst (λ x. w (Cand i x) ≡ true) y p) (subst (λ x. w (Cand i x) ≡ true) z q),
)

small : (n c d : ℕ) → two_or_more n ≡ false → c < n → d < n → c ≡ d
small zero c d e l m = absurd (omega (arith, l))
small (suc zero) c d e l m = omega (arith, l, m)
small (suc (suc n)) c d e l m = absurd (false≢true (sym e))

group_true_is : (w : Var → Bool) (i : ℕ) (x : Interface) → Iff (rules_true w (group_of i x) ≡ true) (AtMostOneOf w i (length x.candidates))
group_true_is w i x =
    let g = One_of (each 0 (one_var i) x.candidates) in
    let len = length x.candidates in (
      λ h c d l m p q. elim (cases_Bool (two_or_more len)) [ inl t ↦ (one_from_zero w i len).0 ((one_each w i 0 x.candidates).0 ((keep_rule w (two_or_more len) g).0 h t)) c d l m p q | inr f ↦ small len c d f l m ],
      λ h. (keep_rule w (two_or_more len) g).1 (λ t. (one_each w i 0 x.candidates).1 ((one_from_zero w i len).1 h)),
    )

-- the root
root_true : (u : List Interface) (w : Var → Bool) → Iff (rule_true w (clause (each 0 root_one (candidates_of u 0))) ≡ true) (HasRoot u w)
root_true u w = (
  λ h. let r = (some_each0 w root_one (candidates_of u 0)).0 ((clause_is w (each 0 root_one (candidates_of u 0))).0 h) in record { candidate = r.0; item = r.1; there = r.2; is_true = (or_nil (w (Cand 0 r.0))).0 r.3 },
  λ h. (clause_is w (each 0 root_one (candidates_of u 0))).1 ((some_each0 w root_one (candidates_of u 0)).1 (h.candidate, h.item, h.there, (or_nil (w (Cand 0 h.candidate))).1 h.is_true)),
)

requirement_true : (u : List Interface) (w : Var → Bool) (o : Option (List ℕ)) → Iff (rules_true w (of_requirement u o) ≡ true) ((c : ℕ) (k : Candidate) → IsAt u 0 c k → w (Cand 0 c) ≡ true → Uses w 0 c k (wanted o))
requirement_true u w None = (λ h c k at t. tt, λ h. refl)
requirement_true u w (Some name) = (
  λ h c k at t. ((having_true w 0 c (command_place k name)).0 ((imp_one w (Cand 0 c) (having 0 c (command_place k name))).0 ((each0_true w (wanted_one name) (candidates_of u 0)).0 h c k at) t), tt),
  λ h. (each0_true w (wanted_one name) (candidates_of u 0)).1 (λ c k at. (imp_one w (Cand 0 c) (having 0 c (command_place k name))).1 (λ t. (having_true w 0 c (command_place k name)).1 (h c k at t).0)),
)

-- interfaces by their places
beyond : (u : List Interface) (i : ℕ) → ((x : Interface) → slice_get u i ≡ Some x → ⊥) → candidates_of u i ≡ []
beyond [] i f = refl
beyond (x ∷ u) zero f = absurd (f x refl)
beyond (x ∷ u) (suc i) f = beyond u i f

groups_true : (u : List Interface) (w : Var → Bool) → Iff (rules_true w (each 0 group_of u) ≡ true) ((i : ℕ) → AtMostOneOf w i (length (candidates_of u i)))
groups_true u w = (
  λ h i. at h i (slice_get u i) refl,
  λ h. (each0_true w group_of u).1 (λ i x e. (group_true_is w i x).1 (subst (λ ks. AtMostOneOf w i (length ks)) (candidates_at u i x e) (h i))),
)
  where
    at : rules_true w (each 0 group_of u) ≡ true → (i : ℕ) (o : Option Interface) → slice_get u i ≡ o → AtMostOneOf w i (length (candidates_of u i))
    at h i None e = λ c d l m p q. absurd (let z : length (candidates_of u i) ≡ 0 = ap length (beyond u i (λ x f. none_some (sym e ∙ f))) in omega (arith, l, z))
    at h i (Some x) e = subst (λ ks. AtMostOneOf w i (length ks)) (sym (candidates_at u i x e)) ((group_true_is w i x).0 ((each0_true w group_of u).0 h i x e))

-- the list says what the families say
pub rules_mean : (u : List Interface) (req : Requirement) (w : Var → Bool) → Iff (rules_true w (rules u req) ≡ true) (Means u req w)
rules_mean u req w =
    let first = clause (each 0 root_one (candidates_of u 0)) in
    let q = of_requirement u req.command in
    let g = each 0 group_of u in
    let m = each 0 (of_interface u) u in (
      λ h.
          let s = and_parts (rule_true w first) (rules_true w (q ++ (g ++ m))) h in
          let t = (app_true w q (g ++ m)).0 s.1 in
          let v = (app_true w g m).0 t.1 in
          record {
            root = (root_true u w).0 s.0;
            root_has = (requirement_true u w req.command).0 t.0;
            one = (groups_true u w).0 v.0;
            each = λ i c k at. let x = interface_at u i c k at in (candidate_true u w i c k).0 ((each0_true w (of_candidate u i) x.0.candidates).0 ((each0_true w (of_interface u) u).0 v.1 i x.0 x.1) c k x.2);
          },
      λ h. and_from (rule_true w first) (rules_true w (q ++ (g ++ m))) ((root_true u w).1 h.root)
          ((app_true w q (g ++ m)).1 (
            (requirement_true u w req.command).1 h.root_has,
            (app_true w g m).1 (
              (groups_true u w).1 h.one,
              (each0_true w (of_interface u) u).1 (λ i x e. (each0_true w (of_candidate u i) x.candidates).1 (λ c k f. (candidate_true u w i c k).1 (h.each i c k (subst (λ ks. slice_get ks c ≡ Some k) (sym (candidates_at u i x e)) f)))),
            ),
          )),
    )
