-- Every variable of the constraints speaks of something that is there, no constraint has an item twice, and each but the
-- first has an item.
use Rattle.std.proofs.Common.{◌≡◌, ℕ, suc, ◌==◌, ◌+◌, ◌<◌, ◌≤◌, Bool, true, false, not, cond, ◌||◌, ◌&&◌, List, [], ◌∷◌, ◌++◌, length, map, refl, sym, ap, ap₂, ◌∙◌, subst, arith, Option, Some, None, eqb-true}
use Rattle.std.specs.Prelude.{slice_get}
use Rattle.std.specs.List.{All}
use Rattle.std.proofs.lemmas.Bool.{false≢true, and_parts, and_from}
use Rattle.std.proofs.lemmas.List.Elements.{All-nil, All-cons}
use Rattle.zi_policy.specs.declared.types.Width.{Width}
use Rattle.zi_policy.specs.declared.types.Width.TheVariants.{Any, Bits32, Bits64}
use Rattle.zi_parts.specs.declared.types.Dep.{Dep}
use Rattle.zi_parts.specs.declared.types.DepKind.{DepKind}
use Rattle.zi_parts.specs.declared.types.DepKind.TheVariants.{Essential, Recommended, Restricts}
use Rattle.zi_universe.specs.declared.types.Requirement.{Requirement}
use Rattle.zi_universe.specs.declared.types.Candidate.{Candidate}
use Rattle.zi_universe.specs.declared.types.Interface.{Interface}
use Rattle.zi_choice.specs.Choice.{number, needs_of, command_place}
use Rattle.zi_choice.specs.Valid.{group}
use Rattle.zi_formula.specs.declared.formula.Lit.{Lit}
use Rattle.zi_formula.specs.Form.{ConstraintWithin, Within, same_lit, has_lit, has_variable, Once, OnceVars, ItemsOnce, OnceAll}
use Rattle.zi_choice.specs.Vars.{Var, Cand, Cmd, Wide, candidates_of, var_number, var_count}
use Rattle.zi_build.specs.Clauses.{same_var, Says, yes, no, Rule, Some_of, One_of, same_says, without, once, clause, each, keep, is_admitted, at_target, among, admitted_one, refused_one, admission, having, named_one, naming, named_by, need, needs, of_width, of_command, of_candidate, of_interface, two_or_more, one_var, group_of, root_one, wanted_one, of_requirement, rules, lit_of, constraint_of, formula, size_of, literals}
use Rattle.zi_build.specs.Laws.{IsFormed}
use Rattle.zi_choice.proofs.Base.{found_of, candidates_at}
use Rattle.zi_build.proofs.Meaning.{IsAt}
use Rattle.zi_build.proofs.Read.{some_true, none_of, one_true, rule_true, rules_true}
use Rattle.zi_build.proofs.Numbers.{one_number, number_low, number_high}
use Rattle.zi_build.specs.There.{Listed}
use Rattle.zi_xml.proofs.CharLemmas.{same_self}

abbrev pub Every : {A : Type 0} → (A → Type 0) → List A → Type 0
Every P [] = Unit {0}
Every P (x ∷ xs) = P x × Every P xs

pub every_app : {A : Type 0} (P : A → Type 0) (xs ys : List A) → Every P xs → Every P ys → Every P (xs ++ ys)
every_app P [] ys h g = g
every_app P (x ∷ xs) ys h g = (h.0, every_app P xs ys h.1 g)

pub every_each : {A B : Type 0} (P : B → Type 0) (n : ℕ) (f : ℕ → A → List B) (xs : List A) → ((k : ℕ) (x : A) → slice_get xs k ≡ Some x → Every P (f (n + k) x)) → Every P (each n f xs)
every_each P n f [] h = tt
every_each P n f (x ∷ xs) h =
    every_app P (f n x) (each (suc n) f xs) (let z : n + 0 ≡ n = omega arith in subst (λ m. Every P (f m x)) z (h 0 x refl))
    (every_each P (suc n) f xs (λ k y e. let z : n + suc k ≡ suc n + k = omega arith in subst (λ m. Every P (f m y)) z (h (suc k) y e)))

pub every_each0 : {A B : Type 0} (P : B → Type 0) (f : ℕ → A → List B) (xs : List A) → ((k : ℕ) (x : A) → slice_get xs k ≡ Some x → Every P (f k x)) → Every P (each 0 f xs)
every_each0 P f xs h = every_each P 0 f xs (λ k x e. let z : k ≡ 0 + k = omega arith in subst (λ m. Every P (f m x)) z (h k x e))

every_all : {A : Type 0} (P : A → Type 0) (xs : List A) → Every P xs → All P xs
every_all P [] h = All-nil P
every_all P (x ∷ xs) h = All-cons P x xs h.0 (every_all P xs h.1)

every_map : {A B : Type 0} (P : A → Type 0) (Q : B → Type 0) (f : A → B) (xs : List A) → ((x : A) → P x → Q (f x)) → Every P xs → Every Q (map f xs)
every_map P Q f [] g h = tt
every_map P Q f (x ∷ xs) g h = (g x h.0, every_map P Q f xs g h.1)

pub every_keep : {A : Type 0} (P : A → Type 0) (b : Bool) (x : A) → (b ≡ true → P x) → Every P (keep b x)
every_keep P true x h = (h refl, tt)
every_keep P false x h = tt

-- literals and constraints that speak of what is there
abbrev pub SaysListed : List Interface → List Says → Type 0
SaysListed u ls = Every (λ (l : Says). Listed u l.of) ls

abbrev pub RuleListed : List Interface → Rule → Type 0
RuleListed u (Some_of ls) = SaysListed u ls
RuleListed u (One_of xs) = Every (Listed u) xs

pub every_without : (P : Says → Type 0) (l : Says) (ms : List Says) → Every P ms → Every P (without l ms)
every_without P l [] h = tt
every_without P l (m ∷ ms) h = at (same_says l m) (every_without P l ms h.1)
  where
    at : (b : Bool) → Every P (without l ms) → Every P (cond b (without l ms) (m ∷ without l ms))
    at true g = g
    at false g = (h.0, g)

pub every_once : (P : Says → Type 0) (ls : List Says) → Every P ls → Every P (once ls)
every_once P [] h = tt
every_once P (l ∷ ls) h = (h.0, every_without P l (once ls) (every_once P ls h.1))

-- no literal stands twice
has_says : List Says → Says → Bool
has_says [] l = false
has_says (m ∷ ms) l = cond (same_says l m) true (has_says ms l)

abbrev OnceSays : List Says → Type 0
OnceSays [] = Unit {0}
OnceSays (l ∷ ls) = (has_says ls l ≡ false) × OnceSays ls

lacks_case : (b c : Bool) → cond b true c ≡ false → (b ≡ false) × (c ≡ false)
lacks_case true c e = absurd (false≢true (sym e))
lacks_case false c e = (refl, e)

lacks_both : (b c : Bool) → b ≡ false → c ≡ false → cond b true c ≡ false
lacks_both true c e f = e
lacks_both false c e f = f

without_lacks : (l : Says) (ms : List Says) → has_says (without l ms) l ≡ false
unfolding has_says
without_lacks l [] = refl
without_lacks l (m ∷ ms) = at (same_says l m) refl (without_lacks l ms)
  where
    at : (b : Bool) → same_says l m ≡ b → has_says (without l ms) l ≡ false → has_says (cond b (without l ms) (m ∷ without l ms)) l ≡ false
    at true e h = h
    at false e h = lacks_both (same_says l m) (has_says (without l ms) l) e h

still_lacks : (l n : Says) (ms : List Says) → has_says ms n ≡ false → has_says (without l ms) n ≡ false
unfolding has_says
still_lacks l n [] h = h
still_lacks l n (m ∷ ms) h =
    let b = lacks_case (same_says n m) (has_says ms n) h in at (same_says l m) b.0 (still_lacks l n ms b.1)
  where
    at : (b : Bool) → same_says n m ≡ false → has_says (without l ms) n ≡ false → has_says (cond b (without l ms) (m ∷ without l ms)) n ≡ false
    at true e h = h
    at false e h = lacks_both (same_says n m) (has_says (without l ms) n) e h

without_once : (l : Says) (ms : List Says) → OnceSays ms → OnceSays (without l ms)
without_once l [] h = tt
without_once l (m ∷ ms) h = at (same_says l m) (without_once l ms h.1)
  where
    at : (b : Bool) → OnceSays (without l ms) → OnceSays (cond b (without l ms) (m ∷ without l ms))
    at true g = g
    at false g = (still_lacks l m ms h.0, g)

once_once : (ls : List Says) → OnceSays (once ls)
once_once [] = tt
once_once (l ∷ ls) = (without_lacks l (once ls), without_once l (once ls) (once_once ls))

var_same : (x : Var) → same_var x x ≡ true
var_same (Cand i c) = and_from (i == i) (c == c) (same_self i) (same_self c)
var_same (Cmd i c n) = and_from (i == i) (c == c && n == n) (same_self i) (and_from (c == c) (n == n) (same_self c) (same_self n))
var_same Wide = refl

sign_turned : (a b : Bool) → cond a b (not b) ≡ true → cond b a (not a) ≡ true
sign_turned true true e = e
sign_turned true false e = e
sign_turned false true e = e
sign_turned false false e = e

lit_lacks : (u : List Interface) (l : Says) (ms : List Says) → Listed u l.of → SaysListed u ms → has_says ms l ≡ false → has_lit (map (lit_of u) ms) (lit_of u l) ≡ false
unfolding has_says
lit_lacks u l [] a h e = refl
lit_lacks u l (m ∷ ms) a h e =
    let b = lacks_case (same_says l m) (has_says ms l) e in
    at (same_lit (lit_of u m) (lit_of u l)) refl b.0 (lit_lacks u l ms a h.1 b.1)
  where
    at : (b : Bool) → same_lit (lit_of u m) (lit_of u l) ≡ b → same_says l m ≡ false → has_lit (map (lit_of u) ms) (lit_of u l) ≡ false → cond b true (has_lit (map (lit_of u) ms) (lit_of u l)) ≡ false
    at false p q r = r
    at true p q r =
        let b = and_parts (var_number u m.of == var_number u l.of) (cond m.holds l.holds (not l.holds)) p in
        let same : m.of ≡ l.of = one_number u m.of l.of h.0 a (eqb-true (var_number u m.of) (var_number u l.of) b.0) in
        absurd (false≢true (sym q ∙ and_from (same_var l.of m.of) (cond l.holds m.holds (not m.holds)) (subst (λ x. same_var l.of x ≡ true) (sym same) (var_same l.of)) (sign_turned m.holds l.holds b.1)))

lits_once : (u : List Interface) (ls : List Says) → SaysListed u ls → OnceSays ls → Once (map (lit_of u) ls)
lits_once u [] h g = tt
lits_once u (l ∷ ls) h g = (lit_lacks u l ls h.0 h.1 g.0, lits_once u ls h.1 g.1)

-- a constraint as it is to be
pub record Good (u : List Interface) (r : Rule) : Type 0 where
  pub listed : RuleListed u r
  pub once : ItemsOnce (constraint_of u r)
  pub filled : 1 ≤ size_of (constraint_of u r)

good_clause : (u : List Interface) (l : Says) (ls : List Says) → Listed u l.of → SaysListed u ls → Good u (clause (l ∷ ls))
good_clause u l ls a h =
    let listed : SaysListed u (once (l ∷ ls)) = every_once (λ (l : Says). Listed u l.of) (l ∷ ls) (a, h) in
    record { listed = listed; once = lits_once u (once (l ∷ ls)) listed (once_once (l ∷ ls)); filled = omega arith }

pub target_every : {B : Type 0} (P : B → Type 0) (u : List Interface) (f : ℕ → ℕ → Candidate → List B) (o : Option ℕ) → ((j e : ℕ) (k : Candidate) → IsAt u j e k → Every P (f j e k)) → Every P (at_target u f o)
target_every P u f None h = tt
target_every P u f (Some j) h = every_each0 P (f j) (candidates_of u j) (λ e k at. h j e k at)

module _ (u : List Interface) where
  abbrev Goods : List Rule → Type 0
  Goods rs = Every (Good u) rs

  having_listed : (j e : ℕ) (k : Candidate) (name : List ℕ) → IsAt u j e k → SaysListed u (having j e (command_place k name))
  having_listed j e k name at = by (command_place k name) refl
    where
      by : (o : Option ℕ) → command_place k name ≡ o → SaysListed u (having j e o)
      by None p = tt
      by (Some n) p = let f = found_of k name n p in ((k, f.0, at, f.2), tt)

  good_admission : (y : Var) → Listed u y → (d : Dep) (kind : DepKind) → Goods (admission u y d kind)
  good_admission y h d Essential =
      (good_clause u (no y) (among u d (admitted_one d)) h (target_every (λ (l : Says). Listed u l.of) u (admitted_one d) (number u d.interface) (λ j e k at. every_keep (λ (l : Says). Listed u l.of) (is_admitted d k) (yes (Cand j e)) (λ _. (k, at)))), tt)
  good_admission y h d Recommended =
      target_every (Good u) u (refused_one y d) (number u d.interface) (λ j e k at. every_keep (Good u) (not (is_admitted d k)) (clause (no y ∷ no (Cand j e) ∷ [])) (λ _. good_clause u (no y) (no (Cand j e) ∷ []) h ((k, at), tt)))
  good_admission y h d Restricts =
      target_every (Good u) u (refused_one y d) (number u d.interface) (λ j e k at. every_keep (Good u) (not (is_admitted d k)) (clause (no y ∷ no (Cand j e) ∷ [])) (λ _. good_clause u (no y) (no (Cand j e) ∷ []) h ((k, at), tt)))

  good_naming : (y : Var) → Listed u y → (d : Dep) (names : List (List ℕ)) → Goods (naming u y d names)
  good_naming y h d [] = tt
  good_naming y h d (name ∷ names) =
      every_app (Good u) (among u d (named_one y d name)) (naming u y d names)
      (target_every (Good u) u (named_one y d name) (number u d.interface) (λ j e k at. every_keep (Good u) (is_admitted d k) (clause (no y ∷ no (Cand j e) ∷ having j e (command_place k name))) (λ _. good_clause u (no y) (no (Cand j e) ∷ having j e (command_place k name)) h ((k, at), having_listed j e k name at))))
      (good_naming y h d names)

  good_needs : (y : Var) → Listed u y → (ds : List Dep) → Goods (needs u y ds)
  good_needs y h [] = tt
  good_needs y h (d ∷ ds) =
      every_app (Good u) (need u y d) (needs u y ds) (every_app (Good u) (admission u y d d.kind) (naming u y d (named_by d)) (good_admission y h d d.kind) (good_naming y h d (named_by d))) (good_needs y h ds)

  good_width : (y : Var) → Listed u y → (b : Width) → Goods (of_width y b)
  good_width y h Any = tt
  good_width y h Bits32 = (good_clause u (no y) (no Wide ∷ []) h (tt, tt), tt)
  good_width y h Bits64 = (good_clause u (no y) (yes Wide ∷ []) h (tt, tt), tt)

  good_candidate : (i c : ℕ) (k : Candidate) → IsAt u i c k → Goods (of_candidate u i c k)
  good_candidate i c k at =
      every_app (Good u) (of_width (Cand i c) (group k)) (needs u (Cand i c) k.imp.deps ++ each 0 (of_command u i c) k.imp.commands) (good_width (Cand i c) (k, at) (group k))
      (every_app (Good u) (needs u (Cand i c) k.imp.deps) (each 0 (of_command u i c) k.imp.commands) (good_needs (Cand i c) (k, at) k.imp.deps)
      (every_each0 (Good u) (of_command u i c) k.imp.commands (λ n m e. (good_clause u (no (Cmd i c n)) (yes (Cand i c) ∷ []) (k, m, at, e) ((k, at), tt), good_needs (Cmd i c n) (k, m, at, e) (needs_of m)))))

  vars_from : (i n : ℕ) (ks : List Candidate) → ((c : ℕ) (k : Candidate) → slice_get ks c ≡ Some k → Listed u (Cand i (n + c))) → Every (Listed u) (each n (one_var i) ks)
  vars_from i n ks h = every_each (Listed u) n (one_var i) ks (λ c k e. (h c k e, tt))

  group_lacks : (i n m : ℕ) (ks : List Candidate) → n < m → Listed u (Cand i n) → Every (Listed u) (each m (one_var i) ks) → has_variable (map (var_number u) (each m (one_var i) ks)) (var_number u (Cand i n)) ≡ false
  group_lacks i n m [] l a h = refl
  group_lacks i n m (k ∷ ks) l a h =
      at (var_number u (Cand i m) == var_number u (Cand i n)) refl (group_lacks i n (suc m) ks (omega (arith, l)) a h.1)
    where
      second : {i j c d : ℕ} → ◌≡◌ {A = Var} (Cand i c) (Cand j d) → c ≡ d
      second e = cc

      at : (b : Bool) → (var_number u (Cand i m) == var_number u (Cand i n)) ≡ b → has_variable (map (var_number u) (each (suc m) (one_var i) ks)) (var_number u (Cand i n)) ≡ false → cond b true (has_variable (map (var_number u) (each (suc m) (one_var i) ks)) (var_number u (Cand i n))) ≡ false
      at false p r = r
      at true p r =
          let e : m ≡ n = second (one_number u (Cand i m) (Cand i n) h.0 a (eqb-true (var_number u (Cand i m)) (var_number u (Cand i n)) p)) in
          absurd (omega (arith, e, l))

  group_once : (i n : ℕ) (ks : List Candidate) → Every (Listed u) (each n (one_var i) ks) → OnceVars (map (var_number u) (each n (one_var i) ks))
  group_once i n [] h = tt
  group_once i n (k ∷ ks) h = (group_lacks i n (suc n) ks (omega arith) h.0 h.1, group_once i (suc n) ks h.1)

  group_filled : (i : ℕ) (ks : List Candidate) → two_or_more (length ks) ≡ true → 1 ≤ length (map (var_number u) (each 0 (one_var i) ks))
  group_filled i [] e = absurd (false≢true e)
  group_filled i (k ∷ ks) e = omega arith

  good_group : (i : ℕ) (x : Interface) → slice_get u i ≡ Some x → Goods (group_of i x)
  good_group i x e =
      let listed : Every (Listed u) (each 0 (one_var i) x.candidates) = vars_from i 0 x.candidates (λ c k f. (let z : c ≡ 0 + c = omega arith in subst (λ n. Listed u (Cand i n)) z (k, subst (λ ks. slice_get ks c ≡ Some k) (sym (candidates_at u i x e)) f))) in
      every_keep (Good u) (two_or_more (length x.candidates)) (One_of (each 0 (one_var i) x.candidates)) (λ t. record { listed = listed; once = group_once i 0 x.candidates listed; filled = group_filled i x.candidates t })

  good_requirement : (o : Option (List ℕ)) → Goods (of_requirement u o)
  good_requirement None = tt
  good_requirement (Some name) =
      every_each0 (Good u) (wanted_one name) (candidates_of u 0) (λ c k at. (good_clause u (no (Cand 0 c)) (having 0 c (command_place k name)) (k, at) (having_listed 0 c k name at), tt))

  abbrev first_rule : Rule
  first_rule = clause (each 0 root_one (candidates_of u 0))

  abbrev other_rules : Requirement → List Rule
  other_rules req = of_requirement u req.command ++ (each 0 group_of u ++ each 0 (of_interface u) u)

  good_others : (req : Requirement) → Goods (other_rules req)
  good_others req =
      every_app (Good u) (of_requirement u req.command) (each 0 group_of u ++ each 0 (of_interface u) u) (good_requirement req.command)
      (every_app (Good u) (each 0 group_of u) (each 0 (of_interface u) u) (every_each0 (Good u) group_of u (λ i x e. good_group i x e))
      (every_each0 (Good u) (of_interface u) u (λ i x e. every_each0 (Good u) (of_candidate u i) x.candidates (λ c k f. good_candidate i c k (subst (λ ks. slice_get ks c ≡ Some k) (sym (candidates_at u i x e)) f)))))

  root_listed : SaysListed u (each 0 root_one (candidates_of u 0))
  root_listed = every_each0 (λ (l : Says). Listed u l.of) root_one (candidates_of u 0) (λ c k at. ((k, at), tt))

  first_listed : SaysListed u (once (each 0 root_one (candidates_of u 0)))
  first_listed = every_once (λ (l : Says). Listed u l.of) (each 0 root_one (candidates_of u 0)) root_listed

  -- every variable speaks of something that is there
  others_listed : (rs : List Rule) → Goods rs → Every (RuleListed u) rs
  others_listed [] h = tt
  others_listed (r ∷ rs) h = (h.0.listed, others_listed rs h.1)

  pub rules_listed : (req : Requirement) → Every (RuleListed u) (rules u req)
  rules_listed req = (first_listed, others_listed (other_rules req) (good_others req))

  rule_within : (r : Rule) → RuleListed u r → ConstraintWithin (var_count u) (constraint_of u r)
  rule_within (Some_of ls) h =
      every_all (λ (l : Lit). (1 ≤ l.variable) × (l.variable ≤ var_count u)) (map (lit_of u) ls) (every_map (λ (l : Says). Listed u l.of) (λ (l : Lit). (1 ≤ l.variable) × (l.variable ≤ var_count u)) (lit_of u) ls (λ l a. (number_low u l.of, number_high u l.of a)) h)
  rule_within (One_of xs) h =
      every_all (λ n. (1 ≤ n) × (n ≤ var_count u)) (map (var_number u) xs) (every_map (Listed u) (λ n. (1 ≤ n) × (n ≤ var_count u)) (var_number u) xs (λ x a. (number_low u x, number_high u x a)) h)

  others_once : (rs : List Rule) → Goods rs → OnceAll (map (constraint_of u) rs)
  others_once [] h = tt
  others_once (r ∷ rs) h = (h.0.once, others_once rs h.1)

  others_few : (rs : List Rule) → Goods rs → length (map (constraint_of u) rs) ≤ literals (map (constraint_of u) rs)
  others_few [] h = omega arith
  others_few (r ∷ rs) h = let a = others_few rs h.1 in let b = h.0.filled in omega (arith, a, b)

  pub formed : (req : Requirement) → Within (formula u req) × OnceAll (formula u req).constraints × (length (formula u req).constraints ≤ 1 + literals (formula u req).constraints)
  formed req = (
    every_all (λ c. ConstraintWithin (var_count u) c) (map (constraint_of u) (rules u req)) (every_map (RuleListed u) (λ c. ConstraintWithin (var_count u) c) (constraint_of u) (rules u req) rule_within (rules_listed req)),
    (lits_once u (once (each 0 root_one (candidates_of u 0))) first_listed (once_once (each 0 root_one (candidates_of u 0))), others_once (other_rules req) (good_others req)),
    let a = others_few (other_rules req) (good_others req) in omega (arith, a),
  )

  -- assignments that agree on these make the same constraints true
  module _ (v w : Var → Bool) (agree : (x : Var) → Listed u x → v x ≡ w x) where
    says_agree : (ls : List Says) → SaysListed u ls → some_true v ls ≡ some_true w ls
    says_agree [] h = refl
    says_agree (l ∷ ls) h = ap₂ (λ a b. cond l.holds a (not a) || b) (agree l.of h.0) (says_agree ls h.1)

    none_agree : (xs : List Var) → Every (Listed u) xs → none_of v xs ≡ none_of w xs
    none_agree [] h = refl
    none_agree (x ∷ xs) h = ap₂ (λ a b. cond a false b) (agree x h.0) (none_agree xs h.1)

    one_agree : (xs : List Var) → Every (Listed u) xs → one_true v xs ≡ one_true w xs
    one_agree [] h = refl
    one_agree (x ∷ xs) h = ap₂ (λ a b. cond a b (one_true v xs)) (agree x h.0) (none_agree xs h.1) ∙ ap (λ b. cond (w x) (none_of w xs) b) (one_agree xs h.1)

    rule_agree : (r : Rule) → RuleListed u r → rule_true v r ≡ rule_true w r
    rule_agree (Some_of ls) h = says_agree ls h
    rule_agree (One_of xs) h = one_agree xs h

    pub rules_agree : (rs : List Rule) → Every (RuleListed u) rs → rules_true v rs ≡ rules_true w rs
    rules_agree [] h = refl
    rules_agree (r ∷ rs) h = ap₂ (λ a b. a && b) (rule_agree r h.0) (rules_agree rs h.1)

pub is_formed : IsFormed
is_formed u req = formed u req
