-- The literals of the constraints over interfaces with three candidates at most, none of which has a command, and whose dependencies
-- name none: at most so many as grow with the dependencies.
use Rattle.std.proofs.Common.{◌≡◌, ℕ, zero, suc, ◌+◌, ◌*◌, ◌≤◌, Bool, true, false, cond, List, [], ◌∷◌, ◌++◌, map, length, Option, Some, None, refl, ap, ◌∙◌, arith}
use Rattle.std.specs.Prelude.{not, if◌then◌else◌}
use Rattle.std.specs.List.{AllByRecursion}
use Rattle.std.proofs.lemmas.List.{length-append, length-map}
use Rattle.zi_policy.specs.declared.types.Width.{Width}
use Rattle.zi_policy.specs.declared.types.Width.TheVariants.{Any, Bits32, Bits64}
use Rattle.zi_parts.specs.declared.types.Dep.{Dep}
use Rattle.zi_parts.specs.declared.types.DepKind.{DepKind}
use Rattle.zi_parts.specs.declared.types.DepKind.TheVariants.{Essential, Recommended, Restricts}
use Rattle.zi_parts.specs.declared.types.Command.{Command}
use Rattle.zi_universe.specs.declared.types.Requirement.{Requirement}
use Rattle.zi_universe.specs.declared.types.Candidate.{Candidate}
use Rattle.zi_universe.specs.declared.types.Interface.{Interface}
use Rattle.zi_universe.specs.Candidates.{asks}
use Rattle.zi_choice.specs.Choice.{number}
use Rattle.zi_choice.specs.Valid.{group}
use Rattle.zi_choice.specs.Vars.{Var, Cand, Wide, total, candidates_of, var_number}
use Rattle.zi_build.specs.Clauses.{Says, yes, no, Rule, Some_of, One_of, same_says, without, once, clause, each, keep, is_admitted, at_target, among, admitted_one, refused_one, admission, naming, named_by, need, needs, of_width, of_command, of_candidate, of_interface, two_or_more, one_var, group_of, root_one, of_requirement, rules, lit_of, constraint_of, formula, size_of, literals}

-- the literals of rules
abbrev size : Rule → ℕ
size (Some_of ls) = length ls
size (One_of xs) = length xs

abbrev weight : List Rule → ℕ
weight rs = total size rs

weight_joined : (rs ss : List Rule) → weight (rs ++ ss) ≡ weight rs + weight ss
weight_joined [] ss = omega arith
weight_joined (r ∷ rs) ss =
    let e : weight (rs ++ ss) ≡ weight rs + weight ss = weight_joined rs ss in
    omega (arith, e)

one_size : (u : List Interface) (r : Rule) → size_of (constraint_of u r) ≡ size r
one_size u (Some_of ls) = length-map ls (lit_of u)
one_size u (One_of xs) = length-map xs (var_number u)

literals_are : (u : List Interface) (rs : List Rule) → literals (map (constraint_of u) rs) ≡ weight rs
literals_are u [] = refl
literals_are u (r ∷ rs) = ap (λ k. k + literals (map (constraint_of u) rs)) (one_size u r) ∙ ap (λ k. size r + k) (literals_are u rs)

-- Clauses: none is longer for standing once.

without_shorter : (l : Says) (ms : List Says) → length (without l ms) ≤ length ms
without_shorter l [] = omega arith
without_shorter l (m ∷ ms) = either (same_says l m) (without_shorter l ms)
  where
    either : (b : Bool) → length (without l ms) ≤ length ms → length (cond b (without l ms) (m ∷ without l ms)) ≤ suc (length ms)
    either true h = omega arith
    either false h = omega arith

once_shorter : (ls : List Says) → length (once ls) ≤ length ls
once_shorter [] = omega arith
once_shorter (l ∷ ls) =
    let a : length (without l (once ls)) ≤ length (once ls) = without_shorter l (once ls) in
    let b : length (once ls) ≤ length ls = once_shorter ls in
    omega arith

-- What is said of each.

each_weight : {A : Type 0} (P : A → Type 0) (f : ℕ → A → List Rule) (g : A → ℕ) → ((n : ℕ) (x : A) → P x → weight (f n x) ≤ g x) → (n : ℕ) (xs : List A) → AllByRecursion P xs → weight (each n f xs) ≤ total g xs
each_weight P f g bound n [] h = omega arith
each_weight P f g bound n (x ∷ xs) h =
    let e : weight (f n x ++ each (suc n) f xs) ≡ weight (f n x) + weight (each (suc n) f xs) = weight_joined (f n x) (each (suc n) f xs) in
    let a : weight (f n x) ≤ g x = bound n x h.0 in
    let b : weight (each (suc n) f xs) ≤ total g xs = each_weight P f g bound (suc n) xs h.1 in
    omega (arith, e, a, b)

each_length : {A B : Type 0} (f : ℕ → A → List B) → ((n : ℕ) (x : A) → length (f n x) ≤ 1) → (n : ℕ) (xs : List A) → length (each n f xs) ≤ length xs
each_length f bound n [] = omega arith
each_length f bound n (x ∷ xs) =
    let e : length (f n x ++ each (suc n) f xs) ≡ length (f n x) + length (each (suc n) f xs) = length-append (f n x) (each (suc n) f xs) in
    let a : length (f n x) ≤ 1 = bound n x in
    let b : length (each (suc n) f xs) ≤ length xs = each_length f bound (suc n) xs in
    omega (arith, e, a, b)

kept_one : {A : Type 0} (b : Bool) (x : A) → length (keep b x) ≤ 1
kept_one true x = omega arith
kept_one false x = omega arith

kept_weight : (b : Bool) (r : Rule) (k : ℕ) → size r ≤ k → weight (keep b r) ≤ k
kept_weight true r k h = omega arith
kept_weight false r k h = omega arith

-- Interfaces with three candidates at most.

abbrev pub IsSmall : Interface → Type 0
IsSmall i = length i.candidates ≤ 3

few_there : (u : List Interface) (j : ℕ) → AllByRecursion IsSmall u → length (candidates_of u j) ≤ 3
few_there [] j h = omega arith
few_there (x ∷ u) zero h = h.0
few_there (x ∷ u) (suc j) h = few_there u j h.1

target_length : (u : List Interface) (f : ℕ → ℕ → Candidate → List Says) → ((j e : ℕ) (k : Candidate) → length (f j e k) ≤ 1) → AllByRecursion IsSmall u → (o : Option ℕ) → length (at_target u f o) ≤ 3
target_length u f bound h None = omega arith
target_length u f bound h (Some j) =
    let a : length (each 0 (f j) (candidates_of u j)) ≤ length (candidates_of u j) = each_length (f j) (bound j) 0 (candidates_of u j) in
    let b : length (candidates_of u j) ≤ 3 = few_there u j h in
    omega (arith, a, b)

all_true : {A : Type 0} (xs : List A) → AllByRecursion (λ x. Unit {0}) xs
all_true [] = tt
all_true (x ∷ xs) = (tt, all_true xs)

twos : {A : Type 0} (xs : List A) → total (λ (x : A). 2) xs ≡ 2 * length xs
twos [] = refl
twos {A} (x ∷ xs) =
    let e : total (λ (x : A). 2) xs ≡ 2 * length xs = twos xs in
    omega (arith, e)

target_weight : (u : List Interface) (f : ℕ → ℕ → Candidate → List Rule) → ((j e : ℕ) (k : Candidate) → weight (f j e k) ≤ 2) → AllByRecursion IsSmall u → (o : Option ℕ) → weight (at_target u f o) ≤ 6
target_weight u f bound h None = omega arith
target_weight u f bound h (Some j) =
    let cs : List Candidate = candidates_of u j in
    let a : weight (each 0 (f j) cs) ≤ total (λ (k : Candidate). 2) cs = each_weight (λ (k : Candidate). Unit {0}) (f j) (λ (k : Candidate). 2) (λ e k t. bound j e k) 0 cs (all_true cs) in
    let t : total (λ (k : Candidate). 2) cs ≡ 2 * length cs = twos cs in
    let b : length cs ≤ 3 = few_there u j h in
    omega (arith, a, t, b)

-- Dependencies that name no command.

abbrev pub NamesNone : Dep → Type 0
NamesNone d = d.commands ≡ []

refused_weight : (y : Var) (d : Dep) (j e : ℕ) (k : Candidate) → weight (refused_one y d j e k) ≤ 2
refused_weight y d j e k = kept_weight (not (is_admitted d k)) (clause (no y ∷ no (Cand j e) ∷ [])) 2 (once_shorter (no y ∷ no (Cand j e) ∷ []))

admission_weight : (u : List Interface) (y : Var) (d : Dep) (kind : DepKind) → AllByRecursion IsSmall u → weight (admission u y d kind) ≤ 6
admission_weight u y d Essential h =
    let ls : List Says = no y ∷ among u d (admitted_one d) in
    let a : length (once ls) ≤ length ls = once_shorter ls in
    let b : length (among u d (admitted_one d)) ≤ 3 = target_length u (admitted_one d) (λ j e k. kept_one (is_admitted d k) (yes (Cand j e))) h (number u d.interface) in
    omega (arith, a, b)
admission_weight u y d Recommended h = target_weight u (refused_one y d) (refused_weight y d) h (number u d.interface)
admission_weight u y d Restricts h = target_weight u (refused_one y d) (refused_weight y d) h (number u d.interface)

none_named : (u : List Interface) (y : Var) (d : Dep) → NamesNone d → naming u y d (named_by d) ≡ []
none_named u y d h = either (asks d)
  where
    either : (b : Bool) → naming u y d (if b then d.commands else []) ≡ []
    either true = ap (naming u y d) h
    either false = refl

need_weight : (u : List Interface) (y : Var) (d : Dep) → AllByRecursion IsSmall u → NamesNone d → weight (need u y d) ≤ 6
need_weight u y d h k =
    let e : weight (admission u y d d.kind ++ naming u y d (named_by d)) ≡ weight (admission u y d d.kind) + weight (naming u y d (named_by d)) = weight_joined (admission u y d d.kind) (naming u y d (named_by d)) in
    let a : weight (admission u y d d.kind) ≤ 6 = admission_weight u y d d.kind h in
    let n : weight (naming u y d (named_by d)) ≡ 0 = ap weight (none_named u y d k) in
    omega (arith, e, a, n)

needs_weight : (u : List Interface) (y : Var) (ds : List Dep) → AllByRecursion IsSmall u → AllByRecursion NamesNone ds → weight (needs u y ds) ≤ 6 * length ds
needs_weight u y [] h k = omega arith
needs_weight u y (d ∷ ds) h k =
    let e : weight (need u y d ++ needs u y ds) ≡ weight (need u y d) + weight (needs u y ds) = weight_joined (need u y d) (needs u y ds) in
    let a : weight (need u y d) ≤ 6 = need_weight u y d h k.0 in
    let b : weight (needs u y ds) ≤ 6 * length ds = needs_weight u y ds h k.1 in
    omega (arith, e, a, b)

-- Candidates without commands.

pub record IsLight (c : Candidate) : Type 0 where
  pub commands : c.imp.commands ≡ []
  pub deps : AllByRecursion NamesNone c.imp.deps

abbrev pub load_of : Candidate → ℕ
load_of c = 2 + 6 * length c.imp.deps

width_weight : (y : Var) (w : Width) → weight (of_width y w) ≤ 2
width_weight y Any = omega arith
width_weight y Bits32 =
    let e : length (once (no y ∷ no Wide ∷ [])) ≤ 2 = once_shorter (no y ∷ no Wide ∷ []) in
    omega (arith, e)
width_weight y Bits64 =
    let e : length (once (no y ∷ yes Wide ∷ [])) ≤ 2 = once_shorter (no y ∷ yes Wide ∷ []) in
    omega (arith, e)

candidate_weight : (u : List Interface) (i c : ℕ) (k : Candidate) → AllByRecursion IsSmall u → IsLight k → weight (of_candidate u i c k) ≤ load_of k
candidate_weight u i c k h l =
    let y : Var = Cand i c in
    let n : List Rule = needs u y k.imp.deps in
    let cs : List Rule = each 0 (of_command u i c) k.imp.commands in
    let e : weight (of_width y (group k) ++ (n ++ cs)) ≡ weight (of_width y (group k)) + weight (n ++ cs) = weight_joined (of_width y (group k)) (n ++ cs) in
    let f : weight (n ++ cs) ≡ weight n + weight cs = weight_joined n cs in
    let a : weight (of_width y (group k)) ≤ 2 = width_weight y (group k) in
    let b : weight n ≤ 6 * length k.imp.deps = needs_weight u y k.imp.deps h l.deps in
    let z : weight cs ≡ 0 = ap (λ (v : List Command). weight (each 0 (of_command u i c) v)) l.commands in
    omega (arith, e, f, a, b, z)

abbrev pub AreLight : Interface → Type 0
AreLight i = AllByRecursion IsLight i.candidates

abbrev pub load_in : Interface → ℕ
load_in i = total load_of i.candidates

group_weight : (i : ℕ) (x : Interface) → IsSmall x → weight (group_of i x) ≤ 3
group_weight i x h =
    let a : length (each 0 (one_var i) x.candidates) ≤ length x.candidates = each_length (one_var i) (λ n k. omega arith) 0 x.candidates in
    kept_weight (two_or_more (length x.candidates)) (One_of (each 0 (one_var i) x.candidates)) 3 (omega (arith, a, h))

threes : (u : List Interface) → total (λ (x : Interface). 3) u ≡ 3 * length u
threes [] = refl
threes (x ∷ u) =
    let e : total (λ (x : Interface). 3) u ≡ 3 * length u = threes u in
    omega (arith, e)

-- the literals of all constraints
pub few_literals : (u : List Interface) (req : Requirement) → req.command ≡ None → AllByRecursion IsSmall u → AllByRecursion AreLight u
    → literals (formula u req).constraints ≤ 3 + 3 * length u + total load_in u
few_literals u req no_command h l =
    let ls : List Says = each 0 root_one (candidates_of u 0) in
    let gs : List Rule = each 0 group_of u in
    let is : List Rule = each 0 (of_interface u) u in
    let rest : List Rule = of_requirement u req.command ++ (gs ++ is) in
    let s : literals (formula u req).constraints ≡ size (clause ls) + weight rest = literals_are u (rules u req) in
    let o : length (once ls) ≤ length ls = once_shorter ls in
    let r : length ls ≤ length (candidates_of u 0) = each_length root_one (λ n k. omega arith) 0 (candidates_of u 0) in
    let t : length (candidates_of u 0) ≤ 3 = few_there u 0 h in
    let e : weight rest ≡ weight (gs ++ is) = ap (λ (o : Option (List ℕ)). weight (of_requirement u o ++ (gs ++ is))) no_command in
    let f : weight (gs ++ is) ≡ weight gs + weight is = weight_joined gs is in
    let g : weight gs ≤ total (λ (x : Interface). 3) u = each_weight IsSmall group_of (λ (x : Interface). 3) group_weight 0 u h in
    let q : total (λ (x : Interface). 3) u ≡ 3 * length u = threes u in
    let b : weight is ≤ total load_in u = each_weight AreLight (of_interface u) load_in (λ i x k. each_weight IsLight (of_candidate u i) load_of (λ c y m. candidate_weight u i c y h m) 0 x.candidates k) 0 u l in
    omega (arith, s, o, r, t, e, f, g, q, b)
