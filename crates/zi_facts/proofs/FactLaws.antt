-- Each fact is the constraint of its number.
use Rattle.std.proofs.Common.{◌≡◌, ℕ, zero, suc, ◌+◌, Bool, true, false, not, List, [], ◌∷◌, ◌++◌, length, map, refl, sym, ap, ap₂, ◌∙◌, subst, arith, Option, Some, None}
use Rattle.std.specs.Prelude.{slice_get}
use Rattle.std.specs.List.{flat_map}
use Rattle.std.proofs.lemmas.List.{map-append}
use Rattle.zi_policy.specs.declared.types.Width.{Width}
use Rattle.zi_policy.specs.declared.types.Width.TheVariants.{Any, Bits32, Bits64}
use Rattle.zi_parts.specs.declared.types.Dep.{Dep}
use Rattle.zi_parts.specs.declared.types.DepKind.{DepKind}
use Rattle.zi_parts.specs.declared.types.DepKind.TheVariants.{Essential, Recommended, Restricts}
use Rattle.zi_parts.specs.declared.types.Command.{Command}
use Rattle.zi_universe.specs.declared.types.Requirement.{Requirement}
use Rattle.zi_universe.specs.declared.types.Candidate.{Candidate}
use Rattle.zi_universe.specs.declared.types.Interface.{Interface}
use Rattle.zi_choice.specs.Choice.{number, needs_of, command_place}
use Rattle.zi_choice.specs.Valid.{group}
use Rattle.zi_choice.specs.Vars.{Var, Cand, Cmd, Wide, candidates_of}
use Rattle.zi_build.specs.Clauses.{Rule, One_of, each, keep, at_target, among, is_admitted, named_by, refused_one, admission, named_one, naming, need, needs, of_width, of_command, of_candidate, of_interface, two_or_more, one_var, group_of, wanted_one, of_requirement, rules}
use Rattle.zi_facts.specs.Facts.{Told, Root, Wanted, Once, Bits, Part, Needs, Refuses, Names, rule_of, told_refusal, told_admission, told_name, told_naming, told_need, told_needs, told_width, told_command, told_candidate, told_interface, told_once, told_wanted, told_requirement, told}
use Rattle.zi_facts.specs.Laws.{FactsAreRules}

keep_map : {A B : Type 0} (g : A → B) (b : Bool) (x : A) (y : B) → g x ≡ y → map g (keep b x) ≡ keep b y
keep_map g true x y e = ap (λ z. z ∷ []) e
keep_map g false x y e = refl

both_map : {A B : Type 0} (g : A → B) (xs ys : List A) (us vs : List B) → map g xs ≡ us → map g ys ≡ vs → map g (xs ++ ys) ≡ us ++ vs
both_map g xs ys us vs e f = map-append g xs ys ∙ ap₂ (λ a b. a ++ b) e f

each_map : {A B C : Type 0} (g : B → C) (n : ℕ) (f : ℕ → A → List B) (h : ℕ → A → List C) (xs : List A) → ((k : ℕ) (x : A) → map g (f k x) ≡ h k x) → map g (each n f xs) ≡ each n h xs
each_map g n f h [] e = refl
each_map g n f h (x ∷ xs) e = both_map g (f n x) (each (suc n) f xs) (h n x) (each (suc n) h xs) (e n x) (each_map g (suc n) f h xs e)

module _ (u : List Interface) where
  target_map : (f : ℕ → ℕ → Candidate → List Told) (h : ℕ → ℕ → Candidate → List Rule) → ((j e : ℕ) (k : Candidate) → map (rule_of u) (f j e k) ≡ h j e k) → (o : Option ℕ) → map (rule_of u) (at_target u f o) ≡ at_target u h o
  target_map f h e None = refl
  target_map f h e (Some j) = each_map (rule_of u) 0 (f j) (h j) (candidates_of u j) (e j)

  among_map : (d : Dep) (f : ℕ → ℕ → Candidate → List Told) (h : ℕ → ℕ → Candidate → List Rule) → ((j e : ℕ) (k : Candidate) → map (rule_of u) (f j e k) ≡ h j e k) → map (rule_of u) (among u d f) ≡ among u d h
  among_map d f h e = target_map f h e (number u d.interface)

  refusals_map : (y : Var) (d : Dep) → map (rule_of u) (among u d (told_refusal y d)) ≡ among u d (refused_one y d)
  refusals_map y d = among_map d (told_refusal y d) (refused_one y d) (λ j e k. keep_map (rule_of u) (not (is_admitted d k)) (Refuses y d j e) (rule_of u (Refuses y d j e)) refl)

  admission_map : (y : Var) (d : Dep) (kind : DepKind) → map (rule_of u) (told_admission u y d kind) ≡ admission u y d kind
  admission_map y d Essential = refl
  admission_map y d Recommended = refusals_map y d
  admission_map y d Restricts = refusals_map y d

  names_map : (y : Var) (d : Dep) (name : List ℕ) → map (rule_of u) (among u d (told_name y d name)) ≡ among u d (named_one y d name)
  names_map y d name = among_map d (told_name y d name) (named_one y d name) (λ j e k. keep_map (rule_of u) (is_admitted d k) (Names y d name j e (command_place k name)) (rule_of u (Names y d name j e (command_place k name))) refl)

  naming_map : (y : Var) (d : Dep) (names : List (List ℕ)) → map (rule_of u) (told_naming u y d names) ≡ naming u y d names
  naming_map y d [] = refl
  naming_map y d (name ∷ names) = both_map (rule_of u) (among u d (told_name y d name)) (told_naming u y d names) (among u d (named_one y d name)) (naming u y d names) (names_map y d name) (naming_map y d names)

  need_map : (y : Var) (d : Dep) → map (rule_of u) (told_need u y d) ≡ need u y d
  need_map y d = both_map (rule_of u) (told_admission u y d d.kind) (told_naming u y d (named_by d)) (admission u y d d.kind) (naming u y d (named_by d)) (admission_map y d d.kind) (naming_map y d (named_by d))

  needs_map : (y : Var) (ds : List Dep) → map (rule_of u) (told_needs u y ds) ≡ needs u y ds
  needs_map y [] = refl
  needs_map y (d ∷ ds) = both_map (rule_of u) (told_need u y d) (told_needs u y ds) (need u y d) (needs u y ds) (need_map y d) (needs_map y ds)

  width_map : (i c : ℕ) (width : Width) → map (rule_of u) (told_width i c width) ≡ of_width (Cand i c) width
  width_map i c Any = refl
  width_map i c Bits32 = refl
  width_map i c Bits64 = refl

  command_map : (i c n : ℕ) (m : Command) → map (rule_of u) (told_command u i c n m) ≡ of_command u i c n m
  command_map i c n m = ap (λ rs. rule_of u (Part i c n) ∷ rs) (needs_map (Cmd i c n) (needs_of m))

  candidate_map : (i c : ℕ) (k : Candidate) → map (rule_of u) (told_candidate u i c k) ≡ of_candidate u i c k
  candidate_map i c k =
      both_map (rule_of u) (told_width i c (group k)) (told_needs u (Cand i c) k.imp.deps ++ each 0 (told_command u i c) k.imp.commands) (of_width (Cand i c) (group k)) (needs u (Cand i c) k.imp.deps ++ each 0 (of_command u i c) k.imp.commands) (width_map i c (group k))
      (both_map (rule_of u) (told_needs u (Cand i c) k.imp.deps) (each 0 (told_command u i c) k.imp.commands) (needs u (Cand i c) k.imp.deps) (each 0 (of_command u i c) k.imp.commands) (needs_map (Cand i c) k.imp.deps) (each_map (rule_of u) 0 (told_command u i c) (of_command u i c) k.imp.commands (command_map i c)))

  interfaces_map : map (rule_of u) (each 0 (told_interface u) u) ≡ each 0 (of_interface u) u
  interfaces_map = each_map (rule_of u) 0 (told_interface u) (of_interface u) u (λ i x. each_map (rule_of u) 0 (told_candidate u i) (of_candidate u i) x.candidates (candidate_map i))

  -- groups speak of the candidates of their interface
  once_map : (n : ℕ) (xs : List Interface) → ((i : ℕ) → candidates_of u (n + i) ≡ candidates_of xs i) → map (rule_of u) (each n told_once xs) ≡ each n group_of xs
  once_map n [] h = refl
  once_map n (x ∷ xs) h =
      let z : n ≡ n + 0 = omega arith in
      let here : candidates_of u n ≡ x.candidates = ap (candidates_of u) z ∙ h 0 in
      both_map (rule_of u) (told_once n x) (each (suc n) told_once xs) (group_of n x) (each (suc n) group_of xs)
      (keep_map (rule_of u) (two_or_more (length x.candidates)) (Once n) (One_of (each 0 (one_var n) x.candidates)) (ap (λ ks. One_of (each 0 (one_var n) ks)) here))
      (once_map (suc n) xs (λ i. (let y : suc n + i ≡ n + suc i = omega arith in ap (candidates_of u) y ∙ h (suc i))))

  requirement_map : (o : Option (List ℕ)) → map (rule_of u) (told_requirement u o) ≡ of_requirement u o
  requirement_map None = refl
  requirement_map (Some name) = each_map (rule_of u) 0 (told_wanted name) (wanted_one name) (candidates_of u 0) (λ c k. refl)

  rules_map : (req : Requirement) → map (rule_of u) (told u req) ≡ rules u req
  rules_map req =
      ap (λ rs. rule_of u Root ∷ rs) (both_map (rule_of u) (told_requirement u req.command) (each 0 told_once u ++ each 0 (told_interface u) u) (of_requirement u req.command) (each 0 group_of u ++ each 0 (of_interface u) u) (requirement_map req.command)
      (both_map (rule_of u) (each 0 told_once u) (each 0 (told_interface u) u) (each 0 group_of u) (each 0 (of_interface u) u) (once_map 0 u (λ i. (let z : 0 + i ≡ i = omega arith in ap (candidates_of u) z))) interfaces_map))

pub facts_are_rules : FactsAreRules
facts_are_rules u req = rules_map u req

map_len : {A B : Type 0} (g : A → B) (xs : List A) → length (map g xs) ≡ length xs
map_len g [] = refl
map_len g (x ∷ xs) = ap suc (map_len g xs)

-- there are as many facts as constraints
pub told_length : (u : List Interface) (req : Requirement) → length (told u req) ≡ length (rules u req)
told_length u req = sym (map_len (rule_of u) (told u req)) ∙ ap length (rules_map u req)
