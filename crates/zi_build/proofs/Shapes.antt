-- What holds where nothing more is to be said: each clause has candidates alone that it asks for, or one variable behind
-- others that it forbids.
use Rattle.std.proofs.Common.{◌≡◌, ℕ, Bool, true, false, not, cond, List, [], ◌∷◌, ◌++◌, length, refl, sym, ap, ◌∙◌, Option, Some, None, ◌⊎◌, inl, inr}
use Rattle.std.proofs.lemmas.Bool.{false≢true, and_parts}
use Rattle.zi_policy.specs.declared.types.Width.{Width}
use Rattle.zi_policy.specs.declared.types.Width.TheVariants.{Any, Bits32, Bits64}
use Rattle.zi_parts.specs.declared.types.Dep.{Dep}
use Rattle.zi_parts.specs.declared.types.DepKind.{DepKind}
use Rattle.zi_parts.specs.declared.types.DepKind.TheVariants.{Essential, Recommended, Restricts}
use Rattle.zi_universe.specs.declared.types.Requirement.{Requirement}
use Rattle.zi_universe.specs.declared.types.Candidate.{Candidate}
use Rattle.zi_universe.specs.declared.types.Interface.{Interface}
use Rattle.zi_choice.specs.Choice.{number, needs_of, command_place}
use Rattle.zi_choice.specs.Valid.{group}
use Rattle.zi_choice.specs.Vars.{Var, Cand, Cmd, Wide, candidates_of}
use Rattle.zi_build.specs.Clauses.{same_var, Says, yes, no, Rule, Some_of, One_of, same_says, without, once, clause, each, is_admitted, among, admitted_one, refused_one, admission, having, named_one, naming, named_by, need, needs, of_width, of_command, of_candidate, of_interface, two_or_more, one_var, group_of, root_one, wanted_one, of_requirement, rules}
use Rattle.zi_build.proofs.Formed.{Every, every_app, every_each0, every_keep, every_once, target_every}

abbrev pub IsCand : Var → Type 0
IsCand (Cand i c) = Unit {0}
IsCand (Cmd i c n) = ⊥
IsCand Wide = ⊥

-- what it asks for is a candidate
abbrev pub AsksCand : Says → Type 0
AsksCand l = l.holds ≡ true → IsCand l.of

-- others are forbidden, and at the end one is asked for
abbrev pub NegThen : Var → List Says → Type 0
NegThen z [] = ⊥
NegThen z (l ∷ ls) = ((l.holds ≡ false) × NegThen z ls) ⊎ ((l ≡ yes z) × (ls ≡ []))

abbrev pub Shape : Rule → Type 0
Shape (Some_of ls) = Every AsksCand ls ⊎ ((z : Var) × NegThen z ls)
Shape (One_of xs) = Unit {0}

apart_case : (a b : Bool) → a ≡ false → b ≡ true → cond a b (not b) ≡ true → ⊥
apart_case a b e f g = false≢true (ap not (sym f) ∙ sym (ap (λ x. cond x b (not b)) e) ∙ g)

without_neg : (z : Var) (l : Says) (ms : List Says) → l.holds ≡ false → NegThen z ms → NegThen z (without l ms)
without_neg z l [] e h = h
without_neg z l (m ∷ ms) e (inl h) = at (same_says l m) (without_neg z l ms e h.1)
  where
    at : (b : Bool) → NegThen z (without l ms) → NegThen z (cond b (without l ms) (m ∷ without l ms))
    at true g = g
    at false g = inl (h.0, g)
without_neg z l (m ∷ ms) e (inr h) = at (same_says l m) refl
  where
    at : (b : Bool) → same_says l m ≡ b → NegThen z (cond b (without l ms) (m ∷ without l ms))
    at true q = absurd (apart_case l.holds m.holds e (ap (λ (x : Says). x.holds) h.0) (and_parts (same_var l.of m.of) (cond l.holds m.holds (not m.holds)) q).1)
    at false q = inr (h.0, ap (λ xs. without l xs) h.1)

once_neg : (z : Var) (ls : List Says) → NegThen z ls → NegThen z (once ls)
once_neg z [] h = h
once_neg z (l ∷ ls) (inl h) = inl (h.0, without_neg z l (once ls) h.0 (once_neg z ls h.1))
once_neg z (l ∷ ls) (inr h) = inr (h.0, ap (λ xs. without l (once xs)) h.1)

of_cands : (ls : List Says) → Every AsksCand ls → Shape (clause ls)
of_cands ls h = inl (every_once AsksCand ls h)

of_neg : (z : Var) (ls : List Says) → NegThen z ls → Shape (clause ls)
of_neg z ls h = inr (z, once_neg z ls h)

forbids : (y : Var) → AsksCand (no y)
forbids y e = absurd (false≢true e)

shape_having : (y x : Var) (j e : ℕ) (o : Option ℕ) → Shape (clause (no y ∷ no x ∷ having j e o))
shape_having y x j e None = of_cands (no y ∷ no x ∷ []) (forbids y, (forbids x, tt))
shape_having y x j e (Some n) = of_neg (Cmd j e n) (no y ∷ no x ∷ yes (Cmd j e n) ∷ []) (inl (refl, inl (refl, inr (refl, refl))))

shape_wanted : (y : Var) (j e : ℕ) (o : Option ℕ) → Shape (clause (no y ∷ having j e o))
shape_wanted y j e None = of_cands (no y ∷ []) (forbids y, tt)
shape_wanted y j e (Some n) = of_neg (Cmd j e n) (no y ∷ yes (Cmd j e n) ∷ []) (inl (refl, inr (refl, refl)))

module _ (u : List Interface) where
  abbrev Shapes : List Rule → Type 0
  Shapes rs = Every Shape rs

  shape_admission : (y : Var) (d : Dep) (kind : DepKind) → Shapes (admission u y d kind)
  shape_admission y d Essential =
      (of_cands (no y ∷ among u d (admitted_one d)) (forbids y, target_every AsksCand u (admitted_one d) (number u d.interface) (λ j e k at. every_keep AsksCand (is_admitted d k) (yes (Cand j e)) (λ _ _. tt))), tt)
  shape_admission y d Recommended =
      target_every Shape u (refused_one y d) (number u d.interface) (λ j e k at. every_keep Shape (not (is_admitted d k)) (clause (no y ∷ no (Cand j e) ∷ [])) (λ _. of_cands (no y ∷ no (Cand j e) ∷ []) (forbids y, (forbids (Cand j e), tt))))
  shape_admission y d Restricts =
      target_every Shape u (refused_one y d) (number u d.interface) (λ j e k at. every_keep Shape (not (is_admitted d k)) (clause (no y ∷ no (Cand j e) ∷ [])) (λ _. of_cands (no y ∷ no (Cand j e) ∷ []) (forbids y, (forbids (Cand j e), tt))))

  shape_naming : (y : Var) (d : Dep) (names : List (List ℕ)) → Shapes (naming u y d names)
  shape_naming y d [] = tt
  shape_naming y d (name ∷ names) =
      every_app Shape (among u d (named_one y d name)) (naming u y d names)
      (target_every Shape u (named_one y d name) (number u d.interface) (λ j e k at. every_keep Shape (is_admitted d k) (clause (no y ∷ no (Cand j e) ∷ having j e (command_place k name))) (λ _. shape_having y (Cand j e) j e (command_place k name))))
      (shape_naming y d names)

  shape_needs : (y : Var) (ds : List Dep) → Shapes (needs u y ds)
  shape_needs y [] = tt
  shape_needs y (d ∷ ds) =
      every_app Shape (need u y d) (needs u y ds) (every_app Shape (admission u y d d.kind) (naming u y d (named_by d)) (shape_admission y d d.kind) (shape_naming y d (named_by d))) (shape_needs y ds)

  shape_width : (y : Var) (b : Width) → Shapes (of_width y b)
  shape_width y Any = tt
  shape_width y Bits32 = (of_cands (no y ∷ no Wide ∷ []) (forbids y, (forbids Wide, tt)), tt)
  shape_width y Bits64 = (of_neg Wide (no y ∷ yes Wide ∷ []) (inl (refl, inr (refl, refl))), tt)

  shape_candidate : (i c : ℕ) (k : Candidate) → Shapes (of_candidate u i c k)
  shape_candidate i c k =
      every_app Shape (of_width (Cand i c) (group k)) (needs u (Cand i c) k.imp.deps ++ each 0 (of_command u i c) k.imp.commands) (shape_width (Cand i c) (group k))
      (every_app Shape (needs u (Cand i c) k.imp.deps) (each 0 (of_command u i c) k.imp.commands) (shape_needs (Cand i c) k.imp.deps)
      (every_each0 Shape (of_command u i c) k.imp.commands (λ n m e. (of_cands (no (Cmd i c n) ∷ yes (Cand i c) ∷ []) (forbids (Cmd i c n), ((λ _. tt), tt)), shape_needs (Cmd i c n) (needs_of m)))))

  shape_requirement : (o : Option (List ℕ)) → Shapes (of_requirement u o)
  shape_requirement None = tt
  shape_requirement (Some name) =
      every_each0 Shape (wanted_one name) (candidates_of u 0) (λ c k at. (shape_wanted (Cand 0 c) 0 c (command_place k name), tt))

  pub shapes : (req : Requirement) → Shapes (rules u req)
  shapes req = (
    of_cands (each 0 root_one (candidates_of u 0)) (every_each0 AsksCand root_one (candidates_of u 0) (λ c k at. ((λ _. tt), tt))),
    every_app Shape (of_requirement u req.command) (each 0 group_of u ++ each 0 (of_interface u) u) (shape_requirement req.command)
        (every_app Shape (each 0 group_of u) (each 0 (of_interface u) u) (every_each0 Shape group_of u (λ i x e. every_keep Shape (two_or_more (length x.candidates)) (One_of (each 0 (one_var i) x.candidates)) (λ _. tt)))
        (every_each0 Shape (of_interface u) u (λ i x e. every_each0 Shape (of_candidate u i) x.candidates (λ c k f. shape_candidate i c k)))),
  )
