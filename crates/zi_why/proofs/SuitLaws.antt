-- Whether a candidate suits, from the tests one after another.
use Rattle.std.proofs.Common.{◌≡◌, ℕ, zero, suc, ◌<◌, ◌≤◌, ◌==◌, Bool, true, false, not, ◌&&◌, List, [], ◌∷◌, ◌++◌, length, get_or, arith, refl, sym, ap, ◌∙◌, subst, Bor, Option, Some, None, if◌then◌else◌}
use Rattle.std.specs.Prelude.{find, is_none, is_some, option_copied, option_and_then, slice_get}
use Rattle.std.specs.List.{list_any, list_all}
use Rattle.std.specs.Option.{option_or}
use Rattle.std.proofs.lemmas.List.Folds.{find-append}
use Rattle.std.proofs.lemmas.Bool.{not-true, not-false}
use Rattle.zi_parts.specs.declared.types.Dep.{Dep}
use Rattle.zi_universe.specs.declared.types.Candidate.{Candidate}
use Rattle.zi_universe.specs.declared.types.Interface.{Interface}
use Rattle.zi_choice.specs.declared.traced.Stop.{Stop}
use Rattle.zi_choice.specs.Choice.{Choice, chosen, number, candidate_at, command_place}
use Rattle.zi_choice.specs.Stops.{came_to}
use Rattle.zi_choice.specs.Vars.{candidates_of}
use Rattle.zi_build.specs.Clauses.{is_admitted, named_by}
use Rattle.zi_why.specs.Reasons.{has, lacks, does_suit, is_essential, isnt_met_by, isnt_met_at, is_against, targets, is_beyond}
use Rattle.zi_choice.proofs.TaskLaws.{slice_some}
use Rattle.zi_why.proofs.FindLaws.{all_found}
use Rattle.zi_feed.specs.IdLaws.{none_some}

pub place_of : (u : List Interface) (i c : ℕ) (k : Candidate) (name : List ℕ) (o : Option ℕ) → candidate_at u i c ≡ Some k → o ≡ option_and_then (λ (x : Candidate). command_place x name) (candidate_at u i c) → o ≡ command_place k name
place_of u i c k name o e f = f ∙ ap (λ q. option_and_then (λ (x : Candidate). command_place x name) q) e

pub or_found : {A : Type 0} (test : A → Bool) (as' bs : List A) (o : Option (Bor A)) (x : Bor A) → option_copied o ≡ find test as' → o ≡ Some x → Some x.now ≡ find test (as' ++ bs)
or_found test as' bs o x e f = ap (λ q. option_or q (find test bs)) (sym (ap option_copied f) ∙ e) ∙ sym (find-append test as' bs)

pub or_next : {A : Type 0} (test : A → Bool) (as' bs : List A) (o q : Option (Bor A)) → option_copied o ≡ find test as' → o ≡ None → option_copied q ≡ find test bs → option_copied q ≡ find test (as' ++ bs)
or_next test as' bs o q e f g = g ∙ ap (λ p. option_or p (find test bs)) (sym (ap option_copied f) ∙ e) ∙ sym (find-append test as' bs)

pub none_told : {A : Type 0} (o : Option (Bor A)) (p : Option A) (r : Bool) → option_copied o ≡ p → is_some o ≡ not r → r ≡ is_none p
none_told None p r e f = not-false r (sym f) ∙ ap is_none e
none_told (Some x) p r e f = not-true r (sym f) ∙ ap is_none e

pub suits_not : (d : Dep) (k : Candidate) (b : Bool) → b ≡ is_admitted d k → b ≡ false → false ≡ does_suit d k
suits_not d k b e f = ap (λ c. c && list_all (has k) (named_by d)) (sym f ∙ e)

pub suits_so : (d : Dep) (k : Candidate) (b r : Bool) (ns : List (List ℕ)) (o : Option (Bor (List ℕ))) → b ≡ is_admitted d k → b ≡ true → ns ≡ named_by d → option_copied o ≡ find (lacks k) ns → is_some o ≡ not r → r ≡ does_suit d k
suits_so d k b r ns o e f n g h =
    none_told o (find (lacks k) ns) r g h ∙ sym (all_found (has k) (lacks k) ns (λ name. refl)) ∙ ap (list_all (has k)) n
    ∙ ap (λ c. c && list_all (has k) (named_by d)) (sym f ∙ e)

-- against

module _ (u : List Interface) (s : Choice) (xs : List Stop) (i : ℕ) (k : Candidate) (d : Dep) where
  pub against_nowhere : number u d.interface ≡ None → false ≡ is_against u s xs i k d
  against_nowhere e = ap (isnt_met_at u s xs i k d) (sym e)

  abbrev at_place : ℕ → Bool → Bool → Bool
  at_place j b c = if b then isnt_met_by d (Some k) else (c && isnt_met_by d (chosen u s j))

  is_at : (j : ℕ) (b c : Bool) → number u d.interface ≡ Some j → (j == i) ≡ b → c ≡ came_to xs j → at_place j b c ≡ is_against u s xs i k d
  is_at j b c e f g = ap (λ z. at_place j b z) g ∙ ap (λ z. at_place j z (came_to xs j)) (sym f) ∙ ap (isnt_met_at u s xs i k d) (sym e)

  pub against_itself : (j : ℕ) (r : Bool) → number u d.interface ≡ Some j → (j == i) ≡ true → r ≡ does_suit d k → not r ≡ is_against u s xs i k d
  against_itself j r e f g = ap not g ∙ is_at j true (came_to xs j) e f refl

  pub against_later : (j : ℕ) (c : Bool) → number u d.interface ≡ Some j → (j == i) ≡ false → c ≡ came_to xs j → c ≡ false → false ≡ is_against u s xs i k d
  against_later j c e f g h = ap (λ z. z && isnt_met_by d (chosen u s j)) (sym h) ∙ is_at j false c e f g

  pub against_there : (j : ℕ) (c r : Bool) → number u d.interface ≡ Some j → (j == i) ≡ false → c ≡ came_to xs j → c ≡ true → r ≡ isnt_met_by d (chosen u s j) → r ≡ is_against u s xs i k d
  against_there j c r e f g h l = l ∙ ap (λ z. z && isnt_met_by d (chosen u s j)) (sym h) ∙ is_at j false c e f g

-- beyond

pub beyond_no : (u : List Interface) (d : Dep) (b : Bool) → b ≡ is_essential d.kind → b ≡ false → false ≡ is_beyond u d
beyond_no u d b e f = ap (λ c. c && not (list_any (does_suit d) (targets u (number u d.interface)))) (sym f ∙ e)

beyond_at : (u : List Interface) (d : Dep) (b : Bool) (q : Option ℕ) → b ≡ is_essential d.kind → b ≡ true → number u d.interface ≡ q → not (list_any (does_suit d) (targets u q)) ≡ is_beyond u d
beyond_at u d b q e f g =
    ap (λ p. not (list_any (does_suit d) (targets u p))) (sym g) ∙ ap (λ c. c && not (list_any (does_suit d) (targets u (number u d.interface)))) (sym f ∙ e)

pub beyond_nowhere : (u : List Interface) (d : Dep) (b : Bool) → b ≡ is_essential d.kind → b ≡ true → number u d.interface ≡ None → true ≡ is_beyond u d
beyond_nowhere u d b e f g = beyond_at u d b None e f g

pub beyond_there : (u : List Interface) (d : Dep) (b : Bool) (j : ℕ) (r : Bool) → b ≡ is_essential d.kind → b ≡ true → number u d.interface ≡ Some j → r ≡ list_any (does_suit d) (candidates_of u j) → not r ≡ is_beyond u d
beyond_there u d b j r e f g h = ap not h ∙ beyond_at u d b (Some j) e f g

-- the candidates of an interface

pub none_there : (u us : List Interface) (i : ℕ) → us ≡ u → length us ≤ i → [] ≡ candidates_of u i
none_there u us i e l = sym (none u i (subst (λ v. length v ≤ i) e l))
  where
    none : (u : List Interface) (i : ℕ) → length u ≤ i → candidates_of u i ≡ []
    none [] i l = refl
    none (x ∷ u) zero l = absurd (omega (arith, l))
    none (x ∷ u) (suc i) l = none u i (omega (arith, l))

candidate_is : (u : List Interface) (i c : ℕ) → candidate_at u i c ≡ slice_get (candidates_of u i) c
candidate_is [] i c = refl
candidate_is (x ∷ u) zero c = refl
candidate_is (x ∷ u) (suc i) c = candidate_is u i c

pub nth_there : (u : List Interface) (i c : ℕ) (ks : List Candidate) (k : Candidate) → ks ≡ candidates_of u i → c < length ks → k ≡ get_or ks c k → slice_get (candidates_of u i) c ≡ Some k
nth_there u i c ks k e l is = ap (λ xs. slice_get xs c) (sym e) ∙ slice_some ks c k l is

pub candidate_there : (u : List Interface) (i c : ℕ) (k : Candidate) → slice_get (candidates_of u i) c ≡ Some k → candidate_at u i c ≡ Some k
candidate_there u i c k e = candidate_is u i c ∙ e

pub place_within : (u : List Interface) (i c : ℕ) (k : Candidate) → slice_get (candidates_of u i) c ≡ Some k → i < length u
place_within [] i c k e = absurd (none_some e)
place_within (x ∷ u) zero c k e = omega arith
place_within (x ∷ u) (suc i) c k e = let h = place_within u i c k e in omega (arith, h)
