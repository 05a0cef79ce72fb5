-- From an assignment of which the families hold, a valid choice: its true candidates, cut down to where their walk comes.
use Rattle.std.proofs.Common.{◌≡◌, ℕ, zero, suc, ◌+◌, ◌<◌, Bool, true, false, cond, List, [], ◌∷◌, length, refl, sym, ap, ◌∙◌, subst, arith, Option, Some, None, inl, inr}
use Rattle.std.specs.Prelude.{slice_get}
use Rattle.std.proofs.lemmas.Bool.{false≢true, cases_lt}
use Rattle.std.proofs.lemmas.Option.{slice_get_within, same_Some}
use Rattle.zi_universe.specs.declared.types.Requirement.{Requirement}
use Rattle.zi_universe.specs.declared.types.Candidate.{Candidate}
use Rattle.zi_universe.specs.declared.types.Interface.{Interface}
use Rattle.zi_choice.specs.Choice.{Choice, pick}
use Rattle.zi_choice.specs.Walk.{Walk, is_listed}
use Rattle.zi_choice.specs.Valid.{IsValid}
use Rattle.zi_choice.proofs.ThereLaws.{walk_there}
use Rattle.zi_choice.specs.Vars.{Var, Cand, candidates_of}
use Rattle.zi_choice.proofs.WalkFacts.{same_walk}
use Rattle.zi_build.proofs.Meaning.{IsAt, Means}
use Rattle.zi_build.proofs.MeansValid.{Suited, means_valid}
use Rattle.zi_feed.specs.IdLaws.{none_some}

-- a true candidate of an interface, if one of the first so many is
abbrev true_one : (Var → Bool) → ℕ → ℕ → Option ℕ
true_one w i zero = None
true_one w i (suc n) = cond (w (Cand i n)) (Some n) (true_one w i n)

true_case : (w : Var → Bool) (i n c : ℕ) (b : Bool) → w (Cand i n) ≡ b → (true_one w i n ≡ Some c → (c < n) × (w (Cand i c) ≡ true)) → cond b (Some n) (true_one w i n) ≡ Some c → (c < suc n) × (w (Cand i c) ≡ true)
true_case w i n c true p h e =
    let q : n ≡ c = same_Some _ _ e in (omega (arith, q), subst (λ x. w (Cand i x) ≡ true) q p)
true_case w i n c false p h e = let r = h e in let l = r.0 in (omega (arith, l), r.1)

true_is : (w : Var → Bool) (i n c : ℕ) → true_one w i n ≡ Some c → (c < n) × (w (Cand i c) ≡ true)
true_is w i zero c e = absurd (none_some e)
true_is w i (suc n) c e = true_case w i n c (w (Cand i n)) refl (λ h. true_is w i n c h) e

there_case : (w : Var → Bool) (i n c : ℕ) (b : Bool) → w (Cand i n) ≡ b → c < suc n → w (Cand i c) ≡ true → (c < n → (d : ℕ) × (true_one w i n ≡ Some d)) → (d : ℕ) × (cond b (Some n) (true_one w i n) ≡ Some d)
there_case w i n c true p l t h = (n, refl)
there_case w i n c false p l t h =
    elim (cases_lt c n) [ inl q ↦ h q | inr q ↦ absurd (let e : c ≡ n = omega (arith, q, l) in false≢true (sym p ∙ subst (λ x. w (Cand i x) ≡ true) e t)) ]

true_there : (w : Var → Bool) (i n c : ℕ) → c < n → w (Cand i c) ≡ true → (d : ℕ) × (true_one w i n ≡ Some d)
true_there w i zero c l t = absurd (omega (arith, l))
true_there w i (suc n) c l t = there_case w i n c (w (Cand i n)) refl l t (λ q. true_there w i n c q t)

-- the true candidates of an assignment as a choice
choice_from : (Var → Bool) → ℕ → List Interface → Choice
choice_from w n [] = []
choice_from w n (x ∷ u) = true_one w n (length x.candidates) ∷ choice_from w (suc n) u

from_fits : (w : Var → Bool) (n : ℕ) (u : List Interface) → length (choice_from w n u) ≡ length u
unfolding choice_from
from_fits w n [] = refl
from_fits w n (x ∷ u) = ap suc (from_fits w (suc n) u)

from_picks : (w : Var → Bool) (n : ℕ) (u : List Interface) (i : ℕ) → pick (choice_from w n u) i ≡ true_one w (n + i) (length (candidates_of u i))
unfolding choice_from
from_picks w n [] i = refl
from_picks w n (x ∷ u) zero = let e : n ≡ n + 0 = omega arith in ap (λ k. true_one w k (length x.candidates)) e
from_picks w n (x ∷ u) (suc i) =
    let e : suc n + i ≡ n + suc i = omega arith in from_picks w (suc n) u i ∙ ap (λ k. true_one w k (length (candidates_of u i))) e

pub choice_of : List Interface → (Var → Bool) → Choice
choice_of u w = choice_from w 0 u

of_picks : (u : List Interface) (w : Var → Bool) (i : ℕ) → pick (choice_of u w) i ≡ true_one w i (length (candidates_of u i))
unfolding choice_of
of_picks u w i = let e : 0 + i ≡ i = omega arith in from_picks w 0 u i ∙ ap (λ k. true_one w k (length (candidates_of u i))) e

-- a choice cut down to where a walk comes
cut_from : Walk → ℕ → Choice → Choice
cut_from a n [] = []
cut_from a n (p ∷ s) = cond (is_listed a n) p None ∷ cut_from a (suc n) s

cut_fits : (a : Walk) (n : ℕ) (s : Choice) → length (cut_from a n s) ≡ length s
unfolding cut_from
cut_fits a n [] = refl
cut_fits a n (p ∷ s) = ap suc (cut_fits a (suc n) s)

none_either : (b : Bool) → ◌≡◌ {A = Option ℕ} None (cond b None None)
none_either true = refl
none_either false = refl

cut_picks : (a : Walk) (n : ℕ) (s : Choice) (i : ℕ) → pick (cut_from a n s) i ≡ cond (is_listed a (n + i)) (pick s i) None
unfolding cut_from
cut_picks a n [] i = none_either (is_listed a (n + i))
cut_picks a n (p ∷ s) zero = let e : n ≡ n + 0 = omega arith in ap (λ k. cond (is_listed a k) p None) e
cut_picks a n (p ∷ s) (suc i) =
    let e : suc n + i ≡ n + suc i = omega arith in cut_picks a (suc n) s i ∙ ap (λ k. cond (is_listed a k) (pick s i) None) e

pub cut : Walk → Choice → Choice
cut a s = cut_from a 0 s

cut_at : (a : Walk) (s : Choice) (i : ℕ) → pick (cut a s) i ≡ cond (is_listed a i) (pick s i) None
unfolding cut
cut_at a s i = let e : 0 + i ≡ i = omega arith in cut_picks a 0 s i ∙ ap (λ k. cond (is_listed a k) (pick s i) None) e

cut_case : (b : Bool) (o : Option ℕ) (c : ℕ) → cond b o None ≡ Some c → (b ≡ true) × (o ≡ Some c)
cut_case true o c e = (refl, e)
cut_case false o c e = absurd (none_some e)

cut_true : (a : Walk) (s : Choice) (i : ℕ) → is_listed a i ≡ true → pick (cut a s) i ≡ pick s i
cut_true a s i h = cut_at a s i ∙ ap (λ b. cond b (pick s i) None) h

cut_some : (a : Walk) (s : Choice) (i c : ℕ) → pick (cut a s) i ≡ Some c → (is_listed a i ≡ true) × (pick s i ≡ Some c)
cut_some a s i c e = cut_case (is_listed a i) (pick s i) c (sym (cut_at a s i) ∙ e)

cut_same_length : (a : Walk) (s : Choice) → length (cut a s) ≡ length s
unfolding cut
cut_same_length a s = cut_fits a 0 s

pub of_length : (u : List Interface) (w : Var → Bool) → length (choice_of u w) ≡ length u
unfolding choice_of
of_length u w = from_fits w 0 u

candidate_below : (u : List Interface) (i c : ℕ) → c < length (candidates_of u i) → (k : Candidate) × IsAt u i c k
candidate_below u i c l = at (candidates_of u i) c l
  where
    at : (ks : List Candidate) (c : ℕ) → c < length ks → (k : Candidate) × (slice_get ks c ≡ Some k)
    at [] c l = absurd (omega (arith, l))
    at (k ∷ ks) zero l = (k, refl)
    at (k ∷ ks) (suc c) l = at ks c (omega (arith, l))

module _ (u : List Interface) (req : Requirement) (w : Var → Bool) (m : Means u req w) where
  pub of_true : (i c : ℕ) → pick (choice_of u w) i ≡ Some c → (k : Candidate) × IsAt u i c k × (w (Cand i c) ≡ true)
  of_true i c e =
      let r = true_is w i (length (candidates_of u i)) c (sym (of_picks u w i) ∙ e) in
      let k = candidate_below u i c r.0 in (k.0, k.1, r.1)

  pub of_full : (i c : ℕ) (k : Candidate) → IsAt u i c k → w (Cand i c) ≡ true → pick (choice_of u w) i ≡ Some c
  of_full i c k at t =
      let l : c < length (candidates_of u i) = slice_get_within (candidates_of u i) c k at in
      let d = true_there w i (length (candidates_of u i)) c l t in
      let r = true_is w i (length (candidates_of u i)) d.0 d.1 in
      of_picks u w i ∙ d.1 ∙ ap (λ x. Some x) (m.one i d.0 c r.0 l r.1 t)

  abbrev pub full_walk : Walk
  full_walk = (walk_there u req (choice_of u w)).0

  abbrev pub held : Choice
  held = cut full_walk (choice_of u w)

  held_suited : Suited u w held full_walk
  held_suited = record {
    sound = λ i c e. of_true i c (cut_some full_walk (choice_of u w) i c e).1;
    full = λ i c k on at t. cut_true full_walk (choice_of u w) i on ∙ of_full i c k at t;
  }

  -- the true candidates that the walk comes to are a valid choice
  pub held_valid : IsValid u req held
  held_valid =
      means_valid u req w m held full_walk
      (same_walk u (choice_of u w) held full_walk (λ j on. sym (cut_true full_walk (choice_of u w) j on)) req (walk_there u req (choice_of u w)).1)
      held_suited
      (cut_same_length full_walk (choice_of u w) ∙ of_length u w)
      (λ i c e. (cut_some full_walk (choice_of u w) i c e).0)

  pub held_true : (i c : ℕ) → pick held i ≡ Some c → w (Cand i c) ≡ true
  held_true i c e = (of_true i c (cut_some full_walk (choice_of u w) i c e).1).2
