-- What the rule's parts say: what is known to be chosen, and where the first undecided candidate is.
use Rattle.std.proofs.Common.{◌≡◌, ℕ, zero, suc, ◌+◌, ◌<◌, Bool, true, false, cond, List, [], ◌∷◌, ◌++◌, length, refl, sym, ap, ◌∙◌, subst, arith, Option, Some, None}
use Rattle.std.proofs.lemmas.Option.{same_Some}
use Rattle.zi_universe.specs.declared.types.Interface.{Interface}
use Rattle.zi_choice.specs.Choice.{pick}
use Rattle.zi_choice.specs.Walk.{Place}
use Rattle.zi_proof.specs.Known.{Known}
use Rattle.zi_choice.specs.Vars.{Var, Cand, candidates_of}
use Rattle.zi_walk.specs.Rule.{first_where, is_chosen, chosen_from, so_far, open_at, if_none, waits_at, or_else, first_open}
use Rattle.zi_feed.specs.IdLaws.{none_some}

-- where a test first passes
pub record FirstAt (test : ℕ → Bool) (n len c : ℕ) : Type 0 where
  pub on : ℕ
  pub is : c ≡ n + on
  pub within : on < len
  pub passes : test c ≡ true
  pub before : (m : ℕ) → m < on → test (n + m) ≡ false

pub first_is : {A : Type 0} (test : ℕ → Bool) (n : ℕ) (xs : List A) (c : ℕ) → first_where test n xs ≡ Some c → FirstAt test n (length xs) c
first_is test n [] c e = absurd (none_some e)
first_is test n (x ∷ xs) c e = at (test n) refl e (λ f. first_is test (suc n) xs c f)
  where
    at : (b : Bool) → test n ≡ b → cond b (Some n) (first_where test (suc n) xs) ≡ Some c → (first_where test (suc n) xs ≡ Some c → FirstAt test (suc n) (length xs) c) → FirstAt test n (length (x ∷ xs)) c
    at true t h later =
        let q : n ≡ c = same_Some _ _ h in record { on = 0; is = (let z : c ≡ n + 0 = omega (arith, q) in z); within = omega arith; passes = subst (λ k. test k ≡ true) q t; before = λ m l. absurd (omega (arith, l)) }
    at false t h later =
        let r = later h in
        let i = r.is in
        let w = r.within in
        record { on = suc r.on; is = omega (arith, i); within = omega (arith, w); passes = r.passes; before = less t r.before }
      where
        less : {on : ℕ} → test n ≡ false → ((m : ℕ) → m < on → test (suc n + m) ≡ false) → (m : ℕ) → m < suc on → test (n + m) ≡ false
        less f h zero l = let z : n ≡ n + 0 = omega arith in subst (λ k. test k ≡ false) z f
        less f h (suc m) l = let z : suc n + m ≡ n + suc m = omega arith in subst (λ k. test k ≡ false) z (h m (omega (arith, l)))

pub first_none : {A : Type 0} (test : ℕ → Bool) (n : ℕ) (xs : List A) → first_where test n xs ≡ None → (m : ℕ) → m < length xs → test (n + m) ≡ false
first_none test n [] e m l = absurd (omega (arith, l))
first_none test n (x ∷ xs) e m l = at (test n) refl e (λ f k i. first_none test (suc n) xs f k i) m l
  where
    at : (b : Bool) → test n ≡ b → cond b (Some n) (first_where test (suc n) xs) ≡ None → (first_where test (suc n) xs ≡ None → (k : ℕ) → k < length xs → test (suc n + k) ≡ false) → (m : ℕ) → m < length (x ∷ xs) → test (n + m) ≡ false
    at true t h later m i = absurd (none_some (sym h))
    at false t h later zero i = let z : n ≡ n + 0 = omega arith in subst (λ k. test k ≡ false) z t
    at false t h later (suc m) i = let z : suc n + m ≡ n + suc m = omega arith in subst (λ k. test k ≡ false) z (later h m (omega (arith, i)))

-- what is known to be chosen
chosen_picks : (u : List Interface) (k : Known) (n : ℕ) (xs : List Interface) (i : ℕ) → pick (chosen_from u k n xs) i ≡ first_where (is_chosen u k (n + i)) 0 (candidates_of xs i)
chosen_picks u k n [] i = refl
chosen_picks u k n (x ∷ xs) zero = let z : n ≡ n + 0 = omega arith in ap (λ m. first_where (is_chosen u k m) 0 x.candidates) z
chosen_picks u k n (x ∷ xs) (suc i) =
    let z : suc n + i ≡ n + suc i = omega arith in chosen_picks u k (suc n) xs i ∙ ap (λ m. first_where (is_chosen u k m) 0 (candidates_of xs i)) z

pub so_far_picks : (u : List Interface) (k : Known) (i : ℕ) → pick (so_far u k) i ≡ first_where (is_chosen u k i) 0 (candidates_of u i)
so_far_picks u k i = let z : 0 + i ≡ i = omega arith in chosen_picks u k 0 u i ∙ ap (λ m. first_where (is_chosen u k m) 0 (candidates_of u i)) z

-- nothing waits at any of the places
abbrev pub NoneWaits : List Interface → Known → List Place → Type 0
NoneWaits u k [] = Unit {0}
NoneWaits u k (p ∷ ps) = (waits_at u k p ≡ None) × NoneWaits u k ps

pub none_open : (u : List Interface) (k : Known) (ps : List Place) → first_open u k ps ≡ None → NoneWaits u k ps
none_open u k [] e = tt
none_open u k (p ∷ ps) e = at (waits_at u k p) refl e (λ f. none_open u k ps f)
  where
    at : (o : Option ℕ) → waits_at u k p ≡ o → or_else o p.interface (first_open u k ps) ≡ None → (first_open u k ps ≡ None → NoneWaits u k ps) → (waits_at u k p ≡ None) × NoneWaits u k ps
    at None w h later = (w, later h)
    at (Some c) w h later = absurd (none_some (sym h))

-- where the first undecided candidate is
pub record OpensAt (u : List Interface) (k : Known) (ps : List Place) (x : Var) : Type 0 where
  pub before : List Place
  pub place : Place
  pub behind : List Place
  pub candidate : ℕ
  pub are : ps ≡ before ++ place ∷ behind
  pub settled : NoneWaits u k before
  pub is : x ≡ Cand place.interface candidate
  pub none : place.pick ≡ None
  pub opens : open_at u k place ≡ Some candidate

waits_where : (o r : Option ℕ) (c : ℕ) → if_none o r ≡ Some c → (o ≡ None) × (r ≡ Some c)
waits_where None r c e = (refl, e)
waits_where (Some d) r c e = absurd (none_some e)

pub opens_at : (u : List Interface) (k : Known) (ps : List Place) (x : Var) → first_open u k ps ≡ Some x → OpensAt u k ps x
opens_at u k [] x e = absurd (none_some e)
opens_at u k (p ∷ ps) x e = at (waits_at u k p) refl e (λ f. opens_at u k ps x f)
  where
    at : (o : Option ℕ) → waits_at u k p ≡ o → or_else o p.interface (first_open u k ps) ≡ Some x → (first_open u k ps ≡ Some x → OpensAt u k ps x) → OpensAt u k (p ∷ ps) x
    at None w h later =
        let r = later h in record { before = p ∷ r.before; place = r.place; behind = r.behind; candidate = r.candidate; are = ap (λ qs. p ∷ qs) r.are; settled = (w, r.settled); is = r.is; none = r.none; opens = r.opens }
    at (Some c) w h later =
        let s = waits_where p.pick (open_at u k p) c w in record { before = []; place = p; behind = ps; candidate = c; are = refl; settled = tt; is = sym (same_Some _ _ h); none = s.0; opens = s.1 }
