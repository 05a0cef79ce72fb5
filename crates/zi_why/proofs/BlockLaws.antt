-- Blocks are true: what a block takes as true is so in each valid choice that agrees on the places before.
use Rattle.std.proofs.Common.{◌≡◌, ◌≢◌, ℕ, zero, suc, ◌+◌, ◌==◌, ◌<◌, ◌≤◌, Bool, true, false, ◌||◌, List, [], ◌∷◌, ◌++◌, take, length, refl, sym, subst, ap, ◌∙◌, arith, eq-eqb, Some}
use Rattle.std.specs.Prelude.{slice_get}
use Rattle.std.proofs.lemmas.Bool.{false≢true}
use Rattle.std.proofs.lemmas.Option.{same_Some}
use Rattle.zi_formula.specs.declared.formula.Lit.{Lit}
use Rattle.zi_formula.specs.declared.formula.Formula.{Formula}
use Rattle.zi_formula.specs.Truth.{lit_true, Models}
use Rattle.zi_proof.specs.declared.proof.Lemma.{Lemma}
use Rattle.zi_proof.specs.declared.proof.Block.{Block}
use Rattle.zi_proof.specs.Accepted.{follows, accepted}
use Rattle.zi_proof.specs.Laws.{MakesTrue}
use Rattle.zi_proof.proofs.Sound.{blocks_exclude}
use Rattle.zi_universe.specs.declared.types.Requirement.{Requirement}
use Rattle.zi_universe.specs.declared.types.Candidate.{Candidate}
use Rattle.zi_universe.specs.declared.types.Interface.{Interface}
use Rattle.zi_choice.specs.declared.traced.Stop.{Stop}
use Rattle.zi_choice.specs.declared.traced.Stop.TheVariants.{Came, Needed}
use Rattle.zi_choice.specs.Choice.{Choice, pick}
use Rattle.zi_choice.specs.Walk.{Place, Walk}
use Rattle.zi_choice.specs.Stops.{came_to, places_of, walk_of_stops}
use Rattle.zi_choice.specs.Vars.{Cand, candidates_of, var_number}
use Rattle.zi_choice.proofs.WalkLaws.{walk_one}
use Rattle.zi_choice.proofs.StopLaws.{stops_walk}
use Rattle.zi_build.specs.Clauses.{each, keep, formula}
use Rattle.zi_build.specs.Laws.{IsCandidatePart}
use Rattle.zi_build.proofs.Central.{valid_is_model}
use Rattle.zi_certificate.specs.Certificates.{Asked, is_passed, is_so, said_at, asked_one, asked_from, AreBlocks}
use Rattle.zi_certificate.proofs.Certified.{makes_both, said_true}
use Rattle.zi_why.specs.Laws.{BlocksAreTrue}
use Rattle.zi_why.proofs.ReasonLaws.{Every, both}
use Rattle.zi_feed.specs.IdLaws.{none_some}

-- Each item that is said of a list's items, by their places.
every_each : {A B : Type 0} (P : B → Type 0) (n : ℕ) (g : ℕ → A → List B) (xs : List A) → ((c : ℕ) (x : A) → Every P (g c x)) → Every P (each n g xs)
every_each P n g [] h = tt
every_each P n g (x ∷ xs) h = both P (g n x) (each (suc n) g xs) (h n x) (every_each P (suc n) g xs h)

every_keep : {A : Type 0} (P : A → Type 0) (b : Bool) (x : A) → P x → Every P (keep b x)
every_keep P true x h = (h, tt)
every_keep P false x h = tt

every_on : {A : Type 0} (P Q : A → Type 0) (xs : List A) → ((x : A) → P x → Q x) → Every P xs → Every Q xs
every_on P Q [] f h = tt
every_on P Q (x ∷ xs) f h = (f x h.0, every_on P Q xs f h.1)

-- A block is that of one that is asked for.
record IsOf (f : Formula) (ms : List Lemma) (P : Asked → Type 0) (b : Block) : Type 0 where
  pub asked : Asked
  pub is : P asked
  pub place : b.place ≡ asked.place
  pub candidate : b.candidate ≡ asked.candidate
  pub right : accepted f ms asked.assumed b.hints ≡ true

block_is : (f : Formula) (ms : List Lemma) (P : Asked → Type 0) (as' : List Asked) (bs : List Block) (n : ℕ) (b : Block) → Every P as' → AreBlocks f ms as' bs → slice_get bs n ≡ Some b → IsOf f ms P b
block_is f ms P [] [] n b e h g = absurd (none_some g)
block_is f ms P [] (c ∷ bs) n b e h g = absurd h
block_is f ms P (a ∷ as') [] n b e h g = absurd h
block_is f ms P (a ∷ as') (c ∷ bs) zero b e h g =
    subst (IsOf f ms P) (same_Some _ _ g) (record { asked = a; is = e.0; place = h.0; candidate = h.1; right = h.2 })
block_is f ms P (a ∷ as') (c ∷ bs) (suc n) b e h g = block_is f ms P as' bs n b e.1 h.3 g

module _ (u : List Interface) (req : Requirement) (ms : List Lemma) (log : follows (formula u req) ms ≡ true) (t : Choice) (v : ℕ → Bool) (part : IsCandidatePart u v t) (model : Models v (formula u req)) where
  -- the choice has what the places say before the one of a number
  abbrev AgreesTo : ℕ → List Place → ℕ → Type 0
  AgreesTo n ps m = (j : ℕ) (p : Place) → slice_get ps j ≡ Some p → n + j < m → pick t p.interface ≡ p.pick

  abbrev the_lit : Asked → Lit
  the_lit a = record { variable = a.candidate; positive = true }

  abbrev IsTrueOf : ℕ → List Lit → List Place → Asked → Type 0
  IsTrueOf n before ps a = (n ≤ a.place) × (MakesTrue v before → AgreesTo n ps a.place → lit_true v (the_lit a) ≡ true → MakesTrue v a.assumed)

  asked_true : (n : ℕ) (before : List Lit) (ps : List Place) → Every (IsTrueOf n before ps) (asked_from u n before ps)
  asked_true n before [] = tt
  asked_true n before (p ∷ ps) =
      both (IsTrueOf n before (p ∷ ps)) (each 0 (asked_one u n before p) (candidates_of u p.interface)) (asked_from u (suc n) (before ++ said_at u p.interface p.pick) ps)
      (every_each (IsTrueOf n before (p ∷ ps)) 0 (asked_one u n before p) (candidates_of u p.interface) (λ c k. here c k))
      (every_on (IsTrueOf (suc n) (before ++ said_at u p.interface p.pick) ps) (IsTrueOf n before (p ∷ ps)) (asked_from u (suc n) (before ++ said_at u p.interface p.pick) ps) later (asked_true (suc n) (before ++ said_at u p.interface p.pick) ps))
    where
      here : (c : ℕ) (k : Candidate) → Every (IsTrueOf n before (p ∷ ps)) (asked_one u n before p c k)
      here c k =
          every_keep (IsTrueOf n before (p ∷ ps)) (is_passed p.pick c) (record { place = n; candidate = var_number u (Cand p.interface c); assumed = before ++ is_so u p.interface c ∷ [] })
          (omega arith, λ m g l. makes_both v before (is_so u p.interface c ∷ []) m (l, tt))

      later : (a : Asked) → IsTrueOf (suc n) (before ++ said_at u p.interface p.pick) ps a → IsTrueOf n before (p ∷ ps) a
      later a h =
          let low : suc n ≤ a.place = h.0 in
          let at : n + 0 < a.place = omega (arith, low) in (
            omega (arith, low),
            λ m g l. h.1
                (makes_both v before (said_at u p.interface p.pick) m (said_true u req ms log t v part model p.interface p.pick (g 0 p refl at)))
                (λ j q e lt. g (suc j) q e (omega (arith, lt))) l,
          )

  no_block : (ps : List Place) (bs : List Block) (n : ℕ) (b : Block) (i c : ℕ) → AreBlocks (formula u req) ms (asked_from u 1 [] ps) bs → slice_get bs n ≡ Some b → AgreesTo 1 ps b.place → b.candidate ≡ var_number u (Cand i c) → pick t i ≡ Some c → ⊥
  no_block ps bs n b i c h e g k p =
      let r = block_is (formula u req) ms (IsTrueOf 1 [] ps) (asked_from u 1 [] ps) bs n b (asked_true 1 [] ps) h e in
      let l : v r.asked.candidate ≡ true = subst (λ x. v x ≡ true) (sym k ∙ r.candidate) (part.are_true i c p) in
      blocks_exclude (formula u req) ms r.asked.assumed b.hints v log r.right model (r.is.1 tt (subst (AgreesTo 1 ps) r.place g) l)

-- The places before a stop.
or_left : (b c : Bool) → b ≡ true → (b || c) ≡ true
or_left true c e = refl
or_left false c e = absurd (false≢true e)

or_right : (b c : Bool) → c ≡ true → (b || c) ≡ true
or_right true c e = refl
or_right false c e = e

pub record IsBefore (s : Choice) (xs : List Stop) (q : Place) : Type 0 where
  pub came : came_to xs q.interface ≡ true
  pub is : pick s q.interface ≡ q.pick

place_before : (s : Choice) (xs : List Stop) (n j : ℕ) (q : Place) → slice_get (places_of s xs) j ≡ Some q → j < length (places_of s (take n xs)) → IsBefore s (take n xs) q
place_before s xs zero j q e lt = absurd (omega (arith, lt))
place_before s [] (suc n) j q e lt = absurd (none_some e)
place_before s (Came i ∷ xs) (suc n) zero q e lt =
    subst (IsBefore s (Came i ∷ take n xs)) (same_Some _ _ e) (record { came = or_left (i == i) (came_to (take n xs) i) (eq-eqb i i refl); is = refl })
place_before s (Came i ∷ xs) (suc n) (suc j) q e lt =
    let r = place_before s xs n j q e (omega (arith, lt)) in
    record { came = or_right (i == q.interface) (came_to (take n xs) q.interface) r.came; is = r.is }
place_before s (Needed i name ∷ xs) (suc n) j q e lt = let r = place_before s xs n j q e lt in record { came = r.came; is = r.is }

pub place_more : (s : Choice) (xs : List Stop) (n i : ℕ) → slice_get xs n ≡ Some (Came i) → length (places_of s (take (suc n) xs)) ≡ suc (length (places_of s (take n xs)))
place_more s [] n i e = absurd (none_some e)
place_more s (x ∷ xs) zero i e = subst (λ y. length (places_of s (y ∷ [])) ≡ 1) (sym (same_Some _ _ e)) refl
place_more s (Came j ∷ xs) (suc n) i e = ap (λ m. suc m) (place_more s xs n i e)
place_more s (Needed j name ∷ xs) (suc n) i e = place_more s xs n i e

pub blocks_true : BlocksAreTrue
blocks_true u req s t c p n b h e is valid agree picked =
    let m = ((valid_is_model u req t).0 valid).0 in
    let mine : h.walk ≡ walk_of_stops s p.stops = walk_one u req s h.walk (walk_of_stops s p.stops) h.walks (stops_walk u req s p.stops p.are) in
    let here : b.place ≡ suc (length (places_of s (take p.at p.stops))) = is.place ∙ place_more s p.stops p.at p.interface p.here in
    no_block u req c.proof.lemmas h.follow t m.0 m.1 m.2 (places_of s p.stops) c.blocks n b p.interface p.number
    (subst (λ (w : Walk). AreBlocks (formula u req) c.proof.lemmas (asked_from u 1 [] w.places) c.blocks) mine h.blocks)
    e
    (λ j q at lt. let r = place_before s p.stops p.at j q at (omega (arith, lt, here)) in sym (agree q.interface r.came) ∙ r.is)
    is.candidate picked
