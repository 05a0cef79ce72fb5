-- Where the root's candidates ask for nothing, its first one alone is the best choice.
use Rattle.std.proofs.Common.{◌≡◌, ◌≢◌, ℕ, zero, suc, ◌<◌, List, [], ◌∷◌, length, map, refl, sym, subst, ap, ◌∙◌, arith, Option, Some, None}
use Rattle.std.specs.Prelude.{slice_get, All, Contains, IsSome, IfSome, IsSomeAnd, option_and_then, ◌↔◌}
use Rattle.std.proofs.lemmas.List.{length-map}
use Rattle.std.proofs.lemmas.Bool.{false≢true}
use Rattle.std.proofs.lemmas.Option.{same_Some}
use Rattle.zi_policy.specs.declared.types.Width.{Width}
use Rattle.zi_policy.specs.declared.types.Width.TheVariants.{Bits32, Bits64}
use Rattle.zi_universe.specs.declared.types.Requirement.{Requirement}
use Rattle.zi_universe.specs.declared.types.Candidate.{Candidate}
use Rattle.zi_universe.specs.declared.types.Interface.{Interface}
use Rattle.zi_choice.specs.Choice.{Choice, Fits, pick, candidate_at, chosen, deps_of, first_alone}
use Rattle.zi_choice.specs.Walk.{Place, Walk, Walks, Follows, comes, ends, no_more, NeedsEach, wanted}
use Rattle.zi_choice.specs.Valid.{IsValid, AreMet, IsChosenOn, Has, group}
use Rattle.zi_choice.specs.Best.{IsBetter, RanksEarlier}
use Rattle.zi_choice.specs.Laws.{FirstAloneIsBest, NoRootNoChoice}
use Rattle.zi_choice.proofs.ChoiceLaws.{same_list}
use Rattle.zi_choice.proofs.WalkLaws.{not_both, one_value, walk_one}
use Rattle.zi_feed.specs.IdLaws.{none_some}

-- No candidate here has a dependency of its own.
abbrev AskNothing : List Candidate → Type 0
AskNothing ks = (c : ℕ) (k : Candidate) → slice_get ks c ≡ Some k → k.imp.deps ≡ []

asks_nothing : (ks : List Candidate) → All (λ k. k.imp.deps ≡ []) ks → AskNothing ks
asks_nothing [] all c k e = absurd (none_some e)
asks_nothing (x ∷ ks) all zero k e = subst (λ (y : Candidate). y.imp.deps ≡ []) (same_Some _ _ e) (all 0 x (omega arith))
asks_nothing (x ∷ ks) all (suc c) k e = asks_nothing ks (λ n d lt. all (suc n) d (omega arith)) c k e

of_candidate : (ks : List Candidate) → AskNothing ks → (o : Option Candidate) (c : ℕ) → slice_get ks c ≡ o → deps_of o ≡ []
of_candidate ks none None c e = refl
of_candidate ks none (Some k) c e = none c k e

-- what the root's candidate asks for, whichever it is
root_asks : (ks : List Candidate) (p : Option ℕ) → AskNothing ks → deps_of (option_and_then (λ c. slice_get ks c) p) ≡ []
root_asks ks None none = refl
root_asks ks (Some c) none = of_candidate ks none (slice_get ks c) c refl

-- the walk that ends at the root
abbrev at_root : Choice → Walk
at_root t = record { places = record { interface = 0; pick = pick t 0 } ∷ []; used = [] }

walks_at_root : (x : Interface) (xs : List Interface) (req : Requirement) (t : Choice) → AskNothing x.candidates → req.command ≡ None → Walks (x ∷ xs) req t (at_root t)
walks_at_root x xs req t none plain =
    let here : deps_of (chosen (x ∷ xs) t 0) ≡ [] = root_asks x.candidates (pick t 0) none in
    let stays : Follows (x ∷ xs) t [] (at_root t) (at_root t) = ends in
    let no_need : NeedsEach (x ∷ xs) t 0 [] (at_root t) (at_root t) = no_more in
    record {
      from_root = at_root t;
      visits = comes refl (subst (λ ds. Follows (x ∷ xs) t ds (at_root t) (at_root t)) (sym here) stays);
      needs = subst (λ o. NeedsEach (x ∷ xs) t 0 (wanted o) (at_root t) (at_root t)) (sym plain) no_need;
    }

-- Past the root the first alone has none.
none_past : (xs : List Interface) (j : ℕ) → pick (map (λ _. None) xs) j ≡ None
none_past [] j = refl
none_past (x ∷ xs) zero = refl
none_past (x ∷ xs) (suc j) = none_past xs j

none_met : (u : List Interface) (s : Choice) → AreMet u s []
none_met u s k d lt = absurd (omega (arith, lt))

-- the one place at the root is that of no other interface
only_root : (p : Option ℕ) (j c : ℕ) → Contains {X = Place} (record { interface = 0; pick = p } ∷ []) (record { interface = suc j; pick = Some c }) → ⊥
only_root p j c (zero, lt, e) = omega (arith, ap (λ (q : Place). q.interface) e)
only_root p j c (suc k, lt, e) = omega (arith, lt)

nothing_there : {A : Type 0} {G : Type 0} {o : Option A} → o ≡ None → IsSome o → G
nothing_there {o = o} e h = absurd (false≢true (subst (λ p. IsSome p) e h))

-- no candidate is of both bit groups
one_width : (w : Width) → w ≡ Bits32 → w ≡ Bits64 → ⊥
one_width w e f = cc

module _ (x : Interface) (xs : List Interface) (req : Requirement) (k : Candidate) (first : slice_get x.candidates 0 ≡ Some k) (none : AskNothing x.candidates) (plain : req.command ≡ None) where
  abbrev u : List Interface
  u = x ∷ xs

  abbrev s : Choice
  s = first_alone (x ∷ xs)

  chosen_past : (j : ℕ) → chosen u s (suc j) ≡ None
  chosen_past j = ap (λ p. option_and_then (λ c. candidate_at u (suc j) c) p) (none_past xs j)

  are_candidates : (i c : ℕ) → pick s i ≡ Some c → IsSome (candidate_at u i c)
  are_candidates zero c e = subst (λ n. IsSome (candidate_at u 0 n)) (same_Some _ _ e) (subst (λ o. IsSome o) (sym first) refl)
  are_candidates (suc j) c e = not_both (none_past xs j) e

  fits : Fits u s
  fits = record { each = ap suc (length-map xs (λ _. None)); there = are_candidates }

  root_is : IsSomeAnd (chosen u s 0) (λ c. IfSome req.command (λ name. Has c name))
  root_is = subst (λ o. IsSomeAnd o (λ c. IfSome req.command (λ name. Has c name))) (sym first) (subst (λ o. IfSome o (λ name. Has k name)) (sym plain) tt)

  deps_met : (i : ℕ) → IfSome (chosen u s i) (λ c. AreMet u s c.imp.deps)
  deps_met zero = subst (λ o. IfSome o (λ c. AreMet u s c.imp.deps)) (sym first) (subst (λ ds. AreMet u s ds) (sym (none 0 k first)) (none_met u s))
  deps_met (suc j) = subst (λ o. IfSome o (λ c. AreMet u s c.imp.deps)) (sym (chosen_past j)) tt

  same_group : (i j : ℕ) (c d : Candidate) → chosen u s i ≡ Some c → chosen u s j ≡ Some d → group c ≡ Bits32 → ¬ (group d ≡ Bits64)
  same_group zero zero c d e f g h = one_width (group c) g (subst (λ (y : Candidate). group y ≡ Bits64) (one_value e f) h)
  same_group zero (suc j) c d e f g h = not_both (chosen_past j) f
  same_group (suc i) j c d e f g h = not_both (chosen_past i) e

  only_it : (i : ℕ) → IsSome (pick s i) ↔ IsChosenOn (at_root s).places i
  only_it zero = ((λ h. (0, (0, (omega arith), refl))), (λ h. refl))
  only_it (suc j) = ((λ h. nothing_there (none_past xs j) h), (λ h. absurd (only_root (Some 0) j h.0 h.1)))

  valid : IsValid u req s
  valid = record {
    fits = fits;
    root = root_is;
    met = deps_met;
    walk = at_root s;
    walks = walks_at_root x xs req s none plain;
    used_met = λ n d lt. absurd (omega (arith, lt));
    one_group = same_group;
    exactly = only_it;
  }

  -- Any other valid choice has none past the root, too, and so a later candidate there.
  past : (t : Choice) → IsValid u req t → (j : ℕ) → pick t (suc j) ≡ None
  past t v j = at (pick t (suc j)) refl
    where
      at : (p : Option ℕ) → pick t (suc j) ≡ p → p ≡ None
      at None e = refl
      at (Some c) e =
          let on : IsChosenOn v.walk.places (suc j) = (v.exactly (suc j)).0 (subst (λ o. IsSome o) (sym e) refl) in
          let same : v.walk ≡ at_root t = walk_one u req t v.walk (at_root t) v.walks (walks_at_root x xs req t none plain) in
          absurd (only_root (pick t 0) j on.0 (subst (λ (w : Walk). Contains {X = Place} w.places (record { interface = suc j; pick = Some on.0 })) same on.1))

module _ (x : Interface) (xs : List Interface) (req : Requirement) (k : Candidate) (first : slice_get x.candidates 0 ≡ Some k) (none : AskNothing x.candidates) (plain : req.command ≡ None) (t : Choice) (v : IsValid (x ∷ xs) req t) (apart : t ≢ first_alone (x ∷ xs)) where
  picks : (p : Option ℕ) → pick t 0 ≡ p → p ≡ Some 0 → (i : ℕ) → pick t i ≡ pick (first_alone (x ∷ xs)) i
  picks p e f zero = e ∙ f
  picks p e f (suc j) = past x xs req k first none plain t v j ∙ sym (none_past xs j)

  same : (p : Option ℕ) → pick t 0 ≡ p → p ≡ Some 0 → ⊥
  same p e f = apart (same_list t (first_alone (x ∷ xs)) (v.fits.each ∙ sym (fits x xs req k first none plain).each) (picks p e f))

  better : (p : Option ℕ) → pick t 0 ≡ p → IsBetter (Some 0) p
  better None e = tt
  better (Some zero) e = absurd (same (Some 0) e refl)
  better (Some (suc c)) e = omega arith

  earlier : RanksEarlier (x ∷ xs) req (first_alone (x ∷ xs)) t
  earlier = record {
    walk = at_root (first_alone (x ∷ xs));
    other = at_root t;
    walks = walks_at_root x xs req (first_alone (x ∷ xs)) none plain;
    other_walks = walks_at_root x xs req t none plain;
    before = record { common = []; interface = 0; here = Some 0; there = pick t 0; rest = []; other_rest = []; is = refl; other_is = refl; better = better (pick t 0) refl };
  }

-- a list that isn't empty has a first item
has_first : (ks : List Candidate) → 0 < length ks → (k : Candidate) × (slice_get ks 0 ≡ Some k)
has_first [] lt = absurd (omega (arith, lt))
has_first (k ∷ ks) lt = (k, refl)

pub first_alone_best : FirstAloneIsBest
first_alone_best [] req root e plain all lt = absurd (none_some e)
first_alone_best (x ∷ xs) req root e plain all lt =
    let here : x ≡ root = same_Some _ _ e in
    let none : AskNothing x.candidates = asks_nothing x.candidates (subst (λ (r : Interface). All (λ c. c.imp.deps ≡ []) r.candidates) (sym here) all) in
    let one = has_first x.candidates (subst (λ (r : Interface). 0 < length r.candidates) (sym here) lt) in
    record {
      valid = valid x xs req one.0 one.1 none plain;
      earlier = λ t v apart. earlier x xs req one.0 one.1 none plain t v apart;
    }

no_candidate : (ks : List Candidate) (p : Option ℕ) (Q : Candidate → Type 0) → length ks ≡ 0 → IsSomeAnd (option_and_then (λ c. slice_get ks c) p) Q → ⊥
no_candidate ks None Q e h = h
no_candidate [] (Some c) Q e h = h
no_candidate (k ∷ ks) (Some c) Q e h = omega (arith, e)

pub no_root_no_choice : NoRootNoChoice
no_root_no_choice [] req root s e empty v = none_some e
no_root_no_choice (x ∷ xs) req root s e empty v =
    no_candidate x.candidates (pick s 0) (λ c. IfSome req.command (λ name. Has c name)) (subst (λ (r : Interface). length r.candidates ≡ 0) (sym (same_Some _ _ e)) empty) v.root
