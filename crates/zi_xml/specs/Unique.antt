-- No input has two answers. This needs no machine.
use Rattle.std.proofs.Common.{◌≡◌, ℕ, suc, ◌<◌, ◌≤◌, List, [], ◌++◌, Some, take, drop, sym, ap, ◌∙◌, subst, append_assoc, arith, inl, inr}
use Rattle.std.proofs.lemmas.List.{take-append-drop, take-take}
use Rattle.std.proofs.lemmas.Bool.{cases_lt}
use Rattle.std.proofs.Math.Nat.{eq-or-lt_of_le}
use Rattle.zi_xml.specs.Places.{first}
use Rattle.zi_xml.specs.Places as places

-- Says w r: w is a right text and says r. found: the faults that r has, in the order of the bytes that show them.
module _ (R F : Type 0) (found : R → List F) (ends : F → ℕ) (Says : List ℕ → R → Type 0) where
  abbrev Begins : List ℕ → Type 0
  Begins = places.Begins R F found ends Says

  abbrev Shows : List ℕ → F → Type 0
  Shows = places.Shows R F found ends Says

  abbrev Stops : List ℕ → ℕ → Type 0
  Stops = places.Stops R F found ends Says

  some_inj : {A : Type 0} {x y : A} → Some x ≡ Some y → x ≡ y
  some_inj h = cc

  -- What a text says that begins as the input does, seen from a shorter front.
  shorter : (n m : ℕ) (w rest : List ℕ) (r : R) → n ≤ m → Says (take m w ++ rest) r → Says (take n w ++ (drop n (take m w) ++ rest)) r
  shorter n m w rest r le d =
      let split : take n (take m w) ++ drop n (take m w) ≡ take m w = take-append-drop n (take m w) in
      let same : take n (take m w) ≡ take n w = take-take n m w le in
      let whole : take m w ++ rest ≡ take n w ++ (drop n (take m w) ++ rest) =
      ap (λ v. v ++ rest) (sym split) ∙ (append_assoc (take n (take m w)) (drop n (take m w)) rest ∙ ap (λ v. v ++ (drop n (take m w) ++ rest)) same) in
      let P : List ℕ → Type 0 = λ v. Says v r in subst P whole d

  begins_less : (n m : ℕ) (w : List ℕ) → n ≤ m → Begins (take m w) → Begins (take n w)
  begins_less n m w le b = (drop n (take m w) ++ b.0, b.1, shorter n m w b.0 b.1 le b.2)

  pub spells_not_shows : (w : List ℕ) (r : R) (f : F) → Says w r → found r ≡ [] → Shows w f → ⊥
  spells_not_shows w r f s e x =
      let P : List ℕ → Type 0 = λ v. Says v r in
      let h : first (found r) ≡ Some f = x.first_is (drop (ends f) w) r (subst P (sym (take-append-drop (ends f) w)) s) in
      let z : first [] ≡ Some f = ap first (sym e) ∙ h in cc

  pub spells_not_stops : (w : List ℕ) (r : R) (k : ℕ) → Says w r → Stops w k → ⊥
  spells_not_stops w r k s x =
      elim (eq-or-lt_of_le x.within) [
        | inr lt ↦ let P : List ℕ → Type 0 = λ v. Says v r in x.stuck lt (drop (suc k) w, r, subst P (sym (take-append-drop (suc k) w)) s)
        | inl eq ↦ x.short eq r s
      ]

  shows_less : (w : List ℕ) (f g : F) → ends f ≤ ends g → Shows w f → Shows w g → f ≡ g
  shows_less w f g le x y =
      let b = y.begins in
      some_inj (sym (x.first_is _ b.1 (shorter (ends f) (ends g) w b.0 b.1 le b.2)) ∙ y.first_is b.0 b.1 b.2)

  pub one_shown : (w : List ℕ) (f g : F) → Shows w f → Shows w g → f ≡ g
  one_shown w f g x y = elim (cases_lt (ends f) (ends g)) [ inl lt ↦ shows_less w f g (omega arith) x y | inr le ↦ sym (shows_less w g f le y x) ]

  pub shows_not_stops : (w : List ℕ) (f : F) (k : ℕ) → Shows w f → Stops w k → ⊥
  shows_not_stops w f k x y =
      elim (cases_lt k (ends f)) [ inr le ↦ y.clean f le x | inl gt ↦ y.stuck (omega (arith, x.within)) (begins_less (suc k) (ends f) w (omega arith) x.begins) ]

  stops_least : (w : List ℕ) (j k : ℕ) → Stops w j → Stops w k → j < k → ⊥
  stops_least w j k x y lt = x.stuck (omega (arith, y.within)) (begins_less (suc j) k w (omega arith) y.begins)

  pub one_stop : (w : List ℕ) (j k : ℕ) → Stops w j → Stops w k → j ≡ k
  one_stop w j k x y =
      elim (cases_lt j k) [
        | inl lt ↦ absurd (stops_least w j k x y lt)
        | inr le ↦ elim (eq-or-lt_of_le le) [ inl eq ↦ sym eq | inr lt ↦ absurd (stops_least w k j y x lt) ]
      ]
