-- What is done one by one came to its end, or to the first that failed.
use Rattle.std.proofs.Common.{◌≡◌, ◌≢◌, ℕ, zero, suc, ◌⊎◌, inl, inr, Bool, true, false, List, [], ◌∷◌, take, map, slice_get, Some, Result, Ok, Err, All, sym, ap, subst, ◌∙◌}
use Rattle.std.proofs.lemmas.List.Elements.{All-head, All-tail}
use Rattle.std.proofs.lemmas.Option.{same_Some}
use Rattle.zi_digest.specs.declared.DigestName.{DigestName}
use Rattle.zi_digest.specs.Name.{spelling}
use Rattle.zi_tree.specs.Dir.{Dir}
use Rattle.zi_shelf.specs.Told.{Told}
use Rattle.zi_universe.specs.Naming.{with_one, joined}
use Rattle.zi_adding.specs.Trying.{Tried}
use Rattle.zi_fetching.specs.Known.{Names}
use Rattle.zi_fetching.specs.Fetching.{tried_names}
use Rattle.zi_outcome.specs.declared.outcome.Outcome.{Outcome}
use Rattle.zi_outcome.specs.declared.outcome.Outcome.TheVariants.{Done}
use Rattle.zi_due.specs.Due.{End, Comes}
use Rattle.zi_due.specs.Adding.{EndsTree}
use Rattle.zi_due.specs.Turns.{InTurn, Addition, AddsThen, AddsInTurn}

-- it can come to nothing but Done
abbrev pub IsWell : {X : Type 0} → (X → Outcome → Type 0) → X → Type 0
IsWell Is x = (o : Outcome) → Is x o → o ≡ Done

-- it can come to nothing but this
abbrev pub IsOnly : {X : Type 0} → (X → Outcome → Type 0) → X → Outcome → Type 0
IsOnly Is x outcome = ((o : Outcome) → Is x o → o ≡ outcome) × (outcome ≢ Done)

pub in_turn_all : {X : Type 0} (Is : X → Outcome → Type 0) (Then : End → Type 0) (xs : List X) (end : End) → All (IsWell Is) xs → InTurn Is xs Then end → Then end
in_turn_all Is Then [] end all t = t
in_turn_all Is Then (x ∷ xs) end all (inl (d, rest)) = in_turn_all Is Then xs end (All-tail (IsWell Is) x xs all) rest
in_turn_all Is Then (x ∷ xs) end all (inr (o, n, is, e)) = absurd (n (All-head (IsWell Is) x xs all o is))

pub in_turn_stops : {X : Type 0} (Is : X → Outcome → Type 0) (Then : End → Type 0) (xs : List X) (place : ℕ) (x : X) (outcome : Outcome) (end : End) → slice_get xs place ≡ Some x → All (IsWell Is) (take place xs)
    → IsOnly Is x outcome → InTurn Is xs Then end → end ≡ Comes outcome
in_turn_stops Is Then [] place x outcome end here all only t = absurd (cc here)
in_turn_stops Is Then (y ∷ ys) zero x outcome end here all only t =
    let same : y ≡ x = same_Some y x here in
    by (subst (λ z. (Is z Done × InTurn Is ys Then end) ⊎ ((o : Outcome) × (o ≢ Done) × Is z o × (end ≡ Comes o))) same t)
  where
    by : (Is x Done × InTurn Is ys Then end) ⊎ ((o : Outcome) × (o ≢ Done) × Is x o × (end ≡ Comes o)) → end ≡ Comes outcome
    by (inl (d, rest)) = absurd (only.1 (sym (only.0 Done d)))
    by (inr (o, n, is, e)) = e ∙ ap Comes (only.0 o is)
in_turn_stops Is Then (y ∷ ys) (suc place) x outcome end here all only (inl (d, rest)) =
    in_turn_stops Is Then ys place x outcome end here (All-tail (IsWell Is) y (take place ys) all) only rest
in_turn_stops Is Then (y ∷ ys) (suc place) x outcome end here all only (inr (o, n, is, e)) = absurd (n (All-head (IsWell Is) y (take place ys) all o is))

-- What was tried, as additions.

abbrev pub addition : DigestName → Dir → Addition
addition name tree = record { name = name; tree = tree }

abbrev pub of_tried : Tried → Addition
of_tried a = addition a.name a.tree

abbrev pub adds_of : List Tried → List Addition
adds_of tried = map of_tried tried

-- One by one: what is there was passed over; for each other what it gives was added, or its name was there.
abbrev pub Goes : {X : Type 0} → (Names → X → Bool) → (X → Result Addition Outcome → Type 0) → Names → List X → List Tried → Type 0
Goes there Gives stored [] tried = tried ≡ []
Goes there Gives stored (x ∷ xs) tried =
    ((there stored x ≡ true) × Goes there Gives stored xs tried)
    ⊎ ((there stored x ≡ false)
    × ((a : Tried) × (rest : List Tried) × (tried ≡ a ∷ rest) × Gives x (Ok (of_tried a)) × Goes there Gives (with_one stored (spelling a.name)) xs rest))

-- what is due of adding these to a store that told this
abbrev pub EndsTried : Told → Tried → Outcome → Type 0
EndsTried s a o = EndsTree a.name s a.tree o

abbrev pub EndsAddition : Told → Addition → Outcome → Type 0
EndsAddition s a o = EndsTree a.name s a.tree o

-- what it gives can't be had, or can't be added, to this outcome
abbrev pub FailsWith : Told → Result Addition Outcome → Outcome → Type 0
FailsWith s (Err why) outcome = why ≡ outcome
FailsWith s (Ok a) outcome = IsOnly (EndsAddition s) a outcome

not_both : (b : Bool) → b ≡ true → b ≡ false → ⊥
not_both b t f = absurd (cc (t, f))

module _ {X : Type 0} (there : Names → X → Bool) (Gives : X → Result Addition Outcome → Type 0) (one : (x : X) (r q : Result Addition Outcome) → Gives x r → Gives x q → r ≡ q) (s : Told) (ss : List Told) where
  abbrev Adds : Names → List X → (List Addition → End → Type 0) → End → Type 0
  Adds stored xs Then end = AddsInTurn there Gives (s ∷ ss) stored xs Then end

  -- one was added, so what is due is due behind it
  one_done : (a : Tried) (Then : Addition → End → Type 0) (end : End) → IsWell (EndsTried s) a → AddsThen (s ∷ ss) (Ok (of_tried a)) Then end → Then (of_tried a) end
  one_done a Then end well (inl (d, then)) = then
  one_done a Then end well (inr (o, n, is, e)) = absurd (n (well o is))

  -- all were
  pub goes_all : (xs : List X) (stored : Names) (tried : List Tried) (Then : List Addition → End → Type 0) (end : End) → Goes there Gives stored xs tried → All (IsWell (EndsTried s)) tried → Adds stored xs Then end
      → Then (adds_of tried) end
  goes_all [] stored tried Then end g well t = subst (λ ts. Then (adds_of ts) end) (sym g) t
  goes_all (x ∷ xs) stored tried Then end (inl (h, g)) well (inl (k, t)) = goes_all xs stored tried Then end g well t
  goes_all (x ∷ xs) stored tried Then end (inl (h, g)) well (inr (k, t)) = absurd (not_both (there stored x) h k)
  goes_all (x ∷ xs) stored tried Then end (inr (h, g)) well (inl (k, t)) = absurd (not_both (there stored x) k h)
  goes_all (x ∷ xs) stored tried Then end (inr (h, (a, rest, is, gives, g))) well (inr (k, (result, has, t))) =
      let Next : Addition → End → Type 0 = λ b e. AddsInTurn there Gives (s ∷ ss) (with_one stored (spelling b.name)) xs (λ added f. Then (b ∷ added) f) e in
      let wells : All (IsWell (EndsTried s)) (a ∷ rest) = subst (All (IsWell (EndsTried s))) is well in
      let t1 : AddsThen (s ∷ ss) (Ok (of_tried a)) Next end = subst (λ r. AddsThen (s ∷ ss) r Next end) (one x result (Ok (of_tried a)) has gives) t in
      let t2 : Next (of_tried a) end = one_done a Next end (All-head (IsWell (EndsTried s)) a rest wells) t1 in
      subst (λ ts. Then (adds_of ts) end) (sym is)
      (goes_all xs (with_one stored (spelling a.name)) rest (λ added f. Then (of_tried a ∷ added) f) end g (All-tail (IsWell (EndsTried s)) a rest wells) t2)

  -- it can't be had, or wasn't added
  one_fails : (result : Result Addition Outcome) (Then : Addition → End → Type 0) (outcome : Outcome) (end : End) → FailsWith s result outcome → AddsThen (s ∷ ss) result Then end → end ≡ Comes outcome
  one_fails (Err why) Then outcome end f t = t ∙ ap Comes f
  one_fails (Ok a) Then outcome end f (inl (d, then)) = absurd (f.1 (sym (f.0 Done d)))
  one_fails (Ok a) Then outcome end f (inr (o, n, is, e)) = e ∙ ap Comes (f.0 o is)

  -- the one at this place
  pub goes_stops : (xs : List X) (stored : Names) (place : ℕ) (x : X) (done : List Tried) (outcome : Outcome) (Then : List Addition → End → Type 0) (end : End) → slice_get xs place ≡ Some x
      → Goes there Gives stored (take place xs) done → there (joined stored (tried_names done)) x ≡ false → All (IsWell (EndsTried s)) done
      → ((result : Result Addition Outcome) → Gives x result → FailsWith s result outcome) → Adds stored xs Then end → end ≡ Comes outcome
  goes_stops [] stored place x done outcome Then end here g wanting well fails t = absurd (cc here)
  goes_stops (y ∷ ys) stored zero x done outcome Then end here g wanting well fails t =
      let same : y ≡ x = same_Some y x here in
      let w : there stored x ≡ false = subst (λ ts. there (joined stored (tried_names ts)) x ≡ false) g wanting in
      by y same w t
    where
      by : (z : X) → z ≡ x → there stored x ≡ false → AddsInTurn there Gives (s ∷ ss) stored (z ∷ ys) Then end → end ≡ Comes outcome
      by z e w (inl (k, t)) = absurd (not_both (there stored x) (subst (λ v. there stored v ≡ true) e k) w)
      by z e w (inr (k, (result, has, t))) = one_fails result _ outcome end (fails result (subst (λ v. Gives v result) e has)) t
  goes_stops (y ∷ ys) stored (suc place) x done outcome Then end here (inl (h, g)) wanting well fails (inl (k, t)) = goes_stops ys stored place x done outcome Then end here g wanting well fails t
  goes_stops (y ∷ ys) stored (suc place) x done outcome Then end here (inl (h, g)) wanting well fails (inr (k, t)) = absurd (not_both (there stored y) h k)
  goes_stops (y ∷ ys) stored (suc place) x done outcome Then end here (inr (h, g)) wanting well fails (inl (k, t)) = absurd (not_both (there stored y) k h)
  goes_stops (y ∷ ys) stored (suc place) x done outcome Then end here (inr (h, (a, rest, is, gives, g))) wanting well fails (inr (k, (result, has, t))) =
      let Next : Addition → End → Type 0 = λ b e. AddsInTurn there Gives (s ∷ ss) (with_one stored (spelling b.name)) ys (λ added f. Then (b ∷ added) f) e in
      let wells : All (IsWell (EndsTried s)) (a ∷ rest) = subst (All (IsWell (EndsTried s))) is well in
      let t1 : AddsThen (s ∷ ss) (Ok (of_tried a)) Next end = subst (λ r. AddsThen (s ∷ ss) r Next end) (one y result (Ok (of_tried a)) has gives) t in
      let t2 : Next (of_tried a) end = one_done a Next end (All-head (IsWell (EndsTried s)) a rest wells) t1 in
      let w : there (joined stored (tried_names (a ∷ rest))) x ≡ false = subst (λ ts. there (joined stored (tried_names ts)) x ≡ false) is wanting in
      goes_stops ys (with_one stored (spelling a.name)) place x rest outcome (λ added f. Then (of_tried a ∷ added) f) end here g w (All-tail (IsWell (EndsTried s)) a rest wells) fails t2
