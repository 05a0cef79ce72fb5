-- A reader that is a machine over characters stops, in bytes, where no right text goes on. Nothing here knows which texts are right.
use Rattle.std.proofs.Common.{◌≡◌, ℕ, suc, ◌+◌, ◌<◌, ◌≤◌, List, [], ◌∷◌, ◌++◌, Option, Some, None, Bool, true, false, ◌&&◌, length, take, drop, refl, sym, ap, ◌∙◌, subst, append_assoc, arith, ◌⊎◌, inl, inr}
use Rattle.std.proofs.lemmas.Str.{encodes-append, encodes_same, length-encode, len_utf8_bounds}
use Rattle.std.proofs.lemmas.List.{take-append-drop, length-take-le, length-append, append-nil}
use Rattle.std.proofs.Math.Seq.{take-append_seam}
use Rattle.std.proofs.Math.Utf8.{encode, encodes, scalar, scalars}
use Rattle.std.proofs.Math.Seq.{take-append-add, take-length}
use Rattle.std.proofs.lemmas.List.{take-append-le}
use Rattle.std.proofs.lemmas.Option.{same_Some}
use Rattle.std.proofs.lemmas.Bool.{and_parts}
use Rattle.zi_xml.specs.Lift.{front_of, BeginsChars, BeginsBytes, bytes_begin, bytes_begin_shared, SharesLess, bytes_stuck}
use Rattle.zi_xml.specs.Places.{first}
use Rattle.zi_xml.specs.Places as places
use Rattle.zi_xml.specs.Answers as machines
use Rattle.zi_text.proofs.ListLaws.{head_same}

none_before : {A : Type 0} (xs ys : List A) → xs ++ ys ≡ [] → xs ≡ []
none_before [] ys h = refl
none_before (x ∷ xs) ys h = cc

-- a character has a byte
some_byte : (c : ℕ) → 0 < length (encode c)
some_byte c = omega (arith, length-encode c, (len_utf8_bounds c).0)

-- of two fronts of one list the one of fewer bytes is a front of the other
shorter_front : (a p x y : List ℕ) → a ++ x ≡ p ++ y → length (encodes a) ≤ length (encodes p) → (q : List ℕ) × (p ≡ a ++ q)
shorter_front [] p x y h le = (p, refl)
shorter_front (c ∷ a) [] x y h le = absurd (omega (arith, length-append (encode c) (encodes a), some_byte c))
shorter_front (c ∷ a) (d ∷ p) x y h le =
    let k = head_same c d (a ++ x) (p ++ y) h in
    let same : length (encode c) ≡ length (encode d) = ap (λ v. length (encode v)) k.0 in
    let r = shorter_front a p x y k.1 (omega (arith, length-append (encode c) (encodes a), length-append (encode d) (encodes p), same)) in
    (r.0, ap (λ v. d ∷ v) r.1 ∙ ap (λ v. v ∷ (a ++ r.0)) (sym k.0))

-- a front that ends within a character ends before it
no_mid : (a z p w : List ℕ) (c j : ℕ) → a ++ z ≡ p ++ c ∷ w → length (encodes a) ≤ length (encodes p) + j → j < length (encode c) → length (encodes a) ≤ length (encodes p)
no_mid [] z p w c j h le lt = omega arith
no_mid (x ∷ a) z [] w c j h le lt =
    let k = head_same x c (a ++ z) w h in
    let same : length (encode x) ≡ length (encode c) = ap (λ v. length (encode v)) k.0 in
    absurd (omega (arith, length-append (encode x) (encodes a), same))
no_mid (x ∷ a) z (y ∷ p) w c j h le lt =
    let k = head_same x y (a ++ z) (p ++ c ∷ w) h in
    let same : length (encode x) ≡ length (encode y) = ap (λ v. length (encode v)) k.0 in
    let rest = no_mid a z p w c j k.1 (omega (arith, length-append (encode x) (encodes a), length-append (encode y) (encodes p), same)) lt in
    omega (arith, rest, length-append (encode x) (encodes a), length-append (encode y) (encodes p), same)

module _ (S R F : Type 0) (step : S → ℕ → Option S) (at_of : S → ℕ) (found_of : S → List F) (ends : F → ℕ) (done : R → S) (begun : S) (Says : List ℕ → R → Type 0) where
  abbrev pub then_run : Option S → (S → Option S) → Option S
  then_run None k = None
  then_run (Some s) k = k s

  abbrev pub run : S → List ℕ → Option S
  run s [] = Some s
  run s (c ∷ cs) = then_run (step s c) (λ t. run t cs)

  -- these bytes are the text, and it says this
  abbrev pub SaysBytes : List ℕ → R → Type 0
  SaysBytes = places.Says R Says

  abbrev found : R → List F
  found r = found_of (done r)

  abbrev pub Begins : List ℕ → Type 0
  Begins = places.Begins R F found ends SaysBytes

  abbrev pub Shows : List ℕ → F → Type 0
  Shows = places.Shows R F found ends SaysBytes

  -- a fault is shown at the end of a front that isn't empty, n bytes being before
  abbrev pub AtFront : ℕ → List ℕ → F → Type 0
  AtFront n w f = (a : List ℕ) × (b : List ℕ) × (w ≡ a ++ b) × (0 < length a) × (ends f ≡ n + length (encodes a))

  abbrev pub AtFronts : ℕ → List ℕ → List F → Type 0
  AtFronts n w [] = Unit {0}
  AtFronts n w (f ∷ fs) = AtFront n w f × AtFronts n w fs

  abbrev pub AreAt : ℕ → List F → Type 0
  AreAt n [] = Unit {0}
  AreAt n (f ∷ fs) = (ends f ≡ n) × AreAt n fs

  abbrev pub Grows : S → ℕ → S → Type 0
  Grows s c t = (at_of t ≡ at_of s + length (encode c)) × ((more : List F) × (found_of t ≡ found_of s ++ more) × AreAt (at_of t) more)

  abbrev pub Ran : S → List ℕ → S → Type 0
  Ran s w t = (at_of t ≡ at_of s + length (encodes w)) × ((more : List F) × (found_of t ≡ found_of s ++ more) × AtFronts (at_of s) w more)

  run_append : (s : S) (a b : List ℕ) → run s (a ++ b) ≡ then_run (run s a) (λ t. run t b)
  run_append s [] b = refl
  run_append s (c ∷ a) b =
      elim (step s c) as (λ r. then_run r (λ t. run t (a ++ b)) ≡ then_run (then_run r (λ t. run t a)) (λ t. run t b)) [ None ↦ refl | Some t ↦ run_append t a b ]

  split_run : (o : Option S) (q : List ℕ) (t : S) → then_run o (λ v. run v q) ≡ Some t → (s : S) × (o ≡ Some s) × (run s q ≡ Some t)
  split_run None q t h = cc
  split_run (Some s) q t h = (s, refl, h)

  cut : (x : S) (p q : List ℕ) (t : S) → run x (p ++ q) ≡ Some t → (s : S) × (run x p ≡ Some s) × (run s q ≡ Some t)
  cut x p q t h = split_run (run x p) q t (sym (run_append x p q) ∙ h)

  fronts_at : (n m c : ℕ) (w : List ℕ) (xs ys : List F) → m ≡ n + length (encode c) → AreAt m xs → AtFronts m w ys → AtFronts n (c ∷ w) (xs ++ ys)
  fronts_at n m c w [] [] e h k = tt
  fronts_at n m c w [] (y ∷ ys) e h k =
      ((c ∷ k.0.0, k.0.1, ap (λ v. c ∷ v) k.0.2, omega arith, omega (arith, k.0.4, e, length-append (encode c) (encodes k.0.0))), fronts_at n m c w [] ys e h k.1)
  fronts_at n m c w (x ∷ xs) ys e h k =
      ((c ∷ [], w, refl, omega arith, omega (arith, h.0, e, ap length (append-nil (encode c)))), fronts_at n m c w xs ys e h.1 k)

  module _ (grows : (s : S) (c : ℕ) (t : S) → step s c ≡ Some t → Grows s c t) where
    pub ran : (w : List ℕ) (s t : S) → run s w ≡ Some t → Ran s w t
    ran [] s t h = let P : S → Type 0 = λ v. Ran s [] v in subst P (same_Some _ _ h) (omega arith, ([], sym (append-nil (found_of s)), tt))
    ran (c ∷ w) s t h =
        let k = split_run (step s c) w t h in
        let g = grows s c k.0 k.1 in
        let x = ran w k.0 t k.2 in (
          omega (arith, x.0, g.0, length-append (encode c) (encodes w)),
          (g.1.0 ++ x.1.0, x.1.1 ∙ (ap (λ y. y ++ x.1.0) g.1.1 ∙ append_assoc (found_of s) g.1.0 x.1.0), fronts_at (at_of s) (at_of k.0) c w g.1.0 x.1.0 g.0 g.1.2 x.1.2),
        )

    first_front : (n : ℕ) (w : List ℕ) (xs : List F) (f : F) → AtFronts n w xs → first xs ≡ Some f → AtFront n w f
    first_front n w [] f h e = cc
    first_front n w (x ∷ xs) f h e = let P : F → Type 0 = λ y. AtFront n w y in subst P (same_Some _ _ e) h.0

    module _ (forward : (w : List ℕ) (r : R) → Says w r → run begun w ≡ Some (done r)) (at_begun : at_of begun ≡ 0) (none_begun : found_of begun ≡ []) where
      -- Where no fault was found so far, none is shown within what was read.
      pub none_shown : (p w : List ℕ) (s : S) → run begun p ≡ Some s → found_of s ≡ [] → (f : F)
          → ((a z : List ℕ) → a ++ z ≡ p ++ w → length (encodes a) ≡ ends f → length (encodes a) ≤ length (encodes p)) → Shows (encodes (p ++ w)) f → ⊥
      none_shown p w s h e f le x =
          let whole = encodes (p ++ w) in
          let b = x.begins in
          let says = b.2 in
          let fst = x.first_is b.0 b.1 says in
          let read = forward says.0 b.1 says.2 in
          let all = ran says.0 begun (done b.1) read in
          let m : found_of (done b.1) ≡ all.1.0 = all.1.1 ∙ ap (λ v. v ++ all.1.0) none_begun in
          let a = first_front (at_of begun) says.0 all.1.0 f all.1.2 (ap first (sym m) ∙ fst) in
          let n : ends f ≡ length (encodes a.0) = omega (arith, a.4, at_begun) in
          let len : length (take (ends f) whole) ≡ ends f = length-take-le (ends f) whole x.within in
          let joined : take (ends f) whole ++ b.0 ≡ encodes a.0 ++ encodes a.1 = says.1 ∙ (ap encodes a.2 ∙ encodes-append a.0 a.1) in
          let front : take (ends f) whole ≡ encodes a.0 =
          sym (take-append_seam (take (ends f) whole) b.0) ∙ (ap (take (length (take (ends f) whole))) joined
          ∙ (ap (λ k. take k (encodes a.0 ++ encodes a.1)) (len ∙ n) ∙ take-append_seam (encodes a.0) (encodes a.1))) in
          let z = front_of a.0 (p ++ w) (drop (ends f) whole) (sym (take-append-drop (ends f) whole) ∙ ap (λ v. v ++ drop (ends f) whole) front) in
          let q = shorter_front a.0 p z.0 w (sym z.1) (le a.0 z.0 (sym z.1) (sym n)) in
          let c = cut begun a.0 q.0 s (ap (run begun) (sym q.1) ∙ h) in
          let g = ran q.0 c.0 s c.2 in
          let clear : found_of c.0 ≡ [] = none_before (found_of c.0) g.1.0 (sym g.1.1 ∙ e) in
          let d = cut begun a.0 a.1 (done b.1) (ap (run begun) (sym a.2) ∙ read) in
          let same : d.0 ≡ c.0 = same_Some _ _ (sym d.1 ∙ c.1) in
          let y = ran a.1 d.0 (done b.1) d.2 in
          let rest : found_of (done b.1) ≡ y.1.0 = y.1.1 ∙ ap (λ v. v ++ y.1.0) (ap found_of same ∙ clear) in
          let l = first_front (at_of d.0) a.1 y.1.0 f y.1.2 (ap first (sym rest) ∙ fst) in
          let so_far = ran a.0 begun d.0 d.1 in
          late (ends f) (at_of d.0) (length (encodes l.0)) (at_of begun) (length (encodes a.0)) l.4 (grown l.0 l.3) so_far.0 at_begun n
        where
          late : (e m g m0 b : ℕ) → e ≡ m + g → 0 < g → m ≡ m0 + b → m0 ≡ 0 → e ≡ b → ⊥
          late e m g m0 b h1 h2 h3 h4 h5 = absurd (omega arith)

          grown : (cs : List ℕ) → 0 < length cs → 0 < length (encodes cs)
          grown [] h = absurd (omega arith)
          grown (c ∷ cs) h = omega (arith, length-append (encode c) (encodes cs), some_byte c)

      module _ (backward : (w : List ℕ) (r : R) → run begun w ≡ Some (done r) → Says w r) (out : (s : S) → (w : List ℕ) × (r : R) × (run s w ≡ Some (done r))) where
        -- Some text begins with the first k bytes, none goes on as the input does, and no fault is shown within them.
        abbrev pub Stops : List ℕ → ℕ → Type 0
        Stops = places.Stops R F found ends SaysBytes

        abbrev Text : List ℕ → Type 0
        Text cs = (r : R) × Says cs r

        pub begins_of : (p : List ℕ) (s : S) → run begun p ≡ Some s → BeginsChars Text p
        begins_of p s h =
            let x = out s in (x.0, (x.1, backward (p ++ x.0) x.1 (run_append begun p x.0 ∙ (ap (λ o. then_run o (λ t. run t x.0)) h ∙ x.2))))

        in_bytes : (b : List ℕ) → BeginsBytes Text b → Begins b
        in_bytes b x = (x.0, x.3.0, (x.1, sym x.2, x.3.1))

        from_bytes : (b : List ℕ) → Begins b → BeginsBytes Text b
        from_bytes b x = (x.0, x.2.0, sym x.2.1, (x.1, x.2.2))

        -- The first j bytes of c, and no more, are those of a character that may come in its place; none needs be where j is 0.
        abbrev pub Refuses : S → ℕ → ℕ → Type 0
        Refuses s c j =
            (j < length (encode c)) × (((j ≡ 0) ⊎ ((d : ℕ) × (t : S) × (step s d ≡ Some t) × (take j (encode d) ≡ take j (encode c))))
            × ((d : ℕ) (t : S) (x : List ℕ) → step s d ≡ Some t → take (suc j) (encode d ++ x) ≡ take (suc j) (encode c) → ⊥))

        front_bytes : (p w : List ℕ) (c j : ℕ) → j ≤ length (encode c) → take (length (encodes p) + j) (encodes (p ++ c ∷ w)) ≡ encodes p ++ take j (encode c)
        front_bytes p w c j le =
            ap (take (length (encodes p) + j)) (encodes-append p (c ∷ w)) ∙ (take-append-add (encodes p) (encode c ++ encodes w) j ∙ ap (λ v. encodes p ++ v) (take-append-le j (encode c) (encodes w) le))

        pub refused : (p w : List ℕ) (c j : ℕ) (s : S) → run begun p ≡ Some s → found_of s ≡ [] → Refuses s c j → Stops (encodes (p ++ c ∷ w)) (length (encodes p) + j)
        refused p w c j s h e x =
            let long : length (encodes (p ++ c ∷ w)) ≡ length (encodes p) + (length (encode c) + length (encodes w)) =
            ap length (encodes-append p (c ∷ w)) ∙ (length-append (encodes p) (encode c ++ encodes w) ∙ ap (λ v. length (encodes p) + v) (length-append (encode c) (encodes w))) in
            let lt : j < length (encode c) = x.0 in
            record {
              within = omega (arith, long, lt);
              begins = let P : List ℕ → Type 0 = λ v. Begins v in subst P (sym (front_bytes p w c j (omega arith))) (shares x.1.0);
              stuck = λ _ b.
                  let P : List ℕ → Type 0 = λ v. Begins v in
                  bytes_stuck Text p c j lt less (from_bytes _ (subst P (ap (λ n. take n (encodes (p ++ c ∷ w))) (next (length (encodes p)) j) ∙ front_bytes p w c (suc j) (omega arith)) b));
              short = λ eq r k. absurd (omega (arith, long, lt, eq));
              clean = λ f le y. none_shown p (c ∷ w) s h e f (λ a z k n. no_mid a z p w c j k (omega (arith, le, n)) lt) y;
            }
          where
            next : (a b : ℕ) → suc (a + b) ≡ a + suc b
            next a b = omega arith

            shares : ((j ≡ 0) ⊎ ((d : ℕ) × (t : S) × (step s d ≡ Some t) × (take j (encode d) ≡ take j (encode c)))) → Begins (encodes p ++ take j (encode c))
            shares (inl z) =
                let P : ℕ → Type 0 = λ n. Begins (encodes p ++ take n (encode c)) in
                subst P (sym z) (let Q : List ℕ → Type 0 = λ v. Begins v in subst Q (sym (append-nil (encodes p))) (in_bytes (encodes p) (bytes_begin Text p (begins_of p s h))))
            shares (inr (d, t, k, m)) =
                in_bytes _ (bytes_begin_shared Text p c d j (begins_of (p ++ d ∷ []) t (run_append begun p (d ∷ []) ∙ (ap (λ o. then_run o (λ v. run v (d ∷ []))) h ∙ ap (λ o. then_run o (λ v. Some v)) k))) m)

            less : SharesLess Text p c j
            less d y b m =
                let read = forward _ b.1.0 b.1.1 in
                let one = cut begun (p ++ d ∷ []) b.0 (done b.1.0) read in
                let two = cut begun p (d ∷ []) one.0 one.1 in
                let same : two.0 ≡ s = same_Some _ _ (sym two.1 ∙ h) in
                let took = split_run (step two.0 d) [] one.0 two.2 in
                let P : S → Type 0 = λ v. step v d ≡ Some took.0 in
                x.1.1 d took.0 y (subst P same took.1) m

        read_at : (p : List ℕ) (s : S) → run begun p ≡ Some s → at_of s ≡ length (encodes p)
        read_at p s h = omega (arith, (ran p begun s h).0, at_begun)

        -- where the input ends too early
        pub ends_early : (p : List ℕ) (s : S) → run begun p ≡ Some s → found_of s ≡ [] → ((r : R) → s ≡ done r → ⊥) → Stops (encodes p) (length (encodes p))
        ends_early p s h e ne = record {
          within = omega arith;
          begins = let P : List ℕ → Type 0 = λ v. Begins v in subst P (sym (take-length (encodes p))) (in_bytes (encodes p) (bytes_begin Text p (begins_of p s h)));
          stuck = λ lt _. absurd (omega arith);
          short = λ _ r k.
              let P : List ℕ → Type 0 = λ v. Says v r in
              ne r (same_Some _ _ (sym h ∙ forward p r (subst P (sym (encodes_same p k.0 k.1)) k.2)));
          clean = λ f le x.
              let P : List ℕ → Type 0 = λ v. Shows (encodes v) f in
              none_shown p [] s h e f (λ a z k n. omega (arith, le, n)) (subst P (sym (append-nil p)) x);
        }

        ends_at : (n : ℕ) (xs : List F) (f : F) (fs : List F) → xs ≡ f ∷ fs → AreAt n xs → ends f ≡ n
        ends_at n [] f fs e h = cc
        ends_at n (x ∷ xs) f fs e h = let P : F → Type 0 = λ v. ends v ≡ n in subst P (head_same x f xs fs e).0 h.0

        -- where a character shows a fault
        pub shown : (p w : List ℕ) (c : ℕ) (s t : S) (f : F) (fs : List F)
            → run begun p ≡ Some s → found_of s ≡ [] → step s c ≡ Some t → found_of t ≡ f ∷ fs → Shows (encodes (p ++ c ∷ w)) f
        shown p w c s t f fs h e k x =
            let there : run begun (p ++ c ∷ []) ≡ Some t = run_append begun p (c ∷ []) ∙ (ap (λ o. then_run o (λ v. run v (c ∷ []))) h ∙ ap (λ o. then_run o (λ v. Some v)) k) in
            let g = grows s c t k in
            let at_t : at_of t ≡ length (encodes (p ++ c ∷ [])) = read_at (p ++ c ∷ []) t there in
            let ends_is : ends f ≡ length (encodes (p ++ c ∷ [])) = ends_at (at_of t) g.1.0 f fs (sym (g.1.1 ∙ ap (λ v. v ++ g.1.0) e) ∙ x) g.1.2 ∙ at_t in
            let split : encodes (p ++ c ∷ w) ≡ encodes (p ++ c ∷ []) ++ encodes w = ap encodes (sym (append_assoc p (c ∷ []) w)) ∙ encodes-append (p ++ c ∷ []) w in
            let front : take (ends f) (encodes (p ++ c ∷ w)) ≡ encodes (p ++ c ∷ []) =
            ap (take (ends f)) split ∙ (ap (λ n. take n (encodes (p ++ c ∷ []) ++ encodes w)) ends_is ∙ take-append_seam (encodes (p ++ c ∷ [])) (encodes w)) in
            let P : List ℕ → Type 0 = λ v. Begins v in
            record {
              within = omega (arith, ends_is, ap length split, length-append (encodes (p ++ c ∷ [])) (encodes w));
              begins = subst P (sym front) (in_bytes (encodes (p ++ c ∷ [])) (bytes_begin Text (p ++ c ∷ []) (begins_of (p ++ c ∷ []) t there)));
              first_is = λ rest r d.
                  let z = front_of (p ++ c ∷ []) d.0 rest (sym d.1 ∙ ap (λ v. v ++ rest) front) in
                  let q = cut begun (p ++ c ∷ []) z.0 (done r) (ap (run begun) (sym z.1) ∙ forward d.0 r d.2) in
                  let same : q.0 ≡ t = same_Some _ _ (sym q.1 ∙ there) in
                  let y = ran z.0 q.0 (done r) q.2 in
                  ap first (y.1.1 ∙ ap (λ v. v ++ y.1.0) (ap found_of same ∙ x));
            }

        module _ (shared : S → ℕ → ℕ) (finish : S → Option R)
            (refuses : (s : S) (c : ℕ) → scalar c ≡ true → step s c ≡ None → Refuses s c (shared s c))
            (finish_some : (s : S) (r : R) → finish s ≡ Some r → s ≡ done r) (finish_none : (s : S) → finish s ≡ None → (r : R) → s ≡ done r → ⊥) where
          abbrev at_end : S → Option R → R ⊎ (F ⊎ ℕ)
          at_end = machines.at_end S R F step at_of found_of shared finish

          abbrev settle : List F → (R ⊎ (F ⊎ ℕ)) → R ⊎ (F ⊎ ℕ)
          settle = machines.settle S R F step at_of found_of shared finish

          abbrev next_answer : ℕ → Option S → (S → R ⊎ (F ⊎ ℕ)) → R ⊎ (F ⊎ ℕ)
          next_answer = machines.next_answer S R F step at_of found_of shared finish

          -- the answer of the reader to what is left
          abbrev pub answer : S → List ℕ → R ⊎ (F ⊎ ℕ)
          answer = machines.answer S R F step at_of found_of shared finish

          -- it says so without a fault, it shows this fault first, or it stops there
          abbrev pub Right : List ℕ → (R ⊎ (F ⊎ ℕ)) → Type 0
          Right cs (inl r) = Says cs r × (found_of (done r) ≡ [])
          Right cs (inr (inl f)) = Shows (encodes cs) f
          Right cs (inr (inr k)) = Stops (encodes cs) k

          found_cases : (xs : List F) → (xs ≡ []) ⊎ ((f : F) × (fs : List F) × (xs ≡ f ∷ fs))
          found_cases [] = inl refl
          found_cases (f ∷ fs) = inr (f, fs, refl)

          pub answer_right : (w p : List ℕ) (s : S) → scalars w ≡ true → run begun p ≡ Some s → found_of s ≡ [] → Right (p ++ w) (answer s w)
          answer_right [] p s u h e =
              let P : List ℕ → Type 0 = λ v. Right v (at_end s (finish s)) in
              let go : (finish s ≡ finish s) → Right p (at_end s (finish s)) =
              elim (finish s) as (λ o. (finish s ≡ o) → Right p (at_end s o)) [
                | None ↦ λ k. let Q : ℕ → Type 0 = λ n. Stops (encodes p) n in subst Q (sym (read_at p s h)) (ends_early p s h e (finish_none s k))
                | Some r ↦ λ k. let d = finish_some s r k in (backward p r (h ∙ ap (λ v. Some v) d), sym (ap found_of d) ∙ e)
              ] in
              subst P (sym (append-nil p)) (go refl)
          answer_right (c ∷ w) p s u h e =
              let go : (step s c ≡ step s c) → Right (p ++ c ∷ w) (next_answer (at_of s + shared s c) (step s c) (λ t. answer t w)) =
              elim (step s c) as (λ o. (step s c ≡ o) → Right (p ++ c ∷ w) (next_answer (at_of s + shared s c) o (λ t. answer t w))) [
                | None ↦ λ k.
                    let Q : ℕ → Type 0 = λ n. Stops (encodes (p ++ c ∷ w)) (n + shared s c) in
                    subst Q (sym (read_at p s h)) (refused p w c (shared s c) s h e (refuses s c (and_parts (scalar c) (scalars w) u).0 k))
                | Some t ↦ λ k.
                    elim (found_cases (found_of t)) [
                      | inl x ↦
                          let there : run begun (p ++ c ∷ []) ≡ Some t = run_append begun p (c ∷ []) ∙ (ap (λ o. then_run o (λ v. run v (c ∷ []))) h ∙ ap (λ o. then_run o (λ v. Some v)) k) in
                          let IH : Right ((p ++ c ∷ []) ++ w) (answer t w) = answer_right w (p ++ c ∷ []) t (and_parts (scalar c) (scalars w) u).1 there x in
                          let R1 : List F → Type 0 = λ y. Right (p ++ c ∷ w) (settle y (answer t w)) in
                          subst R1 (sym x) (let Q : List ℕ → Type 0 = λ v. Right v (answer t w) in subst Q (append_assoc p (c ∷ []) w) IH)
                      | inr x ↦
                          let R1 : List F → Type 0 = λ y. Right (p ++ c ∷ w) (settle y (answer t w)) in
                          subst R1 (sym x.2) (shown p w c s t x.0 x.1 h e k x.2)
                    ]
              ] in
              go refl

          -- The answer of the reader is right, in bytes.
          pub answered : (cs : List ℕ) → scalars cs ≡ true → Right cs (answer begun cs)
          answered cs u = answer_right cs [] begun u refl none_begun
