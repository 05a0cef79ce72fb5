-- Where words stop being right, and how that goes from the words behind some to all words.
use Rattle.std.proofs.Common.{◌≡◌, ℕ, zero, suc, ◌+◌, ◌-◌, ◌<◌, List, [], ◌∷◌, ◌++◌, length, take, refl, sym, ap, ◌∙◌, subst, append_assoc, arith}
use Rattle.std.proofs.lemmas.List.{length-append}
use Rattle.std.proofs.Math.Seq.{take-append-add, take-append_seam}
use Rattle.zi_text.specs.Front.{BeginsRight, StopsAt, stops_before, stops_at_end}
use Rattle.zi_words.specs.Forms.{Word}
use Rattle.zi_words.specs.Refused.{LeftAt}

-- R goes on behind p as S does
module _ (R S : List Word → Type 0) (p t : List Word) (down : (u : List Word) → R (p ++ u) → S u) (up : (u : List Word) → S u → R (p ++ u)) where
  front_of : (i : ℕ) → BeginsRight S (take i t) → BeginsRight R (take (length p + i) (p ++ t))
  front_of i (more, s) =
      (more, subst R (sym (ap (λ v. v ++ more) (take-append-add p t i) ∙ append_assoc p (take i t) more)) (up (take i t ++ more) s))

  back_of : (i : ℕ) → BeginsRight R (take (length p + i) (p ++ t)) → BeginsRight S (take i t)
  back_of i (more, r) =
      (more, down (take i t ++ more) (subst R (ap (λ v. v ++ more) (take-append-add p t i) ∙ append_assoc p (take i t) more) r))

  moved : (place : ℕ) → StopsAt S t place → StopsAt R (p ++ t) (length p + place)
  moved place s = record {
    within = omega (arith, length-append p t, s.within);
    front = front_of place s.front;
    longest = λ k low high begins.
        let i : ℕ = k - length p in
        let e : k ≡ length p + i = omega arith in
        let P : ℕ → Type 0 = λ n. BeginsRight R (take n (p ++ t)) in
        s.longest i (omega arith) (omega (arith, high, length-append p t)) (back_of i (subst P e begins));
  }

  -- what stops behind p
  pub behind : (n : ℕ) → LeftAt S t n → LeftAt R (p ++ t) n
  behind n l =
      let e : length p + (length t - n) ≡ length (p ++ t) - n = omega (arith, l.within, length-append p t) in
      let P : ℕ → Type 0 = λ place. StopsAt R (p ++ t) place in
      record {
        within = omega (arith, l.within, length-append p t);
        wrong = λ r. l.wrong (down t r);
        stops = subst P e (moved (length t - n) l.stops);
      }

-- R and S are one for words that begin with w
module _ (R S : List Word → Type 0) (w : Word) (t : List Word) (down : (u : List Word) → R (w ∷ u) → S (w ∷ u)) (up : (u : List Word) → S (w ∷ u) → R (w ∷ u)) (begun : BeginsRight R []) where
  front_too : (place : ℕ) → BeginsRight S (take place (w ∷ t)) → BeginsRight R (take place (w ∷ t))
  front_too zero begins = begun
  front_too (suc i) (more, s) = (more, up (take i t ++ more) s)

  longest_too : (k : ℕ) → 0 < k → BeginsRight R (take k (w ∷ t)) → BeginsRight S (take k (w ∷ t))
  longest_too zero lt begins = absurd (omega arith)
  longest_too (suc i) lt (more, r) = (more, down (take i t ++ more) r)

  pub alike : (n : ℕ) → LeftAt S (w ∷ t) n → LeftAt R (w ∷ t) n
  alike n l = record {
    within = l.within;
    wrong = λ r. l.wrong (down t r);
    stops = record {
      within = l.stops.within;
      front = front_too (length (w ∷ t) - n) l.stops.front;
      longest = λ k low high begins. l.stops.longest k low high (longest_too k (omega arith) begins);
    };
  }

-- the word w is wrong behind p
pub stuck : (R : List Word → Type 0) (p : List Word) (w : Word) (t : List Word) → BeginsRight R p → ¬ BeginsRight R (p ++ w ∷ [])
    → LeftAt R (p ++ w ∷ t) (length (w ∷ t))
stuck R p w t front dead =
    let P : List Word → Type 0 = λ v. BeginsRight R v in
    let Q : ℕ → Type 0 = λ place. StopsAt R (p ++ w ∷ t) place in
    let len : length (p ++ w ∷ t) ≡ length p + length (w ∷ t) = length-append p (w ∷ t) in
    let one : take (length p + 1) (p ++ w ∷ t) ≡ p ++ w ∷ [] = take-append-add p (w ∷ t) 1 in
    let place : length p ≡ length (p ++ w ∷ t) - length (w ∷ t) = omega arith in
    record {
      within = omega arith;
      wrong = λ r. dead (t, subst R (sym (append_assoc p (w ∷ []) t)) r);
      stops = subst Q place (stops_before R (p ++ w ∷ t) (length p) (below (length t) (length (p ++ w ∷ t)) (length p) len) (subst P (sym (take-append_seam p (w ∷ t))) front) (λ b. dead (subst P one b)));
    }
  where
    below : (n m k : ℕ) → m ≡ k + suc n → k < m
    below n m k e = omega arith

-- a word is missing behind p
pub short : (R : List Word → Type 0) (p : List Word) → BeginsRight R p → ¬ R p → LeftAt R p 0
short R p front wrong = record {
  within = omega arith;
  wrong = wrong;
  stops = let Q : ℕ → Type 0 = λ place. StopsAt R p place in
      let e : length p ≡ length p - 0 = omega arith in subst Q e (stops_at_end R p front);
}

-- the words behind the wrong one, or none where one is missing
abbrev pub stuck_with : List Word → List Word → List Word
stuck_with [] t = []
stuck_with (w ∷ back) t = w ∷ t

-- either of both
pub stopped : (R : List Word → Type 0) (p back : List Word) → BeginsRight R p → ((t : List Word) → ¬ R (p ++ stuck_with back t)) → LeftAt R (p ++ back) (length back)
stopped R p [] front dead =
    let P : List Word → Type 0 = λ v. LeftAt R v 0 in
    subst P (sym (append_none p)) (short R p front (λ r. dead [] (subst R (sym (append_none p)) r)))
  where
    append_none : (xs : List Word) → xs ++ [] ≡ xs
    append_none [] = refl
    append_none (x ∷ xs) = ap (λ v. x ∷ v) (append_none xs)
stopped R p (w ∷ back) front dead = stuck R p w back front (λ (more, r). dead more (subst R (append_assoc p (w ∷ []) more) r))
