-- The first line in which two texts differ, byte by byte.
use Rattle.std.proofs.Common.{◌≡◌, ◌≢◌, ℕ, zero, suc, ◌+◌, ◌-◌, ◌<◌, ◌≤◌, Bool, true, false, List, [], ◌∷◌, Some, refl, sym, ◌∙◌, ap, subst, nat_eq, if◌then◌else◌, slice_get, arith, rules, length, drop, get_or, min, nat_lt, ◌⊎◌, inl, inr}
use Rattle.std.proofs.Math.Seq.{drop-cons}
use Rattle.std.proofs.Math.ListN.{drop_of_length-le}
use Rattle.zi_store.specs.Lines.{in_front, lines_of, DifferFirstIn}

-- the first line begins with the first byte
front : (c : ℕ) (ls : List (List ℕ)) → (l : List ℕ) × (ms : List (List ℕ)) × (in_front c ls ≡ (c ∷ l) ∷ ms)
front c [] = ([], [], refl)
front c (l ∷ ls) = (l, ls, refl)

first_line : (c : ℕ) (cs : List ℕ) → (l : List ℕ) × (ms : List (List ℕ)) × (lines_of (c ∷ cs) ≡ (c ∷ l) ∷ ms)
first_line c cs = elim (nat_eq c 10) as (λ b. (l : List ℕ) × (ms : List (List ℕ)) × ((if b then (c ∷ []) ∷ lines_of cs else in_front c (lines_of cs)) ≡ (c ∷ l) ∷ ms)) [
  | true ↦ ([], lines_of cs, refl)
  | false ↦ front c (lines_of cs)
]

heads : (x y : ℕ) (l m : List ℕ) → Some (x ∷ l) ≡ Some (y ∷ m) → x ≡ y
heads x y l m e = cc e

none_before : {P : Type 0} (j : ℕ) → j < 0 → P
none_before j h = absurd (omega (arith, h))

-- other first bytes
pub differ_now : (x y : ℕ) (a b : List ℕ) → x ≢ y → DifferFirstIn (x ∷ a) (y ∷ b) 0
differ_now x y a b ne = record {
  here = λ h. let p = first_line x a in let q = first_line y b in
      ne (heads x y p.0 q.0 (sym (ap (λ ls. slice_get ls 0) p.2) ∙ h ∙ ap (λ ls. slice_get ls 0) q.2));
  before = λ j h. none_before j h;
}

-- one of them is at its end
pub differ_end : (y : ℕ) (b : List ℕ) → DifferFirstIn [] (y ∷ b) 0
differ_end y b = record {
  here = λ h. let q = first_line y b in let e = h ∙ ap (λ ls. slice_get ls 0) q.2 in absurd (cc e);
  before = λ j h. none_before j h;
}

pub differ_rest : (x : ℕ) (a : List ℕ) → DifferFirstIn (x ∷ a) [] 0
differ_rest x a = record {
  here = λ h. let p = first_line x a in let e = sym (ap (λ ls. slice_get ls 0) p.2) ∙ h in absurd (cc e);
  before = λ j h. none_before j h;
}

-- behind an LF it is a line later
pub after_newline : (a b : List ℕ) (k : ℕ) → DifferFirstIn a b k → DifferFirstIn (10 ∷ a) (10 ∷ b) (suc k)
after_newline a b k d = record { here = d.here; before = earlier }
  where
    earlier : (j : ℕ) → j < suc k → slice_get (lines_of (10 ∷ a)) j ≡ slice_get (lines_of (10 ∷ b)) j
    earlier zero h = refl
    earlier (suc j) h = d.before j (omega (arith, h))

-- behind any other byte it is the same line
later_lines : (c : ℕ) (ls : List (List ℕ)) (k : ℕ) → slice_get (in_front c ls) (suc k) ≡ slice_get ls (suc k)
later_lines c [] k = refl
later_lines c (l ∷ ls) k = refl

taken : (c : ℕ) (l m : List ℕ) → Some (c ∷ l) ≡ Some (c ∷ m) → Some l ≡ Some m
taken c l m e = cc e

empty_not : (c y : ℕ) (m : List ℕ) → Some (c ∷ []) ≡ Some (c ∷ y ∷ m) → ⊥
empty_not c y m e = absurd (cc e)

fronts : (c : ℕ) (a b : List ℕ) → slice_get (in_front c (lines_of a)) 0 ≡ slice_get (in_front c (lines_of b)) 0 → slice_get (lines_of a) 0 ≡ slice_get (lines_of b) 0
fronts c [] [] h = refl
fronts c [] (y ∷ b) h = let q = first_line y b in absurd (empty_not c y q.0 (h ∙ ap (λ ls. slice_get (in_front c ls) 0) q.2))
fronts c (x ∷ a) [] h = let p = first_line x a in absurd (empty_not c x p.0 (sym h ∙ ap (λ ls. slice_get (in_front c ls) 0) p.2))
fronts c (x ∷ a) (y ∷ b) h =
    let p = first_line x a in let q = first_line y b in
    ap (λ ls. slice_get ls 0) p.2
    ∙ taken c (x ∷ p.0) (y ∷ q.0) (sym (ap (λ ls. slice_get (in_front c ls) 0) p.2) ∙ h ∙ ap (λ ls. slice_get (in_front c ls) 0) q.2)
    ∙ sym (ap (λ ls. slice_get ls 0) q.2)

same_front : (c : ℕ) (ls ms : List (List ℕ)) → slice_get ls 0 ≡ slice_get ms 0 → slice_get (in_front c ls) 0 ≡ slice_get (in_front c ms) 0
same_front c [] [] h = refl
same_front c [] (m ∷ ms) h = absurd (cc h)
same_front c (l ∷ ls) [] h = absurd (cc h)
same_front c (l ∷ ls) (m ∷ ms) h = let e : l ≡ m = cc h in ap (λ x. Some (c ∷ x)) e

pub record DifferInFront (c : ℕ) (a b : List ℕ) (k : ℕ) : Type 0 where
  pub here : slice_get (in_front c (lines_of a)) k ≡ slice_get (in_front c (lines_of b)) k → ⊥
  pub before : (j : ℕ) → j < k → slice_get (in_front c (lines_of a)) j ≡ slice_get (in_front c (lines_of b)) j

in_front_too : (c : ℕ) (a b : List ℕ) (k : ℕ) → DifferFirstIn a b k → DifferInFront c a b k
in_front_too c a b zero d = record { here = λ h. d.here (fronts c a b h); before = λ j h. none_before j h }
in_front_too c a b (suc k) d = record { here = λ h. d.here (sym (later_lines c (lines_of a) k) ∙ h ∙ later_lines c (lines_of b) k); before = earlier }
  where
    earlier : (j : ℕ) → j < suc k → slice_get (in_front c (lines_of a)) j ≡ slice_get (in_front c (lines_of b)) j
    earlier zero h = same_front c (lines_of a) (lines_of b) (d.before 0 (omega arith))
    earlier (suc j) h = later_lines c (lines_of a) j ∙ d.before (suc j) h ∙ sym (later_lines c (lines_of b) j)

not_newline : (c : ℕ) (cs : List ℕ) → nat_eq c 10 ≡ false → lines_of (c ∷ cs) ≡ in_front c (lines_of cs)
not_newline c cs e = ap (λ b. if b then (c ∷ []) ∷ lines_of cs else in_front c (lines_of cs)) e

pub after_other : (c : ℕ) (a b : List ℕ) (k : ℕ) → nat_eq c 10 ≡ false → DifferFirstIn a b k → DifferFirstIn (c ∷ a) (c ∷ b) k
after_other c a b k e d =
    let f = in_front_too c a b k d in record {
      here = λ h. f.here (sym (ap (λ ls. slice_get ls k) (not_newline c a e)) ∙ h ∙ ap (λ ls. slice_get ls k) (not_newline c b e));
      before = λ j h. ap (λ ls. slice_get ls j) (not_newline c a e) ∙ f.before j h ∙ sym (ap (λ ls. slice_get ls j) (not_newline c b e));
    }

-- so far the texts are the same, and this is the line
pub record SameSoFar (a b : List ℕ) (i line : ℕ) : Type 0 where
  pub first : 1 ≤ line
  pub few : line ≤ i + 1
  pub later : (k : ℕ) → DifferFirstIn (drop i a) (drop i b) k → DifferFirstIn a b ((line - 1) + k)
  pub same : drop i a ≡ drop i b → a ≡ b

nothing_more : (line : ℕ) → 1 ≤ line → line ≡ ((line - 1) + 0) + 1
nothing_more line h = omega (arith, h)

pub found_line : (a b : List ℕ) (i line : ℕ) → SameSoFar a b i line → DifferFirstIn (drop i a) (drop i b) 0 → (k : ℕ) × (line ≡ k + 1) × DifferFirstIn a b k
found_line a b i line s d = ((line - 1) + 0, nothing_more line s.first, s.later 0 d)

pub differ_at : (a b : List ℕ) (i : ℕ) → i < length a → i < length b → get_or a i 0 ≢ get_or b i 0 → DifferFirstIn (drop i a) (drop i b) 0
differ_at a b i h k ne =
    subst (λ x. DifferFirstIn x (drop i b) 0) (sym (drop-cons a i 0 h)) (subst (λ y. DifferFirstIn (get_or a i 0 ∷ drop (suc i) a) y 0) (sym (drop-cons b i 0 k)) (differ_now (get_or a i 0) (get_or b i 0) (drop (suc i) a) (drop (suc i) b) ne))

pub so_far_start : (a b : List ℕ) → SameSoFar a b 0 1
so_far_start a b = record { first = omega arith; few = omega arith; later = λ k d. let e : k ≡ (1 - 1) + k = omega arith in subst (λ n. DifferFirstIn a b n) e d; same = λ e. e }

-- the same next byte
cons_both : (a b : List ℕ) (i c : ℕ) → i < length a → i < length b → get_or a i 0 ≡ c → get_or b i 0 ≡ c → (drop i a ≡ c ∷ drop (suc i) a) × (drop i b ≡ c ∷ drop (suc i) b)
cons_both a b i c h k e f = (drop-cons a i 0 h ∙ ap (λ x. x ∷ drop (suc i) a) e, drop-cons b i 0 k ∙ ap (λ x. x ∷ drop (suc i) b) f)

pub step_newline : (a b : List ℕ) (i line : ℕ) → SameSoFar a b i line → i < length a → i < length b → get_or a i 0 ≡ 10 → get_or b i 0 ≡ 10 → SameSoFar a b (suc i) (line + 1)
step_newline a b i line s h k e f =
    let p = cons_both a b i 10 h k e f in record {
      first = omega arith;
      few = omega (arith, s.few);
      later = λ m d.
          let moved = subst (λ x. DifferFirstIn x (drop i b) (suc m)) (sym p.0) (subst (λ y. DifferFirstIn (10 ∷ drop (suc i) a) y (suc m)) (sym p.1) (after_newline (drop (suc i) a) (drop (suc i) b) m d)) in
          let same_number : (line - 1) + suc m ≡ ((line + 1) - 1) + m = omega (arith, s.first) in
          subst (λ n. DifferFirstIn a b n) same_number (s.later (suc m) moved);
      same = λ g. s.same (p.0 ∙ ap (λ x. 10 ∷ x) g ∙ sym p.1);
    }

pub step_other : (a b : List ℕ) (i line c : ℕ) → SameSoFar a b i line → i < length a → i < length b → get_or a i 0 ≡ c → get_or b i 0 ≡ c → nat_eq c 10 ≡ false → SameSoFar a b (suc i) line
step_other a b i line c s h k e f o =
    let p = cons_both a b i c h k e f in record {
      first = s.first;
      few = omega (arith, s.few);
      later = λ m d.
          let moved = subst (λ x. DifferFirstIn x (drop i b) m) (sym p.0) (subst (λ y. DifferFirstIn (c ∷ drop (suc i) a) y m) (sym p.1) (after_other c (drop (suc i) a) (drop (suc i) b) m o d)) in
          s.later m moved;
      same = λ g. s.same (p.0 ∙ ap (λ x. c ∷ x) g ∙ sym p.1);
    }

-- one text is at its end
pub differ_shorter : (a b : List ℕ) (i : ℕ) → length a ≤ i → i < length b → DifferFirstIn (drop i a) (drop i b) 0
differ_shorter a b i h k = subst (λ x. DifferFirstIn x (drop i b) 0) (sym (drop_of_length-le a h)) (subst (λ y. DifferFirstIn [] y 0) (sym (drop-cons b i 0 k)) (differ_end (get_or b i 0) (drop (suc i) b)))

pub differ_longer : (a b : List ℕ) (i : ℕ) → i < length a → length b ≤ i → DifferFirstIn (drop i a) (drop i b) 0
differ_longer a b i h k = subst (λ x. DifferFirstIn x (drop i b) 0) (sym (drop-cons a i 0 h)) (subst (λ y. DifferFirstIn (get_or a i 0 ∷ drop (suc i) a) y 0) (sym (drop_of_length-le b k)) (differ_rest (get_or a i 0) (drop (suc i) a)))

pub both_ended : (a b : List ℕ) (i : ℕ) → length a ≤ i → length b ≤ i → drop i a ≡ drop i b
both_ended a b i h k = drop_of_length-le a h ∙ sym (drop_of_length-le b k)

-- both are read as far as the shorter one goes, and they aren't of one length
pub ended : (a b : List ℕ) (i : ℕ) → ((length a ≤ i) × (i < length b)) ⊎ ((i < length a) × (length b ≤ i)) → DifferFirstIn (drop i a) (drop i b) 0
ended a b i (inl p) = differ_shorter a b i p.0 p.1
ended a b i (inr p) = differ_longer a b i p.0 p.1

-- where the shorter one ends
pub one_ended : (a b i : ℕ) → i ≡ min a b → a ≢ b → ((a ≤ i) × (i < b)) ⊎ ((i < a) × (b ≤ i))
one_ended a b i e ne = by_order (nat_lt a b) refl
  where
    by_order : (t : Bool) → nat_lt a b ≡ t → ((a ≤ i) × (i < b)) ⊎ ((i < a) × (b ≤ i))
    by_order true h = let below : a < b = search (rules, h) in inl (omega (arith, below, e), omega (arith, below, e))
    by_order false h = let above : b ≤ a = search (rules, h) in inr (omega (arith, above, e, ne), omega (arith, above, e, ne))
