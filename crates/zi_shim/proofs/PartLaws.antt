-- Parts of words: which stands at the front of a text.
use Rattle.std.proofs.Common.{◌≡◌, ◌≢◌, ℕ, suc, ◌<◌, Bool, true, false, ◌||◌, nat_eq, List, [], ◌∷◌, ◌++◌, length, get_or, Option, Some, None, Bor, refl, sym, ap, ◌∙◌, append_assoc, arith, lit<, eq-eqb, codes}
use Rattle.std.specs.Prelude.{not, option_map}
use Rattle.std.proofs.lemmas.Str.Pattern.{IsSplitOnceResult, split_parts}
use Rattle.std.proofs.lemmas.Bool.{eqb-true, not-true, not_from_false, or_parts}
use Rattle.std.proofs.lemmas.List.{append_cancel_left}
use Rattle.zi_shim.specs.Shell.{Part, between_quotes, behind_backslash, has_quote, is_part, part_text}
use Rattle.zi_shim.specs.Steps.{HasNoPart, FindsPart}

-- texts that begin with two bytes
pub heads : (x y : ℕ) (xs ys : List ℕ) → nat_eq x y ≡ false → x ∷ xs ≡ y ∷ ys → ⊥
heads x y xs ys h e = let q : x ≡ y = cc e in cc (h, eq-eqb x y q)

-- a text without a quote ends at the first quote
pub one_cut : (a b r s : List ℕ) → has_quote a ≡ false → has_quote b ≡ false → a ++ 39 ∷ r ≡ b ++ 39 ∷ s → (a ≡ b) × (r ≡ s)
one_cut [] [] r s ha hb e = (refl, cc e)
one_cut [] (y ∷ b) r s ha hb e = absurd (let h : 39 ≡ y = cc e in cc (ap (λ c. nat_eq c 39) h, (or_parts (nat_eq y 39) (has_quote b) hb).0))
one_cut (x ∷ a) [] r s ha hb e = absurd (let h : x ≡ 39 = cc e in cc (ap (λ c. nat_eq c 39) h, (or_parts (nat_eq x 39) (has_quote a) ha).0))
one_cut (x ∷ a) (y ∷ b) r s ha hb e =
    let h : x ≡ y = cc e in
    let t : a ++ 39 ∷ r ≡ b ++ 39 ∷ s = cc e in
    let i = one_cut a b r s (or_parts (nat_eq x 39) (has_quote a) ha).1 (or_parts (nat_eq y 39) (has_quote b) hb).1 t in
    (cc (h, i.0), i.1)

-- the text of quoted characters, with a text behind it
pub quoted_front : (a r : List ℕ) → (39 ∷ a ++ 39 ∷ []) ++ r ≡ 39 ∷ (a ++ 39 ∷ r)
quoted_front a r = ap (λ t. 39 ∷ t) (append_assoc a (39 ∷ []) r)

-- one part stands at the front of a text
pub one_part : (p q : Part) (r s : List ℕ) → is_part p ≡ true → is_part q ≡ true → part_text p ++ r ≡ part_text q ++ s → (p ≡ q) × (r ≡ s)
one_part (between_quotes a) (between_quotes b) r s hp hq e =
    let t : 39 ∷ (a ++ 39 ∷ r) ≡ 39 ∷ (b ++ 39 ∷ s) = sym (quoted_front a r) ∙ e ∙ quoted_front b s in
    let i = one_cut a b r s (not-true (has_quote a) hp) (not-true (has_quote b) hq) (append_cancel_left (39 ∷ []) (a ++ 39 ∷ r) (b ++ 39 ∷ s) t) in
    (ap between_quotes i.0, i.1)
one_part (between_quotes a) behind_backslash r s hp hq e = absurd (heads 39 92 (a ++ 39 ∷ r) (39 ∷ s) refl (sym (quoted_front a r) ∙ e))
one_part behind_backslash (between_quotes b) r s hp hq e = absurd (heads 92 39 (39 ∷ r) (b ++ 39 ∷ s) refl (e ∙ quoted_front b s))
one_part behind_backslash behind_backslash r s hp hq e = (refl, append_cancel_left (codes "\\'") r s e)

-- a text has no quote where no place of it has one
free_of : (xs : List ℕ) → ((i : ℕ) → i < length xs → get_or xs i 0 ≢ 39) → has_quote xs ≡ false
free_of [] h = refl
free_of (x ∷ xs) h = elim (nat_eq x 39) as (λ b. nat_eq x 39 ≡ b → (b || has_quote xs) ≡ false) [
  | true ↦ λ e. absurd (h 0 (omega arith) (eqb-true x 39 e))
  | false ↦ λ e. free_of xs (λ i lt. h (suc i) (omega arith))
] refl

-- a text with a quote
has_one : (a r : List ℕ) → has_quote (a ++ 39 ∷ r) ≡ true
has_one [] r = refl
has_one (x ∷ a) r = elim (nat_eq x 39) as (λ b. (b || has_quote (a ++ 39 ∷ r)) ≡ true) [
  | true ↦ refl
  | false ↦ has_one a r
]

no_both : (b : Bool) → b ≡ false → b ≡ true → ⊥
no_both b h k = cc (h, k)

-- no part begins a text that doesn't go on so behind its quote
no_end : (text inside : List ℕ) → text ≡ 39 ∷ inside → has_quote inside ≡ false → HasNoPart text
no_end text inside e h (between_quotes a) rest hp q =
    let t : 39 ∷ inside ≡ 39 ∷ (a ++ 39 ∷ rest) = sym e ∙ q ∙ quoted_front a rest in
    let i : inside ≡ a ++ 39 ∷ rest = append_cancel_left (39 ∷ []) inside (a ++ 39 ∷ rest) t in
    no_both (has_quote inside) h (ap has_quote i ∙ has_one a rest)
no_end text inside e h behind_backslash rest hp q = heads 39 92 inside (39 ∷ rest) refl (sym e ∙ q)

-- what is cut at the quote that ends a part
pub quoted_part : (text inside : List ℕ) (r : Option (Bor (List ℕ) × Bor (List ℕ))) → text ≡ 39 ∷ inside → IsSplitOnceResult 39 inside r
    → FindsPart text (option_map (λ x. (x.0.now, x.1.now)) r)
quoted_part text inside None e h = no_end text inside e (free_of inside (split_parts 39 inside None h (lit< tt)))
quoted_part text inside (Some x) e h =
    let s = split_parts 39 inside (Some x) h (lit< tt) in
    record {
      part = between_quotes x.0.now;
      right = not_from_false (has_quote x.0.now) (free_of x.0.now s.1);
      text_is = e ∙ ap (λ t. 39 ∷ t) s.0 ∙ sym (quoted_front x.0.now x.1.now);
      value_is = refl;
    }

-- a text that begins with neither
pub no_part : (text : List ℕ) → ((rest : List ℕ) → text ≢ codes "\\'" ++ rest) → ((rest : List ℕ) → text ≢ 39 ∷ rest) → HasNoPart text
no_part text slash quote (between_quotes a) rest hp q = quote (a ++ 39 ∷ rest) (q ∙ quoted_front a rest)
no_part text slash quote behind_backslash rest hp q = slash rest q
