-- How many bytes of a refused character may still stand where it stands.
use Rattle.std.proofs.Common.{◌≡◌, ℕ, suc, ◌<◌, ◌≤◌, ◌==◌, ◌&&◌, Bool, true, false, List, [], ◌∷◌, ◌++◌, Option, Some, None, cond, length, take, drop, refl, sym, ap, ◌∙◌, subst, arith, ◌⊎◌, inl, inr, lit<, lit≤, append-nil}
use Rattle.std.proofs.Math.Utf8.{encode, scalar}
use Rattle.std.proofs.lemmas.Str.{encode_same, encode_ascii, length-encode, len_utf8_bounds}
use Rattle.std.proofs.lemmas.List.{take-append-drop, take_all}
use Rattle.std.proofs.lemmas.Bool.Decides.{nat_tests}
use Rattle.std.proofs.lemmas.Bool.{cases_lt}
use Rattle.zi_xml.proofs.CharLemmas.{is_code, same_self}
use Rattle.zi_xml.specs.Machine.{common, kin}
use Rattle.std.specs.Prelude.{codes, not}
use Rattle.zi_xml.specs.Chars.{is_white, is_first, is_name, is_char, is_plain, is_quote, is_digit, is_hex, is_encoding_first, is_encoding, same_letters}
use Rattle.zi_xml.specs.Syntax.{is_said, Key, version_key, encoding_key, standalone_key}
use Rattle.zi_xml.specs.Meaning.{Level, encoding_kind, tick, blame_if, Tag, Frame}
use Rattle.zi_xml.specs.Machine.{Spot, before, among, Owner, Doing, begun, front, opened, banged, commenting, halting, asked, targeting, instructing, asking, wording, sectioning, bracketed, twice, declaring, heading, headed, numbering, numbered, coding, coded, replying, named, equalled, naming, spaced, attr_naming, valuing, valued, amped, referring, hashed, counting, hexed, hexing, inside, closing, State, state, go, initial, choose, worded, markup, bang_word, leave, leave_name, front_step}
use Rattle.zi_text.proofs.ListLaws.{tails}

-- what a state takes has this property
abbrev pub Only : Type 0 → Option State → Type 0
Only P None = Unit {0}
Only P (Some t) = P

abbrev pub Taken : Option State → Type 0
Taken None = ⊥
Taken (Some t) = Unit {0}

pick : (P : Type 0) (b : Bool) (x y : Option State) → (b ≡ true → Only P x) → Only P y → Only P (cond b x y)
pick P true x y f h = f refl
pick P false x y f h = h

only_is : (P : Type 0) (o : Option State) (t : State) → Only P o → o ≡ Some t → P
only_is P None t h e = cc
only_is P (Some u) t h e = h

taken_is : (o : Option State) → Taken o → (t : State) × (o ≡ Some t)
taken_is None h = absurd h
taken_is (Some t) h = (t, refl)

taken_not : (o : Option State) → Taken o → o ≡ None → ⊥
taken_not None h e = h
taken_not (Some t) h e = cc

-- ASCII characters
white_low : (c : ℕ) → is_white c ≡ true → c < 128
unfolding is_white
white_low c h = grind (arith, nat_tests)

code_low : (c k : ℕ) → k < 128 → (c == k) ≡ true → c < 128
code_low c k lt h = let e : c ≡ k = is_code c k h in omega (arith, e, lt)

digit_low : (c : ℕ) → is_digit c ≡ true → c < 128
unfolding is_digit
digit_low c h = grind (arith, nat_tests)

hex_low : (c : ℕ) → is_hex c ≡ true → c < 128
unfolding is_hex is_digit
hex_low c h = grind (arith, nat_tests)

quote_low : (c : ℕ) → is_quote c ≡ true → c < 128
unfolding is_quote
quote_low c h = grind (arith, nat_tests)

coding_low : (c : ℕ) → is_encoding_first c ≡ true → c < 128
unfolding is_encoding_first
coding_low c h = grind (arith, nat_tests)

coded_low : (c : ℕ) → is_encoding c ≡ true → c < 128
unfolding is_encoding is_digit
coded_low c h = grind (arith, nat_tests)

initial_low : (k : Key) → initial k < 128
initial_low version_key = lit< tt
initial_low encoding_key = lit< tt
initial_low standalone_key = lit< tt

-- characters from U+0080
code_high : (c k : ℕ) → k < 128 → 128 ≤ c → (c == k) ≡ false
code_high c k lt le = grind (arith, nat_tests)

first_high : (c : ℕ) → is_char c ≡ true → 128 ≤ c → is_first c ≡ true
unfolding is_first
first_high c h le = grind (arith, nat_tests)

name_high : (c : ℕ) → is_char c ≡ true → 128 ≤ c → is_name c ≡ true
unfolding is_name
name_high c h le = let f : is_first c ≡ true = first_high c h le in grind (arith, nat_tests)

plain_high : (c : ℕ) → is_char c ≡ true → 128 ≤ c → is_plain c ≡ true
unfolding is_plain
plain_high c h le = grind (arith, nat_tests)

said_high : (n c : ℕ) → is_char c ≡ true → 128 ≤ c → is_said n c ≡ true
said_high n c h le = let f : is_plain c ≡ true = plain_high c h le in grind (arith, nat_tests)

-- the states that take ASCII alone
abbrev Lows : ℕ → Option State → Type 0
Lows c o = Only (c < 128) o

low : (c : ℕ) (b : Bool) (x y : Option State) → (b ≡ true → c < 128) → ((h : c < 128) → Lows c x) → Lows c y → Lows c (cond b x y)
low c true x y f g h = g (f refl)
low c false x y f g h = h

low_front : (b : Bool) (l : Level) (c : ℕ) → Lows c (front_step b l c)
low_front b l c = low c (is_white c) _ _ (white_low c) (λ h. h) (low c (c == 60) _ _ (code_low c 60 (lit< tt)) (λ h. h) tt)

low_markup : (s : Spot) (o l : Level) (c : ℕ) → Lows c (markup s o l c)
low_markup s o l c = low c (c == 33) _ _ (code_low c 33 (lit< tt)) (λ h. h) (low c (c == 63) _ _ (code_low c 63 (lit< tt)) (λ h. h) tt)

low_bang : (s : Spot) (p : ℕ) (l : Level) (c : ℕ) → Lows c (bang_word s p l c)
low_bang (before b) p l c = low c (c == 68) _ _ (code_low c 68 (lit< tt)) (λ h. h) tt
low_bang (among []) p l c = tt
low_bang (among (f ∷ fs)) p l c = low c (c == 91) _ _ (code_low c 91 (lit< tt)) (λ h. h) tt

low_choose : (ks : List Key) (l : Level) (c : ℕ) → Lows c (choose ks l c)
low_choose [] l c = tt
low_choose (k ∷ ks) l c = low c (c == initial k) _ _ (code_low c (initial k) (initial_low k)) (λ h. h) (low_choose ks l c)

low_leave : (fs : List Frame) (t : Tag) (l : Level) (c : ℕ) → Lows c (leave fs t l c)
low_leave fs t l c =
    low c (is_white c) _ _ (white_low c) (λ h. h)
    (low c (c == 47) _ _ (code_low c 47 (lit< tt)) (λ h. h) (low c (c == 62) _ _ (code_low c 62 (lit< tt)) (λ h. h) tt))

low_name : (o : Owner) (l : Level) (c : ℕ) → Lows c (leave_name o l c)
low_name o l c = low c (is_white c) _ _ (white_low c) (λ h. h) (low c (c == 61) _ _ (code_low c 61 (lit< tt)) (λ h. h) tt)

-- the first j bytes of c, and no more, are those of a character that may come
abbrev pub Refuses : Doing → Level → ℕ → ℕ → Type 0
Refuses d l c j =
    (j < length (encode c)) × (((j ≡ 0) ⊎ ((e : ℕ) × (t : State) × (go d l e ≡ Some t) × (take j (encode e) ≡ take j (encode c))))
    × ((e : ℕ) (t : State) (x : List ℕ) → go d l e ≡ Some t → take (suc j) (encode e ++ x) ≡ take (suc j) (encode c) → ⊥))

-- one taken isn't refused
none_some : (o : Option State) (t : State) → o ≡ None → o ≡ Some t → ⊥
none_some o t h k = let z : None ≡ Some t = sym h ∙ k in cc

differ : (d : Doing) (l : Level) (c e : ℕ) (t : State) → go d l c ≡ None → go d l e ≡ Some t → c ≡ e → ⊥
differ d l c e t h k s = none_some (go d l e) t (let P : ℕ → Type 0 = λ v. go d l v ≡ None in subst P s h) k

some_byte : (c : ℕ) → 0 < length (encode c)
some_byte c = omega (arith, length-encode c, (len_utf8_bounds c).0)

heads : (j : ℕ) (xs ys : List ℕ) → take (suc j) xs ≡ take (suc j) ys → take 1 xs ≡ take 1 ys
heads j [] [] h = refl
heads j [] (y ∷ ys) h = cc
heads j (x ∷ xs) [] h = cc
heads j (x ∷ xs) (y ∷ ys) h = let e : x ≡ y = cc in ap (λ v. v ∷ []) e

-- an ASCII character is told by its first byte
ascii_first : (e c j : ℕ) (x : List ℕ) → e < 128 → take (suc j) (encode e ++ x) ≡ take (suc j) (encode c) → c ≡ e
ascii_first e c j x lt h =
    let one : take 1 (encode c) ≡ encode e =
    sym (heads j (encode e ++ x) (encode c) h) ∙ (ap (λ v. take 1 (v ++ x)) (encode_ascii e lt) ∙ sym (encode_ascii e lt)) in
    let whole : encode c ++ [] ≡ encode e ++ drop 1 (encode c) = append-nil (encode c) ∙ (sym (take-append-drop 1 (encode c)) ∙ ap (λ v. v ++ drop 1 (encode c)) one) in
    (encode_same c e [] (drop 1 (encode c)) whole).0

ascii_second : (e c j : ℕ) (x : List ℕ) → c < 128 → take (suc j) (encode e ++ x) ≡ take (suc j) (encode c) → c ≡ e
ascii_second e c j x lt h =
    let one : take 1 (encode e ++ x) ≡ encode c =
    heads j (encode e ++ x) (encode c) h ∙ (ap (take 1) (encode_ascii c lt) ∙ sym (encode_ascii c lt)) in
    let whole : encode c ++ drop 1 (encode e ++ x) ≡ encode e ++ x = ap (λ v. v ++ drop 1 (encode e ++ x)) (sym one) ∙ take-append-drop 1 (encode e ++ x) in
    (encode_same c e (drop 1 (encode e ++ x)) x whole).0

-- all bytes of c
whole_same : (e c j : ℕ) (x : List ℕ) → length (encode c) ≤ suc j → take (suc j) (encode e ++ x) ≡ take (suc j) (encode c) → c ≡ e
whole_same e c j x le h =
    let all : take (suc j) (encode c) ≡ encode c = take_all (suc j) (encode c) le in
    let whole : encode c ++ drop (suc j) (encode e ++ x) ≡ encode e ++ x =
    ap (λ v. v ++ drop (suc j) (encode e ++ x)) (sym all ∙ sym h) ∙ take-append-drop (suc j) (encode e ++ x) in
    (encode_same c e (drop (suc j) (encode e ++ x)) x whole).0

refuses_low : (d : Doing) (l : Level) (c : ℕ) → ((e : ℕ) → Lows e (go d l e)) → go d l c ≡ None → Refuses d l c 0
refuses_low d l c small h = (some_byte c, (inl refl, λ e t x k m. differ d l c e t h k (ascii_first e c 0 x (only_is (e < 128) (go d l e) t (small e) k) m)))

-- fronts that two texts share
take_none : (ys : List ℕ) → take 0 [] ≡ take 0 ys
take_none [] = refl
take_none (y ∷ ys) = refl

take_more : (x y n : ℕ) (xs ys : List ℕ) (b : Bool) → (x == y) ≡ b → take n xs ≡ take n ys → take (cond b (suc n) 0) (x ∷ xs) ≡ take (cond b (suc n) 0) (y ∷ ys)
take_more x y n xs ys true e h = let s : x ≡ y = is_code x y e in ap (λ v. v ∷ take n xs) s ∙ ap (λ v. y ∷ v) h
take_more x y n xs ys false e h = refl

common_take : (xs ys : List ℕ) → take (common xs ys) xs ≡ take (common xs ys) ys
common_take [] ys = take_none ys
common_take (x ∷ xs) [] = refl
common_take (x ∷ xs) (y ∷ ys) = take_more x y (common xs ys) xs ys (x == y) refl (common_take xs ys)

cond_le : (b : Bool) (n m : ℕ) → n ≤ m → cond b (suc n) 0 ≤ suc m
cond_le true n m h = omega arith
cond_le false n m h = omega arith

common_left : (xs ys : List ℕ) → common xs ys ≤ length xs
common_left [] ys = omega arith
common_left (x ∷ xs) [] = omega arith
common_left (x ∷ xs) (y ∷ ys) = cond_le (x == y) (common xs ys) (length xs) (common_left xs ys)

common_right : (xs ys : List ℕ) → common xs ys ≤ length ys
common_right [] ys = omega arith
common_right (x ∷ xs) [] = omega arith
common_right (x ∷ xs) (y ∷ ys) = cond_le (x == y) (common xs ys) (length ys) (common_right xs ys)

apart : (x y : ℕ) (us vs : List ℕ) → (x == y) ≡ false → x ∷ us ≡ y ∷ vs → ⊥
apart x y us vs s e = let r : x ≡ y = cc in grind (arith, nat_tests)

ends_more : (x y n : ℕ) (xs ys z : List ℕ) (b : Bool) → (x == y) ≡ b → (n < length xs → n < length ys → take (suc n) (xs ++ z) ≡ take (suc n) ys → ⊥)
    → cond b (suc n) 0 < suc (length xs) → cond b (suc n) 0 < suc (length ys)
    → take (suc (cond b (suc n) 0)) (x ∷ (xs ++ z)) ≡ take (suc (cond b (suc n) 0)) (y ∷ ys) → ⊥
ends_more x y n xs ys z true s f h k e = f (omega arith) (omega arith) (tails x y _ _ e)
ends_more x y n xs ys z false s f h k e = apart x y [] [] s e

common_ends : (xs ys z : List ℕ) → common xs ys < length xs → common xs ys < length ys → take (suc (common xs ys)) (xs ++ z) ≡ take (suc (common xs ys)) ys → ⊥
common_ends [] ys z h k e = absurd (omega arith)
common_ends (x ∷ xs) [] z h k e = absurd (omega arith)
common_ends (x ∷ xs) (y ∷ ys) z h k e = ends_more x y (common xs ys) xs ys z (x == y) refl (common_ends xs ys z) h k e

-- a text that is a front of another, and all of it is shared
front_whole : (xs ys : List ℕ) → length ys ≤ common xs ys → xs ≡ ys ++ drop (common xs ys) xs
front_whole xs ys h =
    sym (take-append-drop (common xs ys) xs) ∙ ap (λ v. v ++ drop (common xs ys) xs) (common_take xs ys ∙ take_all (common xs ys) ys h)

back_whole : (xs ys : List ℕ) → length xs ≤ common xs ys → ys ≡ xs ++ drop (common xs ys) ys
back_whole xs ys h =
    sym (take-append-drop (common xs ys) ys) ∙ ap (λ v. v ++ drop (common xs ys) ys) (sym (common_take xs ys) ∙ take_all (common xs ys) xs h)

same_front : (x c : ℕ) (r : List ℕ) → encode x ≡ encode c ++ r → x ≡ c
same_front x c r h = (encode_same x c [] r (append-nil (encode x) ∙ h)).0

less_of : (n m : ℕ) → (m ≤ n → ⊥) → n < m
less_of n m h = elim (cases_lt n m) [ inl lt ↦ lt | inr le ↦ absurd (h le) ]

-- the states that take x, and ASCII
refuses_kin : (d : Doing) (l : Level) (c x : ℕ) (t : State) → go d l x ≡ Some t → ((e : ℕ) → Only ((e ≡ x) ⊎ (e < 128)) (go d l e)) → go d l c ≡ None
    → Refuses d l c (common (encode x) (encode c))
refuses_kin d l c x t taken near h =
    let j = common (encode x) (encode c) in
    let right : j < length (encode c) = less_of j (length (encode c)) (λ le. differ d l c x t h taken (sym (same_front x c _ (front_whole (encode x) (encode c) le)))) in
    let left : j < length (encode x) = less_of j (length (encode x)) (λ le. differ d l c x t h taken (same_front c x _ (back_whole (encode x) (encode c) le))) in (
      right,
      (
        inr (x, t, taken, common_take (encode x) (encode c)),
        λ e u y k m. elim (only_is ((e ≡ x) ⊎ (e < 128)) (go d l e) u (near e) k) [
          | inl s ↦ let P : ℕ → Type 0 = λ v. take (suc j) (encode v ++ y) ≡ take (suc j) (encode c) in common_ends (encode x) (encode c) y left right (subst P s m)
          | inr lt ↦ differ d l c e u h k (ascii_first e c j y lt m)
        ],
      ),
    )

-- the characters that XML can't carry
refused_char : (c : ℕ) → scalar c ≡ true → 128 ≤ c → is_char c ≡ false → (c ≡ 65534) ⊎ (c ≡ 65535)
unfolding is_char
refused_char c s le h = grind (arith, nat_tests)

three : (c : ℕ) → (c ≡ 65534) ⊎ (c ≡ 65535) → (common (encode 65533) (encode c) ≡ 2) × (length (encode c) ≡ 3)
unfolding encode
three c (inl e) = let P : ℕ → Type 0 = λ v. (common (encode 65533) (encode v) ≡ 2) × (length (encode v) ≡ 3) in subst P (sym e) (refl, refl)
three c (inr e) = let P : ℕ → Type 0 = λ v. (common (encode 65533) (encode v) ≡ 2) × (length (encode v) ≡ 3) in subst P (sym e) (refl, refl)

nothing_shared : (c : ℕ) → c < 128 → common (encode 65533) (encode c) ≡ 0
unfolding encode
nothing_shared c lt = ap (common (encode 65533)) (encode_ascii c lt) ∙ cases (239 == c) refl
  where
    cases : (b : Bool) → (239 == c) ≡ b → cond b (suc (common (191 ∷ 189 ∷ []) [])) 0 ≡ 0
    cases true e = let s : 239 ≡ c = is_code 239 c e in absurd (omega (arith, s, lt))
    cases false e = refl

nearest_char : is_char 65533 ≡ true
unfolding is_char
nearest_char = refl

-- the states that take all characters from U+0080 that XML can carry
refuses_high : (d : Doing) (l : Level) (c : ℕ) → ((e : ℕ) → is_char e ≡ true → 128 ≤ e → Taken (go d l e)) → scalar c ≡ true → go d l c ≡ None
    → Refuses d l c (common (encode 65533) (encode c))
refuses_high d l c takes s h = elim (cases_lt c 128) [ inl lt ↦ ascii lt | inr le ↦ high le ]
  where
    ascii : c < 128 → Refuses d l c (common (encode 65533) (encode c))
    ascii lt =
        let P : ℕ → Type 0 = λ j. Refuses d l c j in
        subst P (sym (nothing_shared c lt)) (some_byte c, (inl refl, λ e t x k m. differ d l c e t h k (ascii_second e c 0 x lt m)))

    high : 128 ≤ c → Refuses d l c (common (encode 65533) (encode c))
    high le =
        let no : is_char c ≡ false = not_char (is_char c) refl in
        let n = three c (refused_char c s le no) in
        let near = taken_is (go d l 65533) (takes 65533 nearest_char (lit≤ tt)) in (
          omega (arith, n.0, n.1),
          (
            inr (65533, near.0, near.1, common_take (encode 65533) (encode c)),
            λ e t x k m. differ d l c e t h k (whole_same e c (common (encode 65533) (encode c)) x (omega (arith, n.0, n.1)) m),
          ),
        )
      where
        not_char : (b : Bool) → is_char c ≡ b → b ≡ false
        not_char true i = absurd (taken_not (go d l c) (takes c i le) h)
        not_char false i = refl

-- by the outcome of a test
either : (b : Bool) (x y : Option State) → Taken x → Taken y → Taken (cond b x y)
either true x y h k = h
either false x y h k = k

sure : (b : Bool) (x y : Option State) → b ≡ true → Taken x → Taken (cond b x y)
sure true x y e h = h
sure false x y e h = cc

near : (P : Type 0) (b : Bool) (x y : Option State) → (b ≡ true → P) → ((h : P) → Only P x) → Only P y → Only P (cond b x y)
near P true x y f g h = g (f refl)
near P false x y f g h = h

valued_high : (b p : Bool) (x y z : Option State) → p ≡ true → Taken x → Taken y → Taken (cond (p && not b) x (cond b y z))
valued_high true true x y z e h k = k
valued_high false true x y z e h k = h
valued_high b false x y z e h k = cc

pub refuses : (d : Doing) (l : Level) (c : ℕ) → scalar c ≡ true → go d l c ≡ None → Refuses d l c (common (kin d) (encode c))
refuses begun l c s h =
    refuses_kin begun l c 65279 (state (front true) (tick 65279 l)) refl
    (λ e. near _ (e == 65279) _ _ (λ i. inl (is_code e 65279 i)) (λ k. k)
    (near _ (is_white e) _ _ (λ i. inr (white_low e i)) (λ k. k) (near _ (e == 60) _ _ (λ i. inr (code_low e 60 (lit< tt) i)) (λ k. k) tt))) h
refuses (front b) l c s h = refuses_low (front b) l c (low_front b l) h
refuses (opened (before b) o) l c s h = refuses_high (opened (before b) o) l c (λ e i le. sure (is_first e) _ _ (first_high e i le) tt) s h
refuses (opened (among []) o) l c s h = refuses_low (opened (among []) o) l c (low_markup (among []) o l) h
refuses (opened (among (f ∷ fs)) o) l c s h = refuses_high (opened (among (f ∷ fs)) o) l c (λ e i le. sure (is_first e) _ _ (first_high e i le) tt) s h
refuses (banged p n) l c s h =
    refuses_low (banged p n) l c (λ e. low e (e == 45) _ _ (code_low e 45 (lit< tt)) (λ k. k) (low_bang p n l e)) h
refuses (commenting p) l c s h = refuses_high (commenting p) l c (λ e i le. either (e == 45) _ _ tt (sure (is_char e) _ _ i tt)) s h
refuses (halting p) l c s h = refuses_high (halting p) l c (λ e i le. either (e == 45) _ _ tt (sure (is_char e) _ _ i tt)) s h
refuses (asked p) l c s h = refuses_high (asked p) l c (λ e i le. sure (is_first e) _ _ (first_high e i le) tt) s h
refuses (targeting p n) l c s h = refuses_high (targeting p n) l c (λ e i le. sure (is_name e) _ _ (name_high e i le) tt) s h
refuses (instructing p) l c s h = refuses_high (instructing p) l c (λ e i le. either (e == 63) _ _ tt (sure (is_char e) _ _ i tt)) s h
refuses (asking p) l c s h = refuses_high (asking p) l c (λ e i le. either (e == 62) _ _ tt (either (e == 63) _ _ tt (sure (is_char e) _ _ i tt))) s h
refuses (wording w x left) l c s h =
    refuses_kin (wording w x left) l c x (worded w left (tick x l)) (rw (same_self x) refl) (λ e. near _ (e == x) _ _ (λ i. inl (is_code e x i)) (λ k. k) tt) h
refuses (sectioning fs) l c s h = refuses_high (sectioning fs) l c (λ e i le. either (e == 93) _ _ tt (sure (is_char e) _ _ i tt)) s h
refuses (bracketed fs) l c s h = refuses_high (bracketed fs) l c (λ e i le. either (e == 93) _ _ tt (sure (is_char e) _ _ i tt)) s h
refuses (twice fs) l c s h = refuses_high (twice fs) l c (λ e i le. either (e == 62) _ _ tt (either (e == 93) _ _ tt (sure (is_char e) _ _ i tt))) s h
refuses declaring l c s h =
    refuses_low declaring l c (λ e. low e (is_white e) _ _ (white_low e) (λ k. k) (low e (e == 118) _ _ (code_low e 118 (lit< tt)) (λ k. k) tt)) h
refuses (heading ks) l c s h =
    refuses_low (heading ks) l c (λ e. low e (is_white e) _ _ (white_low e) (λ k. k) (low e (e == 63) _ _ (code_low e 63 (lit< tt)) (λ k. k) (low_choose ks l e))) h
refuses (headed ks) l c s h =
    refuses_low (headed ks) l c (λ e. low e (is_white e) _ _ (white_low e) (λ k. k) (low e (e == 63) _ _ (code_low e 63 (lit< tt)) (λ k. k) tt)) h
refuses (numbering q ks) l c s h = refuses_low (numbering q ks) l c (λ e. low e (is_digit e) _ _ (digit_low e) (λ k. k) tt) h
refuses (numbered q ks) l c s h =
    refuses_kin (numbered q ks) l c q (state (headed ks) (tick q l)) (rw (same_self q) refl)
    (λ e. near _ (e == q) _ _ (λ i. inl (is_code e q i)) (λ k. k) (near _ (is_digit e) _ _ (λ i. inr (digit_low e i)) (λ k. k) tt)) h
refuses (coding q ks) l c s h = refuses_low (coding q ks) l c (λ e. low e (is_encoding_first e) _ _ (coding_low e) (λ k. k) tt) h
refuses (coded q ks v p) l c s h =
    refuses_kin (coded q ks v p) l c q (state (headed ks) (blame_if (not (same_letters v (codes "UTF-8"))) encoding_kind p (tick q l))) (rw (same_self q) refl)
    (λ e. near _ (e == q) _ _ (λ i. inl (is_code e q i)) (λ k. k) (near _ (is_encoding e) _ _ (λ i. inr (coded_low e i)) (λ k. k) tt)) h
refuses (replying q ks) l c s h =
    refuses_low (replying q ks) l c (λ e. low e (e == 121) _ _ (code_low e 121 (lit< tt)) (λ k. k) (low e (e == 110) _ _ (code_low e 110 (lit< tt)) (λ k. k) tt)) h
refuses (named o) l c s h = refuses_low (named o) l c (low_name o l) h
refuses (equalled o) l c s h =
    refuses_low (equalled o) l c (λ e. low e (is_white e) _ _ (white_low e) (λ k. k) (low e (is_quote e) _ _ (quote_low e) (λ k. k) tt)) h
refuses (naming fs t) l c s h = refuses_high (naming fs t) l c (λ e i le. sure (is_name e) _ _ (name_high e i le) tt) s h
refuses (spaced fs t) l c s h = refuses_high (spaced fs t) l c (λ e i le. sure (is_first e) _ _ (first_high e i le) tt) s h
refuses (attr_naming fs t a) l c s h = refuses_high (attr_naming fs t a) l c (λ e i le. sure (is_name e) _ _ (name_high e i le) tt) s h
refuses (valuing fs t a q v b) l c s h = refuses_high (valuing fs t a q v b) l c (λ e i le. valued_high (e == q) (is_plain e) _ _ _ (plain_high e i le) tt tt) s h
refuses (valued fs t) l c s h = refuses_low (valued fs t) l c (low_leave fs t l) h
refuses (amped g p) l c s h = refuses_high (amped g p) l c (λ e i le. sure (is_first e) _ _ (first_high e i le) tt) s h
refuses (referring g p n) l c s h = refuses_high (referring g p n) l c (λ e i le. sure (is_name e) _ _ (name_high e i le) tt) s h
refuses (hashed g p) l c s h =
    refuses_low (hashed g p) l c (λ e. low e (is_digit e) _ _ (digit_low e) (λ k. k) (low e (e == 120) _ _ (code_low e 120 (lit< tt)) (λ k. k) tt)) h
refuses (counting g p n) l c s h =
    refuses_low (counting g p n) l c (λ e. low e (is_digit e) _ _ (digit_low e) (λ k. k) (low e (e == 59) _ _ (code_low e 59 (lit< tt)) (λ k. k) tt)) h
refuses (hexed g p) l c s h = refuses_low (hexed g p) l c (λ e. low e (is_hex e) _ _ (hex_low e) (λ k. k) tt) h
refuses (hexing g p n) l c s h =
    refuses_low (hexing g p n) l c (λ e. low e (is_hex e) _ _ (hex_low e) (λ k. k) (low e (e == 59) _ _ (code_low e 59 (lit< tt)) (λ k. k) tt)) h
refuses (inside [] n) l c s h =
    refuses_low (inside [] n) l c (λ e. low e (is_white e) _ _ (white_low e) (λ k. k) (low e (e == 60) _ _ (code_low e 60 (lit< tt)) (λ k. k) tt)) h
refuses (inside (f ∷ fs) n) l c s h = refuses_high (inside (f ∷ fs) n) l c (λ e i le. sure (is_said n e) _ _ (said_high n e i le) tt) s h
refuses (closing fs []) l c s h =
    refuses_low (closing fs []) l c (λ e. low e (e == 62) _ _ (code_low e 62 (lit< tt)) (λ k. k) (low e (is_white e) _ _ (white_low e) (λ k. k) tt)) h
refuses (closing fs (x ∷ left)) l c s h =
    refuses_kin (closing fs (x ∷ left)) l c x (state (closing fs left) (tick x l)) (rw (same_self x) refl) (λ e. near _ (e == x) _ _ (λ i. inl (is_code e x i)) (λ k. k) tt) h
