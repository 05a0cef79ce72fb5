-- Texts that XML can carry: as a test, of ASCII, and cut at a separator.
use Rattle.std.specs.Prelude.{IsUtf8, encode_utf8, encode_utf8_all, if◌then◌else◌, unwrap_or}
use Rattle.std.proofs.Common.{◌≡◌, ℕ, ◌<◌, ◌≤◌, Bool, true, false, ◌&&◌, ◌==◌, cond, ltb, nat_le, List, [], ◌∷◌, ◌++◌, Option, Some, None, refl, sym, ap, ◌∙◌, subst, arith, append-nil}
use Rattle.std.specs.List.{list_all}
use Rattle.std.specs.Option.{option_or}
use Rattle.std.specs.Str.{chars, is_utf8}
use Rattle.std.proofs.Math.Utf8.{encode, scalar, scalars}
use Rattle.std.proofs.lemmas.Str.{encodes-chars, chars-encodes, is_utf8-from_IsUtf8}
use Rattle.std.proofs.lemmas.Bool.Decides.{nat_tests}
use Rattle.std.proofs.lemmas.Bool.{and_from, and_parts, both_ways}
use Rattle.zi_text.specs.Pieces.{pieces}
use Rattle.zi_xml.specs.Chars.{is_char}
use Rattle.zi_xml.specs.Syntax.{AllAre}
use Rattle.zi_doc_laws.specs.Trees.{IsCarried}
use Rattle.zi_doc_laws.proofs.CarriedLaws.{none_carried, both_carried}
use Rattle.zi_docout.specs.Amiss.{is_carried}
use Rattle.zi_docout.proofs.BitLemmas.{is_ascii, ascii, pick}
use Rattle.zi_docout.proofs.FineLemmas as fine
use Rattle.zi_address.specs.Texts.{pieces_of}
use Rattle.zi_sels_laws.proofs.LikeLaws.{Each}

-- The test.

char_scalar : (c : ℕ) → is_char c ≡ true → scalar c ≡ true
unfolding is_char
char_scalar c h = grind (arith, nat_tests)

all_scalars : (cs : List ℕ) → AllAre is_char cs → scalars cs ≡ true
all_scalars [] h = refl
all_scalars (c ∷ cs) h = and_from (scalar c) (scalars cs) (char_scalar c h.0) (all_scalars cs h.1)

all_pass : (p : ℕ → Bool) (cs : List ℕ) → AllAre p cs → list_all p cs ≡ true
all_pass p [] h = refl
all_pass p (c ∷ cs) h = and_from (p c) (list_all p cs) h.0 (all_pass p cs h.1)

all_are : (p : ℕ → Bool) (cs : List ℕ) → list_all p cs ≡ true → AllAre p cs
all_are p [] h = tt
all_are p (c ∷ cs) h = let x = and_parts (p c) (list_all p cs) h in (x.0, all_are p cs x.1)

pub carried_passes : (t : List ℕ) → IsCarried t → is_carried t ≡ true
unfolding is_carried
carried_passes t h =
    let u : scalars h.chars ≡ true = all_scalars h.chars h.right in
    let utf8 : IsUtf8 t = (h.chars, (u, sym h.bytes)) in
    let same : chars t ≡ h.chars = ap chars h.bytes ∙ chars-encodes h.chars u in
    and_from (is_utf8 t) (list_all is_char (chars t)) (is_utf8-from_IsUtf8 t utf8) (ap (list_all is_char) same ∙ all_pass is_char h.chars h.right)

pub passes_carried : (t : List ℕ) → is_carried t ≡ true → IsCarried t
passes_carried t h = let x = fine.carried t h in record { chars = chars t; bytes = sym (encodes-chars t x.utf8); right = all_are is_char (chars t) x.chars }

-- ASCII from the space to `~`.

abbrev pub is_shown : ℕ → Bool
is_shown c = nat_le 32 c && nat_le c 126

shown_char : (c : ℕ) → is_shown c ≡ true → is_char c ≡ true
unfolding is_char
shown_char c h = grind (arith, nat_tests)

shown_ascii : (c : ℕ) → is_shown c ≡ true → is_ascii c ≡ true
shown_ascii c h = grind (arith, nat_tests)

record AreShown (t : List ℕ) : Type 0 where
  ascii : list_all is_ascii t ≡ true
  chars : AllAre is_char t

are_shown : (t : List ℕ) → list_all is_shown t ≡ true → AreShown t
are_shown [] h = record { ascii = refl; chars = tt }
are_shown (c ∷ t) h =
    let x = and_parts (is_shown c) (list_all is_shown t) h in
    let y = are_shown t x.1 in
    record { ascii = and_from (is_ascii c) (list_all is_ascii t) (shown_ascii c x.0) y.ascii; chars = (shown_char c x.0, y.chars) }

pub shown_carried : (t : List ℕ) → list_all is_shown t ≡ true → IsCarried t
shown_carried t h = let x = are_shown t h in record { chars = t; bytes = sym (ascii t x.ascii).text; right = x.chars }

-- Cut at a separator of one byte.

-- no byte is this one
abbrev NoneIs : ℕ → List ℕ → Type 0
NoneIs c [] = Unit {0}
NoneIs c (b ∷ bs) = ((b == c) ≡ false) × NoneIs c bs

high_none : (c x : ℕ) → c < 128 → ltb x 128 ≡ false → NoneIs c (encode x)
unfolding encode
high_none c x low high =
    pick (NoneIs c) (ltb x 128) _ _ (λ e. absurd (both_ways (ltb x 128) high e))
    (λ _. pick (NoneIs c) (ltb x 2048) _ _ (λ _. (other _ (omega arith), (other _ (omega arith), tt)))
    (λ _. pick (NoneIs c) (ltb x 65536) _ _ (λ _. (other _ (omega arith), (other _ (omega arith), (other _ (omega arith), tt))))
    (λ _. (other _ (omega arith), (other _ (omega arith), (other _ (omega arith), (other _ (omega arith), tt)))))))
  where
    other : (b : ℕ) → 128 ≤ b → (b == c) ≡ false
    other b h = grind (arith, nat_tests)

low_one : (x : ℕ) → ltb x 128 ≡ true → encode_utf8 x ≡ x ∷ []
unfolding encode
low_one x h = taken (ltb x 128) _ _ h
  where
    taken : (b : Bool) (u v : List ℕ) → b ≡ true → cond b u v ≡ u
    taken true u v h = refl
    taken false u v h = cc

-- one byte before pieces: a separator, or not
abbrev cut : Bool → ℕ → (List ℕ × List (List ℕ)) → (List ℕ × List (List ℕ))
cut t b p = if t then ([], p.0 ∷ p.1) else (b ∷ p.0, p.1)

-- a text in front, in which no separator is
abbrev IsPast : ℕ → List ℕ → List ℕ → Type 0
IsPast c bs w = ((pieces c (bs ++ w)).0 ≡ bs ++ (pieces c w).0) × ((pieces c (bs ++ w)).1 ≡ (pieces c w).1)

past : (c : ℕ) (bs w : List ℕ) → NoneIs c bs → IsPast c bs w
past c [] w h = (refl, refl)
past c (b ∷ bs) w h = by (b == c) h.0 (past c bs w h.1)
  where
    by : (t : Bool) → t ≡ false → IsPast c bs w → ((cut t b (pieces c (bs ++ w))).0 ≡ b ∷ (bs ++ (pieces c w).0)) × ((cut t b (pieces c (bs ++ w))).1 ≡ (pieces c w).1)
    by true e p = absurd (cc e)
    by false e p = (ap (λ v. b ∷ v) p.0, p.1)

-- all pieces can be carried
abbrev AreCarried : (List ℕ × List (List ℕ)) → Type 0
AreCarried p = IsCarried p.0 × Each IsCarried p.1

cut_carried : (t : Bool) (b : ℕ) (p : List ℕ × List (List ℕ)) → IsCarried (b ∷ []) → AreCarried p → AreCarried (cut t b p)
cut_carried true b p x h = (none_carried, (h.0, h.1))
cut_carried false b p x h = (both_carried (b ∷ []) p.0 x h.0, h.1)

all_carried : (c : ℕ) → c < 128 → (cs : List ℕ) → AllAre is_char cs → AreCarried (pieces c (encode_utf8_all cs))
all_carried c low [] h = (none_carried, tt)
all_carried c low (x ∷ cs) h = by (ltb x 128) refl (all_carried c low cs h.1)
  where
    one : IsCarried (encode_utf8 x)
    one = record { chars = x ∷ []; bytes = sym (append-nil (encode_utf8 x)); right = (h.0, tt) }

    by : (b : Bool) → ltb x 128 ≡ b → AreCarried (pieces c (encode_utf8_all cs)) → AreCarried (pieces c (encode_utf8 x ++ encode_utf8_all cs))
    by true e k =
        let P : List ℕ → Type 0 = λ v. IsCarried v in
        let Q : List ℕ → Type 0 = λ v. AreCarried (pieces c (v ++ encode_utf8_all cs)) in
        subst Q (sym (low_one x e)) (cut_carried (x == c) x (pieces c (encode_utf8_all cs)) (subst P (low_one x e) one) k)
    by false e k =
        let p = past c (encode_utf8 x) (encode_utf8_all cs) (high_none c x low e) in
        let P : List ℕ → Type 0 = λ v. IsCarried v in
        let Q : List (List ℕ) → Type 0 = λ v. Each IsCarried v in
        (subst P (sym p.0) (both_carried (encode_utf8 x) (pieces c (encode_utf8_all cs)).0 one k.0), subst Q (sym p.1) k.1)

-- the first piece of a text, and the others
pub cut_text : (c : ℕ) (t : List ℕ) → c < 128 → IsCarried t → IsCarried (pieces c t).0 × Each IsCarried (pieces c t).1
cut_text c t low h =
    let P : List ℕ → Type 0 = λ v. IsCarried (pieces c v).0 × Each IsCarried (pieces c v).1 in
    subst P (sym h.bytes) (all_carried c low h.chars h.right)

pub pieces_carried : (c : ℕ) (t : List ℕ) → c < 128 → IsCarried t → Each IsCarried (pieces_of c t)
pieces_carried c t low h = let p = cut_text c t low h in (p.0, p.1)

-- Texts that may be there.

abbrev pub IsCarriedOr : Option (List ℕ) → Type 0
IsCarriedOr None = Unit {0}
IsCarriedOr (Some t) = IsCarried t

pub or_carried : (o : Option (List ℕ)) (default : List ℕ) → IsCarriedOr o → IsCarried default → IsCarried (unwrap_or o default)
or_carried None default h k = k
or_carried (Some t) default h k = h

pub either_carried : (o p : Option (List ℕ)) → IsCarriedOr o → IsCarriedOr p → IsCarriedOr (option_or o p)
either_carried None p h k = k
either_carried (Some t) p h k = h
