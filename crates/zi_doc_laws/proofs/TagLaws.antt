-- At its place in the bytes stands each piece of a document.
use Rattle.std.proofs.Common.{◌≡◌, ℕ, ◌+◌, Bool, true, false, ◌||◌, ◌==◌, cond, ltb, List, [], ◌∷◌, ◌++◌, length, refl, sym, ap, ◌∙◌, append_assoc, arith}
use Rattle.std.specs.Prelude.{encode_utf8, encode_utf8_all}
use Rattle.std.proofs.Math.Utf8.{encode}
use Rattle.std.proofs.lemmas.Str.{encodes-append}
use Rattle.std.proofs.lemmas.List.{length-append}
use Rattle.std.proofs.lemmas.Bool.Decides.{nat_tests}
use Rattle.zi_names.specs.Names.{local as local_part}
use Rattle.zi_xml.specs.Chars.{is_white}
use Rattle.zi_xml.specs.Syntax.{Written, bits_text, all_text, tag_rest, AllAre, IsName, AreWritten}
use Rattle.zi_doc_laws.specs.Trees.{ends_name, HasTag}
use Rattle.zi_doc_laws.proofs.PastLaws.{size, size_bytes}

-- behind so many bytes stand these characters
pub record Stands (w : List ℕ) (at : ℕ) (cs : List ℕ) : Type 0 where
  pub front : List ℕ
  pub rest : List ℕ
  pub bytes : w ≡ front ++ (encode_utf8_all cs ++ rest)
  pub far : at ≡ length front

pub stand_all : (w cs : List ℕ) → w ≡ encode_utf8_all cs → Stands w 0 cs
stand_all w cs e = record { front = []; rest = []; bytes = e ∙ sym (nothing_behind (encode_utf8_all cs)); far = refl }
  where
    nothing_behind : (xs : List ℕ) → xs ++ [] ≡ xs
    nothing_behind [] = refl
    nothing_behind (x ∷ xs) = ap (λ v. x ∷ v) (nothing_behind xs)

-- the first of them stand there
pub stand_front : (w : List ℕ) (at : ℕ) (a b : List ℕ) → Stands w at (a ++ b) → Stands w at a
stand_front w at a b s =
    let x : List ℕ = encode_utf8_all a in
    let y : List ℕ = encode_utf8_all b in
    record {
      front = s.front;
      rest = y ++ s.rest;
      bytes = s.bytes ∙ (ap (λ v. s.front ++ (v ++ s.rest)) (encodes-append a b) ∙ ap (λ v. s.front ++ v) (append_assoc x y s.rest));
      far = s.far;
    }

-- what stands behind the first of them
pub stand_behind : (w : List ℕ) (at to : ℕ) (a b : List ℕ) → to ≡ at + size a → Stands w at (a ++ b) → Stands w to b
stand_behind w at to a b e s =
    let x : List ℕ = encode_utf8_all a in
    let y : List ℕ = encode_utf8_all b in
    let split : s.front ++ (encode_utf8_all (a ++ b) ++ s.rest) ≡ (s.front ++ x) ++ (y ++ s.rest) =
    ap (λ v. s.front ++ (v ++ s.rest)) (encodes-append a b) ∙ (ap (λ v. s.front ++ v) (append_assoc x y s.rest) ∙ sym (append_assoc s.front x (y ++ s.rest))) in
    record {
      front = s.front ++ x;
      rest = s.rest;
      bytes = s.bytes ∙ split;
      far = omega (arith, e, s.far, size_bytes a, length-append s.front x);
    }

-- characters of one byte that may stand behind the name of a tag
record IsNext (cs : List ℕ) : Type 0 where
  first : ℕ
  others : List ℕ
  are : cs ≡ first ∷ others
  ends : ends_name first ≡ true

white_ends : (c : ℕ) → is_white c ≡ true → ends_name c ≡ true
white_ends c h = ap (λ b. b || c == 47 || c == 62) h

-- an attribute without the white space in front of it
abbrev behind_lead : Written → List ℕ
behind_lead a = a.more ++ (a.name ++ (a.before ++ 61 ∷ (a.behind ++ a.quote ∷ (bits_text a.value ++ a.quote ∷ []))))

next_in : (ws : List Written) (e : List ℕ) (c : ℕ) (close k : List ℕ) → AreWritten ws → AllAre is_white e → ends_name c ≡ true → IsNext (tag_rest ws e (c ∷ close) ++ k)
next_in [] [] c close k h j q = record { first = c; others = close ++ k; are = refl; ends = q }
next_in [] (x ∷ e) c close k h j q = record { first = x; others = (e ++ c ∷ close) ++ k; are = refl; ends = white_ends x j.0 }
next_in (a ∷ ws) e c close k h j q = record { first = a.lead; others = ((behind_lead a ++ all_text ws) ++ (e ++ c ∷ close)) ++ k; are = refl; ends = white_ends a.lead h.0.lead }

is_low : (c : ℕ) → ends_name c ≡ true → ltb c 128 ≡ true
unfolding is_white
is_low c h = grind (arith, nat_tests)

one_byte : (c : ℕ) → ends_name c ≡ true → encode_utf8 c ≡ c ∷ []
unfolding encode
one_byte c h = taken (ltb c 128) _ _ (is_low c h)
  where
    taken : (b : Bool) (x y : List ℕ) → b ≡ true → cond b x y ≡ x
    taken true x y h = refl
    taken false x y h = cc

-- A tag stands at its place.
pub tag_stands : (w : List ℕ) (at : ℕ) (n : List ℕ) (ws : List Written) (e : List ℕ) (c : ℕ) (close k : List ℕ) → IsName n → AreWritten ws → AllAre is_white e → ends_name c ≡ true
    → Stands w at (60 ∷ (n ++ (tag_rest ws e (c ∷ close) ++ k))) → HasTag w at (local_part (encode_utf8_all n))
unfolding encode
tag_stands w at n ws e c close k name right white last s =
    let x = next_in ws e c close k right white last in
    let y : List ℕ = tag_rest ws e (c ∷ close) ++ k in
    let named : encode_utf8_all (n ++ y) ≡ encode_utf8_all n ++ x.first ∷ encode_utf8_all x.others =
    encodes-append n y ∙ ap (λ v. encode_utf8_all n ++ v) (ap encode_utf8_all x.are ∙ ap (λ v. v ++ encode_utf8_all x.others) (one_byte x.first x.ends)) in
    let bytes : s.front ++ (60 ∷ (encode_utf8_all (n ++ y) ++ s.rest)) ≡ s.front ++ 60 ∷ (encode_utf8_all n ++ x.first ∷ (encode_utf8_all x.others ++ s.rest)) =
    ap (λ v. s.front ++ 60 ∷ v) (ap (λ v. v ++ s.rest) named ∙ append_assoc (encode_utf8_all n) (x.first ∷ encode_utf8_all x.others) s.rest) in
    record {
      front = s.front;
      written = n;
      next = x.first;
      rest = encode_utf8_all x.others ++ s.rest;
      bytes = s.bytes ∙ bytes;
      at = s.far;
      named = name;
      ends = x.ends;
      local = refl;
    }
