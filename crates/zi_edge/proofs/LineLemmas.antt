-- What a piece of a line is without the line feed at its end, and pieces one behind the other.
use Rattle.std.proofs.Common.{◌≡◌, ℕ, ◌+◌, ◌<◌, ◌==◌, Bool, true, false, List, [], ◌∷◌, ◌++◌, length, Option, refl, sym, ap, subst, ◌∙◌, inl, inr, append_assoc, append-nil, get_or, lit<, arith}
use Rattle.std.specs.Prelude.{IsUtf8, OnOk, Result, Ok, Err, if◌then◌else◌}
use Rattle.std.specs.Io.KnownBytes.{Appends}
use Rattle.std.proofs.lemmas.Bool.{cases_Bool}
use Rattle.std.proofs.lemmas.Bool.Decides.{nat_tests}
use Rattle.zi_shown.specs.Shown.{shown, shown_bytes}
use Rattle.std.proofs.lemmas.List.{length-append}
use Rattle.std.proofs.Math.Seq.{take-append_seam}
use Rattle.std.proofs.lemmas.Str.{IsUtf8-take, IsCharBoundary-before_ascii}
use Rattle.zi_shown.proofs.ShownLemmas.{both, shown_both, bytes_of_text}
use Rattle.zi_edge.specs.Lines.{ends_line, body, held_back, written_of, held_after, line_so_far}

ends-last : (front : List ℕ) (x : ℕ) → ends_line (front ++ x ∷ []) ≡ (x == 10)
ends-last [] x = refl
ends-last (b ∷ []) x = refl
ends-last (b ∷ c ∷ bs) x = ends-last (c ∷ bs) x

body-ended : (front : List ℕ) → body (front ++ 10 ∷ []) ≡ front
body-ended [] = refl
body-ended (b ∷ []) = refl
body-ended (b ∷ c ∷ bs) = ap (λ l. b ∷ l) (body-ended (c ∷ bs))

body-open : (front : List ℕ) (x : ℕ) → (x == 10) ≡ false → body (front ++ x ∷ []) ≡ front ++ x ∷ []
body-open [] x e = ap (λ (b : Bool). if b then [] else x ∷ []) e
body-open (b ∷ []) x e = ap (λ l. b ∷ l) (body-open [] x e)
body-open (b ∷ c ∷ bs) x e = ap (λ l. b ∷ l) (body-open (c ∷ bs) x e)

-- of a piece that isn't empty
written-some : (held : Bool) (front : List ℕ) (x : ℕ) → written_of held (front ++ x ∷ []) ≡ held_back held ++ shown_bytes (body (front ++ x ∷ []))
written-some held [] x = refl
written-some held (b ∷ bs) x = refl

held-some : (held : Bool) (front : List ℕ) (x : ℕ) → held_after held (front ++ x ∷ []) ≡ ends_line (front ++ x ∷ [])
held-some held [] x = refl
held-some held (b ∷ bs) x = refl

is_no_end : (x : ℕ) → ¬ (x ≡ 10) → (x == 10) ≡ false
is_no_end x h = grind (arith, nat_tests)

-- of no bytes nothing is written
pub nothing_put : (held : Bool) (bytes : List ℕ) → length bytes ≡ 0 → written_of held bytes ≡ []
nothing_put held [] e = refl
nothing_put held (b ∷ bs) e = absurd (omega (arith, e))

pub nothing_held : (held : Bool) (bytes : List ℕ) → length bytes ≡ 0 → held_after held bytes ≡ held
nothing_held held [] e = refl
nothing_held held (b ∷ bs) e = absurd (omega (arith, e))

-- a piece that ends with a line feed
pub put_ended : (a b c : Option (List ℕ)) (held : Bool) (bytes front : List ℕ) (x : ℕ) → bytes ≡ front ++ x ∷ [] → x ≡ 10 → Appends a b (held_back held) → Appends b c (shown_bytes front)
    → Appends a c (written_of held bytes)
put_ended a b c held bytes front x parts e first next =
    let text : bytes ≡ front ++ 10 ∷ [] = parts ∙ ap (λ y. front ++ y ∷ []) e in
    let written : written_of held bytes ≡ held_back held ++ shown_bytes front =
    ap (written_of held) text ∙ written-some held front 10 ∙ ap (λ l. held_back held ++ shown_bytes l) (body-ended front) in
    subst (Appends a c) (sym written) (both a b c (held_back held) (shown_bytes front) first next)

pub held_ended : (held : Bool) (bytes front : List ℕ) (x : ℕ) → bytes ≡ front ++ x ∷ [] → x ≡ 10 → held_after held bytes ≡ true
held_ended held bytes front x parts e =
    ap (held_after held) (parts ∙ ap (λ y. front ++ y ∷ []) e) ∙ held-some held front 10 ∙ ends-last front 10

-- one that doesn't
pub put_open : (a b c : Option (List ℕ)) (held : Bool) (bytes front : List ℕ) (x : ℕ) → bytes ≡ front ++ x ∷ [] → ¬ (x ≡ 10) → Appends a b (held_back held) → Appends b c (shown_bytes bytes)
    → Appends a c (written_of held bytes)
put_open a b c held bytes front x parts other first next =
    let whole : body bytes ≡ bytes = ap body parts ∙ body-open front x (is_no_end x other) ∙ sym parts in
    let written : written_of held bytes ≡ held_back held ++ shown_bytes bytes =
    ap (written_of held) parts ∙ written-some held front x ∙ ap (λ l. held_back held ++ shown_bytes (body l)) (sym parts)
    ∙ ap (λ l. held_back held ++ shown_bytes l) whole in
    subst (Appends a c) (sym written) (both a b c (held_back held) (shown_bytes bytes) first next)

pub held_open : (held : Bool) (bytes front : List ℕ) (x : ℕ) → bytes ≡ front ++ x ∷ [] → ¬ (x ≡ 10) → held_after held bytes ≡ false
held_open held bytes front x parts other = ap (held_after held) parts ∙ held-some held front x ∙ ends-last front x ∙ is_no_end x other

-- where that was tried
pub put_open_tried : {X E : Type 0} (result : Result X E) (a b c : Option (List ℕ)) (held : Bool) (bytes front : List ℕ) (x : ℕ) → bytes ≡ front ++ x ∷ [] → ¬ (x ≡ 10)
    → Appends a b (held_back held) → OnOk result (Appends b c (shown_bytes bytes)) → OnOk result (Appends a c (written_of held bytes))
put_open_tried (Ok v) a b c held bytes front x parts other first next = put_open a b c held bytes front x parts other first next
put_open_tried (Err e) a b c held bytes front x parts other first next = tt

pub held_open_tried : {X E : Type 0} (result : Result X E) (now held : Bool) (bytes front : List ℕ) (x : ℕ) → bytes ≡ front ++ x ∷ [] → ¬ (x ≡ 10) → now ≡ false
    → OnOk result (now ≡ held_after held bytes)
held_open_tried (Ok v) now held bytes front x parts other none = none ∙ sym (held_open held bytes front x parts other)
held_open_tried (Err e) now held bytes front x parts other none = tt

-- ---- the whole line

split_end : (all : List ℕ) → ends_line all ≡ true → all ≡ body all ++ 10 ∷ []
split_end [] e = absurd (cc)
split_end (b ∷ []) e =
    let same : b ≡ 10 = grind (arith, nat_tests) in
    ap (λ y. y ∷ []) same ∙ sym (ap (λ (t : Bool). (if t then [] else b ∷ []) ++ 10 ∷ []) e)
split_end (b ∷ c ∷ bs) e = ap (λ l. b ∷ l) (split_end (c ∷ bs) e)

no_end : (all : List ℕ) → ends_line all ≡ false → body all ≡ all
no_end [] e = refl
no_end (b ∷ []) e = ap (λ (t : Bool). if t then [] else b ∷ []) e
no_end (b ∷ c ∷ bs) e = ap (λ l. b ∷ l) (no_end (c ∷ bs) e)

get_or-append_at : (front : List ℕ) (x : ℕ) → get_or (front ++ x ∷ []) (length front) 0 ≡ x
get_or-append_at [] x = refl
get_or-append_at (b ∷ front) x = get_or-append_at front x

front_text : (front : List ℕ) → IsUtf8 (front ++ 10 ∷ []) → IsUtf8 front
front_text front utf8 =
    let all : List ℕ = front ++ 10 ∷ [] in
    let inside : length front < length all = omega (arith, length-append front (10 ∷ [])) in
    let byte : get_or all (length front) 0 ≡ 10 = get_or-append_at front 10 in
    subst IsUtf8 (take-append_seam front (10 ∷ []))
    (IsUtf8-take all (length front) utf8 (IsCharBoundary-before_ascii all (length front) inside (subst (λ x. x < 128) (sym byte) (lit< tt))))

body_text : (all : List ℕ) → IsUtf8 all → IsUtf8 (body all)
body_text all utf8 = elim (cases_Bool (ends_line all)) [
  | inl ends ↦ front_text (body all) (subst IsUtf8 (split_end all ends) utf8)
  | inr goes_on ↦ subst IsUtf8 (sym (no_end all goes_on)) utf8
]

-- all that was put is what was written of it, and the line feed that is held back
all_put : (all : List ℕ) → IsUtf8 all → shown all ≡ shown (body all) ++ held_back (ends_line all)
all_put all utf8 = elim (cases_Bool (ends_line all)) [
  | inl ends ↦
      ap shown (split_end all ends) ∙ shown_both (body all) (10 ∷ []) (body_text all utf8) ∙ ap (λ t. shown (body all) ++ held_back t) (sym ends)
  | inr goes_on ↦
      sym (append-nil (shown all)) ∙ ap (λ l. shown l ++ []) (sym (no_end all goes_on)) ∙ ap (λ t. shown (body all) ++ held_back t) (sym goes_on)
]

body_behind : (all : List ℕ) (b : ℕ) (bs : List ℕ) → body (all ++ b ∷ bs) ≡ all ++ body (b ∷ bs)
body_behind [] b bs = refl
body_behind (a ∷ []) b bs = refl
body_behind (a ∷ c ∷ all) b bs = ap (λ l. a ∷ l) (body_behind (c ∷ all) b bs)

end_behind : (all : List ℕ) (b : ℕ) (bs : List ℕ) → ends_line (all ++ b ∷ bs) ≡ ends_line (b ∷ bs)
end_behind [] b bs = refl
end_behind (a ∷ []) b bs = refl
end_behind (a ∷ c ∷ all) b bs = end_behind (c ∷ all) b bs

pub one_piece_more : (all piece : List ℕ) → IsUtf8 all → IsUtf8 piece → line_so_far (all ++ piece) ≡ line_so_far all ++ written_of (ends_line all) piece
one_piece_more all [] utf8 utf8' = ap line_so_far (append-nil all) ∙ sym (append-nil (line_so_far all))
one_piece_more all (b ∷ bs) utf8 utf8' =
    let rest : List ℕ = body (b ∷ bs) in
    ap shown (body_behind all b bs) ∙ shown_both all rest utf8 ∙ ap (λ l. l ++ shown rest) (all_put all utf8)
    ∙ append_assoc (line_so_far all) (held_back (ends_line all)) (shown rest)
    ∙ ap (λ l. line_so_far all ++ (held_back (ends_line all) ++ l)) (sym (bytes_of_text rest (body_text (b ∷ bs) utf8')))

pub held_one_more : (all piece : List ℕ) → ends_line (all ++ piece) ≡ held_after (ends_line all) piece
held_one_more all [] = ap ends_line (append-nil all)
held_one_more all (b ∷ bs) = end_behind all b bs
