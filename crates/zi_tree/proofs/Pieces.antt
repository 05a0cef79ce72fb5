-- The parts of a relative path are names.
use Rattle.std.proofs.Common.{◌≡◌, ℕ, ◌<◌, Bool, true, false, not, ◌&&◌, ◌||◌, ◌==◌, nat_eq, cond, List, [], ◌∷◌, ◌++◌, length, get_or, filter, Some, None, if◌then◌else◌, refl, ◌∙◌, ap, arith, bytes_eq, codes, zero, suc}
use Rattle.std.specs.List.{list_any, list_all, onto_first}
use Rattle.std.specs.Str.{is_utf8}
use Rattle.std.proofs.lemmas.List.Folds.{list_all-append, list_any-append}
use Rattle.std.proofs.lemmas.List.Elements.{filter-append}
use Rattle.std.proofs.lemmas.Bool.{and_parts, not-true, or_parts}
use Rattle.zi_tree.specs.Order.{has_byte, is_plain, is_name}
use Rattle.zi_tree.specs.Parts.{is_up, is_kept, is_absolute, between_slashes, parts_of}

pub name_from : (part : List ℕ) → is_utf8 part ≡ true → is_kept part ≡ true → is_up part ≡ false → has_byte 47 part ≡ false → has_byte 0 part ≡ false → is_name part ≡ true
name_from part u k d s z =
    let p = and_parts (not (bytes_eq part (codes ""))) (not (bytes_eq part (codes "."))) k in
    rw (u, not-true (bytes_eq part (codes "")) p.0, not-true (bytes_eq part (codes ".")) p.1, d, s, z) refl

pub plain_name : (part : List ℕ) → is_utf8 part ≡ true → is_plain part ≡ true → is_name part ≡ true
plain_name part u p = rw (u, p) refl

-- a name more
pub names_more : (parts : List (List ℕ)) (n : List ℕ) → list_all is_name parts ≡ true → is_name n ≡ true → list_all is_name (parts ++ n ∷ []) ≡ true
names_more parts n h k = list_all-append is_name parts (n ∷ []) ∙ rw (h, k) refl

-- a byte that the text hasn't is in no part
abbrev none_has : ℕ → List (List ℕ) → Bool
none_has c parts = list_all (λ part. not (has_byte c part)) parts

onto_free : (c x : ℕ) (parts : List (List ℕ)) → nat_eq x c ≡ false → none_has c parts ≡ true → none_has c (onto_first x parts) ≡ true
onto_free c x [] n h = rw n refl
onto_free c x (part ∷ parts) n h = rw n h

pub parts_free : (c : ℕ) (text : List ℕ) → has_byte c text ≡ false → none_has c (between_slashes text) ≡ true
parts_free c [] h = refl
parts_free c (x ∷ xs) h =
    let p = or_parts (nat_eq x c) (has_byte c xs) h in
    elim (x == 47) as (λ b. none_has c (cond b ([] ∷ between_slashes xs) (onto_first x (between_slashes xs))) ≡ true) [
      | true ↦ parts_free c xs p.1
      | false ↦ onto_free c x (between_slashes xs) p.0 (parts_free c xs p.1)
    ]

pub parts_no_slash : (text : List ℕ) → none_has 47 (between_slashes text) ≡ true
parts_no_slash [] = refl
parts_no_slash (x ∷ xs) =
    elim (x == 47) as (λ b. nat_eq x 47 ≡ b → none_has 47 (cond b ([] ∷ between_slashes xs) (onto_first x (between_slashes xs))) ≡ true) [
      | true ↦ λ e. parts_no_slash xs
      | false ↦ λ e. onto_free 47 x (between_slashes xs) e (parts_no_slash xs)
    ] refl

free_at : (c : ℕ) (parts : List (List ℕ)) (i : ℕ) (d : List ℕ) → i < length parts → none_has c parts ≡ true → has_byte c (get_or parts i d) ≡ false
free_at c [] i d lt h = absurd (omega arith)
free_at c (x ∷ xs) zero d lt h = not-true (has_byte c x) (and_parts (not (has_byte c x)) (none_has c xs) h).0
free_at c (x ∷ xs) (suc i) d lt h = free_at c xs i d (omega arith) (and_parts (not (has_byte c x)) (none_has c xs) h).1

-- this part of the text is a name
pub part_name : (text part : List ℕ) (i : ℕ) → has_byte 0 text ≡ false → (i < length (between_slashes text)) × (part ≡ get_or (between_slashes text) i part)
    → is_utf8 part ≡ true → is_kept part ≡ true → is_up part ≡ false → is_name part ≡ true
part_name text part i z at u k d =
    name_from part u k d (ap (has_byte 47) at.1 ∙ free_at 47 (between_slashes text) i part at.0 (parts_no_slash text)) (ap (has_byte 0) at.1 ∙ free_at 0 (between_slashes text) i part at.0 (parts_free 0 text z))

-- a text that is no relative path, and one that is
pub none_of : (text : List ℕ) → list_any is_up (between_slashes text) ≡ true → None ≡ parts_of text
none_of text h = rw h (by_tests (is_absolute text) (has_byte 0 text))
  where
    by_tests : (a z : Bool) → None ≡ (if not a && (not z && not true) then Some (filter is_kept (between_slashes text)) else None)
    by_tests true z = refl
    by_tests false true = refl
    by_tests false false = refl

pub some_of : (text : List ℕ) (parts : List (List ℕ)) → (is_absolute text || has_byte 0 text) ≡ false → list_any is_up (between_slashes text) ≡ false → parts ≡ filter is_kept (between_slashes text) → Some parts ≡ parts_of text
some_of text parts h k e =
    let p = or_parts (is_absolute text) (has_byte 0 text) h in
    rw (p.0, p.1, k, e) refl

-- a part more
pub kept_more : (before : List (List ℕ)) (part : List ℕ) → is_kept part ≡ true → filter is_kept (before ++ part ∷ []) ≡ filter is_kept before ++ part ∷ []
kept_more before part k = filter-append is_kept before (part ∷ []) ∙ rw k refl

pub no_up_more : (before : List (List ℕ)) (part : List ℕ) → list_any is_up before ≡ false → is_up part ≡ false → list_any is_up (before ++ part ∷ []) ≡ false
no_up_more before part h k = list_any-append is_up before (part ∷ []) ∙ rw (h, k) refl
