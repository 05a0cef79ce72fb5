-- What addresses and local paths mean can be carried, where the address of the feed and the text can be.
use Rattle.std.specs.Prelude.{◌==◌, if◌then◌else◌, Ok, Err, option_map}
use Rattle.std.proofs.Common.{◌≡◌, ℕ, Bool, true, false, ◌||◌, ◌&&◌, List, [], ◌∷◌, ◌++◌, Option, Some, None, codes, refl, ap, ◌∙◌, arith}
use Rattle.std.specs.List.{flat_map, list_all}
use Rattle.std.proofs.lemmas.Bool.Decides.{nat_tests}
use Rattle.std.proofs.lemmas.Bool.{and_parts}
use Rattle.url.specs.Parser.{parse_url, Parsed}
use Rattle.url.specs.Parts.{Parts, serialize}
use Rattle.zi_address.specs.Texts.{same, is_none, pieces_of}
use Rattle.zi_address.specs.Address.{is_web, is_local, is_seen, web_text, joined_to, without_last, taken, names_left, settled, path_of, placed, resolved}
use Rattle.zi_doc_laws.specs.Trees.{IsCarried}
use Rattle.zi_doc_laws.proofs.CarriedLaws.{none_carried, both_carried}
use Rattle.zi_sels_laws.proofs.LikeLaws.{Each, each_append}
use Rattle.zi_written_laws.proofs.TextLaws.{is_shown, shown_carried, pieces_carried, IsCarriedOr}

slash_carried : IsCarried (47 ∷ [])
slash_carried = shown_carried (47 ∷ []) refl

-- Lists of parts.

abbrev AreCarriedOr : Option (List (List ℕ)) → Type 0
AreCarriedOr None = Unit {0}
AreCarriedOr (Some ps) = Each IsCarried ps

last_away : (ps : List (List ℕ)) → Each IsCarried ps → Each IsCarried (without_last ps)
last_away [] h = tt
last_away (x ∷ []) h = tt
last_away (x ∷ y ∷ ys) h = (h.0, last_away (y ∷ ys) h.1)

left_carried : (xs : List (List ℕ)) → Each IsCarried xs → Each IsCarried (names_left xs)
left_carried [] h = tt
left_carried (x ∷ xs) h = by (is_none x || same x (codes ".") || same x (codes "..")) (taken xs == 0) (left_carried xs h.1)
  where
    by : (b c : Bool) → Each IsCarried (names_left xs) → Each IsCarried (if b then names_left xs else if c then x ∷ names_left xs else names_left xs)
    by true c k = k
    by false true k = (h.0, k)
    by false false k = k

settled_carried : (ps : List (List ℕ)) → Each IsCarried ps → AreCarriedOr (settled ps)
settled_carried ps h = by (taken ps == 0)
  where
    by : (b : Bool) → AreCarriedOr (if b then Some (names_left ps) else None)
    by true = left_carried ps h
    by false = tt

behind_slashes : (ps : List (List ℕ)) → Each IsCarried ps → IsCarried (flat_map (λ p. 47 ∷ p) ps)
behind_slashes [] h = none_carried
behind_slashes (p ∷ ps) h = both_carried (47 ∷ p) (flat_map (λ p. 47 ∷ p) ps) (both_carried (47 ∷ []) p slash_carried h.0) (behind_slashes ps h.1)

path_carried : (ps : List (List ℕ)) → Each IsCarried ps → IsCarried (path_of ps)
path_carried [] h = slash_carried
path_carried (p ∷ ps) h = behind_slashes (p ∷ ps) h

pub placed_carried : (base text : List ℕ) → IsCarried base → IsCarried text → IsCarriedOr (placed base text)
unfolding placed
placed_carried base text h k =
    let ps : List (List ℕ) = without_last (pieces_of 47 base) ++ pieces_of 47 text in
    let parts : Each IsCarried ps =
    each_append IsCarried (without_last (pieces_of 47 base)) (pieces_of 47 text) (last_away (pieces_of 47 base) (pieces_carried 47 base (omega arith) h)) (pieces_carried 47 text (omega arith) k) in
    by (is_local text) (settled ps) (settled_carried ps parts)
  where
    by : (b : Bool) (o : Option (List (List ℕ))) → AreCarriedOr o → IsCarriedOr (if b then Some text else option_map path_of o)
    by true o x = k
    by false None x = tt
    by false (Some qs) x = path_carried qs x

-- Addresses of the web.

seen_shown : (c : ℕ) → is_seen c ≡ true → is_shown c ≡ true
seen_shown c h = grind (arith, nat_tests)

all_shown : (t : List ℕ) → list_all is_seen t ≡ true → list_all is_shown t ≡ true
all_shown [] h = refl
all_shown (c ∷ t) h =
    let x = and_parts (is_seen c) (list_all is_seen t) h in
    ap (λ b. b && list_all is_shown t) (seen_shown c x.0) ∙ all_shown t x.1

web_carried : (url : Parsed Parts) → IsCarriedOr (web_text url)
web_carried (Ok url) = by (is_web (serialize url)) (list_all is_seen (serialize url)) refl
  where
    by : (b c : Bool) → list_all is_seen (serialize url) ≡ c → IsCarriedOr (if b && c then Some (serialize url) else None)
    by true true e = shown_carried (serialize url) (all_shown (serialize url) e)
    by true false e = tt
    by false c e = tt
web_carried (Err e) = tt

joined_carried : (base : Parsed Parts) (text : List ℕ) → IsCarriedOr (joined_to base text)
joined_carried (Ok base) text = web_carried (parse_url (Some base) text)
joined_carried (Err e) text = tt

pub resolved_carried : (base text : List ℕ) → IsCarried base → IsCarried text → IsCarriedOr (resolved base text)
unfolding resolved
resolved_carried base text h k = by (is_web text) (is_local base) (placed_carried base text h k) (joined_carried (parse_url None base) text)
  where
    by : (b c : Bool) → IsCarriedOr (placed base text) → IsCarriedOr (joined_to (parse_url None base) text)
        → IsCarriedOr (if b then Some text else if c then placed base text else joined_to (parse_url None base) text)
    by true c one two = k
    by false true one two = one
    by false false one two = two
