-- How long the texts of the demonstration are.
use Rattle.std.proofs.Common.{◌≡◌, ℕ, zero, suc, ◌+◌, ◌*◌, ◌≤◌, Bool, true, false, List, [], ◌∷◌, ◌++◌, map, length, codes, refl, ap, ◌∙◌, arith}
use Rattle.std.specs.Prelude.{◌==◌, decimal, if◌then◌else◌}
use Rattle.std.specs.List.{AllByRecursion, flat_map}
use Rattle.std.proofs.lemmas.List.{length-append}
use Rattle.zi_elements.specs.declared.element.Attr.{Attr}
use Rattle.zi_elements.specs.Forest.{Elem}
use Rattle.zi_elements.specs.Namespace.{injector}
use Rattle.zi_docout.specs.Canonical.{word_escaped, value_escaped, value_text, attr_text, tag_text, end_text, indent, rest_text, lines_text, declaring}
use Rattle.zi_docout.specs.Elements.{attr, nodes}
use Rattle.zi_demo.specs.Feeds.{address, requires_elem, restricts_elem, version, interface, text_of}
use Rattle.zi_demo_laws.proofs.RowLemmas.{Piece, Need, Bound, piece_elem, Version, version_elem, Row, feed_row}

-- Values: a character takes at most six.

short_either : (b : Bool) (x y : List ℕ) → length x ≤ 6 → length y ≤ 6 → length (if b then x else y) ≤ 6
short_either true x y h k = h
short_either false x y h k = k

word_short : (c : ℕ) → length (word_escaped c) ≤ 6
unfolding word_escaped
word_short c =
    short_either (c == 38) (codes "&amp;") _ (omega arith)
    (short_either (c == 60) (codes "&lt;") _ (omega arith) (short_either (c == 62) (codes "&gt;") _ (omega arith) (short_either (c == 13) (codes "&#13;") (c ∷ []) (omega arith) (omega arith))))

value_one : (c : ℕ) → length (value_escaped c) ≤ 6
unfolding value_escaped
value_one c =
    short_either (c == 34) (codes "&quot;") _ (omega arith)
    (short_either (c == 9) (codes "&#9;") _ (omega arith) (short_either (c == 10) (codes "&#10;") (word_escaped c) (omega arith) (word_short c)))

value_short : (v : List ℕ) → length (value_text v) ≤ 6 * length v
value_short [] = omega arith
value_short (c ∷ v) =
    let a : length (value_escaped c) ≤ 6 = value_one c in
    let b : length (value_text v) ≤ 6 * length v = value_short v in
    let e : length (value_escaped c ++ value_text v) ≡ length (value_escaped c) + length (value_text v) = length-append (value_escaped c) (value_text v) in
    omega (arith, e)

attr_short : (n v : List ℕ) → length (attr_text (attr n v)) ≤ length n + 4 + 6 * length v
attr_short n v =
    let a : length (n ++ 61 ∷ 34 ∷ (value_text v ++ 34 ∷ [])) ≡ length n + length (61 ∷ 34 ∷ (value_text v ++ 34 ∷ [])) = length-append n (61 ∷ 34 ∷ (value_text v ++ 34 ∷ [])) in
    let b : length (value_text v ++ 34 ∷ []) ≡ length (value_text v) + 1 = length-append (value_text v) (34 ∷ []) in
    let c : length (value_text v) ≤ 6 * length v = value_short v in
    omega (arith, a, b, c)

-- so many characters take the attributes
abbrev sizes : List Attr → ℕ
sizes [] = 0
sizes (a ∷ attrs) = length (attr_text a) + sizes attrs

attrs_length : (attrs : List Attr) → length (flat_map attr_text attrs) ≡ sizes attrs
attrs_length [] = refl
attrs_length (a ∷ attrs) = length-append (attr_text a) (flat_map attr_text attrs) ∙ ap (λ k. length (attr_text a) + k) (attrs_length attrs)

tag_length : (n : List ℕ) (attrs : List Attr) → length (tag_text n attrs) ≡ suc (length n + sizes attrs)
tag_length n attrs = ap suc (length-append n (flat_map attr_text attrs) ∙ ap (λ k. length n + k) (attrs_length attrs))

-- Elements.

end_length : (n : List ℕ) → length (end_text n) ≡ length n + 3
end_length n =
    let e : length (n ++ 62 ∷ []) ≡ length n + 1 = length-append n (62 ∷ []) in
    omega (arith, e)

indent_length : (d : ℕ) → length (indent d) ≡ 2 * d
indent_length zero = omega arith
indent_length (suc d) =
    let e : length (indent d) ≡ 2 * d = indent_length d in
    omega (arith, e)

-- the rest of an element in which elements stand, or nothing
rest_short : (d : ℕ) (n : List ℕ) (es : List Elem) (lines : List ℕ) → length (rest_text d n (nodes es) lines) ≤ length lines + length n + 2 * d + 5
rest_short d n [] lines = omega arith
rest_short d n (e ∷ es) lines =
    let a : length (lines ++ (indent d ++ end_text n)) ≡ length lines + length (indent d ++ end_text n) = length-append lines (indent d ++ end_text n) in
    let b : length (indent d ++ end_text n) ≡ length (indent d) + length (end_text n) = length-append (indent d) (end_text n) in
    let i : length (indent d) ≡ 2 * d = indent_length d in
    let t : length (end_text n) ≡ length n + 3 = end_length n in
    omega (arith, a, b, i, t)

four_joined : (a b c d : List ℕ) → length (a ++ (b ++ (c ++ 10 ∷ d))) ≡ length a + (length b + (length c + suc (length d)))
four_joined a b c d = length-append a (b ++ (c ++ 10 ∷ d)) ∙ ap (λ k. length a + k) (length-append b (c ++ 10 ∷ d) ∙ ap (λ k. length b + k) (length-append c (10 ∷ d)))

-- an element with elements in it takes this much, and those behind it
element_line : (d : ℕ) (s n : List ℕ) (attrs : List Attr) (inside : List Elem) (p : ℕ) (es : List Elem)
    → length (lines_text d (nodes (record { space = s; name = n; attrs = attrs; inside = nodes inside; place = p } ∷ es)))
    ≤ length (lines_text (suc d) (nodes inside)) + sizes attrs + 2 * length n + 4 * d + 7 + length (lines_text d (nodes es))
element_line d s n attrs inside p es =
    let lines : List ℕ = lines_text (suc d) (nodes inside) in
    let e : length (indent d ++ (tag_text n attrs ++ (rest_text d n (nodes inside) lines ++ 10 ∷ lines_text d (nodes es))))
    ≡ length (indent d) + (length (tag_text n attrs) + (length (rest_text d n (nodes inside) lines) + suc (length (lines_text d (nodes es)))))
    = four_joined (indent d) (tag_text n attrs) (rest_text d n (nodes inside) lines) (lines_text d (nodes es)) in
    let i : length (indent d) ≡ 2 * d = indent_length d in
    let t : length (tag_text n attrs) ≡ suc (length n + sizes attrs) = tag_length n attrs in
    let r : length (rest_text d n (nodes inside) lines) ≤ length lines + length n + 2 * d + 5 = rest_short d n inside lines in
    omega (arith, e, i, t, r)

-- Pieces.

abbrev pub short : ℕ
short = 20

abbrev pub IsShortPiece : Piece → Type 0
IsShortPiece (Need name) = length name ≤ short
IsShortPiece (Bound range name) = (length range ≤ short) × (length name ≤ short)

address_length : (name : List ℕ) → length name ≤ short → length (address name) ≤ 30
address_length name h =
    let a : length ((codes "/demo/" ++ name) ++ codes ".xml") ≡ length (codes "/demo/" ++ name) + 4 = length-append (codes "/demo/" ++ name) (codes ".xml") in
    let b : length (codes "/demo/" ++ name) ≡ 6 + length name = length-append (codes "/demo/") name in
    omega (arith, a, b)

pieces_short : (xs : List Piece) → AllByRecursion IsShortPiece xs → length (lines_text 2 (nodes (map piece_elem xs))) ≤ 400 * length xs
unfolding requires_elem restricts_elem
pieces_short [] h = omega arith
pieces_short (Need name ∷ xs) h =
    let rest : length (lines_text 2 (nodes (map piece_elem xs))) ≤ 400 * length xs = pieces_short xs h.1 in
    let long : length (address name) ≤ 30 = address_length name h.0 in
    let one : length (attr_text (attr (codes "interface") (address name))) ≤ 9 + 4 + 6 * length (address name) = attr_short (codes "interface") (address name) in
    let line = element_line 2 injector (codes "requires") (attr (codes "interface") (address name) ∷ []) [] 0 (map piece_elem xs) in
    omega (arith, line)
pieces_short (Bound range name ∷ xs) h =
    let rest : length (lines_text 2 (nodes (map piece_elem xs))) ≤ 400 * length xs = pieces_short xs h.1 in
    let long : length (address name) ≤ 30 = address_length name h.0.1 in
    let narrow : length range ≤ 20 = h.0.0 in
    let one : length (attr_text (attr (codes "interface") (address name))) ≤ 9 + 4 + 6 * length (address name) = attr_short (codes "interface") (address name) in
    let two : length (attr_text (attr (codes "version") range)) ≤ 7 + 4 + 6 * length range = attr_short (codes "version") range in
    let line = element_line 2 injector (codes "restricts") (attr (codes "interface") (address name) ∷ attr (codes "version") range ∷ []) [] 0 (map piece_elem xs) in
    omega (arith, line)

-- Versions.

pub record IsShortVersion (v : Version) : Type 0 where
  pub number : length (decimal v.number) ≤ short
  pub says : AllByRecursion IsShortPiece v.says

-- so many pieces
abbrev pub pieces_in : List Version → ℕ
pieces_in [] = 0
pieces_in (v ∷ vs) = length v.says + pieces_in vs

versions_short : (vs : List Version) → AllByRecursion IsShortVersion vs → length (lines_text 1 (nodes (map version_elem vs))) ≤ 500 * length vs + 400 * pieces_in vs
unfolding version
versions_short [] h = omega arith
versions_short (v ∷ vs) h =
    let t : List ℕ = decimal v.number in
    let rest : length (lines_text 1 (nodes (map version_elem vs))) ≤ 500 * length vs + 400 * pieces_in vs = versions_short vs h.1 in
    let inner : length (lines_text 2 (nodes (map piece_elem v.says))) ≤ 400 * length v.says = pieces_short v.says h.0.says in
    let small : length t ≤ 20 = h.0.number in
    let one : length (attr_text (attr (codes "id") (codes "v" ++ t))) ≤ 2 + 4 + 6 * suc (length t) = attr_short (codes "id") (codes "v" ++ t) in
    let two : length (attr_text (attr (codes "version") t)) ≤ 7 + 4 + 6 * length t = attr_short (codes "version") t in
    let three : length (attr_text (attr (codes "local-path") (codes "."))) ≤ 10 + 4 + 6 = attr_short (codes "local-path") (codes ".") in
    let line = element_line 1 injector (codes "implementation") (attr (codes "id") (codes "v" ++ t) ∷ attr (codes "version") t ∷ attr (codes "local-path") (codes ".") ∷ []) (map piece_elem v.says) 0 (map version_elem vs) in
    omega (arith, line)

-- The whole.

declared : length (attr_text declaring) ≤ 400
unfolding injector
declared =
    let e : length (attr_text (attr (codes "xmlns") injector)) ≤ 5 + 4 + 6 * length injector = attr_short (codes "xmlns") injector in
    omega (arith, e)

whole_length : (a b c : List ℕ) → length (a ++ 10 ∷ (b ++ (c ++ 10 ∷ []))) ≡ length a + suc (length b + (length c + 1))
whole_length a b c = length-append a (10 ∷ (b ++ (c ++ 10 ∷ []))) ∙ ap (λ k. length a + suc k) (length-append b (c ++ 10 ∷ []) ∙ ap (λ k. length b + k) (length-append c (10 ∷ [])))

pub text_short : (row : Row) → AllByRecursion IsShortVersion row.versions → length (text_of (feed_row row)) ≤ 1000 + 500 * length row.versions + 400 * pieces_in row.versions
unfolding text_of interface
text_short row h =
    let f : List Elem = map version_elem row.versions in
    let lines : List ℕ = lines_text 1 (nodes f) in
    let inner : length lines ≤ 500 * length row.versions + 400 * pieces_in row.versions = versions_short row.versions h in
    let tag : length (tag_text (codes "interface") (declaring ∷ [])) ≡ suc (9 + sizes (declaring ∷ [])) = tag_length (codes "interface") (declaring ∷ []) in
    let d : length (attr_text declaring) ≤ 400 = declared in
    let rest : length (rest_text 0 (codes "interface") (nodes f) lines) ≤ length lines + 9 + 2 * 0 + 5 = rest_short 0 (codes "interface") f lines in
    let all = whole_length (codes "<?xml version=\"1.0\" encoding=\"utf-8\"?>") (tag_text (codes "interface") (declaring ∷ [])) (rest_text 0 (codes "interface") (nodes f) lines) in
    omega (arith, all)
