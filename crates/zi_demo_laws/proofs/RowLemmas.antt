-- The demonstration as rows of a table: what the versions of each interface say of others, and which of them is chosen.
use Rattle.std.proofs.Common.{◌≡◌, ℕ, zero, suc, ◌-◌, ◌≤◌, List, [], ◌∷◌, ◌++◌, map, codes, refl, ap, ◌∙◌, arith}
use Rattle.std.proofs.lemmas.List.{map-append}
use Rattle.zi_elements.specs.Forest.{Elem}
use Rattle.zi_docout.specs.Elements.{nodes}
use Rattle.zi_demo.specs.Feeds.{Feed, requires_elem, restricts_elem, version, numbers, numbered, p_q_r, needs, root, two, last_three, feeds}

-- what a version says of another interface: that it is needed, or that it is to have one of these versions
pub data Piece : Type 0 where
  Need : List ℕ → Piece
  Bound : List ℕ → List ℕ → Piece

abbrev pub piece_elem : Piece → Elem
piece_elem (Need name) = requires_elem name
piece_elem (Bound range name) = restricts_elem range name

pub record Version : Type 0 where
  pub number : ℕ
  pub says : List Piece

abbrev pub version_elem : Version → Elem
version_elem v = version v.number (nodes (map piece_elem v.says))

-- an interface by its name, its versions, the greatest first, and the place of the chosen one
pub record Row : Type 0 where
  pub name : List ℕ
  pub versions : List Version
  pub pick : ℕ

abbrev pub feed_row : Row → Feed
feed_row r = record { name = r.name; versions = map version_elem r.versions }

abbrev pub saying : ℕ → List Piece → Version
saying number says = record { number = number; says = says }

abbrev pub bounds : List ℕ → List (List ℕ) → List Piece
bounds range others = map (Bound range) others

abbrev pub root_row : List (List ℕ) → Row
root_row names = record { name = codes "root"; versions = saying 1 (map Need names) ∷ []; pick = 0 }

abbrev pub two_row : List ℕ → List (List ℕ) → ℕ → Row
two_row name others pick = record { name = name; versions = saying 2 (bounds (codes "2..") others) ∷ saying 1 [] ∷ []; pick = pick }

abbrev pub three_row : List ℕ → List (List ℕ) → ℕ → Row
three_row name others pick =
    record { name = name; versions = saying 3 (bounds (codes "!3") others) ∷ saying 2 (bounds (codes "!2") others) ∷ saying 1 [] ∷ []; pick = pick }

abbrev pub needed_names : ℕ → List (List ℕ)
needed_names n = map numbered (numbers 1 n) ++ p_q_r

abbrev pub later_row : ℕ → Row
later_row i = two_row (numbered i) [] 0

abbrev pub p_row : Row
p_row = three_row (codes "p") (codes "q" ∷ codes "r" ∷ []) 0

abbrev pub q_row : Row
q_row = three_row (codes "q") (codes "r" ∷ []) 1

abbrev pub r_row : Row
r_row = three_row (codes "r") [] 2

abbrev pub last_rows : List Row
last_rows = p_row ∷ q_row ∷ r_row ∷ []

abbrev pub first_row : Row
first_row = two_row (numbered 1) p_q_r 1

-- those behind the root
abbrev pub other_rows : ℕ → List Row
other_rows n = first_row ∷ (map later_row (numbers 2 (n - 1)) ++ last_rows)

abbrev pub names_of : List Row → List (List ℕ)
names_of rs = map (λ (r : Row). r.name) rs

-- a root that needs all these, and these
abbrev pub with_root : List Row → List Row
with_root others = root_row (names_of others) ∷ others

abbrev pub rows : ℕ → List Row
rows n = with_root (other_rows n)

-- those behind the root are those that it needs
later_names : (is : List ℕ) → names_of (map later_row is ++ last_rows) ≡ map numbered is ++ p_q_r
later_names [] = refl
later_names (i ∷ is) = ap (λ v. numbered i ∷ v) (later_names is)

pub names_are : (n : ℕ) → 1 ≤ n → names_of (other_rows n) ≡ needed_names n
names_are zero h = absurd (omega arith)
names_are (suc m) h =
    let e : suc m - 1 ≡ m = omega arith in
    ap (λ v. numbered 1 ∷ v) (later_names (numbers 2 (suc m - 1)) ∙ ap (λ k. map numbered (numbers 2 k) ++ p_q_r) e)

pub needed_elems : (names : List (List ℕ)) → map piece_elem (map Need names) ≡ map requires_elem names
needed_elems [] = refl
needed_elems (name ∷ names) = ap (λ v. requires_elem name ∷ v) (needed_elems names)

pub bound_elems : (range : List ℕ) (others : List (List ℕ)) → map piece_elem (bounds range others) ≡ map (restricts_elem range) others
bound_elems range [] = refl
bound_elems range (name ∷ others) = ap (λ v. restricts_elem range name ∷ v) (bound_elems range others)

later_feeds : (is : List ℕ) → map feed_row (map later_row is) ≡ map (λ i. two (numbered i) []) is
later_feeds [] = refl
later_feeds (i ∷ is) = ap (λ v. two (numbered i) [] ∷ v) (later_feeds is)

root_feed : (n : ℕ) → 1 ≤ n → feed_row (root_row (names_of (other_rows n))) ≡ root n
unfolding needs
root_feed n h =
    ap (λ (v : List (List ℕ)). feed_row (root_row v)) (names_are n h)
    ∙ ap (λ (v : List Elem). record { name = codes "root"; versions = version 1 (nodes v) ∷ [] }) (needed_elems (needed_names n))

-- the rows are those of the feeds
pub feeds_are : (n : ℕ) → 1 ≤ n → map feed_row (rows n) ≡ feeds n
unfolding feeds
feeds_are n h =
    ap (λ (v : Feed). v ∷ map feed_row (other_rows n)) (root_feed n h)
    ∙ (ap (λ (v : List Feed). root n ∷ two (numbered 1) p_q_r ∷ v) (map-append feed_row (map later_row (numbers 2 (n - 1))) last_rows)
    ∙ ap (λ (v : List Feed). root n ∷ two (numbered 1) p_q_r ∷ (v ++ last_three)) (later_feeds (numbers 2 (n - 1))))
