-- Trees that are the same, places and white space beside elements aside, as lists of elements; and a tree for each view.
use Rattle.std.proofs.Common.{◌≡◌, ℕ, Bool, true, false, List, [], ◌∷◌, ◌++◌, map, filter, cond, refl, sym, ap, subst, ◌∙◌}
use Rattle.std.specs.Prelude.{◌&&◌, if◌then◌else◌}
use Rattle.std.specs.List.{list_all, flat_map}
use Rattle.zi_xml.specs.Chars.{is_white}
use Rattle.zi_elements.specs.declared.element.Attr.{Attr}
use Rattle.zi_elements.specs.declared.element.Element.{Element}
use Rattle.zi_elements.specs.declared.element.Node.{Node}
use Rattle.zi_elements.specs.declared.element.Node.TheVariants as nodes
use Rattle.zi_elements.specs.Forest.{Forest, none, words, child, Elem, joined, gathered, elements, nodes_view, element_view, text_in}
use Rattle.zi_docout.specs.Amiss.{alone}
use Rattle.zi_docout.specs.Elements as made
use Rattle.zi_docout.specs.Same.{has_child, bare, unplaced, IsSame}
use Rattle.zi_docout.proofs.ForestLemmas.{child_view, words_view}
use Rattle.zi_docout.proofs.ToldLemmas.{child_bare}

-- A tree whose view is this.

abbrev nodes_of : Forest → List Node
nodes_of none = []
nodes_of (words t k) = nodes.Words t ∷ nodes_of k
nodes_of (child s n a f p k) = nodes.Child (record { space = s; name = n; attrs = a; children = nodes_of f; place = p }) ∷ nodes_of k

abbrev pub tree_of : Elem → Element
tree_of e = record { space = e.space; name = e.name; attrs = e.attrs; children = nodes_of e.inside; place = e.place }

nodes_back : (f : Forest) → nodes_view (nodes_of f) ≡ f
nodes_back none = refl
nodes_back (words t k) = ap (λ v. joined v (nodes_view (nodes_of k))) (words_view t) ∙ ap (words t) (nodes_back k)
nodes_back (child s n a f p k) =
    ap (λ v. joined v (nodes_view (nodes_of k))) (child_view (record { space = s; name = n; attrs = a; children = nodes_of f; place = p }))
    ∙ (ap (λ v. child s n a v p (nodes_view (nodes_of k))) (nodes_back f) ∙ ap (child s n a f p) (nodes_back k))

pub view_back : (e : Elem) → element_view (tree_of e) ≡ e
view_back e = ap (λ (v : Forest). record { space = e.space; name = e.name; attrs = e.attrs; inside = v; place = e.place }) (nodes_back e.inside)

-- Without white space beside elements, and without places: the elements of a level are those, one by one.

abbrev pub stripped : Elem → Elem
stripped e = record { space = e.space; name = e.name; attrs = e.attrs; inside = bare (has_child e.inside) e.inside; place = 0 }

abbrev pub without_places : Elem → Elem
without_places e = record { space = e.space; name = e.name; attrs = e.attrs; inside = unplaced e.inside; place = 0 }

elements_bare : (b : Bool) (f : Forest) → elements (bare b f) ≡ map stripped (elements f)
elements_bare b none = refl
elements_bare b (words t k) = either (b && list_all is_white t) (elements_bare b k)
  where
    either : (c : Bool) → elements (bare b k) ≡ map stripped (elements k) → elements (if c then bare b k else words t (bare b k)) ≡ map stripped (elements k)
    either true h = h
    either false h = h
elements_bare b (child s n a f p k) = ap (λ v. record { space = s; name = n; attrs = a; inside = bare (has_child f) f; place = 0 } ∷ v) (elements_bare b k)

elements_unplaced : (f : Forest) → elements (unplaced f) ≡ map without_places (elements f)
elements_unplaced none = refl
elements_unplaced (words t k) = elements_unplaced k
elements_unplaced (child s n a f p k) = ap (λ v. record { space = s; name = n; attrs = a; inside = unplaced f; place = 0 } ∷ v) (elements_unplaced k)

-- Two lists of elements that are the same, one by one.
abbrev pub AreSame : List Elem → List Elem → Type 0
AreSame [] [] = Unit {0}
AreSame [] (r ∷ rs) = ⊥
AreSame (w ∷ ws) [] = ⊥
AreSame (w ∷ ws) (r ∷ rs) = IsSame w r × AreSame ws rs

one_same : (w r : Elem) → stripped r ≡ without_places w → IsSame w r
one_same w r h = record { space = ap (λ (e : Elem). e.space) h; name = ap (λ (e : Elem). e.name) h; attrs = ap (λ (e : Elem). e.attrs) h; inside = ap (λ (e : Elem). e.inside) h }

all_same : (ws rs : List Elem) → map stripped rs ≡ map without_places ws → AreSame ws rs
all_same [] [] h = tt
all_same [] (r ∷ rs) h = absurd (cc h)
all_same (w ∷ ws) [] h = absurd (cc h)
all_same (w ∷ ws) (r ∷ rs) h = (one_same w r (heads h), all_same ws rs (tails h))
  where
    heads : stripped r ∷ map stripped rs ≡ without_places w ∷ map without_places ws → stripped r ≡ without_places w
    heads e = cc e

    tails : stripped r ∷ map stripped rs ≡ without_places w ∷ map without_places ws → map stripped rs ≡ map without_places ws
    tails e = cc e

-- what stands in elements that are the same
inside_same : (w r : Elem) → IsSame w r → AreSame (elements w.inside) (elements r.inside)
inside_same w r s =
    all_same (elements w.inside) (elements r.inside)
    (sym (elements_bare (has_child r.inside) r.inside) ∙ (ap elements s.inside ∙ elements_unplaced w.inside))

made_inside : (es : List Elem) → elements (gathered (map alone es)) ≡ es
made_inside [] = refl
made_inside (e ∷ es) = ap (λ v. e ∷ v) (made_inside es)

-- what stands in an element that is the same as one that was made of elements
pub same_inside : (n : List ℕ) (a : List Attr) (es : List Elem) (r : Elem) → IsSame (made.elem n a es) r → AreSame es (elements r.inside)
same_inside n a es r s = subst (λ v. AreSame v (elements r.inside)) (made_inside es) (inside_same (made.elem n a es) r s)

-- A text that stands alone is read as it was written.

bare_text : (f : Forest) → text_in (bare false f) ≡ text_in f
bare_text none = refl
bare_text (words t k) = ap (λ v. t ++ v) (bare_text k)
bare_text (child s n a f p k) = bare_text k

-- where nothing but texts was written
pub same_text : (f g : Forest) → has_child g ≡ false → bare (has_child f) f ≡ g → text_in f ≡ text_in g
same_text f g alone h =
    let childless : has_child f ≡ false = sym (child_bare (has_child f) f) ∙ (ap has_child h ∙ alone) in
    sym (bare_text f) ∙ (ap (λ b. text_in (bare b f)) (sym childless) ∙ ap text_in h)

-- Of all in a list something is so.
abbrev pub Each : {X : Type 0} → (X → Type 0) → List X → Type 0
Each P [] = Unit {0}
Each P (x ∷ xs) = P x × Each P xs

pub each_append : {X : Type 0} (P : X → Type 0) (xs ys : List X) → Each P xs → Each P ys → Each P (xs ++ ys)
each_append P [] ys h k = k
each_append P (x ∷ xs) ys h k = (h.0, each_append P xs ys h.1 k)

-- two things are so of each
pub each_both : {X : Type 0} (P Q : X → Type 0) (xs : List X) → Each P xs → Each Q xs → Each (λ x. P x × Q x) xs
each_both P Q [] h k = tt
each_both P Q (x ∷ xs) h k = ((h.0, k.0), each_both P Q xs h.1 k.1)

-- elements that are the same as what was made of values: of each something is so
pub each_read : {X : Type 0} (make : X → Elem) (P : X → Type 0) (Q : Elem → Type 0) → ((x : X) (r : Elem) → P x → IsSame (make x) r → Q r)
    → (xs : List X) (rs : List Elem) → Each P xs → AreSame (map make xs) rs → Each Q rs
each_read make P Q one [] [] h s = tt
each_read make P Q one [] (r ∷ rs) h s = absurd s
each_read make P Q one (x ∷ xs) [] h s = absurd s
each_read make P Q one (x ∷ xs) (r ∷ rs) h s = (one x r h.0 s.0, each_read make P Q one xs rs h.1 s.1)

-- values that are read of what was made of them
pub values_back : {X : Type 0} (make : X → Elem) (value : Elem → X) (P : X → Type 0) → ((x : X) (r : Elem) → P x → IsSame (make x) r → value r ≡ x)
    → (xs : List X) (rs : List Elem) → Each P xs → AreSame (map make xs) rs → map value rs ≡ xs
values_back make value P one [] [] h s = refl
values_back make value P one [] (r ∷ rs) h s = absurd s
values_back make value P one (x ∷ xs) [] h s = absurd s
values_back make value P one (x ∷ xs) (r ∷ rs) h s =
    ap (λ v. v ∷ map value rs) (one x r h.0 s.0) ∙ ap (λ v. x ∷ v) (values_back make value P one xs rs h.1 s.1)

-- Two lists of which the first is the same as one that was put together.
pub record Parted (ws vs rs : List Elem) : Type 0 where
  pub front : List Elem
  pub back : List Elem
  pub whole : rs ≡ front ++ back
  pub front_same : AreSame ws front
  pub back_same : AreSame vs back

pub parted : (ws vs rs : List Elem) → AreSame (ws ++ vs) rs → Parted ws vs rs
parted [] vs rs s = record { front = []; back = rs; whole = refl; front_same = tt; back_same = s }
parted (w ∷ ws) vs [] s = absurd s
parted (w ∷ ws) vs (r ∷ rs) s = more (parted ws vs rs s.1)
  where
    more : Parted ws vs rs → Parted (w ∷ ws) vs (r ∷ rs)
    more p = record { front = r ∷ p.front; back = p.back; whole = ap (λ v. r ∷ v) p.whole; front_same = (s.0, p.front_same); back_same = p.back_same }

-- Tests that all pass, or none does.

abbrev pub if_all : Bool → List Elem → List Elem
if_all true es = es
if_all false es = []

pub sifted : (test : Elem → Bool) (b : Bool) (rs : List Elem) → Each (λ r. test r ≡ b) rs → filter test rs ≡ if_all b rs
sifted test true [] h = refl
sifted test false [] h = refl
sifted test true (r ∷ rs) h = ap (λ c. cond c (r ∷ filter test rs) (filter test rs)) h.0 ∙ ap (λ v. r ∷ v) (sifted test true rs h.1)
sifted test false (r ∷ rs) h = ap (λ c. cond c (r ∷ filter test rs) (filter test rs)) h.0 ∙ sifted test false rs h.1

pub filter_joined : (test : Elem → Bool) (xs ys : List Elem) → filter test (xs ++ ys) ≡ filter test xs ++ filter test ys
filter_joined test [] ys = refl
filter_joined test (x ∷ xs) ys = either (test x) (filter_joined test xs ys)
  where
    either : (b : Bool) → filter test (xs ++ ys) ≡ filter test xs ++ filter test ys
        → cond b (x ∷ filter test (xs ++ ys)) (filter test (xs ++ ys)) ≡ cond b (x ∷ filter test xs) (filter test xs) ++ filter test ys
    either true h = ap (λ v. x ∷ v) h
    either false h = h

-- elements of which all pass or none does, before others
pub sifted_front : (test : Elem → Bool) (b : Bool) (xs ys zs : List Elem) → Each (λ r. test r ≡ b) xs → filter test ys ≡ zs → filter test (xs ++ ys) ≡ if_all b xs ++ zs
sifted_front test b xs ys zs h k = filter_joined test xs ys ∙ (ap (λ v. v ++ filter test ys) (sifted test b xs h) ∙ ap (λ v. if_all b xs ++ v) k)

-- nothing is made of any
pub nothing_of : {Y : Type 0} (f : Elem → List Y) (rs : List Elem) → Each (λ r. f r ≡ []) rs → flat_map f rs ≡ []
nothing_of f [] h = refl
nothing_of f (r ∷ rs) h = ap (λ v. v ++ flat_map f rs) h.0 ∙ nothing_of f rs h.1
