-- Trees that are read of what was written: their elements, one by one, and a tree for each view.
use Rattle.std.proofs.Common.{◌≡◌, ℕ, Bool, true, false, ◌&&◌, List, [], ◌∷◌, map, refl, sym, ap, ◌∙◌}
use Rattle.std.specs.Prelude.{if◌then◌else◌}
use Rattle.std.specs.List.{list_all, AllZip}
use Rattle.zi_xml.specs.Chars.{is_white}
use Rattle.zi_elements.specs.declared.element.Attr.{Attr}
use Rattle.zi_elements.specs.declared.element.Element.{Element}
use Rattle.zi_elements.specs.declared.element.Node.{Node}
use Rattle.zi_elements.specs.declared.element.Node.TheVariants as node
use Rattle.zi_elements.specs.Forest.{Forest, none, words, child, Elem, joined, elements, node_view, nodes_view, element_view}
use Rattle.zi_docout.specs.Amiss.{alone}
use Rattle.zi_docout.specs.Elements.{nodes, Adds}
use Rattle.zi_docout.specs.Same.{has_child, bare, unplaced, IsSame}
use Rattle.zi_docout.proofs.ForestLemmas.{child_view, words_view}
use Rattle.zi_docout.proofs.ToldLemmas.{child_bare}

-- A tree whose view is this.

abbrev nodes_of : Forest → List Node
nodes_of none = []
nodes_of (words t k) = node.Words t ∷ nodes_of k
nodes_of (child s n a f p k) = node.Child (record { space = s; name = n; attrs = a; children = nodes_of f; place = p }) ∷ nodes_of k

abbrev pub tree_of : Elem → Element
tree_of e = record { space = e.space; name = e.name; attrs = e.attrs; children = nodes_of e.inside; place = e.place }

nodes_back : (f : Forest) → nodes_view (nodes_of f) ≡ f
nodes_back none = refl
nodes_back (words t k) = ap (λ v. joined v (nodes_view (nodes_of k))) (words_view t) ∙ ap (words t) (nodes_back k)
nodes_back (child s n a f p k) =
    ap (λ v. joined v (nodes_view (nodes_of k))) (child_view (record { space = s; name = n; attrs = a; children = nodes_of f; place = p }))
    ∙ (ap (λ v. child s n a v p (nodes_view (nodes_of k))) (nodes_back f) ∙ ap (child s n a f p) (nodes_back k))

pub view_back : (e : Elem) → element_view (tree_of e) ≡ e
view_back e = ap (λ (v : Forest). record { space = e.space; name = e.name; attrs = e.attrs; inside = v; place = e.place }) (nodes_back e.inside)

-- elements as nodes that can be held

abbrev pub held_nodes : List Elem → List Node
held_nodes es = map (λ (e : Elem). node.Child (tree_of e)) es

pub held_back : (es : List Elem) → Adds [] (held_nodes es) es
held_back [] = refl
held_back (e ∷ es) =
    ap (λ v. v ∷ map node_view (held_nodes es)) (child_view (tree_of e) ∙ ap (λ (v : Elem). alone v) (view_back e))
    ∙ ap (λ v. alone e ∷ v) (held_back es)

-- What is read.

-- the elements that are read of elements that were written are those, one by one
pub read_elements : (b : Bool) (f : Forest) (es : List Elem) → bare b f ≡ unplaced (nodes es) → AllZip IsSame es (elements f)
read_elements b none [] h = tt
read_elements b none (e ∷ es) h = absurd (cc h)
read_elements b (words t k) es h = beside (b && list_all is_white t) (read_elements b k es) h
  where
    no_words : (t : List ℕ) (g : Forest) (es : List Elem) → words t g ≡ unplaced (nodes es) → ⊥
    no_words t g [] h = cc h
    no_words t g (e ∷ es) h = cc h

    beside : (c : Bool) → (bare b k ≡ unplaced (nodes es) → AllZip IsSame es (elements k)) → (if c then bare b k else words t (bare b k)) ≡ unplaced (nodes es) → AllZip IsSame es (elements k)
    beside true more g = more g
    beside false more g = absurd (no_words t (bare b k) es g)
read_elements b (child s n a f p k) [] h = absurd (cc h)
read_elements b (child s n a f p k) (e ∷ es) h =
    let c = parts s n a (bare (has_child f) f) 0 (bare b k) e.space e.name e.attrs (unplaced e.inside) 0 (unplaced (nodes es)) h in
    (record { space = c.0; name = c.1; attrs = c.2; inside = c.3 }, read_elements b k es c.4)
  where
    parts : (s n : List ℕ) (a : List Attr) (f : Forest) (p : ℕ) (k : Forest) (t m : List ℕ) (b : List Attr) (g : Forest) (q : ℕ) (l : Forest)
        → child s n a f p k ≡ child t m b g q l → (s ≡ t) × (n ≡ m) × (a ≡ b) × (f ≡ g) × (k ≡ l)
    parts s n a f p k t m b g q l h = (cc h, cc h, cc h, cc h, cc h)

-- where nothing was written nothing is read
pub read_none : (f : Forest) → bare (has_child f) f ≡ none → f ≡ none
read_none f h = empty f (sym (child_bare (has_child f) f) ∙ ap has_child h) h
  where
    empty : (f : Forest) → has_child f ≡ false → bare (has_child f) f ≡ none → f ≡ none
    empty none c h = refl
    empty (words t k) c h = absurd (no_words t k (has_child k) c h)
      where
        no_words : (t : List ℕ) (k : Forest) (b : Bool) → b ≡ false → bare b (words t k) ≡ none → ⊥
        no_words t k true c h = cc c
        no_words t k false c h = cc h
    empty (child s n a f p k) c h = absurd (cc c)
