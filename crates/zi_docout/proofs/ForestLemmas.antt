-- Nodes one behind another, and what is said of each of them.
use Rattle.std.proofs.Common.{◌≡◌, ℕ, suc, ◌+◌, List, [], ◌∷◌, ◌++◌, length, refl, sym, ap, ◌∙◌, append_assoc, arith}
use Rattle.zi_elements.specs.declared.element.Element.{Element, fold-Element, fold_out-Element}
use Rattle.zi_elements.specs.declared.element.Node.{Node, fold-roll-Node, fold_out-Node, out-Node, map-Node}
use Rattle.zi_elements.specs.declared.element.Node.TheOpen.{Node-F}
use Rattle.zi_elements.specs.declared.element.Node.TheVariants as nodes
use Rattle.zi_elements.specs.Forest.{Forest, none, words, child, joined, node_step, element_step, node_view, nodes_view}
use Rattle.zi_docout.specs.Canonical.{lines_text, rest_text, indent, tag_text}
use Rattle.zi_docout.specs.Amiss.{texts, count, Standing, standing}
use Rattle.zi_doc_laws.proofs.FineLaws.{joined_none}

pub node_alone : (x : Node) → nodes_view (x ∷ []) ≡ node_view x
node_alone x = joined_none (node_view x)

pub child_view : (e : Element) → node_view (nodes.Child e) ≡ child e.space e.name e.attrs (nodes_view e.children) e.place none
child_view e = ap node_view (sym (nodes.rolls-Child e)) ∙ (fold-roll-Node Forest Forest node_step element_step (Node-F.Child e) ∙ fold_out-Element Forest Forest node_step element_step e)

pub words_view : (t : List ℕ) → node_view (nodes.Words t) ≡ words t none
words_view t = ap node_view (sym (nodes.rolls-Words t)) ∙ fold-roll-Node Forest Forest node_step element_step (Node-F.Words t)

pub texts_joined : (f g : Forest) → texts (joined f g) ≡ texts f ++ texts g
texts_joined none g = refl
texts_joined (words t f) g = ap (λ v. t ∷ v) (texts_joined f g)
texts_joined (child s n a k p f) g = texts_joined f g

pub standing_joined : (d : ℕ) (f g : Forest) → standing d (joined f g) ≡ standing d f ++ standing d g
standing_joined d none g = refl
standing_joined d (words t f) g = standing_joined d f g
standing_joined d (child s n a k p f) g =
    let e : Standing = record { around = d; space = s; name = n; attrs = a; inside = k } in
    ap (λ v. e ∷ (standing (suc d) k ++ v)) (standing_joined d f g) ∙ ap (λ v. e ∷ v) (sym (append_assoc (standing (suc d) k) (standing d f) (standing d g)))

pub lines_joined : (d : ℕ) (f g : Forest) → lines_text d (joined f g) ≡ lines_text d f ++ lines_text d g
lines_joined d none g = refl
lines_joined d (words t f) g = lines_joined d f g
lines_joined d (child s n a k p f) g =
    let r : List ℕ = rest_text d n k (lines_text (suc d) k) in
    let x : List ℕ = lines_text d f in
    let y : List ℕ = lines_text d g in
    ap (λ v. indent d ++ (tag_text n a ++ (r ++ 10 ∷ v))) (lines_joined d f g)
    ∙ (ap (λ v. indent d ++ (tag_text n a ++ v)) (sym (append_assoc r (10 ∷ x) y))
    ∙ (ap (λ v. indent d ++ v) (sym (append_assoc (tag_text n a) (r ++ 10 ∷ x) y))
    ∙ sym (append_assoc (indent d) (tag_text n a ++ (r ++ 10 ∷ x)) y)))

pub count_joined : (f g : Forest) → count (joined f g) ≡ count f + count g
count_joined none g = sym (zero_add (count g))
  where
    zero_add : (n : ℕ) → 0 + n ≡ n
    zero_add n = omega arith
count_joined (words t f) g = ap suc (count_joined f g) ∙ omega arith
count_joined (child s n a k p f) g = ap suc (count_joined f g) ∙ omega arith

layer_count : (o : Node-F Node Element) → count (node_step (map-Node Node Element Forest Forest node_view (fold-Element Forest Forest node_step element_step) o)) ≡ 1
layer_count (Node-F.Child e) = ap count (fold_out-Element Forest Forest node_step element_step e)
layer_count (Node-F.Words t) = refl

node_count : (x : Node) → count (node_view x) ≡ 1
node_count x = ap count (fold_out-Node Forest Forest node_step element_step x) ∙ layer_count (out-Node x)

pub count_nodes : (xs : List Node) → count (nodes_view xs) ≡ length xs
count_nodes [] = refl
count_nodes (x ∷ xs) = count_joined (node_view x) (nodes_view xs) ∙ omega (arith, node_count x, count_nodes xs)
