-- An element among nodes.
use Rattle.std.proofs.Common.{◌≡◌, List, [], ◌∷◌, ◌++◌, map, Ok, Err, ap, ◌∙◌}
use Rattle.std.specs.Prelude.{Result, OnOk}
use Rattle.std.proofs.lemmas.List.{map-append}
use Rattle.zi_elements.specs.declared.element.Element.{Element}
use Rattle.zi_elements.specs.declared.element.Node.{Node}
use Rattle.zi_elements.specs.declared.element.Node.TheVariants as nodes
use Rattle.zi_elements.specs.Forest.{element_view, node_view}
use Rattle.zi_docout.specs.Elements.{Adds}
use Rattle.zi_docout.proofs.ForestLemmas.{child_view}

pub pushed : {X E : Type 0} (r : Result X E) (old new : List Node) (e : Element) → OnOk r (new ≡ old ++ nodes.Child e ∷ [])
    → OnOk r (Adds old new (element_view e ∷ []))
pushed (Ok u) old new e h =
    ap (map node_view) h ∙ (map-append node_view old (nodes.Child e ∷ []) ∙ ap (λ v. map node_view old ++ v ∷ []) (child_view e))
pushed (Err f) old new e h = h
