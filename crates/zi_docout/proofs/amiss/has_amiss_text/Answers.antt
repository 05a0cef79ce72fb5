use Rattle.std.proofs.Common.{◌≡◌, ◌+◌, suc, true, false, take, drop, ap, sym, ◌∙◌, ◌∷◌, [], ◌++◌, drop-cons}
use Rattle.std.proofs.lemmas.List.{take-append-drop, take_more}
use Rattle.zi_elements.specs.Forest.{node_view, nodes_view}
use Rattle.zi_docout.specs.Amiss.{count}
use Rattle.zi_docout.proofs.ForestLemmas.{count_nodes}
use Rattle.zi_docout.proofs.TextLemmas.{HasAmiss, amiss_found, amiss_not_found}
use Rattle.zi_docout.proofs.amiss.has_amiss_text.Goals as goal

pub returns-then-is_amiss_child : goal.returns-then-is_amiss_child
returns-then-is_amiss_child c =
    let i = c.loop-child.child-index in
    let x = c.child-item.result in
    let all = c.args.children.now in
    let n = count (nodes_view all) in
    let split : all ≡ take i all ++ x ∷ drop (suc i) all =
    sym (take-append-drop i all) ∙ ap (λ v. take i all ++ v) (drop-cons all i x c.loop-child-test.true ∙ ap (λ v. v ∷ drop (suc i) all) (sym c.child-item.is)) in
    let here : HasAmiss n (node_view x) ≡ true = ap (λ v. HasAmiss v (node_view x)) (count_nodes all) ∙ sym c.if-is_amiss_child.ensures in
    sym (amiss_found n all (take i all) x (drop (suc i) all) split here)

pub loop-child-preserved : goal.loop-child-preserved
loop-child-preserved c =
    let i = c.loop-child.child-index in
    let x = c.child-item.result in
    let all = c.args.children.now in
    let n = count (nodes_view all) in
    let more : take (i + 1) all ≡ take i all ++ x ∷ [] = take_more all i x c.loop-child-test.true ∙ ap (λ v. take i all ++ v ∷ []) (sym c.child-item.is) in
    let here : HasAmiss n (node_view x) ≡ false = ap (λ v. HasAmiss v (node_view x)) (count_nodes all) ∙ sym c.if-is_amiss_child.ensures in
    amiss_not_found n (take (i + 1) all) (take i all) x more c.loop-child.invariant here
