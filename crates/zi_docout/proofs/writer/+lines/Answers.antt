use Rattle.std.proofs.Common.{◌≡◌, ◌+◌, ◌<◌, suc, List, take, drop, ap, sym, ◌∙◌, ◌∷◌, [], ◌++◌, drop-cons, arith, Some, Err, subst}
use Rattle.std.specs.List.{slice_get}
use Rattle.std.proofs.lemmas.List.{take-append-drop, take_more}
use Rattle.zi_elements.specs.declared.element.Node.{Node}
use Rattle.zi_elements.specs.Forest.{nodes_view}
use Rattle.zi_docout.specs.Canonical.{lines_text, rest_text, words_text, indent, end_text}
use Rattle.zi_docout.specs.Amiss.{standing}
use Rattle.zi_docout.specs.Answers.{walk, Writes}
use Rattle.zi_docout.proofs.FineLemmas.{fine}
use Rattle.zi_docout.proofs.WalkLemmas.{moved, wrote_child, wrote_words, writes_off, words_alone, child_rest, below_64, words_put, lines_put}
use Rattle.zi_docout.proofs.writer.+lines.Goals as goal
use Rattle.zi_docout.proofs.writer.+lines.Goals.{put_lines-in-Child+in-Ok, put_lines-in-Words}

pub put_lines-returns-in-Err : goal.put_lines-returns-in-Err
put_lines-returns-in-Err t c =
    let i = c.loop-node.node-index in
    let x = c.node-item.result in
    let all = c.args.nodes.now in
    let d = c.args.around in
    let split : all ≡ take i all ++ x ∷ drop (suc i) all =
    sym (take-append-drop i all) ∙ ap (λ v. take i all ++ v) (drop-cons all i x c.loop-node-test.true ∙ ap (λ v. v ∷ drop (suc i) all) (sym c.node-item.is)) in
    let P : List Node → Type 0 = λ v. Writes c.args.number (standing d (nodes_view v)) (lines_text d (nodes_view all)) c.args.text.now.items c.put_line.new.text.items (Err c.in-Err.fault) in
    subst P (sym split) (writes_off d c.args.number c.loop-node.next (take i all) x (drop (suc i) all) c.in-Child.element (lines_text d (nodes_view all)) c.args.text.now.items c.loop-node.text.items c.put_line.new.text.items c.in-Err.fault c.in-Child.is c.loop-node.invariant c.in-Err.ensures)

pub put_lines-loop-node-preserved : goal.put_lines-loop-node-preserved
put_lines-loop-node-preserved t c =
    let i = c.loop-node.node-index in
    let x = c.node-item.result in
    let all = c.args.nodes.now in
    let d = c.args.around in
    let n = c.args.number in
    let old = c.args.text.now.items in
    let mid = c.loop-node.text.items in
    let more : take (i + 1) all ≡ take i all ++ x ∷ [] = take_more all i x c.loop-node-test.true ∙ ap (λ v. take i all ++ v ∷ []) (sym c.node-item.is) in
    elim c.match-node.branch [
      | put_lines-in-Child+in-Ok w ↦ moved d n (take i all ++ x ∷ []) (take (i + 1) all) old w.put_line.new.text.items c.match-node.text.items w.in-Ok.after c.match-node.next more (ap (λ v. v.items) w.text-is) w.next-is
          (wrote_child d n c.loop-node.next w.in-Ok.after (take i all) x w.in-Child.element old mid w.put_line.new.text.items w.in-Child.is c.loop-node.invariant w.in-Ok.ensures.0 w.in-Ok.ensures.1)
      | put_lines-in-Words w ↦ moved d n (take i all ++ x ∷ []) (take (i + 1) all) old mid c.match-node.text.items c.loop-node.next c.match-node.next more (ap (λ v. v.items) w.text-is) w.next-is
          (wrote_words d n c.loop-node.next (take i all) x w.in-Words.field-0 old mid w.in-Words.is c.loop-node.invariant)
    ]

pub put_rest-overflow_add-around : goal.put_rest-overflow_add-around
put_rest-overflow_add-around t c =
    let near : c.args.around < 64 = below_64 c.args.around (fine _ c.requires).near in omega arith

pub put_rest-returns-in_ok-put_end-in-Some-Words : goal.put_rest-returns-in_ok-put_end-in-Some-Words
put_rest-returns-in_ok-put_end-in-Some-Words t c =
    let d = c.args.around in
    let kids = c.args.element.now.children in
    let w = c.in-Some-Words.words in
    let name = c.args.element.now.name in
    let lines = lines_text (suc d) (nodes_view kids) in
    let slice : c.as_slice-children.result.now ≡ kids = cc in
    let first : Some c.in-Some-Words.field-0.now ≡ slice_get kids 0 = c.in-Some-Words.ensures.value ∙ ap (λ v. slice_get v 0) slice in
    let view = words_alone kids c.in-Some-Words.field-0.now w first c.in-Some-Words.field-0-is (fine _ c.requires).texts in
    let bytes : c.as_bytes.result.now ≡ w = cc in
    let named : c.as_str-name.result.now ≡ name = cc in (
      ap (λ v. walk c.args.number (standing (suc d) v)) view,
      words_put c.args.text.now.items c.put-in-Some-Words.new.text.items c.put_words.new.text.items c.put_end.new.text.items w name c.in_ok-put-in-Some-Words.ensures
          (c.in_ok-put_words-in-Some-Words.ensures ∙ ap (λ v. c.put-in-Some-Words.new.text.items ++ words_text v) bytes)
          (c.in_ok-put_end-in-Some-Words.ensures ∙ ap (λ v. c.put_words.new.text.items ++ end_text v) named)
          ∙ ap (λ v. c.args.text.now.items ++ rest_text d name v lines) (sym view),
    )

pub put_rest-returns-in_ok-put_end-in-Some-Child : goal.put_rest-returns-in_ok-put_end-in-Some-Child
put_rest-returns-in_ok-put_end-in-Some-Child t c =
    let d = c.args.around in
    let kids = c.args.element.now.children in
    let name = c.args.element.now.name in
    let slice : c.as_slice-children.result.now ≡ kids = cc in
    let first : Some c.in-Some-Child.field-0.now ≡ slice_get kids 0 = c.in-Some-Child.ensures.value ∙ ap (λ v. slice_get v 0) slice in
    let named : c.as_str-name.result.now ≡ name = cc in
    let deeper : d + 1 ≡ suc d = omega arith in
    let here : nodes_view c.as_slice-children.result.now ≡ nodes_view kids = ap nodes_view slice in
    let lines = lines_text (suc d) (nodes_view kids) in (
      sym (ap (λ v. walk c.args.number (standing v (nodes_view c.as_slice-children.result.now))) deeper ∙ ap (λ v. walk c.args.number (standing (suc d) v)) here) ∙ c.in_ok-next-in-Some-Child.ensures.0,
      lines_put c.args.text.now.items c.put-in-Some-Child.new.text.items c.put_lines.new.text.items c.put_indent.new.text.items c.put_end-in-Some-Child.new.text.items lines (indent d) (end_text name)
          c.in_ok-put-in-Some-Child.ensures
          (c.in_ok-next-in-Some-Child.ensures.1 ∙ (ap (λ v. c.put-in-Some-Child.new.text.items ++ lines_text v (nodes_view c.as_slice-children.result.now)) deeper ∙ ap (λ v. c.put-in-Some-Child.new.text.items ++ lines_text (suc d) v) here))
          c.in_ok-put_indent-in-Some-Child.ensures
          (c.in_ok-put_end-in-Some-Child.ensures ∙ ap (λ v. c.put_indent.new.text.items ++ end_text v) named)
          ∙ ap (λ v. c.args.text.now.items ++ v) (sym (child_rest d name kids c.in-Some-Child.field-0.now c.in-Some-Child.field-0-0 lines first c.in-Some-Child.field-0-is)),
    )
