use Rattle.std.proofs.Common.{◌≡◌, false, take}
use Rattle.std.specs.List.{list_any}
use Rattle.zi_elements.specs.Forest.{nodes_view}
use Rattle.zi_docout.specs.Amiss.{is_amiss_text, texts, count}
use Rattle.zi_docout.proofs.amiss.has_amiss_text.Given as goal

abbrev pub invariant-loop-child : goal.invariant-loop-child
invariant-loop-child l = list_any (is_amiss_text (count (nodes_view l.children))) (texts (nodes_view (take l.child-index l.children))) ≡ false
