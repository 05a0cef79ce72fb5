use Rattle.std.proofs.Common.{take}
use Rattle.zi_docout.proofs.WalkLemmas.{Wrote}
use Rattle.zi_docout.proofs.writer.+lines.Given as goal

abbrev pub invariant-put_lines-loop-node : goal.invariant-put_lines-loop-node
invariant-put_lines-loop-node l = Wrote l.around l.number (take l.node-index l.nodes) l.initial.text.items l.text.items l.next
