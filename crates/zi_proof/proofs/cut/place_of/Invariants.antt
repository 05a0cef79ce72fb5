use Rattle.std.proofs.Common.{take, drop}
use Rattle.zi_proof.proofs.CutLaws.{Reading}
use Rattle.zi_proof.proofs.cut.place_of.Given as goal

abbrev pub invariant-loop-i : goal.invariant-loop-i
invariant-loop-i l = Reading l.separator l.text (take l.i l.text) (drop l.i l.text)
