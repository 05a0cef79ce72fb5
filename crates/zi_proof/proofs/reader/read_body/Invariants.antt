use Rattle.std.proofs.Common.{length}
use Rattle.zi_proof.proofs.BodyLaws.{Body}
use Rattle.zi_proof.proofs.reader.read_body.Given as goal

abbrev pub invariant-loop-line : goal.invariant-loop-line
invariant-loop-line l = Body l.bytes l.lemmas l.blocks l.lines l.taken

abbrev pub decreases-loop-line : goal.decreases-loop-line
decreases-loop-line l = length l.lines
