use Rattle.std.proofs.lemmas.Bool.{false≢true}
use Rattle.zi_proof.proofs.LineLaws.{bad_after}
use Rattle.zi_proof.proofs.reader.finish.Goals as goal

pub returns : goal.returns
returns c =
    bad_after c.args.bytes.now c.args.lemmas c.args.blocks c.args.lines c.args.line c.requires.cut c.requires.numbered c.requires.some (λ e. false≢true (c.if-ends_here.ensures.1 e)) c.requires.line
