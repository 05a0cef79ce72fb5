use Rattle.std.proofs.Common.{◌∙◌, sym}
use Rattle.zi_proof.proofs.Cites.{follows_more, within_more}
use Rattle.zi_proof.proofs.acceptance.follow.Goals as goal

pub loop-i-preserved : goal.loop-i-preserved
loop-i-preserved c =
    let a = sym c.accept_lemma.ensures.value ∙ c.if-not-accept_lemma.false in
    let f = c.args.f.now in
    let ms = c.as_slice-lemmas.result.now in
    let x = c.index-lemmas-i.result in
    (follows_more f ms c.loop-i.i x c.loop-i-test.true c.index-lemmas-i.is a ∙ c.loop-i.invariant.0, within_more f ms c.loop-i.i x c.loop-i-test.true c.index-lemmas-i.is c.loop-i.invariant.1 a, c.accept_lemma.ensures.len ∙ c.loop-i.invariant.2)
