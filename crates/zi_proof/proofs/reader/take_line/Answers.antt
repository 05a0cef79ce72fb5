use Rattle.std.proofs.Common.{refl, subst}
use Rattle.zi_proof.specs.Reading.{Says}
use Rattle.zi_proof.proofs.TookLaws.{lemma_took, block_took}
use Rattle.zi_proof.proofs.reader.take_line.Goals as goal

pub returns-in_ok-push-in-Lemma : goal.returns-in_ok-push-in-Lemma
returns-in_ok-push-in-Lemma c =
    lemma_took c.args.lemmas.now c.push.new.self c.args.blocks.now c.in-Lemma.m c.args.line.now (c.if-not-is_empty.ensures.0 refl) (subst (Says c.args.line.now) c.in-Lemma.is c.in_ok-m.ensures) c.in_ok-push-in-Lemma.ensures.ok

pub returns-in_ok-push-in-Block : goal.returns-in_ok-push-in-Block
returns-in_ok-push-in-Block c =
    block_took c.args.lemmas.now c.args.blocks.now c.push-in-Block.new.self c.in-Block.b c.args.line.now (subst (Says c.args.line.now) c.in-Block.is c.in_ok-m.ensures) c.in_ok-push-in-Block.ensures.ok
