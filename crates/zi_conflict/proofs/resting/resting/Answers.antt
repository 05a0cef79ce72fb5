use Rattle.std.proofs.Common.{◌+◌, ◌-◌, length, refl}
use Rattle.zi_conflict.proofs.MarkLaws.{back_more, back_all}
use Rattle.zi_conflict.proofs.resting.resting.Goals as goal

pub loop-k-preserved : goal.loop-k-preserved
loop-k-preserved c =
    back_more c.args.count c.loop-k.k (length c.args.lemmas.now - 1 - c.loop-k.k) (length c.args.lemmas.now) (c.args.count + (length c.args.lemmas.now - 1 - c.loop-k.k)) c.args.lemmas.now c.index-lemmas-i.result c.loop-k.marks.items c.mark_lemma.new.marks.items refl c.loop-k-test.true refl refl c.index-lemmas-i.is c.loop-k.invariant c.mark_lemma.ensures.marks c.mark_lemma.ensures.same

pub returns : goal.returns
returns c = back_all c.args.count c.loop-k.k (length c.args.lemmas.now) c.args.lemmas.now c.loop-k.marks.items refl c.loop-k-test.false c.loop-k.auto.k-end c.loop-k.invariant
