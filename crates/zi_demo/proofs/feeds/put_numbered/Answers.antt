use Rattle.std.proofs.Common.{◌∙◌}
use Rattle.zi_demo.proofs.HeldLemmas.{needed_more}
use Rattle.zi_demo.proofs.feeds.put_numbered.Goals as goal

pub loop-k-preserved : goal.loop-k-preserved
loop-k-preserved c =
    needed_more c.args.needs.now c.loop-k.needs c.put_need.new.inside c.loop-k.k c.as_str.result.now c.loop-k.invariant (c.as_str.ensures ∙ c.in_ok-name.ensures) c.in_ok-put_need.ensures
