use Rattle.std.proofs.Common.{◌-◌, arith, refl, ◌∙◌}
use Rattle.zi_outside.specs.Memory.{sure_told}
use Rattle.zi_demo.proofs.HeldLemmas.{later_none, later_next}
use Rattle.zi_demo.proofs.feeds.put_later_ones.Goals as goal

pub loop-k-init : goal.loop-k-init
loop-k-init c = (later_none c.args.n (sure_told c.args.into.now).holds, refl)

pub loop-k-preserved : goal.loop-k-preserved
loop-k-preserved c = (
  later_next c.args.n c.loop-k.k c.as_str.result.now (sure_told c.args.into.now).holds (sure_told c.loop-k.into).holds (sure_told c.put_two.new.into).holds c.loop-k.auto.k c.loop-k-test.true
      (c.as_str.ensures ∙ c.in_ok-name.ensures) c.loop-k.invariant.0 c.in_ok-put_two.ensures.held,
  c.in_ok-put_two.ensures.asked ∙ c.loop-k.invariant.1,
)

pub returns-clause-held : goal.returns-clause-held
returns-clause-held c = λ fs h. c.loop-k.invariant.0 2 (c.args.n - 1) (omega arith) (omega arith) fs h
