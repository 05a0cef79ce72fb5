use Rattle.std.proofs.Common.{sym, ◌∙◌}
use Rattle.zi_plan.specs.Steps.{bound_seen}
use Rattle.zi_plan.proofs.NextLaws.{empty_here, empty_none}
use Rattle.zi_plan.proofs.applying.put_empty.Goals as goal

pub returns-then-is_shimmed : goal.returns-then-is_shimmed
returns-then-is_shimmed c =
    empty_here (bound_seen c.args.bound.now) c.new.result c.args.texts.now c.push.new.self c.push.result (sym c.is_shimmed.ensures ∙ c.if-is_shimmed.true) c.new.ensures c.push.ensures.ok

pub returns : goal.returns
returns c = empty_none (bound_seen c.args.bound.now) c.args.texts.now (sym c.is_shimmed.ensures ∙ c.if-is_shimmed.false)
