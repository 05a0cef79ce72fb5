use Rattle.std.proofs.Common.{sym, ◌∙◌}
use Rattle.zi_plan.specs.Steps.{bound_seen}
use Rattle.zi_plan.proofs.NextLaws.{exposes_other}
use Rattle.zi_plan.proofs.applying.expose_next.Goals as goal

pub returns : goal.returns
returns c = exposes_other (bound_seen c.args.bound.now) c.args.shims.now c.args.dirs.now (sym c.is_shimmed.ensures ∙ c.if-is_shimmed.false)
