use Rattle.std.proofs.Common.{ap, ◌∙◌}
use Rattle.std.specs.Prelude.{option_copied}
use Rattle.zi_plan.specs.Steps.{wanted_seen}
use Rattle.zi_plan.proofs.table.Table.command.Goals as goal

pub returns : goal.returns
returns c = rw (← c.self.view_is) (ap option_copied (c.copied.ensures ∙ c.get.ensures.value) ∙ c.self.invariant.1 (wanted_seen c.args.wanted))
