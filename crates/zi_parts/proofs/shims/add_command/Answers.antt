use Rattle.std.proofs.Common.{sym, ap, ◌∙◌, option_copied}
use Rattle.zi_parts.proofs.ShimLaws.{named_one}
use Rattle.zi_parts.proofs.shims.add_command.Goals as goal

pub returns-in_ok-insert : goal.returns-in_ok-insert
returns-in_ok-insert c = named_one _ _ _ _ _ (ap option_copied (sym c.in-Some.is) ∙ c.command_by.ensures) c.in_ok-name.ensures c.in_ok-insert.ensures.keys
