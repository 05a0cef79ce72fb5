use Rattle.std.proofs.Common.{sym, ap, ◌∙◌}
use Rattle.std.specs.Prelude.{option_and_then}
use Rattle.zi_choice.specs.Choice.{command_of}
use Rattle.zi_why.proofs.setting.command_at.Goals as goal

pub returns-in_default : goal.returns-in_default
returns-in_default c = sym (ap (λ o. option_and_then (λ k. command_of k c.args.name.now) o) c.in_default.ensures)

pub command_of-requires : goal.command_of-requires
command_of-requires c = record { there = c.in-Some.ensures.0 }

pub returns : goal.returns
returns c = c.command_of.ensures ∙ sym (ap (λ o. option_and_then (λ k. command_of k c.args.name.now) o) c.in-Some.ensures.1)
