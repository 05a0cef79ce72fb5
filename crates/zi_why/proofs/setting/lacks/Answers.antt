use Rattle.zi_choice.specs.Choice.{command_of}
use Rattle.zi_why.proofs.SuitLaws.{none_told}
use Rattle.zi_why.proofs.setting.lacks.Goals as goal

pub returns : goal.returns
returns c = none_told c.command_of.result (command_of c.args.p.now.is.now c.args.name.now) c.is_none.result c.command_of.ensures c.is_none.ensures
