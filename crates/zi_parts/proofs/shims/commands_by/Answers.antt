use Rattle.zi_reading.specs.Words.{optional}
use Rattle.zi_parts.proofs.ShimLaws.{named_more}
use Rattle.zi_parts.proofs.shims.commands_by.Goals as goal

pub loop-binding-preserved : goal.loop-binding-preserved
loop-binding-preserved c =
    named_more (optional c.args.first) c.loop-binding.names.keys c.add_command.new.names.keys c.args.bindings.now c.loop-binding.binding-index c.binding-item.result
    c.loop-binding-test.true c.binding-item.is c.loop-binding.invariant c.in_ok-add_command.ensures
