use Rattle.std.proofs.Common.{◌-◌, length, arith}
use Rattle.zi_plan.proofs.TableLaws.{commands_start, commands_more, puts_command}
use Rattle.zi_plan.proofs.table.add_commands.Goals as goal

pub loop-left-init : goal.loop-left-init
loop-left-init c = record {
  in_range = omega arith;
  added = commands_start c.args.interface.now c.args.commands.now (length c.args.commands.now) c.args.table.now.entries (omega arith);
}

pub loop-left-preserved : goal.loop-left-preserved
loop-left-preserved c = record {
  in_range = omega arith;
  added = commands_more c.args.interface.now c.args.commands.now (c.loop-left.left - 1) c.loop-left.left c.index-commands-left.result c.as_str.result.now
      c.args.table.now.entries c.loop-left.table.entries c.insert.new.self.entries (omega arith) (omega arith) c.index-commands-left.is c.as_str.ensures c.loop-left.invariant.added
      (puts_command (record { interface = c.args.interface; command = c.as_str.result }) _ c.loop-left.table.entries c.insert.new.self.entries c.in_ok-insert.ensures.updates.0);
}
