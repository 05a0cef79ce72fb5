use Rattle.std.proofs.Common.{true, false}
use Rattle.zi_plan.specs.Steps.{placed_seen}
use Rattle.zi_plan.proofs.TableLaws.{adds_found, adds_new, has_selected, puts_selected}
use Rattle.zi_plan.proofs.table.add.Goals as goal

pub returns-then-contains_key : goal.returns-then-contains_key
returns-then-contains_key c =
    adds_found (placed_seen c.args.x) c.args.selected.now.entries c.args.commands.now.entries
    (has_selected c.as_str-interface.result.now c.args.x.selection.now.interface c.args.selected.now.entries true c.as_str-interface.ensures c.if-contains_key.ensures)

pub returns : goal.returns
returns c =
    adds_new (placed_seen c.args.x) c.args.selected.now.entries c.insert.new.self.entries c.args.commands.now.entries c.add_commands.new.table.entries
    (has_selected c.as_str-interface.result.now c.args.x.selection.now.interface c.args.selected.now.entries false c.as_str-interface.ensures c.if-contains_key.ensures)
    (puts_selected c.as_str-interface.result c.args.x c.args.selected.now.entries c.insert.new.self.entries c.as_str-interface.ensures c.in_ok-insert.ensures.updates.0)
    (rw (c.as_str-interface.ensures, c.as_slice.ensures) at c.in_ok-add_commands.ensures)
