use Rattle.std.proofs.Common.{map}
use Rattle.std.specs.List.{flat_map}
use Rattle.zi_plan.specs.Launches.{in_folder, of_dep, of_command}
use Rattle.zi_plan.specs.Steps.{placed_seen, bound_seen}
use Rattle.zi_plan.proofs.BindingLaws.{put_three_on}
use Rattle.zi_plan.proofs.binding.put_placed.Goals as goal

pub returns : goal.returns
returns c =
    let x = c.args.x in
    put_three_on (map bound_seen c.args.out.now.items) (map bound_seen c.put_all.new.out.items) (map bound_seen c.put_deps.new.out.items) (map bound_seen c.put_commands.new.out.items)
    (in_folder (placed_seen x) x.selection.now.bindings) (flat_map (of_dep c.args.table.now) x.selection.now.deps) (flat_map (of_command c.args.table.now (placed_seen x)) x.selection.now.commands) c.put_commands.result
    (rw c.as_slice.ensures at c.in_ok-put_all.ensures) (rw c.as_slice-2.ensures at c.in_ok-put_deps.ensures) (rw c.as_slice-3.ensures at c.put_commands.ensures)
