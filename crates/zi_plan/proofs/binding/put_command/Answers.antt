use Rattle.std.proofs.Common.{map}
use Rattle.std.specs.List.{flat_map}
use Rattle.zi_plan.specs.Launches.{in_folder, of_dep, of_runner}
use Rattle.zi_plan.specs.Steps.{placed_seen, bound_seen}
use Rattle.zi_plan.proofs.BindingLaws.{put_three_on}
use Rattle.zi_plan.proofs.binding.put_command.Goals as goal

pub returns : goal.returns
returns c =
    put_three_on (map bound_seen c.args.out.now.items) (map bound_seen c.put_all.new.out.items) (map bound_seen c.put_deps.new.out.items) (map bound_seen c.put_runner.new.out.items)
    (in_folder (placed_seen c.args.x) c.args.command.now.bindings) (flat_map (of_dep c.args.table.now) c.args.command.now.deps) (of_runner c.args.table.now c.args.command.now.runner) c.put_runner.result
    (rw c.as_slice.ensures at c.in_ok-put_all.ensures) (rw c.as_slice-2.ensures at c.in_ok-put_deps.ensures) c.put_runner.ensures
