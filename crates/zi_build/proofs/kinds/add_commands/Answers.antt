use Rattle.std.proofs.Common.{◌<◌, ℕ, length, sym, subst, refl, arith}
use Rattle.std.proofs.lemmas.Option.{get_or_from_slice_get}
use Rattle.zi_parts.specs.declared.types.Command.{Command}
use Rattle.zi_build.specs.Clauses.{of_command}
use Rattle.zi_build.specs.Writing.{plan_of, Adds}
use Rattle.zi_build.proofs.WriteLaws.{adds_over, fits_command}
use Rattle.zi_build.proofs.MoreLaws.{command_item}
use Rattle.zi_build.proofs.kinds.add_commands.Goals as goal

pub overflow_cast-n : goal.overflow_cast-n
overflow_cast-n c =
    let ms = c.args.k.now.imp.commands in
    let there : c.loop-n.n < length ms = omega arith in
    let h = fits_command (plan_of c.args.plan.now) c.args.plan.now.table.now c.args.i c.args.c c.loop-n.n c.requires.plan.table (command_item (plan_of c.args.plan.now) c.args.i c.args.c c.loop-n.n c.args.k.now ms c.requires.there refl there) in
    omega (arith, h)

pub add_command-requires-clause-there : goal.add_command-requires-clause-there
add_command-requires-clause-there c =
    let ms = c.args.k.now.imp.commands in
    let there : c.loop-n.n < length ms = omega arith in
    command_item (plan_of c.args.plan.now) c.args.i c.args.c c.loop-n.n c.args.k.now ms c.requires.there refl there

pub loop-n-preserved : goal.loop-n-preserved
loop-n-preserved c =
    let u = plan_of c.args.plan.now in
    let ms = c.args.k.now.imp.commands in
    let there : c.loop-n.n < length ms = omega arith in
    let m : Command = c.at-m.result.now in
    let P : Command → Type 0 = λ x. Adds c.args.plan.now.keeps u c.loop-n.w (of_command u c.args.i c.args.c c.loop-n.n x) c.add_command.new.w in
    adds_over c.args.plan.now.keeps u c.args.w.now c.loop-n.w c.add_command.new.w (of_command u c.args.i c.args.c) ms ms c.loop-n.n m refl there
    (sym (get_or_from_slice_get ms c.loop-n.n m m c.at-m.ensures)) c.loop-n.invariant (subst P c.as_ref.ensures c.in_ok-add_command.ensures)
