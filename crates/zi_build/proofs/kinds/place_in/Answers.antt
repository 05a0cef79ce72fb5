use Rattle.std.proofs.Common.{sym, arith, Some, None, ◌≡◌, ◌∙◌}
use Rattle.zi_choice.specs.Choice.{command_place}
use Rattle.zi_build.specs.Writing.{plan_of}
use Rattle.zi_build.proofs.WriteLaws.{fits_command, placed_there, named_place}
use Rattle.zi_build.proofs.kinds.place_in.Goals as goal

pub overflow_cast-result : goal.overflow_cast-result
overflow_cast-result c =
    let e : Some c.in_ok-m.m ≡ command_place c.args.k.now c.args.name.now = named_place (plan_of c.args.plan.now) c.args.plan.now.names.now c.args.j c.args.e c.args.k.now c.args.name.now (Some c.in_ok-m.m) c.requires.plan.names c.requires.there c.in_ok-m.ensures in
    let h = fits_command (plan_of c.args.plan.now) c.args.plan.now.table.now c.args.j c.args.e c.in_ok-m.m c.requires.plan.table
    (placed_there (plan_of c.args.plan.now) c.args.j c.args.e c.args.k.now c.args.name.now c.in_ok-m.m c.requires.there (sym e)) in
    omega (arith, h)

pub returns-clause-used : goal.returns-clause-used
returns-clause-used c =
    let e : Some c.in_ok-m.m ≡ command_place c.args.k.now c.args.name.now = named_place (plan_of c.args.plan.now) c.args.plan.now.names.now c.args.j c.args.e c.args.k.now c.args.name.now (Some c.in_ok-m.m) c.requires.plan.names c.requires.there c.in_ok-m.ensures in
    placed_there (plan_of c.args.plan.now) c.args.j c.args.e c.args.k.now c.args.name.now c.in_ok-m.m c.requires.there (sym e)

pub returns-clause-is : goal.returns-clause-is
returns-clause-is c = named_place (plan_of c.args.plan.now) c.args.plan.now.names.now c.args.j c.args.e c.args.k.now c.args.name.now (Some c.in_ok-m.m) c.requires.plan.names c.requires.there c.in_ok-m.ensures

pub returns-in_err-m-clause-is : goal.returns-in_err-m-clause-is
returns-in_err-m-clause-is c =
    c.from_residual.ensures ∙ named_place (plan_of c.args.plan.now) c.args.plan.now.names.now c.args.j c.args.e c.args.k.now c.args.name.now None c.requires.plan.names c.requires.there c.in_err-m.ensures
