use Rattle.std.proofs.Common.{◌≡◌, ◌∙◌, sym, refl, arith, Some, None}
use Rattle.zi_choice.specs.Choice.{command_place}
use Rattle.zi_choice.specs.Vars.{Cmd}
use Rattle.zi_build.proofs.Numbers.{number_high}
use Rattle.zi_build.proofs.WriteLaws.{placed_there, named_place}
use Rattle.zi_facts.specs.Telling.{universe_of, Tells}
use Rattle.zi_facts.proofs.telling.place_in.Goals as goal

pub overflow_cast-result : goal.overflow_cast-result
overflow_cast-result c =
    let e : Some c.in_ok-m.m ≡ command_place c.args.k.now c.args.name.now = named_place (universe_of c.args.on.now) c.args.on.now.names.now c.args.j c.args.e c.args.k.now c.args.name.now (Some c.in_ok-m.m) refl c.requires.there c.in_ok-m.ensures in
    let a = number_high (universe_of c.args.on.now) (Cmd c.args.j c.args.e c.in_ok-m.m) (placed_there (universe_of c.args.on.now) c.args.j c.args.e c.args.k.now c.args.name.now c.in_ok-m.m c.requires.there (sym e)) in
    let few = c.requires.few in
    omega (arith, a, few)

pub returns : goal.returns
returns c = named_place (universe_of c.args.on.now) c.args.on.now.names.now c.args.j c.args.e c.args.k.now c.args.name.now (Some c.in_ok-m.m) refl c.requires.there c.in_ok-m.ensures

pub returns-in_err-m : goal.returns-in_err-m
returns-in_err-m c =
    c.from_residual.ensures ∙ named_place (universe_of c.args.on.now) c.args.on.now.names.now c.args.j c.args.e c.args.k.now c.args.name.now None refl c.requires.there c.in_err-m.ensures
