use Rattle.std.proofs.Common.{length, ◌<◌, ◌∙◌, sym, refl, subst, arith}
use Rattle.std.proofs.lemmas.Option.{get_or_from_slice_get}
use Rattle.zi_parts.specs.declared.types.Command.{Command}
use Rattle.zi_choice.specs.Vars.{Cmd}
use Rattle.zi_build.proofs.MoreLaws.{command_item}
use Rattle.zi_build.proofs.Numbers.{number_high}
use Rattle.zi_facts.specs.Facts.{told_command}
use Rattle.zi_facts.proofs.TellLaws.{tells_over}
use Rattle.zi_facts.specs.Telling.{universe_of, Tells}
use Rattle.zi_facts.proofs.telling.tell_commands.Goals as goal

pub overflow_cast-n : goal.overflow_cast-n
overflow_cast-n c =
    let ms = c.args.k.now.imp.commands in
    let there : c.loop-n.n < length ms = omega arith in
    let a = number_high (universe_of c.args.on.now) (Cmd c.args.i c.args.c c.loop-n.n) (command_item (universe_of c.args.on.now) c.args.i c.args.c c.loop-n.n c.args.k.now ms c.requires.there refl there) in
    let few = c.requires.few in
    omega (arith, a, few)

pub loop-n-preserved : goal.loop-n-preserved
loop-n-preserved c =
    let u = universe_of c.args.on.now in
    let ms = c.args.k.now.imp.commands in
    let there : c.loop-n.n < length ms = omega arith in
    let m : Command = c.at-m.result.now in
    let P : Command → Type 0 = λ x. Tells c.loop-n.facts.items (told_command u c.args.i c.args.c c.loop-n.n x) c.tell_command.new.facts.items in
    tells_over c.args.facts.now.items c.loop-n.facts.items c.tell_command.new.facts.items (told_command u c.args.i c.args.c) ms ms c.loop-n.n m refl there
    (sym (get_or_from_slice_get ms c.loop-n.n m m c.at-m.ensures)) c.loop-n.invariant (subst P c.as_ref.ensures c.in_ok-tell_command.ensures)
