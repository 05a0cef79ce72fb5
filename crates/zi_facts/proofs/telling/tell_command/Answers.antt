use Rattle.std.proofs.Common.{subst}
use Rattle.zi_choice.specs.Vars.{Cmd}
use Rattle.zi_facts.specs.Facts.{told_needs}
use Rattle.zi_facts.specs.Telling.{universe_of, Tells}
use Rattle.zi_facts.proofs.TellLaws.{command_tells}
use Rattle.zi_facts.proofs.telling.tell_command.Goals as goal

pub returns : goal.returns
returns c =
    command_tells (universe_of c.args.on.now) c.args.i c.args.c c.args.n c.args.m.now c.in-Some.runner c.args.facts.now.items c.tell.new.facts.items c.tell_needs.new.facts.items c.tell_need.new.facts.items c.in-Some.is c.in_ok-tell.ensures
    (subst (λ ds. Tells c.tell.new.facts.items (told_needs (universe_of c.args.on.now) (Cmd c.args.i c.args.c c.args.n) ds) c.tell_needs.new.facts.items) c.as_slice.ensures c.in_ok-tell_needs.ensures)
    c.in_ok-tell_need.ensures
