use Rattle.std.proofs.Common.{true, sym, ap, ◌∙◌}
use Rattle.std.specs.Prelude.{IfSome, option_copied}
use Rattle.zi_universe.specs.declared.types.Candidate.{Candidate}
use Rattle.zi_choice.specs.Choice.{chosen}
use Rattle.zi_choice.specs.Valid.{Has}
use Rattle.zi_check.specs.Parts.{universe_of, picks_of}
use Rattle.zi_check.proofs.MeetLaws.{tells_and, tells_and_none, tells_if, tells_if_none, tells_has}
use Rattle.zi_check.proofs.meeting.is_root_right.Goals as goal

pub returns-in-None : goal.returns-in-None
returns-in-None c = tells_and_none (λ (k : Candidate). IfSome c.args.req.now.command (λ name. Has k name)) (chosen (universe_of c.args.on.now) (picks_of c.args.on.now) 0) (sym c.chosen.ensures ∙ ap option_copied c.in-None.is)

pub returns-in-None-command : goal.returns-in-None-command
returns-in-None-command c =
    tells_and (λ (k : Candidate). IfSome c.args.req.now.command (λ name. Has k name)) (chosen (universe_of c.args.on.now) (picks_of c.args.on.now) 0) c.in-Some._k.now true (sym c.chosen.ensures ∙ ap option_copied c.in-Some.is)
    (tells_if_none (λ name. Has c.in-Some._k.now name) c.args.req.now.command c.in-None-command.is)

pub returns-in-Some-command : goal.returns-in-Some-command
returns-in-Some-command c =
    tells_and (λ (k : Candidate). IfSome c.args.req.now.command (λ name. Has k name)) (chosen (universe_of c.args.on.now) (picks_of c.args.on.now) 0) c.in-Some._k.now c.has.result (sym c.chosen.ensures ∙ ap option_copied c.in-Some.is)
    (tells_if (λ name. Has c.in-Some._k.now name) c.args.req.now.command c.in-Some-command.name c.has.result c.in-Some-command.is
    (tells_has (universe_of c.args.on.now) (picks_of c.args.on.now) 0 c.in-Some._k.now c.in-Some-command.name c.has.result (sym c.chosen.ensures ∙ ap option_copied c.in-Some.is) c.has.ensures))
