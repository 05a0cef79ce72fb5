use Rattle.std.proofs.Common.{◌∙◌, sym, ap}
use Rattle.std.specs.Prelude.{option_copied}
use Rattle.zi_check.specs.Parts.{universe_of, picks_of}
use Rattle.zi_check.proofs.MeetLaws.{tells_unless, tells_met}
use Rattle.zi_build.proofs.MeansValid.{target_at}
use Rattle.zi_check.proofs.meeting.is_met_at.Goals as goal

pub returns-in-None : goal.returns-in-None
returns-in-None c =
    tells_unless (universe_of c.args.on.now) (picks_of c.args.on.now) c.args.dep.now c.is_essential.result (target_at (universe_of c.args.on.now) (picks_of c.args.on.now) c.args.dep.now c.args.i c.requires.there ∙ sym c.chosen.ensures ∙ ap option_copied c.in-None.is) c.is_essential.ensures

pub returns-in-Some : goal.returns-in-Some
returns-in-Some c =
    tells_met (universe_of c.args.on.now) (picks_of c.args.on.now) c.args.dep.now c.in-Some.k.now c.suits.result (target_at (universe_of c.args.on.now) (picks_of c.args.on.now) c.args.dep.now c.args.i c.requires.there ∙ sym c.chosen.ensures ∙ ap option_copied c.in-Some.is) c.suits.ensures
