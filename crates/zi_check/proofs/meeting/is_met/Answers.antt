use Rattle.std.proofs.Common.{◌∙◌, sym}
use Rattle.zi_check.specs.Parts.{universe_of, picks_of}
use Rattle.zi_check.proofs.MeetLaws.{no_target, tells_unless}
use Rattle.zi_check.proofs.meeting.is_met.Goals as goal

pub returns-in-None : goal.returns-in-None
returns-in-None c =
    tells_unless (universe_of c.args.on.now) (picks_of c.args.on.now) c.args.dep.now c.is_essential.result (no_target (universe_of c.args.on.now) (picks_of c.args.on.now) c.args.dep.now (sym c.number.ensures.is ∙ c.in-None.is)) c.is_essential.ensures

pub is_met_at-requires : goal.is_met_at-requires
is_met_at-requires c = record { there = sym c.number.ensures.is ∙ c.in-Some.is }
