use Rattle.std.proofs.Common.{sym, ap, ◌∙◌}
use Rattle.std.specs.Prelude.{option_copied}
use Rattle.zi_universe.specs.declared.types.Candidate.{Candidate}
use Rattle.zi_choice.specs.Choice.{chosen}
use Rattle.zi_choice.specs.Valid.{AreMet}
use Rattle.zi_check.specs.Parts.{universe_of, picks_of}
use Rattle.zi_check.proofs.MeetLaws.{tells_if, tells_if_none}
use Rattle.zi_check.proofs.meeting.is_candidate_met.Goals as goal

pub returns-in-None : goal.returns-in-None
returns-in-None c = tells_if_none (λ (k : Candidate). AreMet (universe_of c.args.on.now) (picks_of c.args.on.now) k.imp.deps) (chosen (universe_of c.args.on.now) (picks_of c.args.on.now) c.args.i) (sym c.chosen.ensures ∙ ap option_copied c.in-None.is)

pub returns-in-Some : goal.returns-in-Some
returns-in-Some c =
    tells_if (λ (k : Candidate). AreMet (universe_of c.args.on.now) (picks_of c.args.on.now) k.imp.deps) (chosen (universe_of c.args.on.now) (picks_of c.args.on.now) c.args.i) c.in-Some.k.now c.are_all_met.result (sym c.chosen.ensures ∙ ap option_copied c.in-Some.is)
    c.are_all_met.ensures
