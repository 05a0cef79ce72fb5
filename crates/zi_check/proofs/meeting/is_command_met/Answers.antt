use Rattle.zi_parts.specs.declared.types.Dep.{Dep}
use Rattle.zi_choice.specs.Valid.{IsMet}
use Rattle.zi_check.specs.Parts.{universe_of, picks_of}
use Rattle.zi_check.proofs.MeetLaws.{tells_items, needs_not, needs_alone, needs_runner}
use Rattle.zi_check.proofs.meeting.is_command_met.Goals as goal

pub returns-then-not-are_met : goal.returns-then-not-are_met
returns-then-not-are_met c = needs_not (universe_of c.args.on.now) (picks_of c.args.on.now) c.args.m.now c.are_met.result (tells_items (λ (d : Dep). IsMet (universe_of c.args.on.now) (picks_of c.args.on.now) d) c.are_met.result c.as_slice.result.now c.args.m.now.deps c.as_slice.ensures c.are_met.ensures) c.if-not-are_met.true

pub returns-in-None : goal.returns-in-None
returns-in-None c = needs_alone (universe_of c.args.on.now) (picks_of c.args.on.now) c.args.m.now c.are_met.result c.in-None.is (tells_items (λ (d : Dep). IsMet (universe_of c.args.on.now) (picks_of c.args.on.now) d) c.are_met.result c.as_slice.result.now c.args.m.now.deps c.as_slice.ensures c.are_met.ensures) c.if-not-are_met.false

pub returns-in-Some : goal.returns-in-Some
returns-in-Some c =
    needs_runner (universe_of c.args.on.now) (picks_of c.args.on.now) c.args.m.now c.in-Some.runner c.are_met.result c.is_met.result c.in-Some.is (tells_items (λ (d : Dep). IsMet (universe_of c.args.on.now) (picks_of c.args.on.now) d) c.are_met.result c.as_slice.result.now c.args.m.now.deps c.as_slice.ensures c.are_met.ensures) c.if-not-are_met.false c.is_met.ensures
