use Rattle.zi_parts.specs.declared.types.Dep.{Dep}
use Rattle.zi_choice.specs.Valid.{IsMet}
use Rattle.zi_check.specs.Parts.{universe_of, picks_of}
use Rattle.zi_check.proofs.MeetLaws.{tells_not_all, all_taken_more, tells_taken}
use Rattle.std.proofs.Common.{◌≤◌, length, arith}
use Rattle.zi_check.proofs.meeting.are_all_met.Goals as goal

pub returns-then-not-is_met : goal.returns-then-not-is_met
returns-then-not-is_met c =
    tells_not_all (λ (d : Dep). IsMet (universe_of c.args.on.now) (picks_of c.args.on.now) d) c.args.deps.now c.loop-n.n c.at.result.now c.is_met.result c.at.ensures c.is_met.ensures c.if-not-is_met.true

pub loop-n-preserved : goal.loop-n-preserved
loop-n-preserved c =
    all_taken_more (λ (d : Dep). IsMet (universe_of c.args.on.now) (picks_of c.args.on.now) d) c.args.deps.now c.loop-n.n c.at.result.now c.is_met.result c.at.ensures c.is_met.ensures c.if-not-is_met.false c.loop-n.invariant

pub returns : goal.returns
returns c =
    let all : length c.args.deps.now ≤ c.loop-n.n = omega arith in
    tells_taken (λ (d : Dep). IsMet (universe_of c.args.on.now) (picks_of c.args.on.now) d) c.args.deps.now c.loop-n.n all c.loop-n.invariant
