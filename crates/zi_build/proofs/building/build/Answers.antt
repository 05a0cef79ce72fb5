use Rattle.std.proofs.Common.{◌<◌, ◌*◌, refl, subst, arith}
use Rattle.std.specs.Prelude.{MatchOption, Some}
use Rattle.zi_choice.specs.Vars.{total, all_commands}
use Rattle.zi_build.specs.Clauses.{most_literals}
use Rattle.zi_build.specs.Answers.{AreKept}
use Rattle.zi_build.specs.Writing.{IsTable}
use Rattle.zi_build.proofs.LimitLaws.{commands_within, built}
use Rattle.zi_build.proofs.building.build.Goals as goal

pub returns-in_default : goal.returns-in_default
returns-in_default c =
    let a = commands_within c.args.u.now c.args.req.now in
    let over : most_literals < 2 * total all_commands c.args.u.now = subst (λ o. MatchOption o (most_literals < 2 * total all_commands c.args.u.now) (IsTable c.args.u.now)) c.in_default.is c.in_ok-table.ensures in
    (refl, omega (arith, a, over))

pub returns : goal.returns
returns c =
    let table : IsTable c.args.u.now c.in-Some.table = subst (λ o. MatchOption o (most_literals < 2 * total all_commands c.args.u.now) (IsTable c.args.u.now)) c.in-Some.is c.in_ok-table.ensures in
    let kept : AreKept c.args.u.now c.args.req.now (Some c.in-Some-2.constraints) = subst (AreKept c.args.u.now c.args.req.now) c.in-Some-2.is c.in_ok-constraints.ensures in
    built c.args.u.now c.args.req.now c.in-Some.table.last c.in-Some-2.constraints table.last kept.0 kept.1
