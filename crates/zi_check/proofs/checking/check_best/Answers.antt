use Rattle.std.proofs.lemmas.Bool.{false≢true}
use Rattle.zi_choice.specs.Valid.{IsValid}
use Rattle.zi_choice.specs.Walk.{Walks}
use Rattle.zi_choice.specs.Traces.{as_walk}
use Rattle.zi_certificate.proofs.Certified.{certified_is_best}
use Rattle.zi_check.proofs.ValidLaws.{none_valid, some_valid}
use Rattle.zi_check.proofs.checking.check_best.Goals as goal

pub returns-in_default-clause-value : goal.returns-in_default-clause-value
returns-in_default-clause-value c =
    (λ t. absurd (false≢true t), λ g. absurd (none_valid (IsValid c.args.u.now c.args.req.now c.args.c.now.picks) (λ t. Walks c.args.u.now c.args.req.now c.args.c.now.picks (as_walk t)) _ c.in_default.is c.in_ok-t.ensures g.0))

pub excludes-requires-clause-valid : goal.excludes-requires-clause-valid
excludes-requires-clause-valid c = (some_valid (IsValid c.args.u.now c.args.req.now c.args.c.now.picks) (λ t. Walks c.args.u.now c.args.req.now c.args.c.now.picks (as_walk t)) _ c.in-Some.t c.in-Some.is c.in_ok-t.ensures).0

pub excludes-requires-clause-walks : goal.excludes-requires-clause-walks
excludes-requires-clause-walks c = (some_valid (IsValid c.args.u.now c.args.req.now c.args.c.now.picks) (λ t. Walks c.args.u.now c.args.req.now c.args.c.now.picks (as_walk t)) _ c.in-Some.t c.in-Some.is c.in_ok-t.ensures).1

pub returns-clause-value : goal.returns-clause-value
returns-clause-value c =
    (λ t. ((some_valid (IsValid c.args.u.now c.args.req.now c.args.c.now.picks) (λ t. Walks c.args.u.now c.args.req.now c.args.c.now.picks (as_walk t)) _ c.in-Some.t c.in-Some.is c.in_ok-t.ensures).0, c.in_ok-is_excluded.ensures.0 t), λ g. c.in_ok-is_excluded.ensures.1 g.1)

pub returns-clause-best : goal.returns-clause-best
returns-clause-best c =
    λ t. certified_is_best c.args.u.now c.args.req.now c.args.c.now.picks c.args.certificate.now (some_valid (IsValid c.args.u.now c.args.req.now c.args.c.now.picks) (λ t. Walks c.args.u.now c.args.req.now c.args.c.now.picks (as_walk t)) _ c.in-Some.t c.in-Some.is c.in_ok-t.ensures).0 (c.in_ok-is_excluded.ensures.0 t)
