use Rattle.zi_choice.specs.Valid.{IsValid}
use Rattle.zi_choice.specs.Walk.{Walks}
use Rattle.zi_choice.specs.Traces.{as_walk}
use Rattle.zi_choice.specs.declared.traced.Traced.{Traced}
use Rattle.zi_check.proofs.ValidLaws.{tells_walk}
use Rattle.zi_check.proofs.validity.valid.Goals as goal

pub returns : goal.returns
returns c = tells_walk (IsValid c.args.u.now c.args.req.now c.args.c.now.picks) (λ (t : Traced). Walks c.args.u.now c.args.req.now c.args.c.now.picks (as_walk t)) c.in_ok-walk.walk c.is_some.result c.in_ok-walk.ensures c.is_some.ensures
