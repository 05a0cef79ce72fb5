use Rattle.zi_choosing.proofs.OwnLaws.{tells_own}
use Rattle.zi_choosing.proofs.own.are_own.Goals as goal

pub returns : goal.returns
returns c =
    tells_own c.args.universe.now c.args.req.now c.args.choice.now.picks c.args.sels c.in_ok-own.own c.in_order-ordered.result c.are_same.result c.interfaces-whole.ensures.whole c.in_ok-own.ensures
    c.in_order-ordered.ensures.same c.in_order-ordered.ensures.sorted c.are_same.ensures
