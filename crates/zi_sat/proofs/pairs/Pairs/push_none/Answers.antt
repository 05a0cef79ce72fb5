use Rattle.std.proofs.Common.{length, sym, subst}
use Rattle.zi_sat.specs.Pairs.{StandApart}
use Rattle.zi_sat.proofs.PairLaws.{apart_none}
use Rattle.zi_sat.proofs.pairs.Pairs.push_none.Goals as goal

pub invariant_of-self-2 : goal.invariant_of-self-2
invariant_of-self-2 c =
    let a = c.self.inside in
    subst (StandApart 0 (length a.pairs.items)) (sym c.in_ok-push.ensures.items) (apart_none 0 (length a.pairs.items) a.places.items c.self.invariant)
