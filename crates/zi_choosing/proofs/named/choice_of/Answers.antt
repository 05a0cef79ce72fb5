use Rattle.std.proofs.Common.{sym, subst}
use Rattle.zi_universe.specs.Whole.{IsWhole}
use Rattle.zi_choosing.proofs.NamedLemmas.{own_few}
use Rattle.zi_choosing.proofs.named.choice_of.Goals as goal

pub named_by-requires-clause-few : goal.named_by-requires-clause-few
named_by-requires-clause-few c =
    own_few c.interfaces-interface-items.result.now c.loop-interface.interface-index c.interface-item.result
    (subst IsWhole (sym c.interfaces-interface-items.ensures.interfaces) c.interfaces-interface-items.ensures.whole) c.loop-interface-test.true c.interface-item.is
