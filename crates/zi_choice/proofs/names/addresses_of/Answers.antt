use Rattle.std.proofs.Common.{sym, subst}
use Rattle.zi_universe.specs.Naming.{AreApart}
use Rattle.zi_universe.specs.Whole.{uris_of}
use Rattle.zi_choice.proofs.TaskLaws.{new_address}
use Rattle.zi_choice.proofs.names.addresses_of.Goals as goal

pub loop-x-preserved : goal.loop-x-preserved
loop-x-preserved c =
    new_address c.interfaces-x-items.result.now c.loop-x.x-index c.x-item.result c.in_ok-copy.field-0 c.loop-x.names.keys c.insert.new.self.keys
    (subst (λ u. AreApart (uris_of u)) (sym c.interfaces-x-items.ensures.interfaces) c.interfaces-x-items.ensures.whole.apart)
    c.loop-x-test.true c.x-item.is c.in_ok-copy.ensures c.loop-x.invariant c.in_ok-insert.ensures.keys
