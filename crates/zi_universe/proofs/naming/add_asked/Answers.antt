use Rattle.std.proofs.Common.{refl, sym, subst}
use Rattle.zi_universe.specs.declared.offers.Offered.{Offered}
use Rattle.zi_universe.specs.Offering.{IsNumbered}
use Rattle.zi_universe.proofs.LevelLemmas.{none_named, asked_next, asked_end}
use Rattle.zi_universe.proofs.naming.add_asked.Goals as goal

pub loop-one-init : goal.loop-one-init
loop-one-init c = record { names = refl; named = none_named c.args.feeds.now c.new-named.result.keys c.args.names.now.keys c.new-named.ensures.empty }

pub add_one-requires-clause-numbered : goal.add_one-requires-clause-numbered
add_one-requires-clause-numbered c =
    let P : Offered → Type 0 = λ q. IsNumbered c.args.feeds.now q in
    subst P (sym c.one-item.is) (c.requires c.loop-one.one-index c.one-item.result c.loop-one-test.true)

pub add_one-requires-clause-named : goal.add_one-requires-clause-named
add_one-requires-clause-named c = c.loop-one.invariant.named

pub loop-one-preserved : goal.loop-one-preserved
loop-one-preserved c = record {
  names = asked_next c.args.offered.now c.loop-one.one-index c.one-item.result _ _ _ c.loop-one-test.true c.one-item.is c.in_ok-add_one.ensures.names c.loop-one.invariant.names;
  named = c.in_ok-add_one.ensures.named;
}

pub returns : goal.returns
returns c = asked_end c.args.offered.now c.loop-one.one-index _ _ c.loop-one-test.false c.loop-one.invariant.names
