use Rattle.std.proofs.Common.{◌++◌, ◌<◌, ap, refl, length, arith}
use Rattle.std.proofs.lemmas.List.{length-map}
use Rattle.zi_universe.specs.Whole.{most_candidates}
use Rattle.zi_universe.specs.declared.offers.Offered.{Offered}
use Rattle.std.proofs.Common.{List}
use Rattle.zi_universe.specs.Loading.{store_of}
use Rattle.zi_universe.specs.Tables.{feeds_at, held}
use Rattle.zi_universe.specs.Offering.{candidates_of}
use Rattle.zi_universe.proofs.OfferingLemmas.{none_offered, feeds_next, feeds_end, front_few}
use Rattle.zi_universe.proofs.offers.gather.Goals as goal

pub loop-uri-init : goal.loop-uri-init
loop-uri-init c = record {
  held = ap (λ (q : List Offered). candidates_of q ++ held c.args.wanted.now.req c.args.wanted.now.policy (store_of c.args.wanted.now) c.args.interface.now (feeds_at c.args.table.now c.args.here.now)) c.new-offered.ensures.items;
  numbered = none_offered c.new-feeds.result c.new-offered.result.items c.new-offered.ensures.items;
}

pub loop-uri-preserved : goal.loop-uri-preserved
loop-uri-preserved c = record {
  held = feeds_next c.args.wanted.now.req c.args.wanted.now.policy (store_of c.args.wanted.now) c.args.interface.now c.args.table.now c.args.here.now c.loop-uri.uri-index c.uri-item.result _ _ _
      c.loop-uri-test.true c.uri-item.is c.in_ok-offer_from.ensures.held c.loop-uri.invariant.held;
  numbered = c.in_ok-offer_from.ensures.numbered c.loop-uri.invariant.numbered;
}

pub returns-then-len-gt-MOST_CANDIDATES-clause-held : goal.returns-then-len-gt-MOST_CANDIDATES-clause-held
returns-then-len-gt-MOST_CANDIDATES-clause-held c =
    let os = c.offer_from.new.offers.offered.items in
    let many : most_candidates < length (candidates_of os) = let l = length-map os (λ (o : Offered). o.candidate) in omega (arith, l) in (
      refl,
      front_few c.args.wanted.now.req c.args.wanted.now.policy (store_of c.args.wanted.now) c.args.interface.now (candidates_of os) _ _ most_candidates
          (feeds_next c.args.wanted.now.req c.args.wanted.now.policy (store_of c.args.wanted.now) c.args.interface.now c.args.table.now c.args.here.now c.loop-uri.uri-index c.uri-item.result _ _ _
          c.loop-uri-test.true c.uri-item.is c.in_ok-offer_from.ensures.held c.loop-uri.invariant.held) many,
    )

pub returns-clause-held : goal.returns-clause-held
returns-clause-held c =
    feeds_end c.args.wanted.now.req c.args.wanted.now.policy (store_of c.args.wanted.now) c.args.interface.now c.args.table.now c.args.here.now c.loop-uri.uri-index _ _
    c.loop-uri-test.false c.loop-uri.invariant.held

pub returns-clause-numbered : goal.returns-clause-numbered
returns-clause-numbered c = c.loop-uri.invariant.numbered
