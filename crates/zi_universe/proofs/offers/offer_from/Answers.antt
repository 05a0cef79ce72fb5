use Rattle.std.proofs.Common.{None, Some, refl}
use Rattle.std.proofs.lemmas.Result.{on_ok_weaker}
use Rattle.zi_universe.specs.Loading.{store_of}
use Rattle.zi_universe.specs.Offering.{candidates_of}
use Rattle.zi_universe.proofs.OfferingLemmas.{held_missing, held_found}
use Rattle.zi_universe.proofs.offers.offer_from.Goals as goal

pub returns-in-None-clause-held : goal.returns-in-None-clause-held
returns-in-None-clause-held c =
    held_missing c.args.wanted.now.req c.args.wanted.now.policy (store_of c.args.wanted.now) c.args.interface.now c.args.table.now c.args.uri.now None
    (candidates_of c.args.offers.now.offered.items) c.in-None.ensures.feed refl

pub returns-in-Some-clause-held : goal.returns-in-Some-clause-held
returns-in-Some-clause-held c = on_ok_weaker c.offer.result (λ g.
    held_found c.args.wanted.now.req c.args.wanted.now.policy (store_of c.args.wanted.now) c.args.interface.now c.args.table.now c.args.uri.now (Some c.in-Some.read.now.feed)
    (candidates_of c.args.offers.now.offered.items) (candidates_of c.offer.new.offers.offered.items) c.in-Some.read.now.feed c.in-Some.ensures.feed refl g) c.offer.ensures.held
