use Rattle.std.proofs.Common.{◌<◌, ◌≤◌, length, ap, refl, ◌∙◌, arith}
use Rattle.std.specs.Prelude.{slice_get}
use Rattle.zi_universe.specs.Loading.{store_of}
use Rattle.zi_universe.specs.Candidates.{is_admitted}
use Rattle.zi_universe.proofs.OfferingLemmas.{item_at, offers_next, offers_end}
use Rattle.zi_universe.proofs.offers.offer_impls.Goals as goal

pub loop-place-init : goal.loop-place-init
loop-place-init c = record { feeds = refl; held = refl; numbered = λ h. h }

pub offer_at-requires-clause-there : goal.offer_at-requires-clause-there
offer_at-requires-clause-there c = ap (λ q. slice_get q c.args.feed) c.loop-place.invariant.feeds ∙ c.requires.there

pub loop-place-preserved : goal.loop-place-preserved
loop-place-preserved c =
    let is = c.args.read.now.feed.impls in
    let n = c.loop-place.place in
    let within : n < length is = omega arith in
    let i = item_at is n within in
    record {
      feeds = c.in_ok-offer_at.ensures.feeds ∙ c.loop-place.invariant.feeds;
      held = offers_next c.args.wanted.now.req c.args.wanted.now.policy (store_of c.args.wanted.now) c.args.interface.now c.args.read.now.feed.uri
          (is_admitted c.args.wanted.now.req c.args.wanted.now.policy c.args.interface.now) is n i.0 _ _ _ i.1 (c.in_ok-offer_at.ensures.held i.0 i.1) c.loop-place.invariant.held;
      numbered = λ h. c.in_ok-offer_at.ensures.numbered (c.loop-place.invariant.numbered h);
    }

pub returns-clause-held : goal.returns-clause-held
returns-clause-held c =
    let le : length c.args.read.now.feed.impls ≤ c.loop-place.place = omega arith in
    offers_end c.args.wanted.now.req c.args.wanted.now.policy (store_of c.args.wanted.now) c.args.interface.now c.args.read.now.feed.uri
    (is_admitted c.args.wanted.now.req c.args.wanted.now.policy c.args.interface.now) c.args.read.now.feed.impls c.loop-place.place _ _ le c.loop-place.invariant.held

pub returns-clause-numbered : goal.returns-clause-numbered
returns-clause-numbered c = c.loop-place.invariant.numbered
