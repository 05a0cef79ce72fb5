use Rattle.std.proofs.Common.{ap, sym, ◌∙◌}
use Rattle.std.specs.Prelude.{slice_get}
use Rattle.zi_feed.specs.declared.shares.Shares.{Shares}
use Rattle.zi_universe.specs.Loading.{store_of}
use Rattle.zi_universe.specs.Candidates.{is_admitted}
use Rattle.zi_universe.proofs.OfferingLemmas.{given_numbered}
use Rattle.zi_universe.proofs.offers.offer_at.Goals as goal

pub push-requires : goal.push-requires
push-requires c =
    given_numbered c.args.offers.now.feeds c.args.read.now.shares c.args.feed c.at-numbers.result.now c.args.wanted.now.policy (store_of c.args.wanted.now) c.args.interface.now c.args.read.now.feed.uri c.args.place
    c.at-imp.result.now (is_admitted c.args.wanted.now.req c.args.wanted.now.policy c.args.interface.now) c.in-Some.candidate c.requires.there c.requires.shared.impls.levels
    (c.requires.shared.impls.each c.args.place c.at-numbers.result.now c.at-imp.result.now (ap (λ (q : Shares). slice_get q.of c.args.place) (sym c.as_ref-shares.ensures) ∙ c.at-numbers.ensures) c.at-imp.ensures)
    (sym c.in-Some.is ∙ c.in_ok-found.ensures)
