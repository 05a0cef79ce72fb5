use Rattle.std.proofs.Common.{ap, sym, ◌∙◌}
use Rattle.std.specs.Prelude.{slice_get}
use Rattle.zi_feed.specs.declared.shares.Shares.{Shares}
use Rattle.zi_universe.specs.Loading.{store_of}
use Rattle.zi_universe.specs.Candidates.{is_admitted}
use Rattle.zi_universe.proofs.OfferingLemmas.{given_row}
use Rattle.zi_universe.proofs.offers.offer_row.Goals as goal

pub push-requires : goal.push-requires
push-requires c =
    given_row c.args.offers.now.feeds c.args.read.now.shares c.args.feed c.at-numbers.result.now c.args.wanted.now.policy (store_of c.args.wanted.now) c.args.interface.now c.args.read.now.feed.uri c.args.place
    c.args.pick.now.native.now c.args.pick.now.row.now c.in_ok-imp.imp (is_admitted c.args.wanted.now.req c.args.wanted.now.policy c.args.interface.now) c.in-Some.candidate c.requires.there c.requires.shared.impls.levels
    (c.requires.shared.natives.each c.args.pick.now.at c.at-numbers.result.now c.args.pick.now.native.now (ap (λ (q : Shares). slice_get q.of_natives c.args.pick.now.at) (sym c.as_ref-shares.ensures) ∙ c.at-numbers.ensures) c.requires.at)
    c.in_ok-imp.ensures (sym c.in-Some.is ∙ c.in_ok-found.ensures)
