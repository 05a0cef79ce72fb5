use Rattle.std.proofs.Common.{◌≡◌, ◌++◌, List, length, ap, sym, subst, refl, ◌∙◌}
use Rattle.std.specs.Prelude.{slice_get}
use Rattle.std.proofs.lemmas.Result.{on_ok_weaker}
use Rattle.zi_parts.specs.declared.types.Impl.{Impl}
use Rattle.zi_parts.specs.declared.types.Native.{Native}
use Rattle.zi_packages.specs.declared.types.Packages.{Packages}
use Rattle.zi_packages.specs.declared.named.Pick.{Pick}
use Rattle.zi_packages.specs.Natives.{with_rows}
use Rattle.zi_packages.specs.Picks.{AreAt, all_picked}
use Rattle.zi_universe.specs.Loading.{store_of}
use Rattle.zi_universe.specs.Candidates.{is_admitted}
use Rattle.zi_universe.proofs.OfferingLemmas.{feed_new, feed_more, held_kinds}
use Rattle.zi_universe.proofs.offers.offer.Goals as goal

pub offer_impls-requires-clause-there : goal.offer_impls-requires-clause-there
offer_impls-requires-clause-there c =
    feed_new c.args.offers.now.feeds c.push.new.self c.len-feed.result c.in_ok-shares.shares c.args.read.now.shares c.in_ok-push.ensures.ok c.len-feed.ensures c.in_ok-shares.ensures

pub returns-clause-held : goal.returns-clause-held
returns-clause-held c =
    let is = c.args.read.now.feed.impls in
    let ns = c.args.read.now.feed.natives in
    let ps = all_picked c.in_ok-picks.picks.items in
    let P : Packages → Type 0 = λ q. with_rows q c.as_slice-impls.result.now c.as_slice-natives.result.now ≡ c.as_slice-impls.result.now ++ ps in
    let Q : List Impl → Type 0 = λ q. with_rows c.args.wanted.now.packages q c.as_slice-natives.result.now ≡ q ++ ps in
    let R : List Native → Type 0 = λ q. with_rows c.args.wanted.now.packages is q ≡ is ++ ps in
    let are : with_rows c.args.wanted.now.packages is ns ≡ is ++ ps = subst R c.as_slice-natives.ensures (subst Q c.as_slice-impls.ensures (subst P c.rows.ensures c.in_ok-picks.ensures.are)) in
    on_ok_weaker c.offer_rows.result (λ g.
    held_kinds c.args.wanted.now.req c.args.wanted.now.policy (store_of c.args.wanted.now) c.args.interface.now c.args.read.now.feed.uri
    (is_admitted c.args.wanted.now.req c.args.wanted.now.policy c.args.interface.now) is (all_picked c.as_slice.result.now) _ _ _ _ (are ∙ ap (λ q. is ++ all_picked q) (sym c.as_slice.ensures.value)) c.in_ok-offer_impls.ensures.held g) c.offer_rows.ensures.held

pub offer_rows-requires-clause-there : goal.offer_rows-requires-clause-there
offer_rows-requires-clause-there c =
    ap (λ q. slice_get q c.len-feed.result) c.in_ok-offer_impls.ensures.feeds
    ∙ feed_new c.args.offers.now.feeds c.push.new.self c.len-feed.result c.in_ok-shares.shares c.args.read.now.shares c.in_ok-push.ensures.ok c.len-feed.ensures c.in_ok-shares.ensures

pub offer_rows-requires-clause-at : goal.offer_rows-requires-clause-at
offer_rows-requires-clause-at c =
    let P : List Native → Type 0 = λ q. AreAt q c.in_ok-picks.picks.items in
    let Q : List Pick → Type 0 = λ q. AreAt c.args.read.now.feed.natives q in
    subst Q (sym c.as_slice.ensures.value) (subst P c.as_slice-natives.ensures c.in_ok-picks.ensures.at)

pub returns-clause-numbered : goal.returns-clause-numbered
returns-clause-numbered c =
    on_ok_weaker c.offer_rows.result (λ g h.
    g (c.in_ok-offer_impls.ensures.numbered (feed_more c.args.offers.now.feeds c.push.new.self c.in_ok-shares.shares c.args.offers.now.offered.items c.in_ok-push.ensures.ok h))) c.offer_rows.ensures.numbered
