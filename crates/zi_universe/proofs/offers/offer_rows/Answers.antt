use Rattle.std.proofs.Common.{◌≡◌, ◌<◌, ◌≤◌, ◌+◌, ℕ, length, map, ap, sym, subst, refl, ◌∙◌, arith, Some, option_map}
use Rattle.std.specs.Prelude.{slice_get}
use Rattle.std.proofs.lemmas.List.{length-map}
use Rattle.std.proofs.lemmas.Option.{slice_get-map, slice_get-get_or}
use Rattle.zi_packages.specs.declared.named.Pick.{Pick}
use Rattle.zi_packages.specs.Picks.{picked, all_picked}
use Rattle.zi_universe.specs.Loading.{store_of}
use Rattle.zi_universe.specs.Candidates.{is_admitted}
use Rattle.zi_universe.proofs.KeyLemmas.{All-turn}
use Rattle.zi_universe.proofs.OfferingLemmas.{rows_next, rows_end, front_place}
use Rattle.zi_universe.proofs.offers.offer_rows.Goals as goal

pub loop-n-init : goal.loop-n-init
loop-n-init c = record {
  feeds = refl;
  held = front_place c.args.wanted.now.req c.args.wanted.now.policy (store_of c.args.wanted.now) c.args.interface.now c.args.read.now.feed.uri
      (is_admitted c.args.wanted.now.req c.args.wanted.now.policy c.args.interface.now) (all_picked c.args.picks.now) (length c.args.read.now.feed.impls) _;
  numbered = λ h. h;
}

pub offer_row-requires-clause-there : goal.offer_row-requires-clause-there
offer_row-requires-clause-there c = ap (λ q. slice_get q c.args.feed) c.loop-n.invariant.feeds ∙ c.requires.there

pub offer_row-requires-clause-at : goal.offer_row-requires-clause-at
offer_row-requires-clause-at c =
    All-turn (λ (p : Pick). slice_get c.args.read.now.feed.natives p.at ≡ Some p.native.now) c.args.picks.now c.loop-n.n c.index-picks-n.result c.requires.at (c.loop-n-test.true, c.index-picks-n.is)

pub loop-n-preserved : goal.loop-n-preserved
loop-n-preserved c =
    let p = c.index-picks-n.result in
    let at : slice_get (all_picked c.args.picks.now) c.loop-n.n ≡ Some (picked p) =
    slice_get-map picked c.args.picks.now c.loop-n.n ∙ ap (option_map picked) (slice_get-get_or c.args.picks.now c.loop-n.n p c.loop-n-test.true ∙ ap (λ q. Some q) (sym c.index-picks-n.is)) in
    record {
      feeds = c.in_ok-offer_row.ensures.feeds ∙ c.loop-n.invariant.feeds;
      held = rows_next c.args.wanted.now.req c.args.wanted.now.policy (store_of c.args.wanted.now) c.args.interface.now c.args.read.now.feed.uri
          (is_admitted c.args.wanted.now.req c.args.wanted.now.policy c.args.interface.now) (all_picked c.args.picks.now) (length c.args.read.now.feed.impls) c.len-front.result c.loop-n.n (picked p) _ _ _ c.len-front.ensures at
          c.in_ok-offer_row.ensures.held c.loop-n.invariant.held;
      numbered = λ h. c.in_ok-offer_row.ensures.numbered (c.loop-n.invariant.numbered h);
    }

pub returns-clause-held : goal.returns-clause-held
returns-clause-held c =
    let le : length (all_picked c.args.picks.now) ≤ c.loop-n.n = let l = length-map c.args.picks.now picked in let f = c.loop-n-test.false in omega (arith, l, f) in
    rows_end c.args.wanted.now.req c.args.wanted.now.policy (store_of c.args.wanted.now) c.args.interface.now c.args.read.now.feed.uri
    (is_admitted c.args.wanted.now.req c.args.wanted.now.policy c.args.interface.now) (all_picked c.args.picks.now) (length c.args.read.now.feed.impls) c.loop-n.n _ _ le c.loop-n.invariant.held

pub returns-clause-numbered : goal.returns-clause-numbered
returns-clause-numbered c = c.loop-n.invariant.numbered
