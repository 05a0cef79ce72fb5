use Rattle.std.proofs.Common.{List, ℕ, ◌+◌, ◌++◌, ◌∷◌, [], ap, sym, subst, ◌∙◌, arith, take}
use Rattle.std.proofs.lemmas.List.{take_more, take_all}
use Rattle.zi_universe.specs.declared.offers.Offered.{Offered}
use Rattle.zi_universe.specs.Offering.{IsNumbered, StandsAt, texts_of, ArePlacedIn}
use Rattle.zi_universe.proofs.KeyLemmas.{finds_none, places_more, All-turn}
use Rattle.zi_universe.proofs.ranking.place_all.Goals as goal

pub loop-one-init : goal.loop-one-init
loop-one-init c = record {
  placed =
      let P : List ℕ → Type 0 = λ q. ArePlacedIn (texts_of c.new-versions.result.items) [] q in
      subst P (sym c.in_ok-places.ensures.items) tt;
  finds = finds_none (λ q m. StandsAt c.args.feeds.now q (texts_of c.new-versions.result.items) m) c.new-known.result.entries c.new-known.ensures.empty;
}

pub place_of-requires-clause-there : goal.place_of-requires-clause-there
place_of-requires-clause-there c = All-turn (IsNumbered c.args.feeds.now) c.args.offered.now c.loop-one.one-index c.one-item.result c.requires (c.loop-one-test.true, c.one-item.is)

pub place_of-requires-clause-finds : goal.place_of-requires-clause-finds
place_of-requires-clause-finds c = c.turn_to.ensures c.args.feeds.now (texts_of c.loop-one.versions.items) c.loop-one.invariant.finds

pub loop-one-preserved : goal.loop-one-preserved
loop-one-preserved c = record {
  placed =
      let o : Offered = c.one-item.result in
      let os : List Offered = take c.loop-one.one-index c.args.offered.now in
      let P : List Offered → Type 0 = λ q. ArePlacedIn (texts_of c.place_of.new.versions.items) q (c.loop-one.places.items ++ c.in_ok-place.place ∷ []) in
      let Q : List ℕ → Type 0 = λ q. ArePlacedIn (texts_of c.place_of.new.versions.items) (take (c.loop-one.one-index + 1) c.args.offered.now) q in
      subst Q (sym c.in_ok-push.ensures.items)
      (subst P (ap (λ q. os ++ q ∷ []) c.one-item.is ∙ sym (take_more c.args.offered.now c.loop-one.one-index o c.loop-one-test.true))
      (places_more (texts_of c.loop-one.versions.items) (texts_of c.place_of.new.versions.items) c.in_ok-place.ensures.grows os c.loop-one.places.items o c.in_ok-place.place c.in_ok-place.ensures.at c.loop-one.invariant.placed));
  finds = c.in_ok-place.ensures.finds;
}

pub returns : goal.returns
returns c =
    let P : List Offered → Type 0 = λ q. ArePlacedIn (texts_of c.loop-one.versions.items) q c.loop-one.places.items in
    subst P (take_all c.loop-one.one-index c.args.offered.now (let f = c.loop-one-test.false in omega (arith, f))) c.loop-one.invariant.placed
