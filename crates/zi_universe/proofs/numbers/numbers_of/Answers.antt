use Rattle.std.proofs.Common.{List, ℕ, Bor, length, refl, sym, ◌∙◌, subst, arith}
use Rattle.std.specs.Prelude.{slice_index_or, IsPermutation}
use Rattle.std.proofs.lemmas.List.{length-set, length-map}
use Rattle.std.proofs.lemmas.Option.{slice_get-get_or}
use Rattle.zi_universe.specs.declared.numbers.PlacedVersion.{PlacedVersion}
use Rattle.zi_universe.specs.Offering.{versions_of, texts_of, AreAt, HasPlaces}
use Rattle.zi_universe.proofs.NumberLemmas.{ByVersion, counted_more, all_counted}
use Rattle.zi_universe.proofs.numbers.numbers_of.Goals as goal

pub number_at-number-requires-clause-sorted : goal.number_at-number-requires-clause-sorted
number_at-number-requires-clause-sorted c =
    let P : List PlacedVersion → Type 0 = λ q. ByVersion q in
    subst P (sym c.as_slice-order.ensures.value) c.in_ok-order.ensures.sorted

pub loop-at-preserved : goal.loop-at-preserved
loop-at-preserved c =
    let ps = c.as_slice-order.result.now in
    let P : List PlacedVersion → Type 0 = λ q. AreAt (texts_of c.args.versions.now) q in
    record {
      count = length-set c.loop-at.numbers.items _ _ ∙ c.loop-at.invariant.count;
      counted = counted_more (texts_of c.args.versions.now) (versions_of ps) ps c.loop-at.numbers.items _ c.loop-at.at c.loop-at.number c.number_at-number.result
          (slice_index_or ps c.loop-at.at c.index-order-at.result) (subst P (sym c.as_slice-order.ensures.value) c.in_ok-order.ensures.at) (c.loop-at.invariant.count ∙ sym (length-map c.args.versions.now (λ (v : Bor (List ℕ)). v.now)))
          (slice_get-get_or ps c.loop-at.at c.index-order-at.result c.loop-at-test.true) refl c.number_at-number.ensures c.loop-at.invariant.counted;
    }

pub returns : goal.returns
returns c =
    let vs = texts_of c.args.versions.now in
    let P : List PlacedVersion → Type 0 = λ q. AreAt vs q in
    let Q : List PlacedVersion → Type 0 = λ q. IsPermutation vs (versions_of q) in
    let R : List PlacedVersion → Type 0 = λ q. HasPlaces (length vs) q in
    let same = sym c.as_slice-order.ensures.value in
    all_counted vs c.as_slice-order.result.now c.loop-at.numbers.items c.loop-at.at c.loop-at.number (let f = c.loop-at-test.false in omega (arith, f))
    (subst P same c.in_ok-order.ensures.at) (subst Q same c.in_ok-order.ensures.same) (subst R same c.in_ok-order.ensures.places) (c.loop-at.invariant.count ∙ sym (length-map c.args.versions.now (λ (v : Bor (List ℕ)). v.now))) c.loop-at.invariant.counted
