use Rattle.std.proofs.Common.{List, ℕ, Bor, refl, sym, subst, ◌∙◌, arith}
use Rattle.std.proofs.lemmas.List.{length-map, take_all}
use Rattle.zi_universe.specs.declared.numbers.PlacedVersion.{PlacedVersion}
use Rattle.zi_universe.specs.Offering.{texts_of}
use Rattle.zi_universe.proofs.NumberLemmas.{AreFirst, none_yet, one_more, lent_at}
use Rattle.zi_universe.proofs.numbers.with_places.Goals as goal

pub loop-place-init : goal.loop-place-init
loop-place-init c =
    let P : List PlacedVersion → Type 0 = λ q. AreFirst (texts_of c.args.versions.now) q 0 in
    subst P (sym c.in_ok-placed.ensures.items) (none_yet (texts_of c.args.versions.now))

pub loop-place-preserved : goal.loop-place-preserved
loop-place-preserved c =
    one_more (texts_of c.args.versions.now) c.loop-place.placed.items c.push.new.self.items c.loop-place.place
    _ (let lt = c.loop-place-test.true in let e = length-map c.args.versions.now (λ (v : Bor (List ℕ)). v.now) in omega (arith, lt, e))
    (lent_at c.args.versions.now c.loop-place.place c.index-versions-place.result c.loop-place-test.true c.index-versions-place.is) refl c.in_ok-push.ensures.items c.loop-place.invariant

pub returns-clause-at : goal.returns-clause-at
returns-clause-at c = c.loop-place.invariant.at

pub returns-clause-same : goal.returns-clause-same
returns-clause-same c =
    c.loop-place.invariant.same
    ∙ take_all c.loop-place.place (texts_of c.args.versions.now) (let no = c.loop-place-test.false in let e = length-map c.args.versions.now (λ (v : Bor (List ℕ)). v.now) in omega (arith, no, e))

pub returns-clause-places : goal.returns-clause-places
returns-clause-places c = λ k lt.
    c.loop-place.invariant.places k (let no = c.loop-place-test.false in let e = length-map c.args.versions.now (λ (v : Bor (List ℕ)). v.now) in omega (arith, no, e, lt))
