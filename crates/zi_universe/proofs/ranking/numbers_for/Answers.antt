use Rattle.std.proofs.Common.{List, ℕ, Bor, sym, subst}
use Rattle.zi_rank.specs.declared.rating.VersionNumber.{VersionNumber}
use Rattle.zi_universe.specs.Offering.{texts_of, ArePlacedIn, AreNumbersOf}
use Rattle.zi_universe.proofs.KeyLemmas.{all_within, numbers_placed}
use Rattle.zi_universe.proofs.ranking.numbers_for.Goals as goal

pub numbers_at-requires : goal.numbers_at-requires
numbers_at-requires c =
    let vs : List (List ℕ) = texts_of c.in_ok-placing.placing.versions.items in
    let P : List VersionNumber → Type 0 = λ q. AreNumbersOf vs q in
    let Q : List (Bor (List ℕ)) → Type 0 = λ q. AreNumbersOf (texts_of q) c.in_ok-numbers.numbers.items in
    let R : List ℕ → Type 0 = λ q. ArePlacedIn vs c.args.offered.now q in
    let numbers : AreNumbersOf vs c.as_slice-all.result.now = subst P (sym c.as_slice-all.ensures.value) (subst Q c.as_slice-versions.ensures.value c.in_ok-numbers.ensures) in
    all_within vs c.as_slice-all.result.now c.args.offered.now c.as_slice-places.result.now numbers.count (subst R (sym c.as_slice-places.ensures.value) c.in_ok-placing.ensures)

pub returns : goal.returns
returns c =
    let vs : List (List ℕ) = texts_of c.in_ok-placing.placing.versions.items in
    let P : List VersionNumber → Type 0 = λ q. AreNumbersOf vs q in
    let Q : List (Bor (List ℕ)) → Type 0 = λ q. AreNumbersOf (texts_of q) c.in_ok-numbers.numbers.items in
    let R : List ℕ → Type 0 = λ q. ArePlacedIn vs c.args.offered.now q in
    let numbers : AreNumbersOf vs c.as_slice-all.result.now = subst P (sym c.as_slice-all.ensures.value) (subst Q c.as_slice-versions.ensures.value c.in_ok-numbers.ensures) in
    numbers_placed vs c.as_slice-all.result.now c.args.offered.now c.as_slice-places.result.now c.in_ok-found.found.items numbers
    (subst R (sym c.as_slice-places.ensures.value) c.in_ok-placing.ensures) c.in_ok-found.ensures
