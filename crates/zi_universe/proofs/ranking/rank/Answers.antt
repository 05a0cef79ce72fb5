use Rattle.std.proofs.Common.{◌≡◌, List, ℕ, length, ap, sym, subst, ◌∙◌, rules}
use Rattle.std.proofs.lemmas.Fn.{always_returns_same}
use Rattle.std.specs.Ordering.{is_lt}
use Rattle.std.proofs.lemmas.List.{length-map}
use Rattle.std.proofs.lemmas.List.Sorted.{ranks_by}
use Rattle.zi_rank.specs.declared.rating.VersionNumber.{VersionNumber}
use Rattle.zi_rank.specs.Ratings.{numbered_cmp}
use Rattle.zi_rank.specs.RankOrder.{numbered_total}
use Rattle.zi_universe.specs.declared.offers.Offered.{Offered}
use Rattle.zi_universe.specs.declared.ranking.RatedCandidate.{RatedCandidate}
use Rattle.zi_universe.specs.Offering.{AreNumbered, AreNumbersOf, versions_in}
use Rattle.zi_universe.proofs.RankedLemmas.{rated_sorting, rated_numbered}
use Rattle.zi_universe.proofs.ranking.rank.Goals as goal

pub numbers_for-requires : goal.numbers_for-requires
numbers_for-requires c =
    let P : List Offered → Type 0 = λ q. AreNumbered c.args.feeds.now q in
    subst P (sym c.as_slice-all.ensures.value) c.requires

pub rate-requires-clause-numbered : goal.rate-requires-clause-numbered
rate-requires-clause-numbered c = c.requires

pub rate-requires-clause-count : goal.rate-requires-clause-count
rate-requires-clause-count c =
    ap (λ (q : List VersionNumber). length q) c.as_slice-numbers_of_all.ensures.value
    ∙ (c.in_ok-numbers.ensures.count ∙ (length-map c.as_slice-all.result.now (λ (o : Offered). o.candidate.standing.version) ∙ ap (λ (q : List Offered). length q) c.as_slice-all.ensures.value))

pub returns-clause-sorting : goal.returns-clause-sorting
returns-clause-sorting c =
    let ns = c.as_slice-numbers_of_all.result.now in
    let P : List VersionNumber → Type 0 = λ q. AreNumbersOf (versions_in c.args.offered.items) q in
    let Q : List Offered → Type 0 = λ q. AreNumbersOf (versions_in q) c.in_ok-numbers.numbers.items in
    rated_sorting c.args.policy.now c.args.offered.items ns c.in_ok-rated.rated.items c.sort_unstable_by.new.self.items c.in_ok-ranked.ranked.items
    c.in_ok-rated.ensures.same c.sort_unstable_by.ensures.permutation c.in_ok-ranked.ensures c.ranks_are_strict.ensures
    (subst P (sym c.as_slice-numbers_of_all.ensures.value) (subst Q c.as_slice-all.ensures.value c.in_ok-numbers.ensures)) c.in_ok-rated.ensures.numbers c.in_ok-rated.ensures.ratings
    (c.sort_unstable_by.ensures.sorted
    (λ (x y : RatedCandidate). is_lt (numbered_cmp (x.rating, x.number, x.one.candidate.standing) (y.rating, y.number, y.one.candidate.standing)))
    (ranks_by numbered_total (λ (x : RatedCandidate). (x.rating, x.number, x.one.candidate.standing)))
    (always_returns_same _ _ _ (λ a r f' k. (let e : r ≡ numbered_cmp (a.0.now.rating, a.0.now.number, a.0.now.one.candidate.standing) (a.1.0.now.rating, a.1.0.now.number, a.1.0.now.one.candidate.standing) = search rules in ap is_lt e, search rules))))

pub returns-clause-numbered : goal.returns-clause-numbered
returns-clause-numbered c =
    rated_numbered c.args.policy.now c.args.offered.items c.as_slice-numbers_of_all.result.now c.in_ok-rated.rated.items c.sort_unstable_by.new.self.items c.in_ok-ranked.ranked.items
    c.in_ok-rated.ensures.same c.sort_unstable_by.ensures.permutation c.in_ok-ranked.ensures c.args.feeds.now c.requires
