use Rattle.std.proofs.Common.{◌≡◌, List, ℕ, length, ap, subst, rules}
use Rattle.std.specs.Prelude.{IsPermutation}
use Rattle.std.specs.Ordering.{is_lt}
use Rattle.std.proofs.lemmas.Fn.{always_returns_same}
use Rattle.std.proofs.lemmas.List.Sorted.{ranks_by, IsPermutation-map}
use Rattle.zi_version.specs.Value.{version_cmp}
use Rattle.zi_universe.specs.declared.numbers.PlacedVersion.{PlacedVersion}
use Rattle.zi_universe.specs.Offering.{versions_of, texts_of}
use Rattle.zi_universe.proofs.NumberLemmas.{version_total, places_in_order}
use Rattle.zi_universe.proofs.numbers.in_order.Goals as goal

pub returns-clause-same : goal.returns-clause-same
returns-clause-same c =
    let P : List (List ℕ) → Type 0 = λ q. IsPermutation q (versions_of c.sort_unstable_by.new.self.items) in
    subst P c.in_ok-placed.ensures.same (IsPermutation-map (λ (p : PlacedVersion). p.version.now) c.in_ok-placed.placed.items c.sort_unstable_by.new.self.items c.sort_unstable_by.ensures.permutation)

pub returns-clause-places : goal.returns-clause-places
returns-clause-places c = places_in_order (length (texts_of c.args.versions.now)) c.in_ok-placed.placed.items c.sort_unstable_by.new.self.items c.sort_unstable_by.ensures.permutation c.in_ok-placed.ensures.places

pub returns-clause-sorted : goal.returns-clause-sorted
returns-clause-sorted c =
    c.sort_unstable_by.ensures.sorted
    (λ (p q : PlacedVersion). is_lt (version_cmp p.version.now q.version.now))
    (ranks_by version_total (λ (p : PlacedVersion). p.version.now))
    (always_returns_same _ _ _ (λ a r f' k. (let e : r ≡ version_cmp a.0.now.version.now a.1.0.now.version.now = search rules in ap is_lt e, search rules)))
