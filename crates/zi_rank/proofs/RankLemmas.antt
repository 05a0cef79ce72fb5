-- Numbers that stand to each other as the versions do give the order of rank.
use Rattle.std.proofs.Common.{◌≡◌, ap, ◌∙◌}
use Rattle.std.specs.Prelude.{drop}
use Rattle.std.specs.Ordering.{nat_cmp, bool_cmp, ordering_then}
use Rattle.std.specs.declared.cmp.Ordering.{Ordering}
use Rattle.zi_version.specs.Value.{version_cmp}
use Rattle.zi_version.specs.First.{first_cmp}
use Rattle.zi_policy.specs.declared.types.Policy.{Policy}
use Rattle.zi_rank.specs.declared.types.Standing.{Standing}
use Rattle.zi_rank.specs.declared.rating.VersionNumber.{VersionNumber}
use Rattle.zi_rank.specs.Reasons.{is_package, is_available}
use Rattle.zi_rank.specs.Rank.{smaller, greater, marked, unmarked, in_turn, rank_cmp}
use Rattle.zi_rank.specs.Ratings.{Rated, rating_of, rated, rated_components, numbered_cmp}

below_five : (a b c d e p q : Ordering) → p ≡ q
    → ordering_then a (ordering_then b (ordering_then c (ordering_then d (ordering_then e p))))
    ≡ ordering_then a (ordering_then b (ordering_then c (ordering_then d (ordering_then e q))))
below_five a b c d e p q h = ap (λ o. ordering_then a (ordering_then b (ordering_then c (ordering_then d (ordering_then e o))))) h

-- by numbers that stand to each other as their versions do, two implementations stand as by these
pub numbered_ranks : (p : Policy) (c d : Standing) (m n : VersionNumber) → nat_cmp n.first m.first ≡ first_cmp d.version c.version → nat_cmp n.whole m.whole ≡ version_cmp d.version c.version
    → numbered_cmp (rating_of p c, m, c) (rating_of p d, n, d) ≡ rank_cmp p c d
unfolding rank_cmp numbered_cmp rating_of
numbered_ranks p c d m n e f =
    let q : Rated = rated p c in
    let r : Rated = rated p d in
    let rest : Ordering = in_turn (drop 8 rated_components) q r in
    let packages : Ordering = bool_cmp (is_package d.origin) (is_package c.origin) in
    below_five (smaller (λ (s : Rated). s.0.base) q r) (marked (λ (s : Rated). s.0.preferred) q r) (marked (λ (s : Rated). s.0.ready) q r) (unmarked (λ (s : Rated). is_available s.1.origin) q r) (greater (λ (s : Rated). s.0.level) q r)
    (ordering_then (nat_cmp n.first m.first) (ordering_then packages (ordering_then (nat_cmp n.whole m.whole) rest)))
    (ordering_then (first_cmp d.version c.version) (ordering_then packages (ordering_then (version_cmp d.version c.version) rest)))
    (ap (λ o. ordering_then o (ordering_then packages (ordering_then (nat_cmp n.whole m.whole) rest))) e
    ∙ ap (λ o. ordering_then (first_cmp d.version c.version) (ordering_then packages (ordering_then o rest))) f)
