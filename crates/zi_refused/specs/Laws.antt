-- What holds of refusals as such.
use Rattle.std.specs.Prelude.{◌≡◌, ◌+◌, List, length, is_none}
use Rattle.std.specs.List.{flat_map}
use Rattle.zi_policy.specs.declared.types.Policy.{Policy}
use Rattle.zi_feed.specs.declared.feed.Feed.{Feed}
use Rattle.zi_universe.specs.declared.types.Requirement.{Requirement}
use Rattle.zi_universe.specs.declared.types.Candidate.{Candidate}
use Rattle.zi_universe.specs.Naming.{Uri}
use Rattle.zi_universe.specs.Candidates.{Store, offered_by, is_admitted, AreCandidates}
use Rattle.zi_refused.specs.Refused.{reason_of, refused}

-- What is offered is admitted exactly where it has no reason. It has one at most, since a function gives it.
abbrev pub EachHasItsReason : Type 0
EachHasItsReason = (req : Requirement) (p : Policy) (interface : Uri) (c : Candidate) → is_admitted req p interface c ≡ is_none (reason_of req p interface c)

abbrev pub offered : Policy → Store → Uri → List Feed → List Candidate
offered p stored interface feeds = flat_map (offered_by p stored interface) feeds

-- The candidates of an interface, and what of its feeds is refused, are together all that they offer.
abbrev pub NoneIsLost : Type 0
NoneIsLost =
    (req : Requirement) (p : Policy) (stored : Store) (interface : Uri) (feeds : List Feed) (cs : List Candidate) →
    AreCandidates req p stored interface feeds cs → length cs + length (refused req p stored interface feeds) ≡ length (offered p stored interface feeds)
