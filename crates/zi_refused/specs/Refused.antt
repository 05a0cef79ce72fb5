-- Why implementations that feeds have for an interface are no candidates.
use Rattle.std.specs.Prelude.{Bool, true, false, List, [], Option, Some, None, option_map}
use Rattle.std.specs.List.{filter_map, flat_map}
use Rattle.zi_policy.specs.declared.types.Policy.{Policy}
use Rattle.zi_rank.specs.declared.types.WhyNot.{WhyNot}
use Rattle.zi_rank.specs.declared.types.WhyNot.TheVariants as why
use Rattle.zi_rank.specs.Reasons.{why_not}
use Rattle.zi_parts.specs.declared.types.Impl.{Impl}
use Rattle.zi_feed.specs.declared.feed.Feed.{Feed}
use Rattle.zi_universe.specs.declared.types.Requirement.{Requirement}
use Rattle.zi_universe.specs.declared.types.Candidate.{Candidate}
use Rattle.zi_universe.specs.Naming.{Uri}
use Rattle.zi_universe.specs.Candidates.{Store, candidate_of, within_limits, offered_by}
use Rattle.zi_refused.specs.declared.refusal.Reason.{Reason}
use Rattle.zi_refused.specs.declared.refusal.Reason.TheVariants as reason
use Rattle.zi_refused.specs.declared.refusal.Refusal.{Refusal}

-- one of the five reasons for which it may not be used
abbrev pub of_use : WhyNot → Reason
of_use why.Stability = reason.Stability
of_use why.Source = reason.Source
of_use why.Arch = reason.Arch
of_use why.Unreachable = reason.Unreachable
of_use why.Offline = reason.Offline

-- the sixth: a limit doesn't admit its version
abbrev pub of_limits : Bool → Option Reason
of_limits true = None
of_limits false = Some reason.Limit

abbrev pub first_of : Option WhyNot → Bool → Option Reason
first_of (Some w) within = Some (of_use w)
first_of None within = of_limits within

-- the first of the six reasons against what is offered for an interface
abbrev pub reason_of : Requirement → Policy → Uri → Candidate → Option Reason
reason_of req p interface c = first_of (why_not p c.standing) (within_limits req.limits interface c.standing.version)

abbrev pub as_refused : Candidate → Reason → Refusal
as_refused c r = record { id = c.standing.id; version = c.standing.version; reason = r }

abbrev pub refusal_of : Requirement → Policy → Uri → Candidate → Option Refusal
refusal_of req p interface c = option_map (as_refused c) (reason_of req p interface c)

-- what of a feed is no candidate for an interface, with the first reason of each, in the order of the feed
abbrev pub refused_by : Requirement → Policy → Store → Uri → Feed → List Refusal
refused_by req p stored interface f = filter_map (refusal_of req p interface) (offered_by p stored interface f)

-- the same of feeds, feed by feed
abbrev pub refused : Requirement → Policy → Store → Uri → List Feed → List Refusal
refused req p stored interface feeds = flat_map (refused_by req p stored interface) feeds

-- an implementation's, wherever it stands: no reason looks at its place
abbrev pub refusal_at : Requirement → Policy → Store → Uri → Impl → Option Refusal
refusal_at req p stored interface i = refusal_of req p interface (candidate_of p stored interface [] 0 i)
