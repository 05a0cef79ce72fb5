-- The outcome of a loading that was refused.
use Rattle.zi_universe.specs.declared.fault.LoadFault.{LoadFault}
use Rattle.zi_universe.specs.declared.fault.LoadFault.TheVariants as load
use Rattle.zi_outcome.specs.declared.outcome.Outcome.{Outcome}
use Rattle.zi_outcome.specs.declared.outcome.Outcome.TheVariants.{FeedRead, NoRootFeed, BadFeed, FeedTooLong, TooManyFeeds, TooManyInterfaces, TooManyCandidates, Memory}

abbrev pub outcome_of : LoadFault → Outcome
outcome_of (load.FeedRead uri) = FeedRead uri
outcome_of load.NoRootFeed = NoRootFeed
outcome_of (load.BadFeed uri fault) = BadFeed uri fault
outcome_of (load.FeedTooLong uri limit) = FeedTooLong uri limit
outcome_of (load.TooManyFeeds limit) = TooManyFeeds limit
outcome_of (load.TooManyInterfaces limit) = TooManyInterfaces limit
outcome_of (load.TooManyCandidates limit) = TooManyCandidates limit
outcome_of load.Memory = Memory
