use Rattle.std.proofs.Common.{◌≡◌, take, flat_map}
use Rattle.zi_universe.specs.Loading.{store_of}
use Rattle.zi_refused.specs.Refused.{refused_by}
use Rattle.zi_refused.proofs.refusing.refused.Given as goal

abbrev pub invariant-loop-feed : goal.invariant-loop-feed
invariant-loop-feed l = l.refusals ≡ flat_map (refused_by l.terms.req l.terms.policy (store_of l.terms) l.interface) (take l.feed-index l.feeds)
