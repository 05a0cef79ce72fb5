-- What a get of files is, by what was found.
use Rattle.std.proofs.Common.{◌≡◌, ℕ, List, [], ◌∷◌, None, Result, Ok, Err, refl}
use Rattle.std.specs.Prelude.{IfOk, IfErr, OnErr}
use Rattle.zi_outside.specs.Outside.{Query, Finds, Gets}
use Rattle.zi_outside.specs.declared.feeds.Got.{Got}
use Rattle.zi_outside.specs.declared.feeds.FeedsFault.{FeedsFault}
use Rattle.zi_outside.specs.declared.feeds.FeedsFault.TheVariants.{Failed, Memory}
use Rattle.zi_edge.specs.Seen.{feeding_seen}

pub delivered : (faults : ℕ) (query : Query) (r : Result Got FeedsFault) (buffer : List ℕ) → IfOk r (λ got. Finds None query got buffer) → OnErr r (buffer ≡ query.buffer)
    → IfErr r (λ f. f ≡ Memory) → Gets (feeding_seen faults) query r buffer (feeding_seen faults)
delivered faults query (Ok got) buffer found refused cause = (found, record { told = refl; plan = refl }, refl, tt)
delivered faults query (Err Failed) buffer found refused cause = absurd (cc cause)
delivered faults query (Err Memory) buffer found refused cause = (refused, refl)
