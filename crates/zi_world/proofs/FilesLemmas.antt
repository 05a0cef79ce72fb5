-- A file that was asked for.
use Rattle.std.proofs.Common.{◌≡◌, ℕ, List}
use Rattle.zi_outside.specs.Views.{Feeding}
use Rattle.zi_outcome.specs.declared.outcome.Outcome.{Outcome}
use Rattle.zi_outcome.specs.declared.outcome.Outcome.TheVariants.{FeedRead, FeedTooLong, NoFile, Memory}
use Rattle.zi_world.specs.Asking.{FeedsStay}
use Rattle.zi_world.specs.Files.{AsksFor, IsMissing}
use Rattle.zi_world.proofs.AskingLemmas.{asks_stay, unasked_stay}

pub file_stays : (file : List ℕ) (before after : Feeding) → AsksFor file before after → FeedsStay before after
file_stays file before after a = asks_stay _ before after a.asked

pub missing_stays : (limit : ℕ) (file : List ℕ) (before after : Feeding) (outcome : Outcome) → IsMissing limit file before after outcome → FeedsStay before after
missing_stays limit file before after (NoFile name) why = file_stays file before after why.1.0
missing_stays limit file before after (FeedTooLong uri told) why = file_stays file before after why.1.0
missing_stays limit file before after (FeedRead uri) why = asks_stay _ before after why.1.0
missing_stays limit file before after Memory why = unasked_stay before after why
missing_stays limit file before after other why = absurd why
