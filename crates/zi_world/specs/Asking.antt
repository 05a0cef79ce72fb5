-- What a command leaves of the feeds.
use Rattle.std.specs.Prelude.{◌≡◌}
use Rattle.zi_outside.specs.Views.{Feeding, holding}

-- they hold what they held, and the calls that are to fail are the same
pub record FeedsStay (before after : Feeding) : Type 0 where
  pub holds : holding after ≡ holding before
  pub plan : after.plan ≡ before.plan
