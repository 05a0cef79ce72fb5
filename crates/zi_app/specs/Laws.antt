-- What stands at an address has one cause.
use Rattle.std.specs.Prelude.{◌≡◌, ℕ, List, ◌⊎◌}
use Rattle.zi_feed.specs.declared.feed.Feed.{Feed}
use Rattle.zi_universe.specs.declared.fault.BadFeed.{BadFeed}
use Rattle.zi_universe.specs.Loading.{Says, HasFault}

-- The bytes of an address have a fault or say a feed, no two faults, no two feeds, and not both.
pub record HasOneCause (uri bytes : List ℕ) : Type 0 where
  pub some : ((fault : BadFeed) × HasFault uri bytes fault) ⊎ ((feed : Feed) × Says uri bytes feed)
  pub fault : (a b : BadFeed) → HasFault uri bytes a → HasFault uri bytes b → a ≡ b
  pub feed : (f g : Feed) → Says uri bytes f → Says uri bytes g → f ≡ g
  pub apart : (a : BadFeed) (f : Feed) → HasFault uri bytes a → Says uri bytes f → ⊥
