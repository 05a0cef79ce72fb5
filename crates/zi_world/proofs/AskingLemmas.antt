-- Feeds that were asked.
use Rattle.std.proofs.Common.{◌≡◌, List, ℕ, refl, sym, subst, ◌∙◌}
use Rattle.zi_outside.specs.Views.{Feeding}
use Rattle.zi_outside.specs.Outside.{Asks}
use Rattle.zi_outside.proofs.AskingLemmas.{holding_asked}
use Rattle.zi_world.specs.Asking.{FeedsStay}

pub feeds_same : (feeds : Feeding) → FeedsStay feeds feeds
feeds_same feeds = record { holds = refl; plan = refl }

pub stays_then : (before mid after : Feeding) → FeedsStay before mid → FeedsStay mid after → FeedsStay before after
stays_then before mid after a b = record { holds = b.holds ∙ a.holds; plan = b.plan ∙ a.plan }

pub unasked_stay : (before after : Feeding) → after ≡ before → FeedsStay before after
unasked_stay before after e = subst (λ f. FeedsStay before f) (sym e) (feeds_same before)

pub asks_stay : (keys : List (List ℕ)) (before after : Feeding) → Asks keys before after → FeedsStay before after
asks_stay keys before after a = record { holds = holding_asked keys before after a; plan = a.plan }
