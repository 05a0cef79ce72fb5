use Rattle.zi_feed.proofs.PlaceLaws.{in_order}
use Rattle.zi_feed.proofs.laws.impls_are_in_order.Goals as goal

pub returns : goal.returns
returns c = in_order
