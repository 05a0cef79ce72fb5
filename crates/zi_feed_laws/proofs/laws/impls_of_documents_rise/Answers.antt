use Rattle.zi_feed_laws.proofs.RiseLaws.{rise, apart}
use Rattle.zi_feed_laws.proofs.laws.impls_of_documents_rise.Goals as goal

pub returns : goal.returns
returns c = record {
  rise = rise c.what_is_read_keeps.ensures.order c.impls_are_in_order.ensures;
  apart = apart c.what_is_read_keeps.ensures.order c.impls_are_in_order.ensures;
}
