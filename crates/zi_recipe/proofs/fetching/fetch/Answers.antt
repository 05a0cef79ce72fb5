use Rattle.zi_recipe.proofs.FetchLemmas.{fetched_held, asked_held, fetched_more}
use Rattle.zi_recipe.proofs.fetching.fetch.Goals as goal

pub returns-in-Ok-Held-clause-fetched : goal.returns-in-Ok-Held-clause-fetched
returns-in-Ok-Held-clause-fetched g c =
    fetched_held (g.W.Web.seen c.args.web.now) (g.W.Web.seen c.get.new.self) c.args.href.now c.in_ok-named.named c.args.size c.new-bytes.result.items
    c.get.new.into.items c.whole.result c.in_ok-named.ensures c.new-bytes.ensures.items
    (rw c.as_str.ensures at (rw c.in-Ok-Held.field-0-is at c.in-Ok-Held.ensures.gets)) c.whole.ensures

pub returns-in-Ok-Held-clause-asks : goal.returns-in-Ok-Held-clause-asks
returns-in-Ok-Held-clause-asks g c =
    asked_held (g.W.Web.seen c.args.web.now) (g.W.Web.seen c.get.new.self) c.args.href.now c.in_ok-named.named c.args.size c.new-bytes.result.items
    c.get.new.into.items c.whole.result (rw c.as_str.ensures at (rw c.in-Ok-Held.field-0-is at c.in-Ok-Held.ensures.gets)) c.whole.ensures

pub returns-in-Ok-TooLong-clause-fetched : goal.returns-in-Ok-TooLong-clause-fetched
returns-in-Ok-TooLong-clause-fetched g c =
    fetched_more (g.W.Web.seen c.args.web.now) (g.W.Web.seen c.get.new.self) c.args.href.now c.in_ok-named.named c.args.size c.new-bytes.result.items
    c.get.new.into.items c.in_ok-named.ensures (rw c.as_str.ensures at (rw c.in-Ok-TooLong.field-0-is at c.in-Ok-TooLong.ensures.gets))
