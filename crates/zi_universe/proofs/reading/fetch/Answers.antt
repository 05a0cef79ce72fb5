use Rattle.zi_universe.proofs.ReadingLemmas.{fetched_held}
use Rattle.zi_universe.specs.Stages.{feed_got}
use Rattle.zi_universe.proofs.reading.fetch.Goals as goal

pub returns-in-Ok-Held-clause-fetched : goal.returns-in-Ok-Held-clause-fetched
returns-in-Ok-Held-clause-fetched g c =
    fetched_held c.args.root.now c.args.policy.now c.args.uri.now c.in_ok-named.named (g.F.Feeds.seen c.args.feeds.now) (g.F.Feeds.seen c.get.new.self)
    c.new-bytes.result.items c.get.new.into.items c.as_slice.result.now (feed_got c.read_bytes.result) c.in_ok-named.ensures c.new-bytes.ensures.items
    c.as_slice.ensures.value (rw c.as_str.ensures at (rw c.in-Ok-Held.field-0-is at c.in-Ok-Held.ensures.gets)) c.read_bytes.ensures.reads
