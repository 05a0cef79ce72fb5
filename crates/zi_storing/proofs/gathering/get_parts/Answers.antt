use Rattle.zi_storing.proofs.GatheringLemmas.{held_next, held_stops, parts_short}
use Rattle.zi_storing.proofs.gathering.get_parts.Goals as goal

pub loop-file-preserved : goal.loop-file-preserved
loop-file-preserved g c =
    held_next c.args.files.now c.loop-file.file-index (g.F.Feeds.seen c.args.feeds.now) (g.F.Feeds.seen c.loop-file.feeds) (g.F.Feeds.seen c.get_part.new.feeds) c.loop-file.held c.add.new.self c.file-item.result c.in-Ok.part
    c.loop-file-test.true c.file-item.is c.loop-file.invariant c.in-Ok.ensures (c.in-Ok-add.ensures c.loop-file.invariant.parts c.loop-file.invariant.holds)

pub returns-in-Err-add : goal.returns-in-Err-add
returns-in-Err-add g c =
    parts_short c.args.files.now c.loop-file.file-index (g.F.Feeds.seen c.args.feeds.now) (g.F.Feeds.seen c.loop-file.feeds) (g.F.Feeds.seen c.get_part.new.feeds) c.loop-file.held c.file-item.result c.in-Ok.part
    c.loop-file-test.true c.file-item.is c.loop-file.invariant c.in-Ok.ensures

pub returns-in-Err : goal.returns-in-Err
returns-in-Err g c =
    held_stops c.args.files.now c.loop-file.file-index (g.F.Feeds.seen c.args.feeds.now) (g.F.Feeds.seen c.loop-file.feeds) (g.F.Feeds.seen c.get_part.new.feeds) c.loop-file.held c.file-item.result c.in-Err.fault
    c.loop-file-test.true c.file-item.is c.loop-file.invariant c.in-Err.ensures
