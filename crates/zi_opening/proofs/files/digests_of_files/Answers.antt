use Rattle.std.proofs.Common.{take}
use Rattle.zi_opening.proofs.FilesLemmas.{read_none, read_next, read_short, read_stops, read_stays, read_unnamed, read_all}
use Rattle.zi_opening.proofs.files.digests_of_files.Goals as goal

pub loop-file-init : goal.loop-file-init
loop-file-init g c = read_none c.args.files.now (g.F.Feeds.seen c.args.feeds.now) c.new-digests.result c.new-digests.ensures

pub loop-file-preserved : goal.loop-file-preserved
loop-file-preserved g c =
    read_next c.args.files.now c.loop-file.file-index c.file-item.result c.in-Ok.name (g.F.Feeds.seen c.args.feeds.now) (g.F.Feeds.seen c.loop-file.feeds) (g.F.Feeds.seen c.get_selections.new.feeds) c.loop-file.digests
    c.loop-file-test.true c.file-item.is c.in-Ok.ensures c.loop-file.invariant c.in-Ok-get_selections.sels c.add_digests.new.digests c.in-Ok-get_selections.ensures.gets c.get_selections.ensures.stays c.in-Ok-add_digests.ensures

pub returns-in_default : goal.returns-in_default
returns-in_default g c = record {
  reads = read_unnamed c.args.files.now c.loop-file.file-index (g.F.Feeds.seen c.args.feeds.now) (g.F.Feeds.seen c.loop-file.feeds) c.loop-file.digests c.loop-file.invariant;
  stays = c.loop-file.invariant.stays;
}

pub returns-in-Err-add_digests : goal.returns-in-Err-add_digests
returns-in-Err-add_digests g c = record {
  reads = read_short c.args.files.now c.loop-file.file-index c.file-item.result c.in-Ok.name (g.F.Feeds.seen c.args.feeds.now) (g.F.Feeds.seen c.loop-file.feeds) (g.F.Feeds.seen c.get_selections.new.feeds) c.loop-file.digests
      c.loop-file-test.true c.file-item.is c.in-Ok.ensures c.loop-file.invariant c.in-Ok-get_selections.sels c.in-Ok-get_selections.ensures.gets;
  stays = read_stays (take c.loop-file.file-index c.args.files.now) (g.F.Feeds.seen c.args.feeds.now) (g.F.Feeds.seen c.loop-file.feeds) (g.F.Feeds.seen c.get_selections.new.feeds) c.loop-file.digests c.loop-file.invariant c.get_selections.ensures.stays;
}

pub returns-in-Err : goal.returns-in-Err
returns-in-Err g c = record {
  reads = read_stops c.args.files.now c.loop-file.file-index c.file-item.result c.in-Ok.name (g.F.Feeds.seen c.args.feeds.now) (g.F.Feeds.seen c.loop-file.feeds) (g.F.Feeds.seen c.get_selections.new.feeds) c.loop-file.digests
      c.loop-file-test.true c.file-item.is c.in-Ok.ensures c.loop-file.invariant c.in-Err.outcome c.in-Err.ensures.gets;
  stays = read_stays (take c.loop-file.file-index c.args.files.now) (g.F.Feeds.seen c.args.feeds.now) (g.F.Feeds.seen c.loop-file.feeds) (g.F.Feeds.seen c.get_selections.new.feeds) c.loop-file.digests c.loop-file.invariant c.get_selections.ensures.stays;
}

pub returns : goal.returns
returns g c = record {
  reads = read_all c.args.files.now c.loop-file.file-index (g.F.Feeds.seen c.args.feeds.now) (g.F.Feeds.seen c.loop-file.feeds) c.loop-file.digests c.loop-file-test.false c.loop-file.invariant;
  stays = c.loop-file.invariant.stays;
}
