use Rattle.std.proofs.Common.{refl}
use Rattle.zi_storing.proofs.PurgingLemmas.{files_unread, purge_fails, purge_tells}
use Rattle.zi_storing.proofs.purging.purge.Goals as goal

pub returns-in-Err : goal.returns-in-Err
returns-in-Err g c =
    files_unread c.args.files (g.F.Feeds.seen c.args.feeds.now) (g.F.Feeds.seen c.digests_of_files.new.feeds) (g.K.Shelf.seen c.args.shelf.now) (g.O.Sink.seen c.args.out.now) c.in-Err.outcome
    (rw c.as_slice.ensures at c.in-Err.ensures.reads) c.digests_of_files.ensures.stays

pub returns-in-Ok-purge_store : goal.returns-in-Ok-purge_store
returns-in-Ok-purge_store g c =
    purge_tells c.args.files (g.F.Feeds.seen c.args.feeds.now) (g.F.Feeds.seen c.digests_of_files.new.feeds) (g.K.Shelf.seen c.args.shelf.now) (g.K.Shelf.seen c.purge_store.new.shelf)
    (g.O.Sink.seen c.args.out.now) (g.O.Sink.seen c.put_names.new.out) c.in-Ok.kept (rw c.as_slice.ensures at c.in-Ok.ensures.reads) c.digests_of_files.ensures.stays
    c.in-Ok-purge_store.purge c.gone.result.now c.put_names.result c.in-Ok-purge_store.ensures c.gone.ensures (rw c.as_slice-in-Ok-purge_store.ensures at c.put_names.ensures)

pub returns : goal.returns
returns g c =
    purge_fails c.args.files (g.F.Feeds.seen c.args.feeds.now) (g.F.Feeds.seen c.digests_of_files.new.feeds) (g.K.Shelf.seen c.args.shelf.now) (g.K.Shelf.seen c.purge_store.new.shelf)
    (g.O.Sink.seen c.args.out.now) (g.O.Sink.seen c.args.out.now) c.in-Ok.kept (rw c.as_slice.ensures at c.in-Ok.ensures.reads) c.digests_of_files.ensures.stays
    c.in-Err-purge_store.fault c.failed.result c.in-Err-purge_store.ensures c.failed.ensures refl
