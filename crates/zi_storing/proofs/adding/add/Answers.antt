use Rattle.std.proofs.Common.{inl, inr}
use Rattle.zi_storing.proofs.AddingLemmas.{not_gathered, added, not_added}
use Rattle.zi_storing.proofs.adding.add.Goals as goal

pub returns-in-Err : goal.returns-in-Err
returns-in-Err g c =
    not_gathered c.args.name c.args.files (g.F.Feeds.seen c.args.feeds.now) (g.F.Feeds.seen c.gather.new.feeds) (g.K.Shelf.seen c.args.shelf.now) (g.O.Sink.seen c.args.out.now) c.in-Err.fault c.refused_files.result
    (rw c.as_slice.ensures at c.in-Err.ensures) c.refused_files.ensures

pub returns-in-Ok-add_tree : goal.returns-in-Ok-add_tree
returns-in-Ok-add_tree g c =
    added c.args.name c.args.files (g.F.Feeds.seen c.args.feeds.now) (g.F.Feeds.seen c.gather.new.feeds) (g.K.Shelf.seen c.args.shelf.now) (g.K.Shelf.seen c.add_tree.new.shelf)
    (g.O.Sink.seen c.args.out.now) (g.O.Sink.seen c.put_added.new.out) c.in-Ok.tree c.in-Ok-add_tree.added c.put_added.result (rw c.as_slice.ensures at c.in-Ok.ensures) c.in-Ok-add_tree.ensures c.put_added.ensures

pub returns-in-Err-BadName : goal.returns-in-Err-BadName
returns-in-Err-BadName g c =
    not_added c.args.name c.args.files (g.F.Feeds.seen c.args.feeds.now) (g.F.Feeds.seen c.gather.new.feeds) (g.K.Shelf.seen c.args.shelf.now) (g.K.Shelf.seen c.add_tree.new.shelf)
    (g.O.Sink.seen c.args.out.now) c.in-Ok.tree c.in-Err-BadName.field-0 _ _ (rw c.as_slice.ensures at c.in-Ok.ensures) c.in-Err-BadName.field-0-is c.in-Err-BadName.ensures (λ tried n. n)

pub returns-in-Err-Mismatch : goal.returns-in-Err-Mismatch
returns-in-Err-Mismatch g c =
    not_added c.args.name c.args.files (g.F.Feeds.seen c.args.feeds.now) (g.F.Feeds.seen c.gather.new.feeds) (g.K.Shelf.seen c.args.shelf.now) (g.K.Shelf.seen c.add_tree.new.shelf)
    (g.O.Sink.seen c.args.out.now) c.in-Ok.tree c.in-Err-Mismatch.field-0 _ _ (rw c.as_slice.ensures at c.in-Ok.ensures) c.in-Err-Mismatch.field-0-is c.in-Err-Mismatch.ensures (λ tried n. n)

pub returns-in-Err-Crowded : goal.returns-in-Err-Crowded
returns-in-Err-Crowded g c =
    not_added c.args.name c.args.files (g.F.Feeds.seen c.args.feeds.now) (g.F.Feeds.seen c.gather.new.feeds) (g.K.Shelf.seen c.args.shelf.now) (g.K.Shelf.seen c.add_tree.new.shelf)
    (g.O.Sink.seen c.args.out.now) c.in-Ok.tree c.in-Err-Crowded.field-0 _ _ (rw c.as_slice.ensures at c.in-Ok.ensures) c.in-Err-Crowded.field-0-is c.in-Err-Crowded.ensures (λ tried n. n)

pub returns-in-Err-Failed : goal.returns-in-Err-Failed
returns-in-Err-Failed g c =
    not_added c.args.name c.args.files (g.F.Feeds.seen c.args.feeds.now) (g.F.Feeds.seen c.gather.new.feeds) (g.K.Shelf.seen c.args.shelf.now) (g.K.Shelf.seen c.add_tree.new.shelf)
    (g.O.Sink.seen c.args.out.now) c.in-Ok.tree c.in-Err-Failed.field-0 _ _ (rw c.as_slice.ensures at c.in-Ok.ensures) c.in-Err-Failed.field-0-is c.in-Err-Failed.ensures (λ tried n. n)

pub returns : goal.returns
returns g c =
    not_added c.args.name c.args.files (g.F.Feeds.seen c.args.feeds.now) (g.F.Feeds.seen c.gather.new.feeds) (g.K.Shelf.seen c.args.shelf.now) (g.K.Shelf.seen c.add_tree.new.shelf)
    (g.O.Sink.seen c.args.out.now) c.in-Ok.tree c.in-Err-Memory.field-0 _ _ (rw c.as_slice.ensures at c.in-Ok.ensures) c.in-Err-Memory.field-0-is c.in-Err-Memory.ensures (λ tried n. inr (inl n))
