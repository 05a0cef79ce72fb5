use Rattle.std.proofs.Common.{map, refl, inl}
use Rattle.zi_storing.proofs.AddingLemmas.{adds_besides}
use Rattle.zi_storing.proofs.PurgingLemmas.{purges_besides}
use Rattle.zi_app.proofs.RunLemmas.{shows, shows_demo}
use Rattle.zi_app.proofs.running.answer.Goals as goal

pub returns-in-Add : goal.returns-in-Add
returns-in-Add g c =
    rw c.in-Add.is (inl (record { does = record { does = adds_besides c.in-Add.name c.in-Add.files (map g.R.Shelf.seen c.args.others.now) (g.F.Feeds.seen c.args.feeds.now) (g.F.Feeds.seen c.add.new.feeds) (g.K.Shelf.seen c.args.shelf.now) (g.K.Shelf.seen c.add.new.shelf) (g.O.Sink.seen c.args.out.now) (g.O.Sink.seen c.add.new.out) c.add.result c.add.ensures; web = refl }; started = refl }))

pub returns-in-Purge : goal.returns-in-Purge
returns-in-Purge g c =
    rw c.in-Purge.is (inl (record { does = record { does = purges_besides c.in-Purge.files (map g.R.Shelf.seen c.args.others.now) (g.F.Feeds.seen c.args.feeds.now) (g.F.Feeds.seen c.purge.new.feeds) (g.K.Shelf.seen c.args.shelf.now) (g.K.Shelf.seen c.purge.new.shelf) (g.O.Sink.seen c.args.out.now) (g.O.Sink.seen c.purge.new.out) c.purge.result c.purge.ensures; web = refl }; started = refl }))

pub returns-in-Manifest : goal.returns-in-Manifest
returns-in-Manifest g c = rw c.in-Manifest.is (inl (record { does = record { does = c.manifest.ensures (g.F.Feeds.seen c.args.feeds.now); web = refl }; started = refl }))

pub returns-in-Verify : goal.returns-in-Verify
returns-in-Verify g c = rw c.in-Verify.is (inl (record { does = record { does = c.verify_tree.ensures (g.F.Feeds.seen c.args.feeds.now); web = refl }; started = refl }))

pub returns-in-Names : goal.returns-in-Names
returns-in-Names g c = rw c.in-Names.is (inl (record { does = record { does = c.list.ensures (g.F.Feeds.seen c.args.feeds.now); web = refl }; started = refl }))

pub returns-in-Demo : goal.returns-in-Demo
returns-in-Demo g c =
    rw c.in-Demo.is (inl (record { does = record { does = shows_demo c.in-Demo.n (record { feeds = g.F.Feeds.seen c.args.feeds.now; shelf = g.K.Shelf.seen c.args.shelf.now; others = map g.R.Shelf.seen c.args.others.now; out = g.O.Sink.seen c.args.out.now }) (g.O.Sink.seen c.demonstrate.new.out) c.demonstrate.result c.demonstrate.ensures; web = refl }; started = refl }))

pub returns-in-Help : goal.returns-in-Help
returns-in-Help g c =
    rw c.in-Help.is (inl (record { does = record { does = shows _ _ (record { feeds = g.F.Feeds.seen c.args.feeds.now; shelf = g.K.Shelf.seen c.args.shelf.now; others = map g.R.Shelf.seen c.args.others.now; out = g.O.Sink.seen c.args.out.now }) (g.O.Sink.seen c.put_text.new.out) c.put_text.result c.as_bytes.ensures.value c.put_text.ensures; web = refl }; started = refl }))

pub returns-in-Version : goal.returns-in-Version
returns-in-Version g c =
    rw c.in-Version.is (inl (record { does = record { does = shows _ _ (record { feeds = g.F.Feeds.seen c.args.feeds.now; shelf = g.K.Shelf.seen c.args.shelf.now; others = map g.R.Shelf.seen c.args.others.now; out = g.O.Sink.seen c.args.out.now }) (g.O.Sink.seen c.put_text-in-Version.new.out) c.put_text-in-Version.result c.as_bytes-in-Version.ensures.value c.put_text-in-Version.ensures; web = refl }; started = refl }))

pub returns-in-Launch : goal.returns-in-Launch
returns-in-Launch g c = rw c.in-Launch.is (inl (rw c.as_slice.ensures at (c.launch.ensures (g.W.Web.seen c.args.web.now) (g.O.Sink.seen c.args.out.now))))

pub returns-in-ScriptLaunch : goal.returns-in-ScriptLaunch
returns-in-ScriptLaunch g c =
    rw c.in-ScriptLaunch.is (inl (record { does = rw c.as_slice-words.ensures at (c.script_file.ensures (g.W.Web.seen c.args.web.now)); started = refl }))
