use Rattle.std.proofs.Common.{List, ◌∷◌, map}
use Rattle.zi_store.specs.Keeping.{Keeps, is_names}
use Rattle.zi_launching.proofs.LaunchLaws.{names_for}
use Rattle.zi_launching.proofs.OpenLaws.{unread_file, unnamed_file, opened_file}
use Rattle.zi_choosing.specs.Knowing.{all_names}
use Rattle.zi_fetching.specs.Known.{names_of}
use Rattle.zi_launching.specs.Opening.{LaunchesFile}
use Rattle.zi_launching.proofs.StartLaws.{launched_then, unstarted_then}
use Rattle.zi_launching.proofs.opening.prepare_file.Goals as goal

pub prepare_named-requires-clause-stores : goal.prepare_named-requires-clause-stores
prepare_named-requires-clause-stores g c =
    names_for g.R.Shelf.seen (Keeps is_names) (g.K.Shelf.seen c.args.shelf.now) (g.K.Shelf.seen c.find_names.new.shelf) c.args.others.now c.find_names.new.others c.in-Ok-find_names.each
    c.in-Ok-find_names.ensures.named.1 c.find_names.ensures.keeps

pub prepare_named-requires-clause-names : goal.prepare_named-requires-clause-names
prepare_named-requires-clause-names g c = c.names_of_shims_are_right.ensures.read c.in-Ok.ensures.gets.0 c.in-Ok.sels c.in-Ok.ensures.gets.2

pub returns-in-Err : goal.returns-in-Err
returns-in-Err g c = λ web out spawner then outcome h.
    let fed = g.F.Feeds.seen c.args.feeds.now in
    let new = g.F.Feeds.seen c.get_selections.new.feeds in
    let shelf = g.K.Shelf.seen c.args.shelf.now in
    let others = map g.R.Shelf.seen c.args.others.now in
    unstarted_then
    (λ s o. LaunchesFile c.args.file c.args.vars.now c.args.user.now (record { feeds = fed; shelf = shelf; others = others; web = web; spawner = spawner; out = out })
    (record { feeds = new; shelf = shelf; others = others; web = web; spawner = s; out = out }) o)
    c.in-Err.outcome spawner then outcome
    (unread_file c.args.file c.args.vars.now c.args.user.now fed new web out c.get_selections.ensures.stays shelf others spawner c.in-Err.outcome c.in-Err.ensures.gets) h

pub returns-in-Ok-find_names : goal.returns-in-Ok-find_names
returns-in-Ok-find_names g c = λ web out spawner then outcome h.
    opened_file c.args.file c.args.vars.now c.args.user.now (g.F.Feeds.seen c.args.feeds.now) (g.F.Feeds.seen c.get_selections.new.feeds) web out c.get_selections.ensures.stays
    c.in-Ok.sels c.in-Ok-find_names.each (g.K.Shelf.seen c.args.shelf.now) (g.K.Shelf.seen c.find_names.new.shelf) (g.K.Shelf.seen c.prepare_named.new.shelf)
    (map g.R.Shelf.seen c.args.others.now) (map g.R.Shelf.seen c.find_names.new.others) (map g.R.Shelf.seen c.prepare_named.new.others) spawner then outcome
    c.in-Ok.ensures.gets c.in-Ok-find_names.ensures.named c.find_names.ensures.keeps
    (launched_then (record { sels = c.in-Ok.sels; each = c.in-Ok-find_names.each; stored = names_of (all_names c.in-Ok-find_names.each); vars = c.args.vars.now; user = c.args.user.now })
    (g.K.Shelf.seen c.find_names.new.shelf ∷ map g.R.Shelf.seen c.find_names.new.others) (g.K.Shelf.seen c.prepare_named.new.shelf ∷ map g.R.Shelf.seen c.prepare_named.new.others)
    c.prepare_named.result spawner then outcome c.prepare_named.ensures h)

pub returns : goal.returns
returns g c = λ web out spawner then outcome h.
    let fed = g.F.Feeds.seen c.args.feeds.now in
    let new = g.F.Feeds.seen c.get_selections.new.feeds in
    let shelf = g.K.Shelf.seen c.args.shelf.now in
    let others = map g.R.Shelf.seen c.args.others.now in
    let after = g.K.Shelf.seen c.find_names.new.shelf in
    let thens = map g.R.Shelf.seen c.find_names.new.others in
    unstarted_then
    (λ s o. LaunchesFile c.args.file c.args.vars.now c.args.user.now (record { feeds = fed; shelf = shelf; others = others; web = web; spawner = spawner; out = out })
    (record { feeds = new; shelf = after; others = thens; web = web; spawner = s; out = out }) o)
    c.in-Err-find_names.outcome spawner then outcome
    (unnamed_file c.args.file c.args.vars.now c.args.user.now fed new web out c.get_selections.ensures.stays c.in-Ok.sels shelf after others thens spawner c.in-Err-find_names.outcome c.in-Ok.ensures.gets
    c.in-Err-find_names.ensures.named c.find_names.ensures.keeps) h
