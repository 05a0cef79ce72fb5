use Rattle.std.proofs.Common.{◌≡◌, ◌++◌, map, ap, ◌∙◌, arith}
use Rattle.std.proofs.lemmas.Result.{err_from_is_err_and}
use Rattle.zi_world.specs.Places.{place}
use Rattle.zi_launching.specs.Folders.{place_in, trees_of}
use Rattle.zi_launching.specs.Launching.{Task}
use Rattle.zi_launching.proofs.PlacesLaws.{place_within}
use Rattle.zi_launching.proofs.ReadyLaws.{roomless, treeless, planless, shimless, short_before, unsound, short_behind, planned_then}
use Rattle.zi_launching.proofs.NameLaws.{calls_right}
use Rattle.zi_launching.proofs.launching.prepared.Goals as goal

pub add_shims-requires : goal.add_shims-requires
add_shims-requires g c =
    rw c.as_slice-3.ensures (calls_right c.args.sels.now c.args.vars.now c.args.user.now c.as_slice-2.result.now c.in_ok-calls.calls c.requires.names c.in_ok-calls.ensures)

pub verify_all-requires : goal.verify_all-requires
verify_all-requires g c d =
    let there = rw c.as_slice.ensures at c.in_ok-places.ensures d in
    let within = place_within _ c.args.each.now d c.requires.stores in
    omega (arith, there, within)

pub returns-in_err-places : goal.returns-in_err-places
returns-in_err-places g c =
    let task : Task = record { sels = c.args.sels.now; each = c.args.each.now; stored = c.args.stored.now; vars = c.args.vars.now; user = c.args.user.now } in
    let q = err_from_is_err_and c.from_residual.result c.from_residual.ensures.1 in
    rw q.1 (roomless task (g.K.Shelf.seen c.args.shelf.now) (map g.R.Shelf.seen c.args.others.now) q.0 q.2)

pub returns-in_err-folders : goal.returns-in_err-folders
returns-in_err-folders g c =
    let task : Task = record { sels = c.args.sels.now; each = c.args.each.now; stored = c.args.stored.now; vars = c.args.vars.now; user = c.args.user.now } in
    let places : place_in c.in_ok-places.places.stores.entries ≡ place c.args.each.now = λ i d. (rw c.as_slice.ensures at c.in_ok-places.ensures) d i in
    let q = err_from_is_err_and c.from_residual-in_err-folders.result c.from_residual-in_err-folders.ensures.1 in
    rw (q.1, q.2)
    (treeless task (g.K.Shelf.seen c.args.shelf.now) (map g.R.Shelf.seen c.args.others.now) (place_in c.in_ok-places.places.stores.entries) places c.in_err-folders.field-0.0 (rw c.as_slice-items.ensures at c.in_err-folders.ensures))

pub returns-in_err-calls : goal.returns-in_err-calls
returns-in_err-calls g c =
    let task : Task = record { sels = c.args.sels.now; each = c.args.each.now; stored = c.args.stored.now; vars = c.args.vars.now; user = c.args.user.now } in
    let places : place_in c.in_ok-places.places.stores.entries ≡ place c.args.each.now = λ i d. (rw c.as_slice.ensures at c.in_ok-places.ensures) d i in
    let q = err_from_is_err_and c.from_residual-in_err-calls.result c.from_residual-in_err-calls.ensures.1 in
    rw (q.1, q.2)
    (planless task (g.K.Shelf.seen c.args.shelf.now) (map g.R.Shelf.seen c.args.others.now) (place_in c.in_ok-places.places.stores.entries) places c.in_ok-folders.folders (rw c.as_slice-items.ensures at c.in_ok-folders.ensures)
    c.in_err-calls.field-0.0 (rw c.as_slice-2.ensures at c.in_err-calls.ensures))

pub returns-in_err-trees : goal.returns-in_err-trees
returns-in_err-trees g c =
    let task : Task = record { sels = c.args.sels.now; each = c.args.each.now; stored = c.args.stored.now; vars = c.args.vars.now; user = c.args.user.now } in
    let q = err_from_is_err_and c.from_residual-in_err-trees.result c.from_residual-in_err-trees.ensures.1 in
    rw q.1 (roomless task (g.K.Shelf.seen c.args.shelf.now) (map g.R.Shelf.seen c.args.others.now) q.0 q.2)

pub returns-in_err-names : goal.returns-in_err-names
returns-in_err-names g c =
    let b = g.K.Shelf.seen c.args.shelf.now in
    let bs = map g.R.Shelf.seen c.args.others.now in
    let task : Task = record { sels = c.args.sels.now; each = c.args.each.now; stored = c.args.stored.now; vars = c.args.vars.now; user = c.args.user.now } in
    let number = place_in c.in_ok-places.places.stores.entries in
    let places : number ≡ place c.args.each.now = λ i d. (rw c.as_slice.ensures at c.in_ok-places.ensures) d i in
    let found = rw c.as_slice-items.ensures at c.in_ok-folders.ensures in
    let called = rw c.as_slice-2.ensures at c.in_ok-calls.ensures in
    let added = rw c.as_slice-3.ensures at c.in_err-names.ensures in
    let q = err_from_is_err_and c.from_residual-in_err-names.result c.from_residual-in_err-names.ensures.1 in
    rw (q.1, q.2) (shimless task b bs number places c.in_ok-folders.folders found c.in_ok-calls.calls called added.tried (g.K.Shelf.seen c.add_shims.new.shelf) c.in_err-names.field-0.0 added.all added.adds)

pub returns-in_err-add_all : goal.returns-in_err-add_all
returns-in_err-add_all g c =
    let b = g.K.Shelf.seen c.args.shelf.now in
    let bs = map g.R.Shelf.seen c.args.others.now in
    let task : Task = record { sels = c.args.sels.now; each = c.args.each.now; stored = c.args.stored.now; vars = c.args.vars.now; user = c.args.user.now } in
    let number = place_in c.in_ok-places.places.stores.entries in
    let places : number ≡ place c.args.each.now = λ i d. (rw c.as_slice.ensures at c.in_ok-places.ensures) d i in
    let found = rw c.as_slice-items.ensures at c.in_ok-folders.ensures in
    let called = rw c.as_slice-2.ensures at c.in_ok-calls.ensures in
    let added = rw c.as_slice-3.ensures at c.in_ok-names.ensures in
    let now = g.K.Shelf.seen c.add_shims.new.shelf in
    let q = err_from_is_err_and c.from_residual-in_err-add_all.result c.from_residual-in_err-add_all.ensures.1 in
    rw q.1 (short_before task b bs number places c.in_ok-folders.folders found c.in_ok-calls.calls called added.tried now added.all.1 added.adds q.0 q.2)

pub returns-in_err-verify_all : goal.returns-in_err-verify_all
returns-in_err-verify_all g c =
    let b = g.K.Shelf.seen c.args.shelf.now in
    let bs = map g.R.Shelf.seen c.args.others.now in
    let task : Task = record { sels = c.args.sels.now; each = c.args.each.now; stored = c.args.stored.now; vars = c.args.vars.now; user = c.args.user.now } in
    let number = place_in c.in_ok-places.places.stores.entries in
    let places : number ≡ place c.args.each.now = λ i d. (rw c.as_slice.ensures at c.in_ok-places.ensures) d i in
    let found = rw c.as_slice-items.ensures at c.in_ok-folders.ensures in
    let called = rw c.as_slice-2.ensures at c.in_ok-calls.ensures in
    let added = rw c.as_slice-3.ensures at c.in_ok-names.ensures in
    let now = g.K.Shelf.seen c.add_shims.new.shelf in
    let a = g.K.Shelf.seen c.verify_all.new.shelf in
    let as_ = map g.R.Shelf.seen c.verify_all.new.others in
    let more = rw c.as_slice-4.ensures at c.in_ok-add_all.ensures in
    let first = rw c.as_slice-items.ensures at c.in_ok-trees.ensures in
    let trees = more ∙ ap (λ ds. ds ++ c.in_ok-names.names) first ∙ ap (λ ds. trees_of task.stored task.sels.items ++ ds) added.all.0 in
    let q = err_from_is_err_and c.from_residual-in_err-verify_all.result c.from_residual-in_err-verify_all.ensures.1 in
    rw (q.1, q.2)
    (unsound task b bs number places c.in_ok-folders.folders found c.in_ok-calls.calls called added.tried now added.all.1 added.adds a as_ c.verify_all.ensures.keeps c.add_all.new.names trees c.in_err-verify_all.field-0.0
    (rw c.as_slice-5.ensures at c.in_err-verify_all.ensures.verifies))

pub returns-in_err-shims : goal.returns-in_err-shims
returns-in_err-shims g c =
    let b = g.K.Shelf.seen c.args.shelf.now in
    let bs = map g.R.Shelf.seen c.args.others.now in
    let task : Task = record { sels = c.args.sels.now; each = c.args.each.now; stored = c.args.stored.now; vars = c.args.vars.now; user = c.args.user.now } in
    let number = place_in c.in_ok-places.places.stores.entries in
    let places : number ≡ place c.args.each.now = λ i d. (rw c.as_slice.ensures at c.in_ok-places.ensures) d i in
    let found = rw c.as_slice-items.ensures at c.in_ok-folders.ensures in
    let called = rw c.as_slice-2.ensures at c.in_ok-calls.ensures in
    let added = rw c.as_slice-3.ensures at c.in_ok-names.ensures in
    let now = g.K.Shelf.seen c.add_shims.new.shelf in
    let a = g.K.Shelf.seen c.verify_all.new.shelf in
    let as_ = map g.R.Shelf.seen c.verify_all.new.others in
    let more = rw c.as_slice-4.ensures at c.in_ok-add_all.ensures in
    let first = rw c.as_slice-items.ensures at c.in_ok-trees.ensures in
    let trees = more ∙ ap (λ ds. ds ++ c.in_ok-names.names) first ∙ ap (λ ds. trees_of task.stored task.sels.items ++ ds) added.all.0 in
    let q = err_from_is_err_and c.from_residual-in_err-shims.result c.from_residual-in_err-shims.ensures.1 in
    rw q.1
    (short_behind task b bs number places c.in_ok-folders.folders found c.in_ok-calls.calls called added.tried now added.all.1 added.adds a as_ c.verify_all.ensures.keeps c.add_all.new.names trees
    (rw c.as_slice-5.ensures at c.in_ok-verify_all.ensures.verifies) q.0 q.2)

pub returns : goal.returns
returns g c =
    let b = g.K.Shelf.seen c.args.shelf.now in
    let bs = map g.R.Shelf.seen c.args.others.now in
    let task : Task = record { sels = c.args.sels.now; each = c.args.each.now; stored = c.args.stored.now; vars = c.args.vars.now; user = c.args.user.now } in
    let number = place_in c.in_ok-places.places.stores.entries in
    let places : number ≡ place c.args.each.now = λ i d. (rw c.as_slice.ensures at c.in_ok-places.ensures) d i in
    let found = rw c.as_slice-items.ensures at c.in_ok-folders.ensures in
    let called = rw c.as_slice-2.ensures at c.in_ok-calls.ensures in
    let added = rw c.as_slice-3.ensures at c.in_ok-names.ensures in
    let now = g.K.Shelf.seen c.add_shims.new.shelf in
    let a = g.K.Shelf.seen c.verify_all.new.shelf in
    let as_ = map g.R.Shelf.seen c.verify_all.new.others in
    let more = rw c.as_slice-4.ensures at c.in_ok-add_all.ensures in
    let first = rw c.as_slice-items.ensures at c.in_ok-trees.ensures in
    let trees = more ∙ ap (λ ds. ds ++ c.in_ok-names.names) first ∙ ap (λ ds. trees_of task.stored task.sels.items ++ ds) added.all.0 in
    planned_then task b bs number places c.in_ok-folders.folders found c.in_ok-calls.calls called added.tried now added.all.1 added.adds a as_ c.verify_all.ensures.keeps c.add_all.new.names trees
    (rw c.as_slice-5.ensures at c.in_ok-verify_all.ensures.verifies) c.requires.fresh c.in_ok-shims.shims c.in_ok-names.names added.all.0 (rw c.as_slice-6.ensures at c.in_ok-shims.ensures)
    c.planned.result (rw (c.as_slice-7.ensures, c.as_slice-8.ensures) at c.planned.ensures)
