use Rattle.std.proofs.Common.{◌≡◌, ◌≤◌, ℕ, ◌∷◌, List, map, length, arith, Ok}
use Rattle.std.proofs.lemmas.Result.{err_from_is_err_and}
use Rattle.zi_digest.specs.declared.DigestName.{DigestName as Name}
use Rattle.zi_shelf.specs.Shelving.{Shelving}
use Rattle.zi_launching.specs.Folders.{place_in}
use Rattle.zi_launching.proofs.LaunchLaws.{so_far_none, so_far_next, so_far_stops, so_far_unsure, so_far_all, reads_then, all_within, within_now}
use Rattle.zi_launching.proofs.verifying.verify_all.Goals as goal

pub loop-name-init : goal.loop-name-init
loop-name-init g c = so_far_none (place_in c.args.places.now.stores.entries) c.args.names.now c.new-checked.result (g.K.Shelf.seen c.args.shelf.now ∷ map g.R.Shelf.seen c.args.others.now) c.new-checked.ensures

pub verify_at-requires : goal.verify_at-requires
verify_at-requires g c =
    within_now g.R.Shelf.seen (place_in c.args.places.now.stores.entries) (g.K.Shelf.seen c.args.shelf.now) (g.K.Shelf.seen c.loop-name.shelf) c.args.others.now c.loop-name.others _ c.in_ok-store.store
    c.requires c.loop-name.invariant.keeps c.in_ok-store.ensures

pub loop-name-preserved : goal.loop-name-preserved
loop-name-preserved g c =
    let before : List Shelving = g.K.Shelf.seen c.args.shelf.now ∷ map g.R.Shelf.seen c.args.others.now in
    let now : List Shelving = g.K.Shelf.seen c.loop-name.shelf ∷ map g.R.Shelf.seen c.loop-name.others in
    let then : List Shelving = g.K.Shelf.seen c.verify_at.new.shelf ∷ map g.R.Shelf.seen c.verify_at.new.others in
    so_far_next (place_in c.args.places.now.stores.entries) c.args.names.now c.loop-name.name-index _ c.loop-name.checked c.verify_at.new.checked (c.verify_at.result ≡ Ok tt) before now then c.verify_at.result c.loop-name-test.true
    c.loop-name.invariant (rw c.in_ok-store.ensures at c.verify_at.ensures.verifies) c.verify_at.ensures.only c.verify_at.ensures.calm c.in_ok-verify_at.was c.verify_at.ensures.keeps

pub returns-in_err-store-clause-verifies : goal.returns-in_err-store-clause-verifies
returns-in_err-store-clause-verifies g c =
    let before : List Shelving = g.K.Shelf.seen c.args.shelf.now ∷ map g.R.Shelf.seen c.args.others.now in
    let now : List Shelving = g.K.Shelf.seen c.loop-name.shelf ∷ map g.R.Shelf.seen c.loop-name.others in
    let number : Name → ℕ = place_in c.args.places.now.stores.entries in
    let q = err_from_is_err_and c.from_residual.result c.from_residual.ensures.1 in
    rw q.1
    (so_far_unsure number c.args.names.now c.loop-name.name-index c.loop-name.checked before now q.0 c.loop-name-test.true c.loop-name.invariant q.2
    (all_within g.R.Shelf.seen number (g.K.Shelf.seen c.args.shelf.now) c.args.others.now c.requires))

pub returns-in_err-store-clause-keeps : goal.returns-in_err-store-clause-keeps
returns-in_err-store-clause-keeps g c = c.loop-name.invariant.keeps

pub returns-in_err-verify_at-clause-verifies : goal.returns-in_err-verify_at-clause-verifies
returns-in_err-verify_at-clause-verifies g c =
    let before : List Shelving = g.K.Shelf.seen c.args.shelf.now ∷ map g.R.Shelf.seen c.args.others.now in
    let now : List Shelving = g.K.Shelf.seen c.loop-name.shelf ∷ map g.R.Shelf.seen c.loop-name.others in
    let then : List Shelving = g.K.Shelf.seen c.verify_at.new.shelf ∷ map g.R.Shelf.seen c.verify_at.new.others in
    let q = err_from_is_err_and c.from_residual-in_err-verify_at.result c.from_residual-in_err-verify_at.ensures.1 in
    rw (q.1, q.2)
    (so_far_stops (place_in c.args.places.now.stores.entries) c.args.names.now c.loop-name.name-index _ c.loop-name.checked before now then c.verify_at.result c.in_err-verify_at.field-0.0 c.loop-name-test.true c.loop-name.invariant
    (rw c.in_ok-store.ensures at c.verify_at.ensures.verifies) c.verify_at.ensures.calm c.in_err-verify_at.was c.verify_at.ensures.keeps)

pub returns-in_err-verify_at-clause-keeps : goal.returns-in_err-verify_at-clause-keeps
returns-in_err-verify_at-clause-keeps g c =
    let before : List Shelving = g.K.Shelf.seen c.args.shelf.now ∷ map g.R.Shelf.seen c.args.others.now in
    let now : List Shelving = g.K.Shelf.seen c.loop-name.shelf ∷ map g.R.Shelf.seen c.loop-name.others in
    let then : List Shelving = g.K.Shelf.seen c.verify_at.new.shelf ∷ map g.R.Shelf.seen c.verify_at.new.others in
    reads_then before now then c.loop-name.invariant.keeps c.verify_at.ensures.keeps

pub returns-clause-verifies : goal.returns-clause-verifies
returns-clause-verifies g c =
    let le : length c.args.names.now ≤ c.loop-name.name-index = omega arith in
    so_far_all (place_in c.args.places.now.stores.entries) c.args.names.now c.loop-name.name-index c.loop-name.checked (g.K.Shelf.seen c.args.shelf.now ∷ map g.R.Shelf.seen c.args.others.now)
    (g.K.Shelf.seen c.loop-name.shelf ∷ map g.R.Shelf.seen c.loop-name.others) le c.loop-name.invariant

pub returns-clause-keeps : goal.returns-clause-keeps
returns-clause-keeps g c = c.loop-name.invariant.keeps
