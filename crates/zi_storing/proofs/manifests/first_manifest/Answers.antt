use Rattle.std.proofs.Common.{◌≡◌, ◌≢◌, ◌∷◌, map, Result, Err, subst, rules, inl, inr}
use Rattle.std.proofs.lemmas.List.{take_all}
use Rattle.zi_shelf.specs.declared.shelf.ShelfFault.{ShelfFault}
use Rattle.zi_shelf.specs.declared.shelf.ShelfFault.TheVariants as fault
use Rattle.zi_store.specs.Keeping.{Keeps, is_reading}
use Rattle.zi_store.specs.Stores.{IsCalm}
use Rattle.zi_store.specs.declared.manifests.ManifestRead.{ManifestRead}
use Rattle.zi_store.specs.declared.manifests.ManifestRead.TheVariants as read
use Rattle.zi_store.proofs.KeepingLemmas.{keeps_none}
use Rattle.zi_store.proofs.StoresLemmas.{each_same, calm_same, each_set}
use Rattle.zi_world.proofs.FirstLemmas.{asked_none, asked_more, asked_found, asked_fails}
use Rattle.zi_storing.specs.ManifestCommand.{ReadsAs, FirstReads}
use Rattle.zi_storing.proofs.manifests.first_manifest.Goals as goal

pub returns-in_err-read-clause-keeps : goal.returns-in_err-read-clause-keeps
returns-in_err-read-clause-keeps g c = (c.manifest_of.ensures.keeps, each_same (Keeps is_reading) (keeps_none is_reading) (map g.R.Shelf.seen c.args.others.now))

pub returns-in_err-read-clause-cause : goal.returns-in_err-read-clause-cause
returns-in_err-read-clause-cause g c e =
    let is : ◌≡◌ {A = Result ManifestRead ShelfFault} c.manifest_of.result (Err fault.Failed) = search rules in
    inl (c.manifest_of.ensures.cause is, λ s. c.manifest_of.ensures.sure s is)

pub returns-in_err-read-clause-calm : goal.returns-in_err-read-clause-calm
returns-in_err-read-clause-calm g c kind =
    let not : ◌≡◌ {A = Result ManifestRead ShelfFault} c.manifest_of.result (Err fault.Failed) → ⊥ = λ is. kind (search rules) in
    (c.manifest_of.ensures.count not, calm_same (map g.R.Shelf.seen c.args.others.now))

pub loop-other-init : goal.loop-other-init
loop-other-init g c =
    asked_none g.R.Shelf.seen (λ k r. ReadsAs c.args.algorithm k c.args.name.now r) read.Missing (g.K.Shelf.seen c.args.shelf.now) c.args.others.now c.in_ok-read.read
    ((λ s honest told. c.in_ok-read.ensures.manifest s honest told), c.in_ok-read.ensures.tree)

pub returns-then-not-is_missing-clause-reads : goal.returns-then-not-is_missing-clause-reads
returns-then-not-is_missing-clause-reads g c =
    let some : c.loop-other.read ≢ read.Missing = search rules in
    asked_found g.R.Shelf.seen (λ k r. ReadsAs c.args.algorithm k c.args.name.now r) read.Missing (g.K.Shelf.seen c.args.shelf.now) c.args.others.now c.loop-other.others c.loop-other.other-index c.loop-other.read c.loop-other.invariant some

pub returns-in_err-read-2-clause-keeps : goal.returns-in_err-read-2-clause-keeps
returns-in_err-read-2-clause-keeps g c = (
  c.manifest_of.ensures.keeps,
  each_set g.R.Shelf.seen (Keeps is_reading) c.args.others.now c.loop-other.others c.loop-other.other-index _ c.manifest_of-in-loop-other.new.k c.loop-other.invariant.keeps c.loop-other.invariant.rest (search rules) c.manifest_of-in-loop-other.ensures.keeps,
)

pub returns-in_err-read-2-clause-cause : goal.returns-in_err-read-2-clause-cause
returns-in_err-read-2-clause-cause g c e =
    let is : ◌≡◌ {A = Result ManifestRead ShelfFault} c.manifest_of-in-loop-other.result (Err fault.Failed) = search rules in
    inr (asked_fails g.R.Shelf.seen (λ k r. ReadsAs c.args.algorithm k c.args.name.now r) read.Missing (g.K.Shelf.seen c.args.shelf.now) c.args.others.now c.loop-other.others c.loop-other.other-index _ c.manifest_of-in-loop-other.new.k c.loop-other.read c.loop-other.invariant (search rules)
    (c.manifest_of-in-loop-other.ensures.cause is, λ s. c.manifest_of-in-loop-other.ensures.sure s is))

pub returns-in_err-read-2-clause-calm : goal.returns-in_err-read-2-clause-calm
returns-in_err-read-2-clause-calm g c kind =
    let first : ◌≡◌ {A = Result ManifestRead ShelfFault} c.manifest_of.result (Err fault.Failed) → ⊥ = λ is. cc (is, c.in_ok-read.was) in
    let not : ◌≡◌ {A = Result ManifestRead ShelfFault} c.manifest_of-in-loop-other.result (Err fault.Failed) → ⊥ = λ is. kind (search rules) in (
      c.manifest_of.ensures.count first,
      each_set g.R.Shelf.seen IsCalm c.args.others.now c.loop-other.others c.loop-other.other-index _ c.manifest_of-in-loop-other.new.k c.loop-other.invariant.calm c.loop-other.invariant.rest (search rules) (c.manifest_of-in-loop-other.ensures.count not),
    )

pub loop-other-preserved : goal.loop-other-preserved
loop-other-preserved g c =
    let none : c.loop-other.read ≡ read.Missing = search rules in
    let not : ◌≡◌ {A = Result ManifestRead ShelfFault} c.manifest_of-in-loop-other.result (Err fault.Failed) → ⊥ = λ is. cc (is, c.in_ok-read-2.was) in
    asked_more g.R.Shelf.seen (λ k r. ReadsAs c.args.algorithm k c.args.name.now r) read.Missing (g.K.Shelf.seen c.args.shelf.now) c.args.others.now c.loop-other.others c.loop-other.other-index _ c.manifest_of-in-loop-other.new.k c.loop-other.read c.in_ok-read-2.read c.loop-other.invariant (search rules)
    none c.manifest_of-in-loop-other.ensures.keeps (c.manifest_of-in-loop-other.ensures.count not) ((λ s honest told. c.in_ok-read-2.ensures.manifest s honest told), c.in_ok-read-2.ensures.tree)

pub returns-clause-reads : goal.returns-clause-reads
returns-clause-reads g c =
    subst (λ l. FirstReads c.args.algorithm (g.K.Shelf.seen c.args.shelf.now ∷ map g.R.Shelf.seen l) c.args.name.now c.loop-other.read) (take_all c.loop-other.other-index c.args.others.now (search rules)) c.loop-other.invariant.says
