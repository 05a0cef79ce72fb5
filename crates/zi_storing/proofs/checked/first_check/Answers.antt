use Rattle.std.proofs.Common.{◌≡◌, ◌≢◌, ◌∷◌, map, Result, Err, subst, rules, inl, inr}
use Rattle.std.proofs.lemmas.List.{take_all}
use Rattle.zi_shelf.specs.declared.shelf.ShelfFault.{ShelfFault}
use Rattle.zi_shelf.specs.declared.shelf.ShelfFault.TheVariants as fault
use Rattle.zi_store.specs.Keeping.{Keeps, is_reading}
use Rattle.zi_store.specs.Stores.{IsCalm}
use Rattle.zi_storing.specs.declared.checked.Checked.{Checked}
use Rattle.zi_storing.specs.declared.checked.Checked.TheVariants as checked
use Rattle.zi_store.proofs.KeepingLemmas.{keeps_none}
use Rattle.zi_store.proofs.StoresLemmas.{each_same, calm_same, each_set}
use Rattle.zi_world.specs.Shelves.{Held}
use Rattle.zi_world.proofs.FirstLemmas.{asked_none, asked_more, asked_found, asked_fails}
use Rattle.zi_storing.specs.StoreVerify.{ChecksAs, FirstChecks}
use Rattle.zi_storing.proofs.checked.first_check.Goals as goal

pub returns-in_err-said-clause-keeps : goal.returns-in_err-said-clause-keeps
returns-in_err-said-clause-keeps g c = (c.check.ensures.keeps, each_same (Keeps is_reading) (keeps_none is_reading) (map g.R.Shelf.seen c.args.others.now))

pub returns-in_err-said-clause-cause : goal.returns-in_err-said-clause-cause
returns-in_err-said-clause-cause g c e =
    let is : ◌≡◌ {A = Result Checked ShelfFault} c.check.result (Err fault.Failed) = search rules in
    inl (c.check.ensures.cause is, λ s. c.check.ensures.sure s is)

pub returns-in_err-said-clause-calm : goal.returns-in_err-said-clause-calm
returns-in_err-said-clause-calm g c kind =
    let not : ◌≡◌ {A = Result Checked ShelfFault} c.check.result (Err fault.Failed) → ⊥ = λ is. kind (search rules) in
    (c.check.ensures.count not, calm_same (map g.R.Shelf.seen c.args.others.now))

pub loop-other-init : goal.loop-other-init
loop-other-init g c =
    asked_none g.R.Shelf.seen (λ k said. Held k (λ s. ChecksAs c.args.name.now said s)) checked.Missing (g.K.Shelf.seen c.args.shelf.now) c.args.others.now c.in_ok-said.said
    (λ s honest told. c.in_ok-said.ensures.checks s honest told)

pub returns-then-not-is_missing-clause-checks : goal.returns-then-not-is_missing-clause-checks
returns-then-not-is_missing-clause-checks g c =
    let some : c.loop-other.said ≢ checked.Missing = search rules in
    asked_found g.R.Shelf.seen (λ k said. Held k (λ s. ChecksAs c.args.name.now said s)) checked.Missing (g.K.Shelf.seen c.args.shelf.now) c.args.others.now c.loop-other.others c.loop-other.other-index c.loop-other.said c.loop-other.invariant some

pub returns-in_err-said-2-clause-keeps : goal.returns-in_err-said-2-clause-keeps
returns-in_err-said-2-clause-keeps g c = (
  c.check.ensures.keeps,
  each_set g.R.Shelf.seen (Keeps is_reading) c.args.others.now c.loop-other.others c.loop-other.other-index _ c.check-in-loop-other.new.shelf c.loop-other.invariant.keeps c.loop-other.invariant.rest (search rules) c.check-in-loop-other.ensures.keeps,
)

pub returns-in_err-said-2-clause-cause : goal.returns-in_err-said-2-clause-cause
returns-in_err-said-2-clause-cause g c e =
    let is : ◌≡◌ {A = Result Checked ShelfFault} c.check-in-loop-other.result (Err fault.Failed) = search rules in
    inr (asked_fails g.R.Shelf.seen (λ k said. Held k (λ s. ChecksAs c.args.name.now said s)) checked.Missing (g.K.Shelf.seen c.args.shelf.now) c.args.others.now c.loop-other.others c.loop-other.other-index _ c.check-in-loop-other.new.shelf c.loop-other.said c.loop-other.invariant (search rules)
    (c.check-in-loop-other.ensures.cause is, λ s. c.check-in-loop-other.ensures.sure s is))

pub returns-in_err-said-2-clause-calm : goal.returns-in_err-said-2-clause-calm
returns-in_err-said-2-clause-calm g c kind =
    let first : ◌≡◌ {A = Result Checked ShelfFault} c.check.result (Err fault.Failed) → ⊥ = λ is. cc (is, c.in_ok-said.was) in
    let not : ◌≡◌ {A = Result Checked ShelfFault} c.check-in-loop-other.result (Err fault.Failed) → ⊥ = λ is. kind (search rules) in (
      c.check.ensures.count first,
      each_set g.R.Shelf.seen IsCalm c.args.others.now c.loop-other.others c.loop-other.other-index _ c.check-in-loop-other.new.shelf c.loop-other.invariant.calm c.loop-other.invariant.rest (search rules) (c.check-in-loop-other.ensures.count not),
    )

pub loop-other-preserved : goal.loop-other-preserved
loop-other-preserved g c =
    let none : c.loop-other.said ≡ checked.Missing = search rules in
    let not : ◌≡◌ {A = Result Checked ShelfFault} c.check-in-loop-other.result (Err fault.Failed) → ⊥ = λ is. cc (is, c.in_ok-said-2.was) in
    asked_more g.R.Shelf.seen (λ k said. Held k (λ s. ChecksAs c.args.name.now said s)) checked.Missing (g.K.Shelf.seen c.args.shelf.now) c.args.others.now c.loop-other.others c.loop-other.other-index _ c.check-in-loop-other.new.shelf c.loop-other.said c.in_ok-said-2.said c.loop-other.invariant (search rules)
    none c.check-in-loop-other.ensures.keeps (c.check-in-loop-other.ensures.count not) (λ s honest told. c.in_ok-said-2.ensures.checks s honest told)

pub returns-clause-checks : goal.returns-clause-checks
returns-clause-checks g c =
    subst (λ l. FirstChecks c.args.name.now (g.K.Shelf.seen c.args.shelf.now ∷ map g.R.Shelf.seen l) c.loop-other.said) (take_all c.loop-other.other-index c.args.others.now (search rules)) c.loop-other.invariant.says
