use Rattle.std.proofs.Common.{◌-◌, map, refl, rules}
use Rattle.zi_store.specs.Keeping.{Keeps, is_reading}
use Rattle.zi_store.specs.KeptNames.{IsKept}
use Rattle.zi_store.proofs.KeepingLemmas.{keeps_none}
use Rattle.zi_store.proofs.StoresLemmas.{each_same, each_set}
use Rattle.zi_world.proofs.PlacesLemmas.{in_store_set, behind_first, at_first}
use Rattle.zi_launching.specs.Verifying.{VerifiesKept}
use Rattle.zi_launching.proofs.LaunchLaws.{calm_first, calm_other}
use Rattle.zi_launching.proofs.verifying.verify_at.Goals as goal

pub returns-then-store-eq0-clause-verifies : goal.returns-then-store-eq0-clause-verifies
returns-then-store-eq0-clause-verifies g c =
    at_first (λ b a. VerifiesKept (IsKept c.args.checked.now c.args.name.now) c.args.name.now b c.verify_one.result a) c.args.store _ _ _ _ (search rules) c.verify_one.ensures.verifies

pub returns-then-store-eq0-clause-keeps : goal.returns-then-store-eq0-clause-keeps
returns-then-store-eq0-clause-keeps g c = (c.verify_one.ensures.keeps, each_same (Keeps is_reading) (keeps_none is_reading) (map g.R.Shelf.seen c.args.others.now))

pub returns-then-store-eq0-clause-calm : goal.returns-then-store-eq0-clause-calm
returns-then-store-eq0-clause-calm g c =
    calm_first (IsKept c.args.checked.now c.args.name.now) c.args.name.now (g.K.Shelf.seen c.args.shelf.now) (g.K.Shelf.seen c.verify_one.new.shelf) (map g.R.Shelf.seen c.args.others.now) c.verify_one.result c.verify_one.ensures.verifies

pub returns-clause-verifies : goal.returns-clause-verifies
returns-clause-verifies g c =
    behind_first (λ b a. VerifiesKept (IsKept c.args.checked.now c.args.name.now) c.args.name.now b c.verify_one-2.result a) c.args.store _ _ _ _ (search rules)
    (in_store_set g.R.Shelf.seen (λ b a. VerifiesKept (IsKept c.args.checked.now c.args.name.now) c.args.name.now b c.verify_one-2.result a) c.args.others.now (c.args.store - 1) _ c.verify_one-2.new.shelf (search rules) c.verify_one-2.ensures.verifies)

pub returns-clause-keeps : goal.returns-clause-keeps
returns-clause-keeps g c = (
  keeps_none is_reading (g.K.Shelf.seen c.args.shelf.now),
  each_set g.R.Shelf.seen (Keeps is_reading) c.args.others.now c.args.others.now (c.args.store - 1) _ c.verify_one-2.new.shelf
      (each_same (Keeps is_reading) (keeps_none is_reading) (map g.R.Shelf.seen c.args.others.now)) refl (search rules) c.verify_one-2.ensures.keeps,
)

pub returns-clause-calm : goal.returns-clause-calm
returns-clause-calm g c =
    calm_other g.R.Shelf.seen (IsKept c.args.checked.now c.args.name.now) c.args.name.now (g.K.Shelf.seen c.args.shelf.now) c.args.others.now (c.args.store - 1) _ c.verify_one-2.new.shelf c.verify_one-2.result (search rules) c.verify_one-2.ensures.verifies
