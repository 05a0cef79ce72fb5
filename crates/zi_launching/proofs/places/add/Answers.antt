use Rattle.std.proofs.Common.{refl, sym, ◌∙◌, subst}
use Rattle.zi_choice.specs.Tables.{IsAdded}
use Rattle.zi_choice.proofs.TableLaws.{added_old, added_new}
use Rattle.zi_launching.proofs.places.add.Goals as goal

pub returns-then-contains_key : goal.returns-then-contains_key
returns-then-contains_key c =
    subst (λ n. IsAdded c.args.stores.now.entries n c.args.store c.args.stores.now.entries) c.in_ok-name.ensures
    (added_old c.args.stores.now.entries c.in_ok-name.name c.args.store (sym c.contains_key.ensures ∙ c.if-contains_key.true))

pub returns : goal.returns
returns c =
    subst (λ n. IsAdded c.args.stores.now.entries n c.args.store c.insert.new.self.entries) c.in_ok-name.ensures
    (added_new c.args.stores.now c.insert.new.self.entries c.in_ok-name.name c.in_ok-name.name c.args.store refl (sym c.contains_key.ensures ∙ c.if-contains_key.false) c.in_ok-insert.ensures.entries)
