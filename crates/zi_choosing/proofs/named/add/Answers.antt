use Rattle.std.proofs.Common.{sym, ◌∙◌}
use Rattle.zi_choice.proofs.TableLaws.{added_old, added_new}
use Rattle.zi_choosing.proofs.named.add.Goals as goal

pub returns-then-contains_key : goal.returns-then-contains_key
returns-then-contains_key c = added_old c.args.places.now.entries c.args.interface.now c.args.place (sym c.contains_key.ensures ∙ c.if-contains_key.true)

pub returns : goal.returns
returns c =
    added_new c.args.places.now c.insert.new.self.entries c.args.interface.now c.in_ok-key.key c.args.place c.in_ok-key.ensures (sym c.contains_key.ensures ∙ c.if-contains_key.false) c.in_ok-insert.ensures.entries
