use Rattle.std.proofs.Common.{List, ℕ, sym, ap, subst}
use Rattle.std.proofs.lemmas.Option.{slice_get_within, get_or_from_slice_get}
use Rattle.zi_choice.specs.Tables.{IsAdded}
use Rattle.zi_choice.proofs.TableLaws.{places_more}
use Rattle.zi_choice.proofs.table.table_of.Goals as goal

pub loop-place-preserved : goal.loop-place-preserved
loop-place-preserved c =
    let ms = c.args.commands.now in
    let there = get_or_from_slice_get ms c.loop-place.place c.at-command.result.now c.at-command.result.now c.at-command.ensures in
    let named = λ (n : List ℕ). IsAdded c.loop-place.places.entries n c.loop-place.place c.add.new.places.entries in
    places_more ms c.loop-place.place c.at-command.result.now c.loop-place.places.entries c.add.new.places.entries (slice_get_within ms c.loop-place.place c.at-command.result.now c.at-command.ensures) (sym there) c.loop-place.invariant
    (subst named (ap (λ m. m.name) c.deref.ensures) c.in_ok-add.ensures)
