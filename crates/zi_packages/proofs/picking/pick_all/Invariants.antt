use Rattle.std.proofs.Common.{List, take}
use Rattle.std.specs.Prelude.{fold}
use Rattle.zi_parts.specs.declared.types.Native.{Native}
use Rattle.zi_packages.specs.Natives.{with_new}
use Rattle.zi_packages.specs.Picks.{AreAt, AreNamedAt, HasPicked, all_named}
use Rattle.zi_packages.proofs.picking.pick_all.Given as goal

abbrev pub invariant-loop-one : goal.invariant-loop-one
invariant-loop-one l = record {
  picks : HasPicked l.impls l.ids.keys l.picks.items (fold with_new l.impls (all_named (take l.one-index l.named)));
  at : (ns : List Native) → AreNamedAt ns l.named → AreAt ns l.picks.items;
}
