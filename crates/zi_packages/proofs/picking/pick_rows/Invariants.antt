use Rattle.std.proofs.Common.{◌≡◌, List, take, Some}
use Rattle.std.specs.Prelude.{fold, slice_get}
use Rattle.zi_parts.specs.declared.types.Impl.{Impl}
use Rattle.zi_parts.specs.declared.types.Native.{Native}
use Rattle.zi_packages.specs.Natives.{made_by, with_new}
use Rattle.zi_packages.specs.Picks.{AreAt, HasPicked}
use Rattle.zi_packages.proofs.picking.pick_rows.Given as goal

abbrev pub invariant-loop-row : goal.invariant-loop-row
invariant-loop-row l = record {
  picks : (is all : List Impl) → HasPicked is l.fn.ids.keys l.fn.picks.items all → HasPicked is l.ids.keys l.picks.items (fold with_new all (made_by l.named.native.now (take l.row-index l.named.rows.now)));
  at : (ns : List Native) → slice_get ns l.named.at ≡ Some l.named.native.now → AreAt ns l.fn.picks.items → AreAt ns l.picks.items;
}
