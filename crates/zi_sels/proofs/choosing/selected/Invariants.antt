use Rattle.std.proofs.Common.{◌≡◌, ◌++◌, drop}
use Rattle.zi_sels.specs.Chosen.{selected_from}
use Rattle.zi_sels.specs.Settings.{universe_of, picks_of, walk_of}
use Rattle.zi_sels.proofs.choosing.selected.Given as goal

abbrev pub invariant-loop-interface : goal.invariant-loop-interface
invariant-loop-interface l = record {
  number : l.i ≡ l.interface-index;
  items : l.items.items ++ selected_from (universe_of l.on) (picks_of l.on) (walk_of l.on) l.i (drop l.interface-index l.interfaces)
      ≡ selected_from (universe_of l.on) (picks_of l.on) (walk_of l.on) 0 l.interfaces;
}
