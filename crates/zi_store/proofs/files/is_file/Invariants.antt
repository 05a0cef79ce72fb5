use Rattle.std.proofs.Common.{◌≡◌, take, Some}
use Rattle.zi_shelf.specs.Told.{Told}
use Rattle.zi_store.specs.Keeping.{Keeps, is_reading}
use Rattle.zi_store.proofs.FileLemmas.{Reaches}
use Rattle.zi_store.proofs.files.is_file.Given as goal

abbrev pub invariant-loop-i : goal.invariant-loop-i
invariant-loop-i g l = record {
  keeps : Keeps is_reading (g.K.Shelf.seen l.fn.k) (g.K.Shelf.seen l.k);
  calm : (g.K.Shelf.seen l.k).faults ≡ (g.K.Shelf.seen l.fn.k).faults;
  front : l.folder ≡ take l.i l.parts;
  reaches : (s : Told) → (g.K.Shelf.seen l.fn.k).honest → (g.K.Shelf.seen l.fn.k).told ≡ Some s → Reaches l.top l.parts l.i s.shelf;
}
