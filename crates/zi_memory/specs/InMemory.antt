-- What each form of a shelf in memory shows.
use Rattle.std.specs.Prelude.{ℕ, List, [], Some}
use Rattle.zi_shelf.specs.Names.{Name}
use Rattle.zi_shelf.specs.Told.{Told}
use Rattle.zi_shelf.specs.Shelving.{Shelving}
use Rattle.zi_memory.specs.Memory.{told_of, root_of, StaysSure}
use Rattle.zi_memory.specs.declared.held.Held.{Held}
use Rattle.zi_memory.specs.declared.memory_shelf.MemoryShelf.{MemoryShelf}
use Rattle.zi_memory.specs.declared.sure_shelf.SureShelf.{SureShelf}

-- what is seen of what both hold
abbrev pub held_seen : Held → Shelving
held_seen h = record {
  told = Some (told_of h.entries.items h.pending.items h.calls);
  honest = Unit {0};
  sure = StaysSure h.sure h.fail.items h.faults;
  in_memory = Unit {0};
  faults = h.faults;
  root = root_of h.root;
  plan = h.fail.items;
}

-- what it holds, and the record of its calls
abbrev pub shelf_told : MemoryShelf → Told
shelf_told m = told_of m.held.entries.items m.held.pending.items m.held.calls

-- how often a call has failed
abbrev pub shelf_faults : MemoryShelf → ℕ
shelf_faults m = m.held.faults

-- the numbers of the calls that are to fail
abbrev pub shelf_plan : MemoryShelf → List ℕ
shelf_plan m = m.held.fail.items

-- where it stands
abbrev pub shelf_root : MemoryShelf → Name
shelf_root m = root_of m.held.root

-- the same of a sure one
abbrev pub sure_told : SureShelf → Told
sure_told s = told_of s.held.entries.items s.held.pending.items s.held.calls

abbrev pub sure_faults : SureShelf → ℕ
sure_faults s = s.held.faults

abbrev pub sure_root : SureShelf → Name
sure_root s = root_of s.held.root

-- what is seen of a shelf in memory; it may fail at calls that fit
abbrev pub shelf_seen : MemoryShelf → Shelving
shelf_seen m = record { told = Some (shelf_told m); honest = Unit {0}; sure = ⊥; in_memory = Unit {0}; faults = shelf_faults m; root = shelf_root m; plan = shelf_plan m }

-- what is seen of a sure one
abbrev pub sure_seen : SureShelf → Shelving
sure_seen s = record { told = Some (sure_told s); honest = Unit {0}; sure = Unit {0}; in_memory = Unit {0}; faults = sure_faults s; root = sure_root s; plan = [] }
