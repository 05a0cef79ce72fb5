-- What the fields of a shelf in memory stand for.
use Rattle.std.specs.Prelude.{◌≡◌, ℕ, ◌-◌, ◌^◌, ◌<◌, zero, suc, Bool, true, false, ◌&&◌, List, [], ◌∷◌, map, reverse, Option, None, Some, if◌then◌else◌, codes}
use Rattle.std.specs.Ordering.{is_lt, nat_cmp}
use Rattle.std.specs.Cmp.Lexicographic.{slice_cmp}
use Rattle.std.specs.Str.{bytes_eq}
use Rattle.zi_tree.specs.Dir.{Dir}
use Rattle.zi_tree.specs.Order.{is_tree}
use Rattle.zi_shelf.specs.Names.{Name}
use Rattle.zi_shelf.specs.Shelved.{Top, Pending, Renamed, Removed}
use Rattle.zi_shelf.specs.Told.{Told}
use Rattle.zi_shelf.specs.declared.call.ShelfCall.{ShelfCall}
use Rattle.zi_memory.specs.declared.top_entry.TopEntry.{TopEntry}
use Rattle.zi_memory.specs.declared.top_entry.Later.{Later}
use Rattle.zi_memory.specs.declared.top_entry.Later.TheVariants.{RenamedTop, RemovedTop}

abbrev pub top_of : TopEntry → Top Dir
top_of e = record { tree = e.tree; settled = e.settled }

-- the map of the entries
abbrev pub tops_of : List TopEntry → Name → Option (Top Dir)
tops_of [] n = None
tops_of (e ∷ es) n = if bytes_eq e.name n then Some (top_of e) else tops_of es n

-- the name stands before each of these, in byte order
abbrev pub is_before : Name → List TopEntry → Bool
is_before n [] = true
is_before n (e ∷ es) = is_lt (slice_cmp nat_cmp n e.name) && is_before n es

-- each name is one and stands before those after it
abbrev pub are_apart : List TopEntry → Bool
are_apart [] = true
are_apart (e ∷ es) = is_before e.name es && are_apart es

-- each holds a tree
abbrev pub are_trees : List TopEntry → Bool
are_trees [] = true
are_trees (e ∷ es) = is_tree e.tree && are_trees es

abbrev pub later_of : Later → Pending Dir
later_of (RenamedTop a b) = Renamed a b
later_of (RemovedTop e) = Removed e.name (top_of e)

-- the entry at this place has this name, and none before it has
abbrev pub IsAt : Name → List TopEntry → ℕ → Type 0
IsAt n [] i = ⊥
IsAt n (e ∷ es) zero = bytes_eq e.name n ≡ true
IsAt n (e ∷ es) (suc i) = (bytes_eq e.name n ≡ false) × IsAt n es i

-- the first place at which the name stands before the entry
abbrev pub IsPlace : Name → List TopEntry → ℕ → Type 0
IsPlace n [] i = i ≡ 0
IsPlace n (e ∷ es) zero = is_lt (slice_cmp nat_cmp n e.name) ≡ true
IsPlace n (e ∷ es) (suc i) = (is_lt (slice_cmp nat_cmp n e.name) ≡ false) × IsPlace n es i

-- what the fields tell; the newest pending one stands last in the fields, and first in what a shelf is
abbrev pub told_of : List TopEntry → List Later → List ShelfCall → Told
told_of entries pending calls = record { shelf = record { tops = tops_of entries; pending = map later_of (reverse pending) }; calls = calls }

-- where a shelf stands
abbrev pub root_of : Option Name → Name
root_of None = codes "/store"
root_of (Some root) = root

-- no call is to fail, and the count of faults never comes to its end
pub record StaysSure (sure : Bool) (fail : List ℕ) (faults : ℕ) : Type 0 where
  pub keeps : sure ≡ true
  pub unplanned : fail ≡ []
  pub below_end : faults < 2 ^ 64 - 1
