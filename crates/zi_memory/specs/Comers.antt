-- How a crash of a shelf in memory finds what is left: of all entries that come to a name, the one whose change is the oldest.
use Rattle.std.specs.Prelude.{◌≡◌, ◌+◌, ◌∷◌, ◌++◌, ◌||◌, ◌&&◌, ℕ, Bool, not, false, List, [], map, reverse, length, Option, Some, None, if◌then◌else◌, nat_le, bytes_eq, get_or, slice_get, ◌<◌}
use Rattle.std.specs.Cmp.Lexicographic.{slice_cmp}
use Rattle.std.specs.Ordering.{nat_cmp}
use Rattle.std.specs.BTreeMap as tree
use Rattle.std.specs.BTreeMap.{BTreeMap}
use Rattle.zi_tree.specs.Dir.{Dir, Nothing}
use Rattle.zi_shelf.specs.Names.{Name}
use Rattle.zi_shelf.specs.Shelved.{Top, Pending, Renamed, Removed}
use Rattle.zi_shelf.specs.Crash.{removed}
use Rattle.zi_memory.specs.Memory.{later_of, top_of}
use Rattle.zi_memory.specs.declared.top_entry.TopEntry.{TopEntry}
use Rattle.zi_memory.specs.declared.top_entry.Later.{Later}
use Rattle.zi_memory.specs.declared.top_entry.Later.TheVariants.{RenamedTop, RemovedTop}
use Rattle.zi_memory.specs.declared.crash.Pick.{Pick}
use Rattle.zi_memory.specs.declared.crash.Comer.{Comer}
use Rattle.zi_memory.specs.declared.crash.First.{First}

-- a map of names
abbrev pub at : {X : Type 0} → BTreeMap Name X → Name → Option X
at m n = tree.get (slice_cmp nat_cmp) m n

-- the newest first
abbrev pub pending_of : List Later → List (Pending Dir)
pending_of ps = map later_of (reverse ps)

-- an unsettled entry may not stay where those are gone
abbrev pub may_stay : Pick → Bool → Bool
may_stay p settled = settled || not p.unsettled

-- where there is no first rename, an entry comes by the change of this number
abbrev pub first_or : Option First → Name → ℕ → First
first_or None n number = record { name = n; older = number }
first_or (Some f) n number = f

-- what the change of this number does to the first renames
abbrev pub first_step : Bool → Pending Dir → ℕ → (Name → Option First) → Name → Option First
first_step renames (Renamed a b) number f n =
    if renames then (if bytes_eq b n then Some (first_or (f a) a number) else if bytes_eq a n then None else f n) else f n
first_step renames (Removed m e) number f n = if bytes_eq m n then None else f n

-- the first rename of what stands under a name
abbrev pub first_at : Bool → Name → List (Pending Dir) → Option First
first_at renames n [] = None
first_at renames n (p ∷ older) = first_step renames p (length older) (λ q. first_at renames q older) n

-- one is there whose change is as old
abbrev pub is_later : Option Comer → Comer → Bool
is_later None c = false
is_later (Some d) c = nat_le d.older c.older

-- the one whose change is older; the one that was there where both are as old
abbrev pub earlier : Option Comer → Comer → Comer
earlier None c = c
earlier (Some d) c = if nat_le d.older c.older then d else c

-- with one more that comes to a name
abbrev pub offered : Name → Comer → (Name → Option Comer) → Name → Option Comer
offered name c f n = if bytes_eq name n then Some (earlier (f n) c) else f n

-- of these the one that comes last to the name
abbrev pub best : List (Name × Comer) → Name → Option Comer
best [] n = None
best (c ∷ cs) n = offered c.0 c.1 (best cs) n

abbrev pub comer : First → ℕ → Name × Comer
comer f place = (f.name, record { older = f.older; place = place })

abbrev pub added : Bool → Name × Comer → List (Name × Comer) → List (Name × Comer)
added may c cs = if may then c ∷ cs else cs

-- the removed entries that come back
abbrev pub removed_comers : Pick → ℕ → List (Pending Dir) → List (Name × Comer)
removed_comers p base [] = []
removed_comers p base (Renamed a b ∷ older) = removed_comers p base older
removed_comers p base (Removed m e ∷ older) =
    added (p.removals && may_stay p e.settled) (comer (first_or (first_at p.renames m older) m (length older)) (base + length (removed older))) (removed_comers p base older)

-- these entries that stand, and others
abbrev pub standing_comers : Pick → List (Pending Dir) → List TopEntry → List (Name × Comer) → List (Name × Comer)
standing_comers p pending [] others = others
standing_comers p pending (e ∷ es) others =
    added (may_stay p e.settled) (comer (first_or (first_at p.renames e.name pending) e.name (length pending)) (length es)) (standing_comers p pending es others)

-- all that may be left
abbrev pub all_comers : Pick → List TopEntry → List Later → List (Name × Comer)
all_comers p es ps = standing_comers p (pending_of ps) (reverse es) (removed_comers p (length es) (pending_of ps))

-- what the change of this number does to those that come, with the first renames and its place
abbrev pub comer_step : Pick → Pending Dir → ℕ → ℕ → (Name → Option First) → (Name → Option Comer) → Name → Option Comer
comer_step p (Renamed a b) number place f c n = c n
comer_step p (Removed m e) number place f c n =
    if p.removals && may_stay p e.settled then offered (first_or (f m) m number).name (record { older = (first_or (f m) m number).older; place = place }) c n else c n

-- one more place behind a removed entry
abbrev pub place_step : Pending Dir → ℕ → ℕ
place_step (Renamed a b) place = place
place_step (Removed m e) place = place + 1

-- the removed entries, the oldest first
abbrev pub removed_tops : List Later → List TopEntry
removed_tops [] = []
removed_tops (RenamedTop a b ∷ ls) = removed_tops ls
removed_tops (RemovedTop e ∷ ls) = e ∷ removed_tops ls

-- an entry of no name with an empty tree
abbrev pub no_entry : TopEntry
no_entry = record { name = []; tree = Nothing; settled = false }

-- the entry that comes from its place to its name
abbrev pub moved : List TopEntry → Name × Comer → TopEntry
moved sources c = record (get_or sources c.1.place no_entry) { name = c.0 }

-- each of these is from one of the sources, and no two are from one
pub record ArePlaces (es : List (Name × Comer)) (sources : List TopEntry) : Type 0 where
  pub inside : (i : ℕ) (n : Name) (c : Comer) → slice_get es i ≡ Some (n, c) → c.place < length sources
  pub apart : (i j : ℕ) (n m : Name) (c d : Comer) → slice_get es i ≡ Some (n, c) → slice_get es j ≡ Some (m, d) → c.place ≡ d.place → i ≡ j
