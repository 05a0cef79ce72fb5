-- Which of the outcomes of the crash model a crash of a shelf in memory leaves, by its pick.
use Rattle.std.specs.Prelude.{◌≡◌, ◌≤◌, ◌/◌, ◌%◌, ℕ, zero, suc, Bool, true, false, List, [], ◌∷◌, length, Option, Some, None, unwrap_or, if◌then◌else◌, nat_eq, bytes_eq}
use Rattle.zi_shelf.specs.Names.{Name}
use Rattle.zi_shelf.specs.Shelved.{Top, Pending, Renamed, Removed, Shelved}
use Rattle.zi_shelf.specs.Crash.{Source, Whence, Standing, Gone, source}
use Rattle.zi_memory.specs.declared.crash.Pick.{Pick}

-- what the three low bits of a number say
abbrev pub pick_of : ℕ → Pick
pick_of n = record { renames = nat_eq (n % 2) 1; removals = nat_eq (n / 2 % 2) 1; unsettled = nat_eq (n / 4 % 2) 1 }

-- the last of these names
abbrev pub last_of : Name → List Name → Name
last_of n [] = n
last_of n (m ∷ ms) = last_of m ms

-- Of its names, the newest first, an entry goes to the oldest where renames are taken back, and else keeps the newest.
abbrev pub GoesTo : Bool → List Name → Name → Type 0
GoesTo renames [] n = ⊥
GoesTo true (m ∷ ms) n = n ≡ last_of m ms
GoesTo false (m ∷ ms) n = n ≡ m

abbrev pub IsStanding : Whence → Type 0
IsStanding (Standing n) = Unit {0}
IsStanding (Gone k) = ⊥

-- With this pick the entry may stand under the name: a removed one where removals are taken back, an unsettled one where those stay.
pub record Comes {T : Type 0} (p : Pick) (s : Shelved T) (from_ : Whence) (name : Name) (e : Top T) : Type 0 where
  pub was : Source T
  pub is : source s from_ ≡ Some was
  pub top : was.top ≡ e
  pub goes : GoesTo p.renames was.names name
  pub back : p.removals ≡ false → IsStanding from_
  pub stays : p.unsettled ≡ true → e.settled ≡ true

-- how many of the pending ones are older than the first rename of the entry now under this name; None where it was not renamed
abbrev pub renamed_at : {T : Type 0} → Name → List (Pending T) → Option ℕ
renamed_at n [] = None
renamed_at n (Renamed a b ∷ older) =
    if bytes_eq b n then Some (unwrap_or (renamed_at a older) (length older)) else if bytes_eq a n then None else renamed_at n older
renamed_at n (Removed m e ∷ older) = if bytes_eq m n then None else renamed_at n older

-- How many of the pending ones are older than the one that is taken back last for the entry under this name: its first rename,
-- where renames are taken back and it had one. Else as many as there are: for a removed entry these are the ones before its removal.
abbrev pub back_at : {T : Type 0} → Bool → Name → List (Pending T) → ℕ
back_at true n pending = unwrap_or (renamed_at n pending) (length pending)
back_at false n pending = length pending

-- the same of the removed entry of this number
abbrev pub gone_at : {T : Type 0} → Bool → ℕ → List (Pending T) → ℕ
gone_at renames k [] = 0
gone_at renames k (Renamed a b ∷ older) = gone_at renames k older
gone_at renames zero (Removed m e ∷ older) = back_at renames m older
gone_at renames (suc k) (Removed m e ∷ older) = gone_at renames k older

-- when an entry comes to its name, the lower the later, since the newest change is taken back first; one that stays was there before all
abbrev pub moment : {T : Type 0} → Bool → Shelved T → Whence → ℕ
moment renames s (Standing n) = back_at renames n s.pending
moment renames s (Gone k) = gone_at renames k s.pending

-- Exactly this is left: under each name the entry that comes to it last, which takes the name from the others, and nothing where none comes.
pub record IsPicked {T : Type 0} (p : Pick) (s : Shelved T) (after : Name → Option (Top T)) : Type 0 where
  pub stands : (n : Name) (e : Top T) → after n ≡ Some e
      → (w : Whence) × Comes p s w n e × ((v : Whence) (d : Top T) → Comes p s v n d → moment p.renames s w ≤ moment p.renames s v)
  pub nothing : (n : Name) → after n ≡ None → (w : Whence) (e : Top T) → Comes p s w n e → ⊥
