-- Reading a manifest line by line: what a line tells, and which lines may follow in the open folders.
use Rattle.std.specs.Prelude.{◌≡◌, ℕ, ◌+◌, ◌<◌, ◌^◌, Bool, true, false, ◌&&◌, not, List, [], ◌∷◌, ◌++◌, Option, None, Some, length, bytes_eq, if◌then◌else◌, is_none, option_and_then}
use Rattle.std.specs.List.{list_all, list_any}
use Rattle.std.specs.Ordering.{is_lt, nat_cmp}
use Rattle.std.specs.Cmp.Lexicographic.{slice_cmp}
use Rattle.zi_digest.specs.declared.Algorithm.{Algorithm}
use Rattle.zi_tree.specs.Order.{has_byte}
use Rattle.zi_manifest.specs.Sketch.{Sketch, Empty, OfFile, OfLink, OfFolder, joined, file_line, link_line, folder_line}
use Rattle.zi_manifest.specs.Listing.{IsEntryName, IsHash, IsSigned64, IsListing}
use Rattle.zi_manifest.specs.declared.listing.Line.{Line}
use Rattle.zi_manifest.specs.declared.listing.Line.TheVariants as line
use Rattle.zi_manifest.specs.declared.entries.Entry.{Entry}
use Rattle.zi_manifest.specs.declared.entries.Entry.TheVariants.{File, Link, Folder}
use Rattle.zi_manifest.specs.declared.open.Open.{Open}

-- the line that tells of an entry
abbrev pub entry_text : Entry → List ℕ
entry_text (File n h e t size) = file_line h e t size n
entry_text (Link n h size) = link_line h size n
entry_text (Folder p n) = folder_line (joined p n)

abbrev pub IsEntry : Algorithm → Entry → Type 0
IsEntry a (File n h e t size) = IsEntryName n × IsHash a h × IsSigned64 t × (size < 2 ^ 64)
IsEntry a (Link n h size) = IsEntryName n × IsHash a h × (size < 2 ^ 64)
IsEntry a (Folder p n) = IsEntryName n × (has_byte 10 p ≡ false)

-- the line tells of this entry, or of none
abbrev pub Tells : Algorithm → List ℕ → Option Entry → Type 0
Tells a text None = (e : Entry) → IsEntry a e → entry_text e ≡ text ++ 10 ∷ [] → ⊥
Tells a text (Some e) = IsEntry a e × (entry_text e ≡ text ++ 10 ∷ [])

abbrev pub name_of : Entry → List ℕ
name_of (File n h e t size) = n
name_of (Link n h size) = n
name_of (Folder p n) = n

-- an entry as a line with its whole path
abbrev pub with_path : List ℕ → Entry → Line
with_path q (File n h e t size) = line.File q h e t size
with_path q (Link n h size) = line.Link q h size
with_path q (Folder p n) = line.Folder q

-- each of these names stands before n, and n is none of these
abbrev pub all_before : List (List ℕ) → List ℕ → Bool
all_before ms n = list_all (λ m. is_lt (slice_cmp nat_cmp m n)) ms

abbrev pub is_free : List (List ℕ) → List ℕ → Bool
is_free ms n = not (list_any (λ m. bytes_eq m n) ms)

abbrev pub rises : List (List ℕ) → Bool
rises [] = true
rises (m ∷ ms) = list_all (λ k. is_lt (slice_cmp nat_cmp m k)) ms && rises ms

-- n stands behind the last subfolder
abbrev pub is_above : Option (List ℕ) → List ℕ → Bool
is_above None n = true
is_above (Some m) n = is_lt (slice_cmp nat_cmp m n)

-- a folder whose lines are still to come
abbrev pub fresh : List ℕ → Open
fresh p = record { path = p; leaves = []; folder = None }

-- one more file or link of the innermost folder; the open folders are given from the innermost on
abbrev pub add : List ℕ → List Open → Option (List Open)
add n [] = None
add n (c ∷ cs) = if is_none c.folder && all_before c.leaves n then Some (record c { leaves = c.leaves ++ n ∷ [] } ∷ cs) else None

-- the open folder at a path, and those round it
abbrev pub back : List ℕ → List Open → Option (Open × List Open)
back p [] = None
back p (c ∷ cs) = if bytes_eq c.path p then Some (c, cs) else back p cs

-- one more subfolder, which is opened
abbrev pub enter : List ℕ → Option (Open × List Open) → Option (List Open)
enter n None = None
enter n (Some (c, cs)) = if is_above c.folder n && is_free c.leaves n then Some (fresh (joined c.path n) ∷ record c { folder = Some n } ∷ cs) else None

abbrev pub step : Entry → List Open → Option (List Open)
step (File n h e t size) cs = add n cs
step (Link n h size) cs = add n cs
step (Folder p n) cs = enter n (back p cs)

-- one entry after another
abbrev pub run : List Entry → List Open → Option (List Open)
run [] cs = Some cs
run (e ∷ es) cs = option_and_then (λ ds. run es ds) (step e cs)

-- the path of the folder in which an entry stands
abbrev pub path_of : List Open → List ℕ
path_of [] = []
path_of (c ∷ cs) = c.path

abbrev pub home : Entry → List Open → List ℕ
home (File n h e t size) cs = path_of cs
home (Link n h size) cs = path_of cs
home (Folder p n) cs = p

-- the entry is taken, and this is its whole path, or it may not stand here
abbrev pub Takes : Entry → List Open → Option (List ℕ) → List Open → Type 0
Takes e cs None ds = step e cs ≡ None
Takes e cs (Some q) ds = (step e cs ≡ Some ds) × (q ≡ joined (home e cs) (name_of e))

abbrev pub TakesLeaf : List ℕ → List Open → Option (List ℕ) → List Open → Type 0
TakesLeaf n cs None ds = add n cs ≡ None
TakesLeaf n cs (Some q) ds = (add n cs ≡ Some ds) × (q ≡ joined (path_of cs) n)

abbrev pub TakesFolder : List ℕ → List ℕ → List Open → Option (List ℕ) → List Open → Type 0
TakesFolder p n cs None ds = enter n (back p cs) ≡ None
TakesFolder p n cs (Some q) ds = (enter n (back p cs) ≡ Some ds) × (q ≡ joined p n)

-- one more line is taken, or it may not stand here
abbrev pub NextLine : Algorithm → List ℕ → List Open → Option Line → List Open → Type 0
NextLine a text cs None ds = (e : Entry) → IsEntry a e → entry_text e ≡ text ++ 10 ∷ [] → step e cs ≡ None
NextLine a text cs (Some l) ds = (e : Entry) × IsEntry a e × (entry_text e ≡ text ++ 10 ∷ []) × (step e cs ≡ Some ds) × (l ≡ with_path (joined (home e cs) (name_of e)) e)

-- in each open folder the names of files and links rise
abbrev pub all_rise : List Open → Bool
all_rise cs = list_all (λ (c : Open). rises c.leaves) cs

-- entries, each with the path of its folder
abbrev pub Placed : Type 0
Placed = List ℕ × Entry

abbrev pub leaf_entries : List ℕ → Sketch → List Placed
leaf_entries p Empty = []
leaf_entries p (OfFile n h e t size rest) = (p, File n h e t size) ∷ leaf_entries p rest
leaf_entries p (OfLink n h size rest) = (p, Link n h size) ∷ leaf_entries p rest
leaf_entries p (OfFolder n inside rest) = leaf_entries p rest

abbrev pub folder_entries : List ℕ → Sketch → List Placed
folder_entries p Empty = []
folder_entries p (OfFile n h e t size rest) = folder_entries p rest
folder_entries p (OfLink n h size rest) = folder_entries p rest
folder_entries p (OfFolder n inside rest) = (p, Folder p n) ∷ (leaf_entries (joined p n) inside ++ (folder_entries (joined p n) inside ++ folder_entries p rest))

-- all that the folder at a path holds, in the manifest's order
abbrev pub all_entries : List ℕ → Sketch → List Placed
all_entries p s = leaf_entries p s ++ folder_entries p s

abbrev pub entries : List Placed → List Entry
entries [] = []
entries (x ∷ xs) = x.1 ∷ entries xs

abbrev pub texts : List Placed → List ℕ
texts [] = []
texts (x ∷ xs) = entry_text x.1 ++ texts xs

abbrev pub lines : List Placed → List Line
lines [] = []
lines (x ∷ xs) = with_path (joined x.0 (name_of x.1)) x.1 ∷ lines xs

abbrev pub AreEntries : Algorithm → List Placed → Type 0
AreEntries a [] = Unit {0}
AreEntries a (x ∷ xs) = IsEntry a x.1 × AreEntries a xs

abbrev pub leaf_names : Sketch → List (List ℕ)
leaf_names Empty = []
leaf_names (OfFile n h e t size rest) = n ∷ leaf_names rest
leaf_names (OfLink n h size rest) = n ∷ leaf_names rest
leaf_names (OfFolder n inside rest) = leaf_names rest

abbrev pub folder_names : Sketch → List (List ℕ)
folder_names Empty = []
folder_names (OfFile n h e t size rest) = folder_names rest
folder_names (OfLink n h size rest) = folder_names rest
folder_names (OfFolder n inside rest) = n ∷ folder_names rest

-- what has been read of a folder
pub record Shape (a : Algorithm) (c : Open) (s : Sketch) : Type 0 where
  pub leaves : c.leaves ≡ leaf_names s
  pub good : IsListing a s
  pub above : (n : List ℕ) → is_above c.folder n ≡ true → all_before (folder_names s) n ≡ true
  pub none : c.folder ≡ None → folder_names s ≡ []

-- and of one whose subfolder n is open
pub record Outer (a : Algorithm) (d : Open) (s : Sketch) (n : List ℕ) : Type 0 where
  pub leaves : d.leaves ≡ leaf_names s
  pub good : IsListing a s
  pub last : d.folder ≡ Some n
  pub name : IsEntryName n
  pub above : all_before (folder_names s) n ≡ true
  pub free : is_free (leaf_names s) n ≡ true

-- these were read before the folder c, in the folders round it
abbrev pub Round : Algorithm → Open → List Open → List Placed → Type 0
Round a c [] ps = (c.path ≡ []) × (ps ≡ [])
Round a c (d ∷ cs) ps = (n : List ℕ) × (s : Sketch) × (before : List Placed) × Outer a d s n × (c.path ≡ joined d.path n) × (ps ≡ before ++ (all_entries d.path s ++ ((d.path, Folder d.path n) ∷ []))) × Round a d cs before

-- these were read
abbrev pub Built : Algorithm → List Open → List Placed → Type 0
Built a [] ps = ⊥
Built a (c ∷ cs) ps = (s : Sketch) × (before : List Placed) × Shape a c s × (ps ≡ before ++ all_entries c.path s) × Round a c cs before

-- how far reading has come: the lines before `rest` were read
pub record IsRead (a : Algorithm) (bytes rest : List ℕ) (number : ℕ) (ls : List Line) (cs : List Open) : Type 0 where
  pub placed : List Placed
  pub text : bytes ≡ texts placed ++ rest
  pub lines_are : lines placed ≡ ls
  pub good : AreEntries a placed
  pub ran : run (entries placed) (fresh [] ∷ []) ≡ Some cs
  pub built : Built a cs placed
  pub count : number ≡ length placed + 1
