-- The files of `store add`: what is got of them, and the tree that they make.
use Rattle.std.specs.Prelude.{◌≡◌, ℕ, ◌+◌, ◌<◌, ◌≤◌, ◌⊎◌, Bool, true, false, not, ◌&&◌, List, [], ◌∷◌, take, length, map, sum, Option, Some, None, IfSome, IsSomeAnd, IsSome, Result, Ok, Err, bytes_eq, if◌then◌else◌, slice_get, pos}
use Rattle.std.specs.List.{list_any}
use Rattle.zi_text.specs.Count.{Rose}
use Rattle.zi_outside.specs.Outside.{Asks}
use Rattle.zi_outside.specs.Views.{Holding, Feeding, holding}
use Rattle.zi_tree.specs.Dir.{Dir}
use Rattle.zi_tree.specs.Limits.{nodes_limit, size_limit}
use Rattle.zi_tree.specs.Order.{is_tree}
use Rattle.zi_tree.specs.Paths.{items, node_in, placed}
use Rattle.zi_tree.specs.Views.{dir}
use Rattle.zi_tree.specs.declared.tree.TreeNode.{TreeNode}
use Rattle.zi_tree.specs.declared.tree.TreeNode.TheVariants.{File}
use Rattle.zi_tree.specs.declared.change.TreeLimit.{TreeLimit}
use Rattle.zi_tree.specs.declared.change.TreeLimit.TheVariants.{Size, Nodes, Depth}
use Rattle.zi_words.specs.Forms.{Word}
use Rattle.zi_words.specs.Store.{last_part}
use Rattle.zi_storing.specs.declared.gathering.Held.{Held}
use Rattle.zi_storing.specs.declared.gathering.Part.{Part}
use Rattle.zi_storing.specs.declared.gathering.GatherFault.{GatherFault}
use Rattle.zi_storing.specs.declared.gathering.GatherFault.TheVariants.{Read, Absent, TooLong, Twice, TooLarge, Memory}

-- so many bytes a file may have
abbrev pub file_limit : ℕ
file_limit = 67108864

abbrev pub part_name : Part → List ℕ
part_name p = p.name

abbrev pub part_size : Part → ℕ
part_size p = length p.bytes

-- A file's part of the tree: its name is the last part of the path, and its bytes are those held there, no more than the limit.
pub record IsPart (told : Option Holding) (file : Word) (p : Part) : Type 0 where
  pub named : p.name ≡ last_part file
  pub small : length p.bytes ≤ file_limit
  pub held : IfSome told (λ holds. holds file ≡ Some p.bytes)

-- these are the parts of the files, in their order
abbrev pub AreParts : Option Holding → List Word → List Part → Type 0
AreParts told [] [] = Unit {0}
AreParts told (f ∷ fs) (p ∷ ps) = IsPart told f p × AreParts told fs ps
AreParts told files parts = ⊥

-- these were asked for, in their order, and no call failed
pub record AsksCalmly (files : List Word) (before after : Feeding) : Type 0 where
  pub asked : Asks files before after
  pub calm : after.faults ≡ before.faults

-- all files were got, and these are their parts
pub record GetsAll (files : List Word) (before after : Feeding) (parts : List Part) : Type 0 where
  pub are : AreParts (holding before) files parts
  pub asked : AsksCalmly files before after

-- the names in the tree
abbrev pub names_of : List Part → List (List ℕ)
names_of parts = map part_name parts

abbrev pub is_among : List ℕ → List (List ℕ) → Bool
is_among n names = list_any (λ m. bytes_eq m n) names

-- no name stands twice
abbrev pub are_apart : List (List ℕ) → Bool
are_apart [] = true
are_apart (n ∷ ns) = not (is_among n ns) && are_apart ns

-- the name at the first place before which it stands too
pub record IsFirstTwice (names : List (List ℕ)) (n : List ℕ) : Type 0 where
  pub place : ℕ
  pub here : slice_get names place ≡ Some n
  pub before : is_among n (take place names) ≡ true
  pub first : are_apart (take place names) ≡ true

-- a file in the tree: not executable, and with the time 0
abbrev pub plain : List ℕ → TreeNode
plain bytes = File bytes false (pos 0)

-- the file of this name among the parts
abbrev pub file_named : List ℕ → List Part → Option TreeNode
file_named n [] = None
file_named n (p ∷ ps) = if bytes_eq p.name n then Some (plain p.bytes) else file_named n ps

-- The tree of the parts: under the name of each stands its file, and nothing else stands in it.
pub record IsTreeOf (parts : List Part) (d : Dir) : Type 0 where
  pub whole : is_tree d ≡ true
  pub holds : (n : List ℕ) → node_in n (items d) ≡ file_named n parts

-- All files were got, no two have one last part, they are within the limits, and d is the tree of them.
pub record Gathers (files : List Word) (before after : Feeding) (d : Dir) : Type 0 where
  pub parts : List Part
  pub got : GetsAll files before after parts
  pub apart : are_apart (names_of parts) ≡ true
  pub small : sum (map part_size parts) ≤ size_limit
  pub few : length files ≤ nodes_limit
  pub tree : IsTreeOf parts d

-- The file is one of these, all before it were got, and it was the last that was asked for.
pub record Reaches (files : List Word) (before after : Feeding) (file : Word) : Type 0 where
  pub place : ℕ
  pub here : slice_get files place ≡ Some file
  pub parts : List Part
  pub got : AreParts (holding before) (take place files) parts
  pub asked : Asks (take (place + 1) files) before after

-- Why there is no tree of the files.

-- the feeds failed at this file
abbrev pub IsUnread : List Word → Feeding → Feeding → Word → Type 0
IsUnread files before after file = Reaches files before after file × Rose before.faults after.faults

-- the feeds don't have this file
abbrev pub IsAbsent : List Word → Feeding → Feeding → Word → Type 0
IsAbsent files before after file =
    Reaches files before after file × (after.faults ≡ before.faults) × IfSome (holding before) (λ holds. holds file ≡ None)

-- this file has more bytes than its limit
abbrev pub IsTooLong : List Word → Feeding → Feeding → Word → ℕ → Type 0
IsTooLong files before after file limit =
    Reaches files before after file × (after.faults ≡ before.faults) × (limit ≡ file_limit)
    × IfSome (holding before) (λ holds. IsSomeAnd (holds file) (λ bytes. file_limit < length bytes))

-- two files have this last part
abbrev pub IsTwice : List Word → Feeding → Feeding → List ℕ → Type 0
IsTwice files before after name = (parts : List Part) × GetsAll files before after parts × IsFirstTwice (names_of parts) name

-- the tree passes this limit
abbrev pub IsTooLarge : List Word → Feeding → Feeding → TreeLimit → ℕ → Type 0
IsTooLarge files before after Size limit =
    (parts : List Part) × GetsAll files before after parts × (are_apart (names_of parts) ≡ true) × (limit ≡ size_limit)
    × (size_limit < sum (map part_size parts))
IsTooLarge files before after Nodes limit =
    (parts : List Part) × GetsAll files before after parts × (are_apart (names_of parts) ≡ true) × (sum (map part_size parts) ≤ size_limit)
    × (limit ≡ nodes_limit) × (nodes_limit < length files)
IsTooLarge files before after Depth limit = ⊥

-- memory was refused: the first of the files were asked for, and no call failed
abbrev pub GetsSome : List Word → Feeding → Feeding → Type 0
GetsSome files before after = (n : ℕ) × AsksCalmly (take n files) before after

abbrev pub Refuses : List Word → Feeding → Feeding → GatherFault → Type 0
Refuses files before after (Read file) = IsUnread files before after file
Refuses files before after (Absent file) = IsAbsent files before after file
Refuses files before after (TooLong file limit) = IsTooLong files before after file limit
Refuses files before after (Twice name) = IsTwice files before after name
Refuses files before after (TooLarge what limit) = IsTooLarge files before after what limit
Refuses files before after Memory = GetsSome files before after

-- Parts of the work.

-- what the get of one file gives
abbrev pub GetsPart : Word → Feeding → Feeding → Result Part GatherFault → Type 0
GetsPart file before after (Ok p) = IsPart (holding before) file p × AsksCalmly (file ∷ []) before after
GetsPart file before after (Err (Read name)) = (name ≡ file) × Asks (file ∷ []) before after × Rose before.faults after.faults
GetsPart file before after (Err (Absent name)) = (name ≡ file) × AsksCalmly (file ∷ []) before after × IfSome (holding before) (λ holds. holds file ≡ None)
GetsPart file before after (Err (TooLong name limit)) =
    (name ≡ file) × AsksCalmly (file ∷ []) before after × (limit ≡ file_limit)
    × IfSome (holding before) (λ holds. IsSomeAnd (holds file) (λ bytes. file_limit < length bytes))
GetsPart file before after (Err Memory) = (after ≡ before) ⊎ AsksCalmly (file ∷ []) before after
GetsPart file before after (Err other) = ⊥

-- The names of these parts are held, and their bytes where all together have no more than their limit.
pub record Holds (parts : List Part) (held : Held) : Type 0 where
  pub names : names_of held.parts ≡ names_of parts
  pub within : held.large ≡ false → (held.parts ≡ parts) × (held.left + sum (map part_size parts) ≡ size_limit)
  pub past : held.large ≡ true → size_limit < sum (map part_size parts)

-- these files were got, and what is held is held of them
pub record GetsHeld (files : List Word) (before after : Feeding) (held : Held) : Type 0 where
  pub parts : List Part
  pub got : GetsAll files before after parts
  pub holds : Holds parts held

-- what that of all gives
abbrev pub GetsParts : List Word → Feeding → Feeding → Result Held GatherFault → Type 0
GetsParts files before after (Ok held) = GetsHeld files before after held
GetsParts files before after (Err fault) = Refuses files before after fault

-- a part goes into a tree under its name, where that is free
abbrev pub PutsPart : Part → Dir → Result (Unit {0}) GatherFault → Dir → Type 0
PutsPart p old (Ok x) new = (node_in p.name (items old) ≡ None) × (new ≡ dir (placed p.name (plain p.bytes) (items old)))
PutsPart p old (Err (Twice name)) new = (name ≡ p.name) × IsSome (node_in name (items old))
PutsPart p old (Err Memory) new = Unit {0}
PutsPart p old (Err other) new = ⊥

-- the tree of all parts
abbrev pub MakesTree : List Part → Result Dir GatherFault → Type 0
MakesTree parts (Ok d) = (are_apart (names_of parts) ≡ true) × IsTreeOf parts d
MakesTree parts (Err (Twice name)) = IsFirstTwice (names_of parts) name
MakesTree parts (Err Memory) = Unit {0}
MakesTree parts (Err other) = ⊥
