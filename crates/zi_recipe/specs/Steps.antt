-- What one step of a way to fetch does to a tree, and why it may not be done (the Zero Install feed format, "Retrieval methods":
-- a file, and the steps of a recipe).
use Rattle.std.specs.Prelude.{◌≡◌, ◌≢◌, ℕ, ◌+◌, ◌⊎◌, min, Bool, List, [], ◌∷◌, ◌++◌, length, Option, Some, None, IfSome, IsSome, IsSomeAnd, pos}
use Rattle.std.specs.List.{flat_map}
use Rattle.zi_tree.specs.Dir.{Dir}
use Rattle.zi_tree.specs.Paths.{found, inserted, removed}
use Rattle.zi_tree.specs.declared.tree.TreeNode.{TreeNode}
use Rattle.zi_tree.specs.declared.tree.TreeNode.TheVariants as node
use Rattle.zi_outside.specs.Views.{Holding}
use Rattle.zi_parts.specs.declared.types.Step.{Step}
use Rattle.zi_parts.specs.declared.types.Step.TheVariants.{File, Rename, Remove}
use Rattle.zi_recipe.specs.declared.fault.RecipeFault.{RecipeFault}
use Rattle.zi_recipe.specs.declared.fault.RecipeFault.TheVariants as fault

-- a path as it is told: its parts, joined by slashes
abbrev pub path_text : List (List ℕ) → List ℕ
path_text [] = []
path_text (n ∷ ns) = n ++ flat_map (λ m. 47 ∷ m) ns

-- what is held at an address, where it is told
abbrev pub IsHeld : Option Holding → List ℕ → Option (List ℕ) → Type 0
IsHeld told href held = IfSome told (λ holds. holds href ≡ held)

-- the address has these bytes, as many as was said
pub record Gives (told : Option Holding) (href : List ℕ) (size : ℕ) (bytes : List ℕ) : Type 0 where
  pub held : IsHeld told href (Some bytes)
  pub whole : length bytes ≡ size

-- a file with these bytes; its time of last change is 0
abbrev pub file : List ℕ → Bool → TreeNode
file bytes exec = node.File bytes exec (pos 0)

-- What stands at one path is taken out, whole with all in it, and placed at another, in folders that are made where they are
-- missing.
pub record Moves (source dest : List (List ℕ)) (d new : Dir) : Type 0 where
  pub moved : TreeNode
  pub there : found source d ≡ Some moved
  pub placed : inserted dest moved (removed source d) ≡ Some new

-- the bytes of an address are placed as a file, in folders that are made where they are missing
pub record Places (told : Option Holding) (href : List ℕ) (size : ℕ) (dest : List (List ℕ)) (exec : Bool) (d new : Dir) : Type 0 where
  pub bytes : List ℕ
  pub gives : Gives told href size bytes
  pub placed : inserted dest (file bytes exec) d ≡ Some new

-- A step turns a tree into another.
abbrev pub Does : Option Holding → Dir → Step → Dir → Type 0
Does told d (File href size dest exec) new = Places told href size dest exec d new
Does told d (Rename source dest) new = Moves source dest d new
Does told d (Remove path) new = IsSome (found path d) × (new ≡ removed path d)

-- So do steps, one after another.
abbrev pub DoesAll : Option Holding → Dir → List Step → Dir → Type 0
DoesAll told d [] new = new ≡ d
DoesAll told d (s ∷ ss) new = (mid : Dir) × Does told d s mid × DoesAll told mid ss new

-- The faults of a step, each with its cause. Want of memory has none.

-- The bytes of an address aren't given: the call failed, nothing is there, or there are others than was said: so many, or of
-- more than that one more.
abbrev pub GetFails : Option Holding → List ℕ → ℕ → RecipeFault → Type 0
GetFails told href size (fault.FetchRead h) = h ≡ href
GetFails told href size (fault.NoRemote h) = (h ≡ href) × IsHeld told href None
GetFails told href size (fault.WrongSize h said got) =
    (h ≡ href) × (said ≡ size) × (got ≢ size) × IfSome told (λ holds. IsSomeAnd (holds href) (λ bytes. got ≡ min (length bytes) (size + 1)))
GetFails told href size fault.Memory = Unit {0}
GetFails told href size e = ⊥

-- there is no tree with something at this path: it has no room there
abbrev pub Overlaps : List (List ℕ) → Option Dir → RecipeFault → Type 0
Overlaps dest placed (fault.Overlap path) = (path ≡ path_text dest) × (placed ≡ None)
Overlaps dest placed fault.Memory = Unit {0}
Overlaps dest placed e = ⊥

-- nothing stands at this path
abbrev pub Lacks : List (List ℕ) → Dir → RecipeFault → Type 0
Lacks path d (fault.NoPath p) = (p ≡ path_text path) × (found path d ≡ None)
Lacks path d fault.Memory = Unit {0}
Lacks path d e = ⊥

-- the bytes are there, and have no room
pub record HasNoRoom (told : Option Holding) (href : List ℕ) (size : ℕ) (dest : List (List ℕ)) (exec : Bool) (d : Dir) (e : RecipeFault) : Type 0 where
  pub bytes : List ℕ
  pub gives : Gives told href size bytes
  pub overlaps : Overlaps dest (inserted dest (file bytes exec) d) e

-- what is to be moved is there, and has no room once it is taken out
pub record HasNoPlace (source dest : List (List ℕ)) (d : Dir) (e : RecipeFault) : Type 0 where
  pub moved : TreeNode
  pub there : found source d ≡ Some moved
  pub overlaps : Overlaps dest (inserted dest moved (removed source d)) e

abbrev pub FailsToPlace : Option Holding → List ℕ → ℕ → List (List ℕ) → Bool → Dir → RecipeFault → Type 0
FailsToPlace told href size dest exec d e = GetFails told href size e ⊎ HasNoRoom told href size dest exec d e

abbrev pub FailsToMove : List (List ℕ) → List (List ℕ) → Dir → RecipeFault → Type 0
FailsToMove source dest d e = Lacks source d e ⊎ HasNoPlace source dest d e

-- A step isn't done.
abbrev pub Fails : Option Holding → Dir → Step → RecipeFault → Type 0
Fails told d (File href size dest exec) e = FailsToPlace told href size dest exec d e
Fails told d (Rename source dest) e = FailsToMove source dest d e
Fails told d (Remove path) e = Lacks path d e
