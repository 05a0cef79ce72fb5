-- Selections in their folders.
use Rattle.std.specs.Prelude.{ℕ, ◌||◌, List, [], ◌∷◌, find, filter_map, bytes_eq, Option, Some, None, is_some, option_map, if◌then◌else◌}
use Rattle.zi_outside.specs.declared.launch.Dir.{Dir}
use Rattle.zi_sels.specs.declared.types.Selection.{Selection}

-- a selection, and its folder; a package of the operating system has none
pub record Placed : Type 0 where
  pub selection : Selection
  pub folder : Option (List ℕ)

-- a package has no folder, whatever is given for it
abbrev pub placed_in : Selection → Option (List ℕ) → Placed
placed_in x folder = record { selection = x; folder = if is_some x.«package» then None else folder }

-- all selections in their folders, of which there is one entry each
abbrev pub all_placed : List Selection → List (Option (List ℕ)) → List Placed
all_placed [] folders = []
all_placed (x ∷ xs) [] = []
all_placed (x ∷ xs) (folder ∷ folders) = placed_in x folder ∷ all_placed xs folders

-- the interface of the first selection without a folder that is no package
abbrev pub without_folder : List Selection → List (Option (List ℕ)) → Option (List ℕ)
without_folder [] folders = None
without_folder (x ∷ xs) [] = Some x.interface
without_folder (x ∷ xs) (folder ∷ folders) = if is_some x.«package» || is_some folder then without_folder xs folders else Some x.interface

-- what is selected for an interface: its first selection
abbrev pub placed_for : List Placed → List ℕ → Option Placed
placed_for ps interface = find (λ p. bytes_eq p.selection.interface interface) ps

-- the folders that are exposed, in the order of the selections
abbrev pub exposed : List Placed → List Dir
exposed ps = filter_map (λ p. option_map (λ folder. record { interface = p.selection.interface; folder = folder }) p.folder) ps
