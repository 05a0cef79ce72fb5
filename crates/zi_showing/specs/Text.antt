-- The text of trees: a line for each selection, below it its commands and then what it needs. Each line ends in LF.
use Rattle.std.specs.Prelude.{ℕ, zero, suc, ◌+◌, nat_lt, Bool, List, [], ◌++◌, codes, map, find, if◌then◌else◌, Option, Some, None}
use Rattle.std.specs.List.{flat_map}
use Rattle.zi_digest.specs.declared.DigestName.{DigestName}
use Rattle.zi_digest.specs.Name.{spelling}
use Rattle.zi_parts.specs.declared.types.Command.{Command}
use Rattle.zi_policy.specs.Platform.{listed}
use Rattle.zi_reading.specs.Words.{first}
use Rattle.zi_shown.specs.Shown.{shown}
use Rattle.zi_universe.specs.Naming.{without_repeats}
use Rattle.zi_sels.specs.declared.types.Selection.{Selection}
use Rattle.zi_showing.specs.Tree.{Trees, none, tree}

-- the level below one; what is deeper than 64 levels isn't told apart
abbrev pub deeper : ℕ → ℕ
deeper level = if nat_lt level 64 then level + 1 else level

-- two spaces a level
abbrev pub indent : ℕ → List ℕ
indent zero = []
indent (suc level) = codes "  " ++ indent level

-- the spellings of digests, each once
abbrev pub stored_names : List DigestName → List (List ℕ)
stored_names digests = without_repeats (map spelling digests)

abbrev pub is_stored : List (List ℕ) → DigestName → Bool
is_stored names d = listed (spelling d) names

-- The digest that is told: of those that are stored the first in the order of use, or else the first, which isn't stored.
abbrev pub stored_words : Option DigestName → Option DigestName → List ℕ
stored_words (Some d) other = codes " " ++ (spelling d ++ codes " stored")
stored_words None (Some d) = codes " " ++ (spelling d ++ codes " not stored")
stored_words None None = codes " no folder"

abbrev pub digest_words : List (List ℕ) → List DigestName → List ℕ
digest_words names ds = stored_words (find (is_stored names) ds) (first ds)

-- where it is: its package, or the path of its folder, or its digest
abbrev pub folder_words : List (List ℕ) → Option (List ℕ) → List DigestName → List ℕ
folder_words names (Some path) ds = codes " " ++ shown path
folder_words names None ds = digest_words names ds

abbrev pub place_words : List (List ℕ) → Option (List ℕ) → Option (List ℕ) → List DigestName → List ℕ
place_words names (Some name) path ds = codes " package " ++ shown name
place_words names None path ds = folder_words names path ds

-- the line of a selection: its address, its version, and where it is
abbrev pub item_line : List (List ℕ) → ℕ → Selection → List ℕ
item_line names level x =
    indent level ++ (shown x.interface ++ (codes " " ++ (shown x.version ++ (place_words names x.«package» x.local x.digests ++ codes "\n"))))

-- the line of a command
abbrev pub command_line : ℕ → Command → List ℕ
command_line level m = indent level ++ (codes "command " ++ (shown m.name ++ codes "\n"))

-- the lines of a selection at a level: those of its commands stand a level deeper
abbrev pub item_text : List (List ℕ) → ℕ → Selection → List ℕ
item_text names level x = item_line names level x ++ flat_map (command_line (deeper level)) x.commands

abbrev pub trees_text : List (List ℕ) → ℕ → Trees → List ℕ
trees_text names level none = []
trees_text names level (tree x below next) = item_text names level x ++ (trees_text names (deeper level) below ++ trees_text names level next)
