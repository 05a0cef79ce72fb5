-- The tree of a selections document (the published format of selections documents), and its canonical text.
use Rattle.std.specs.Prelude.{ℕ, Bool, true, false, List, [], ◌∷◌, ◌++◌, map, filter, bytes_eq, codes, Option, Some, None, option_map, unwrap_or, if◌then◌else◌}
use Rattle.hex.specs.Hex.{encode_lower}
use Rattle.zi_elements.specs.declared.element.Attr.{Attr}
use Rattle.zi_elements.specs.Forest.{Forest, none, words, Elem}
use Rattle.zi_elements.specs.Namespace.{injector}
use Rattle.zi_docout.specs.Canonical as canonical
use Rattle.zi_docout.specs.Elements.{attr, elem}
use Rattle.zi_digest.specs.Name.{algorithm_of, base32}
use Rattle.zi_digest.specs.declared.Algorithm.{Algorithm}
use Rattle.zi_digest.specs.declared.Algorithm.TheVariants.{Sha1new, Sha256, Sha256new}
use Rattle.zi_digest.specs.declared.DigestName.{DigestName}
use Rattle.zi_digest.specs.declared.DigestName.TheVariants as digest
use Rattle.zi_reading.specs.Words.{first, optional}
use Rattle.zi_parts.specs.Digests.{attribute_by}
use Rattle.zi_parts.specs.declared.types.Dep.{Dep}
use Rattle.zi_parts.specs.declared.types.DepKind.{DepKind}
use Rattle.zi_parts.specs.declared.types.DepKind.TheVariants.{Essential, Recommended, Restricts}
use Rattle.zi_parts.specs.declared.types.Command.{Command}
use Rattle.zi_parts.specs.declared.types.Runner.{Runner}
use Rattle.zi_parts.specs.declared.types.Word.{Word}
use Rattle.zi_parts.specs.declared.types.Word.TheVariants.{Arg, ForEach}
use Rattle.zi_parts.specs.declared.types.Binding.{Binding}
use Rattle.zi_parts.specs.declared.types.Binding.TheVariants.{Env, ExecVar, ExecPath, Unbuilt}
use Rattle.zi_parts.specs.declared.types.Extra.{Extra}
use Rattle.zi_parts.specs.declared.types.Extra.TheVariants.{Insert, Value}
use Rattle.zi_parts.specs.declared.types.Mode.{Mode}
use Rattle.zi_parts.specs.declared.types.Mode.TheVariants.{Prepend, Append, Replace}
use Rattle.zi_sels.specs.declared.types.Selection.{Selection}
use Rattle.zi_sels.specs.declared.types.Selections.{Selections}

-- Small words.

-- an attribute that stands only where there is a value
abbrev pub attr_of : List ℕ → Option (List ℕ) → List Attr
attr_of name value = optional (option_map (attr name) value)

-- one that is left out where it has its default
abbrev pub attr_unless : List ℕ → List ℕ → List ℕ → List Attr
attr_unless default name value = if bytes_eq value default then [] else attr name value ∷ []

-- a text as nodes; the empty text is none
abbrev pub text_node : List ℕ → Forest
text_node [] = none
text_node (c ∷ cs) = words (c ∷ cs) none

-- Bindings.
abbrev pub extra_attr : Extra → Attr
extra_attr (Insert path) = attr (codes "insert") path
extra_attr (Value text) = attr (codes "value") text

abbrev pub mode_attrs : Mode → List Attr
mode_attrs Prepend = []
mode_attrs Append = attr (codes "mode") (codes "append") ∷ []
mode_attrs Replace = attr (codes "mode") (codes "replace") ∷ []

-- one that makes a command known as a program of this name
abbrev pub shim_elem : List ℕ → List ℕ → List ℕ → Elem
shim_elem element name command = elem element (attr (codes "name") name ∷ [] ++ attr_unless (codes "run") (codes "command") command) []

unfoldable pub binding_elem : Binding → Elem
binding_elem (Env name extra mode separator default) =
    elem (codes "environment")
    (attr (codes "name") name ∷ extra_attr extra ∷ []
    ++ mode_attrs mode
    ++ attr_unless (codes ":") (codes "separator") separator
    ++ attr_of (codes "default") default)
    []
binding_elem (ExecVar name command) = shim_elem (codes "executable-in-var") name command
binding_elem (ExecPath name command) = shim_elem (codes "executable-in-path") name command
binding_elem (Unbuilt element) = elem element [] []

-- Dependencies.
abbrev pub kind_attrs : DepKind → List Attr
kind_attrs Essential = []
kind_attrs Recommended = attr (codes "importance") (codes "recommended") ∷ []
kind_attrs Restricts = []

unfoldable pub dep_elem : Dep → Elem
dep_elem dep = elem (codes "requires") (attr (codes "interface") dep.interface ∷ [] ++ kind_attrs dep.kind) (map binding_elem dep.bindings)

-- Commands.
unfoldable pub arg_elem : List ℕ → Elem
arg_elem text = record { space = injector; name = codes "arg"; attrs = []; inside = text_node text; place = 0 }

unfoldable pub word_elem : Word → Elem
word_elem (Arg text) = arg_elem text
word_elem (ForEach item_from separator args) =
    elem (codes "for-each") (attr (codes "item-from") item_from ∷ [] ++ attr_unless (codes ":") (codes "separator") separator) (map arg_elem args)

-- the command that a runner names
abbrev pub command_wanted : Runner → List ℕ
command_wanted runner = unwrap_or (first runner.dep.commands) (codes "run")

unfoldable pub runner_elem : Runner → Elem
runner_elem runner =
    elem (codes "runner")
    (attr (codes "interface") runner.dep.interface ∷ attr (codes "command") (command_wanted runner) ∷ [])
    (map binding_elem runner.dep.bindings ++ map word_elem runner.words)

-- an element that isn't built, as the name of it
abbrev pub unbuilt_elem : List ℕ → Elem
unbuilt_elem name = elem name [] []

unfoldable pub command_elem : Command → Elem
command_elem command =
    elem (codes "command")
    (attr (codes "name") command.name ∷ [] ++ attr_of (codes "path") command.path)
    (map binding_elem command.bindings
    ++ optional (option_map unbuilt_elem command.unbuilt)
    ++ map dep_elem command.deps
    ++ map word_elem command.words
    ++ optional (option_map runner_elem command.runner))

-- Digests.

-- the digits of a digest, without the algorithm's name before them
abbrev pub digits : DigestName → List ℕ
digits (digest.Sha1new bytes) = encode_lower bytes
digits (digest.Sha256 bytes) = encode_lower bytes
digits (digest.Sha256new bytes) = base32 bytes

-- it is a digest by this algorithm
abbrev pub is_by : Algorithm → DigestName → Bool
is_by Sha1new (digest.Sha1new bytes) = true
is_by Sha256 (digest.Sha256 bytes) = true
is_by Sha256new (digest.Sha256new bytes) = true
is_by algorithm name = false

abbrev pub digest_attr : DigestName → Attr
digest_attr name = attr (attribute_by (algorithm_of name)) (digits name)

-- those by an algorithm
abbrev pub digest_attrs_by : List DigestName → Algorithm → List Attr
digest_attrs_by names algorithm = map digest_attr (filter (is_by algorithm) names)

-- the algorithms in the order in which they are written
abbrev pub digest_attrs : List DigestName → List Attr
digest_attrs names = digest_attrs_by names Sha1new ++ digest_attrs_by names Sha256 ++ digest_attrs_by names Sha256new

unfoldable pub digests_elems : List DigestName → List Elem
digests_elems [] = []
digests_elems (name ∷ names) = elem (codes "manifest-digest") (digest_attrs (name ∷ names)) [] ∷ []

-- Selections.
unfoldable pub selection_attrs : Selection → List Attr
selection_attrs item =
    attr (codes "interface") item.interface ∷ attr (codes "id") item.id ∷ attr (codes "version") item.version ∷ []
    ++ attr_unless item.interface (codes "from-feed") item.from_feed
    ++ attr_of (codes "package") item.«package»
    ++ attr_of (codes "local-path") item.local
    ++ attr_of (codes "arch") item.arch
    ++ attr_of (codes "released") item.released
    ++ attr_of (codes "stability") item.stability

unfoldable pub selection_elem : Selection → Elem
selection_elem item =
    elem (codes "selection") (selection_attrs item)
    (digests_elems item.digests ++ map binding_elem item.bindings ++ map dep_elem item.deps ++ map command_elem item.commands)

-- the tree of the document
unfoldable pub tree : Selections → Elem
tree sels =
    elem (codes "selections") (attr (codes "interface") sels.interface ∷ [] ++ attr_of (codes "command") sels.command) (map selection_elem sels.items)

-- the document: the canonical text of that tree
unfoldable pub document : Selections → List ℕ
document sels = canonical.document (tree sels)
