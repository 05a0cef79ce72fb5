-- Why a tree is no selections document: the table of its faults, in their order (the published format of selections documents).
use Rattle.std.specs.Prelude.{◌≡◌, ℕ, Bool, not, ◌&&◌, ◌||◌, List, [], ◌∷◌, ◌++◌, map, filter, codes, Option, Some, None, option_map, if◌then◌else◌}
use Rattle.std.specs.List.{flat_map}
use Rattle.zi_elements.specs.Forest.{Elem, elements, attribute, has, lacks, value}
use Rattle.zi_address.specs.Texts.{same, is_none}
use Rattle.zi_reading.specs.Words.{first, optional, is_among, is_wrong, is_amiss, repeated}
use Rattle.zi_reading.specs.Forms.{is_version}
use Rattle.zi_address.specs.Address.{is_local}
use Rattle.zi_reading.specs.Reading.{is, is_unclear}
use Rattle.zi_faults.specs.Faults.{share, fault_at, least}
use Rattle.zi_feed.specs.Feeds.{part_fault}
use Rattle.zi_feed.specs.Means.{counts_as}
use Rattle.zi_faults.specs.declared.fault.Fault.{Fault}
use Rattle.zi_faults.specs.declared.fault.FeedKind.{FeedKind}
use Rattle.zi_faults.specs.declared.fault.FeedKind.TheVariants.{NoId, BadVersion, BadRange, BadPart, NoInterface, BadAddress}
use Rattle.zi_sels.specs.declared.fault.SelsFault.{SelsFault}
use Rattle.zi_sels.specs.declared.fault.SelsFault.TheVariants as fault
use Rattle.zi_sels.specs.Read.{counting, selections_in, bindings_in, is_package, digests_in}
use Rattle.zi_sels.specs.Notes.{faults_of}

-- One selection.

-- the local path of a selection isn't one from the top folder; that of a package is passed over
abbrev pub has_bad_local : Elem → Bool
has_bad_local e = not (is_package e) && is_wrong is_local (attribute (codes "local-path") e)

-- the least kind of fault that stands at a selection itself: it has no id, no version, no interface, or a local path that isn't
-- one from the top folder
unfoldable pub own_kind : Elem → Option FeedKind
own_kind e =
    if is_none (value (codes "id") e) then Some NoId
    else if is_amiss is_version (attribute (codes "version") e) then Some BadVersion
    else if lacks (codes "interface") e then Some NoInterface
    else if has_bad_local e then Some BadAddress
    else None

-- the elements that are read in a selection
abbrev pub parts_in : Elem → List Elem
parts_in e = bindings_in e ++ counting (codes "requires") e ++ counting (codes "command") e ++ digests_in e

-- the commands of a selection whose names earlier ones have; one whose condition is no expression has no name
abbrev pub clear_among : List Elem → List Elem
clear_among es = filter (λ c. not (is_unclear c)) (filter (counts_as (codes "command")) es)

abbrev pub second_commands : Elem → List Elem
second_commands e = repeated (share (codes "name")) (clear_among (elements e.inside))

-- The fault of a selection: of its own, of repeated commands, and of its parts and all that is read in them, as a feed has them,
-- the one of least place, and there of least kind.
-- Where its condition is no expression, that is the only one.
unfoldable pub selection_fault : Elem → Option Fault
selection_fault e =
    if is_unclear e then Some (fault_at e BadRange)
    else least (optional (option_map (fault_at e) (own_kind e)) ++ map (λ c. fault_at c BadPart) (second_commands e) ++ faults_of part_fault (parts_in e))

-- The whole.

abbrev pub is_selections : Elem → Bool
is_selections root = is (codes "selections") root && has (codes "interface") root

-- the first fault of a part, by place and then by kind
abbrev pub root_faults : Elem → List Fault
root_faults root = if is_unclear root then fault_at root BadRange ∷ [] else []

abbrev pub item_faults : Elem → List Fault
item_faults root = faults_of selection_fault (selections_in root)

unfoldable pub first_fault : Elem → Option Fault
first_fault root = least (root_faults root ++ item_faults root)

-- the interfaces that are selected for
abbrev pub interfaces_in : Elem → List (List ℕ)
interfaces_in root = map (value (codes "interface")) (selections_in root)

-- the first interface that is repeated
abbrev pub first_twice : List (List ℕ) → Option (List ℕ)
first_twice interfaces = first (repeated same interfaces)

-- an essential `requires`
abbrev pub asks : Elem → Bool
asks e = counts_as (codes "requires") e && not (same (value (codes "importance") e) (codes "recommended"))

-- what stands in a command asks for an interface
abbrev pub asks_within : Elem → Bool
asks_within e = asks e || counts_as (codes "runner") e

-- what asks for an interface at an element of a selection
abbrev pub asking_at : Elem → List Elem
asking_at c = if counts_as (codes "command") c then filter asks_within (elements c.inside) else if asks c then c ∷ [] else []

-- what asks for an interface in a selection, and in a document, in the order of the document
abbrev pub asking_in : Elem → List Elem
asking_in e = flat_map asking_at (elements e.inside)

abbrev pub asking : Elem → List Elem
asking root = flat_map asking_in (selections_in root)

-- of these the interfaces that aren't among others
abbrev pub unmet : List (List ℕ) → List Elem → List (List ℕ)
unmet interfaces es = filter (λ i. not (is_among interfaces i)) (map (value (codes "interface")) es)

-- a fault, or else the rest of the table
abbrev pub or_else : {X : Type 0} → (X → SelsFault) → Option X → Option SelsFault → Option SelsFault
or_else f None rest = rest
or_else f (Some x) rest = Some (f x)

-- where these are the interfaces that are selected for, the fault of the whole: one is repeated, the root's is not among them, or one
-- is not that is asked for, which is the first in the order of the document
abbrev pub closed_fault : List (List ℕ) → Elem → Option SelsFault
closed_fault interfaces root =
    or_else fault.Twice (first_twice interfaces)
    (if not (is_among interfaces (value (codes "interface") root)) then Some fault.NoRoot
    else or_else fault.Unclosed (first (unmet interfaces (asking root))) None)

-- The table of faults of a tree, in its order.
unfoldable pub tree_fault : Elem → Option SelsFault
tree_fault root =
    if not (is_selections root) then Some fault.NotSelections
    else or_else (λ (g : Fault). fault.Feed g.kind g.place) (first_fault root) (closed_fault (interfaces_in root) root)
