-- The faults of a feed (the Zero Install feed format): one table.
use Rattle.std.specs.Prelude.{ℕ, Bool, true, false, not, ◌&&◌, ◌||◌, ◌==◌, nat_le, nat_lt, nat_eq, List, [], ◌∷◌, ◌++◌, map, Option, Some, None, is_some, codes, if◌then◌else◌}
use Rattle.std.specs.List.{list_any, filter, starts_with}
use Rattle.zi_elements.specs.Forest.{Elem, attribute, has, lacks, value}
use Rattle.zi_text.specs.Numeral.{numeral}
use Rattle.zi_policy.specs.Platform.{arch_of}
use Rattle.zi_address.specs.Texts.{same, is_none}
use Rattle.zi_reading.specs.Words.{is_among, listed, is_wrong, is_amiss, repeated}
use Rattle.zi_parts.specs.Digests.{digest_by, attribute_by, algorithms}
use Rattle.zi_reading.specs.Forms.{is_version, is_expression, stability_of, is_path, is_dest}
use Rattle.zi_parts.specs.Values.{mode_of, importance_of}
use Rattle.zi_address.specs.Address.{is_local, placed}
use Rattle.zi_reading.specs.Ways.{Ways, AsWritten, InFeed, is_whole}
use Rattle.zi_reading.specs.Reading.{meaning, is, is_unclear, named}
use Rattle.zi_faults.specs.Sites.{Site, path}
use Rattle.zi_faults.specs.Said.{Said, said, version_text, local_text}
use Rattle.zi_faults.specs.declared.fault.Fault.{Fault}
use Rattle.zi_faults.specs.declared.fault.FeedKind.{FeedKind}
use Rattle.zi_faults.specs.declared.fault.FeedKind.TheVariants.{NotInterface, NoId, BadVersion, BadRange, BadArch, BadDigest, BadPart, BadStep, NoInterface, WrongUri, BadStability, BadAddress, SameId, NoPackage}

abbrev pub number : FeedKind → ℕ
number NotInterface = 1
number NoId = 2
number BadVersion = 3
number BadRange = 4
number BadArch = 5
number BadDigest = 6
number BadPart = 7
number BadStep = 8
number NoInterface = 9
number WrongUri = 10
number BadStability = 11
number BadAddress = 12
number SameId = 13
number NoPackage = 14

-- those from 8 on
abbrev pub late_kinds : List FeedKind
late_kinds = BadStep ∷ NoInterface ∷ WrongUri ∷ BadStability ∷ BadAddress ∷ SameId ∷ NoPackage ∷ []

-- all kinds, in the order of their numbers
abbrev pub all_kinds : List FeedKind
all_kinds = NotInterface ∷ NoId ∷ BadVersion ∷ BadRange ∷ BadArch ∷ BadDigest ∷ BadPart ∷ late_kinds

-- an element that names another interface
abbrev pub names_interface : Elem → Bool
names_interface e = is_among (listed (codes "requires restricts runner")) e.name

abbrev pub is_impl : Elem → Bool
is_impl = is (codes "implementation")

-- both have this attribute, and alike
abbrev pub share : List ℕ → Elem → Elem → Bool
share name e f = has name e && has name f && same (value name e) (value name f)

abbrev pub has_bad_digits : Elem → Bool
has_bad_digits e = list_any (λ a. is_wrong (λ t. is_some (digest_by a t)) (attribute (attribute_by a) e)) algorithms

abbrev pub is_bad_environment : Elem → Bool
is_bad_environment e =
    is_none (value (codes "name") e) || list_any (λ c. c == 61) (value (codes "name") e)
    || (has (codes "insert") e && has (codes "value") e) || (lacks (codes "insert") e && lacks (codes "value") e)
    || is_wrong (λ t. is_some (mode_of t)) (attribute (codes "mode") e)

abbrev pub is_bad_for_each : Elem → Bool
is_bad_for_each e = lacks (codes "item-from") e || is_wrong (λ t. not (is_none t)) (attribute (codes "separator") e)

-- a binding, command, loop of arguments or importance that isn't of the form
abbrev pub is_bad_part : Elem → Bool
is_bad_part e =
    (is (codes "environment") e && is_bad_environment e)
    || (is (codes "command") e && lacks (codes "name") e)
    || (is (codes "for-each") e && is_bad_for_each e)
    || (is (codes "requires") e && is_wrong (λ t. is_some (importance_of t)) (attribute (codes "importance") e))

-- steps of a recipe that aren't of the form
abbrev pub is_bad_file : Elem → Bool
is_bad_file e = lacks (codes "href") e || is_amiss (λ t. is_some (numeral t)) (attribute (codes "size") e) || is_amiss is_dest (attribute (codes "dest") e)

abbrev pub is_bad_rename : Elem → Bool
is_bad_rename e = is_amiss is_path (attribute (codes "source") e) || is_amiss is_dest (attribute (codes "dest") e)

-- an interface or a feed isn't named
abbrev pub has_no_interface : Elem → Bool
has_no_interface e = (names_interface e && lacks (codes "interface") e) || (is (codes "feed") e && lacks (codes "src") e)

-- an attribute says an address that means nothing
abbrev pub has_bad_address : Ways → List ℕ → Elem → Bool
has_bad_address ways name e = is_wrong (λ t. is_some (meaning ways t)) (attribute name e)

-- in a feed that is local the local path of an implementation leads nowhere
abbrev pub has_bad_local_in : List ℕ → Said → Elem → Bool
has_bad_local_in uri s e = is_local uri && is_wrong (λ t. is_some (placed uri t)) (local_text s e)

-- there is a local path that leads nowhere, in a feed that is local
abbrev pub is_wrong_local : Ways → Option (List ℕ) → Bool
is_wrong_local AsWritten text = false
is_wrong_local (InFeed uri) text = is_local uri && is_wrong (λ t. is_some (placed uri t)) text

abbrev pub has_bad_local : Ways → Said → Elem → Bool
has_bad_local AsWritten s e = false
has_bad_local (InFeed uri) s e = has_bad_local_in uri s e

-- The table: whether a fault of this kind stands at an element, where this is said along its path. The others stand below.
abbrev pub has_fault : Ways → Said → FeedKind → Elem → Bool
has_fault ways s NotInterface e = false
has_fault ways s NoId e = is_impl e && is_none (value (codes "id") e)
has_fault ways s BadVersion e =
    (is_impl e && is_amiss is_version (version_text s))
    || (is (codes "version") e && (is_wrong is_version (attribute (codes "not-before") e) || is_wrong is_version (attribute (codes "before") e)))
has_fault ways s BadRange e = is_whole ways && names_interface e && is_wrong is_expression (attribute (codes "version") e)
has_fault ways s BadArch e =
    (is_impl e && is_wrong (λ t. is_some (arch_of t)) s.arch)
    || (is (codes "feed") e && is_wrong (λ t. is_some (arch_of t)) (attribute (codes "arch") e))
has_fault ways s BadDigest e = is (codes "manifest-digest") e && has_bad_digits e
has_fault ways s BadPart e = is_bad_part e
has_fault ways s BadStep e = (is (codes "file") e && is_bad_file e) || (is (codes "rename") e && is_bad_rename e) || (is (codes "remove") e && is_amiss is_path (attribute (codes "path") e))
has_fault ways s NoInterface e = has_no_interface e
has_fault ways s WrongUri e = false
has_fault ways s BadStability e = is_impl e && is_wrong (λ t. is_some (stability_of t)) s.stability
has_fault ways s BadAddress e =
    (names_interface e && has_bad_address ways (codes "interface") e)
    || (is (codes "feed") e && has_bad_address ways (codes "src") e)
    || (is (codes "file") e && has_bad_address ways (codes "href") e)
    || (is_impl e && has_bad_local ways s e)
has_fault ways s SameId e = false
has_fault ways s NoPackage e = is (codes "package-implementation") e && is_none (value (codes "package") e)

abbrev pub fault_at : Elem → FeedKind → Fault
fault_at e k = record { kind = k; place = e.place }

-- the elements that repeat one: a second runner in a command, and a second command of one name in one element
unfoldable pub repeats_in : Ways → Elem → List Elem
repeats_in ways e = repeated (λ a b. true) (named ways (listed (codes "runner")) e) ++ repeated (share (codes "name")) (named ways (listed (codes "command")) e)

-- A name that no program of a shim can have: an empty one, one that begins with `.`, one that holds `/`, `=` or a newline.
abbrev pub holds : ℕ → List ℕ → Bool
holds b text = list_any (λ c. c == b) text

abbrev pub is_no_program : List ℕ → Bool
is_no_program name = is_none name || starts_with nat_eq name (codes ".") || holds 47 name || holds 61 name || holds 10 name

-- a binding that makes a command known under such a name, or under none
unfoldable pub is_bad_shim : Elem → Bool
is_bad_shim e = is_no_program (value (codes "name") e)

-- an element whose bindings may make a command known
abbrev pub takes_shims : Elem → Bool
takes_shims e = is (codes "requires") e || is (codes "runner") e

-- the bad ones in a dependency; elsewhere these bindings aren't built, and no name of theirs is looked at
unfoldable pub shims_in : Ways → Elem → List Elem
shims_in ways e = if takes_shims e then filter is_bad_shim (named ways (listed (codes "executable-in-var executable-in-path")) e) else []

-- those of these kinds that stand at an element
abbrev pub kinds_among : List FeedKind → Ways → Said → Elem → List FeedKind
kinds_among kinds ways s e = filter (λ k. has_fault ways s k e) kinds

-- the kinds that stand at an element
unfoldable pub kinds_at : Ways → Said → Elem → List FeedKind
kinds_at ways s e = kinds_among all_kinds ways s e

-- The faults at one element where this is said along its path, of repeats in it and of shims in it. Where its condition is no
-- expression, that is the only one.
unfoldable pub faults_with : Ways → Said → Elem → List Fault
faults_with ways s e =
    if is_unclear e then fault_at e BadRange ∷ []
    else map (fault_at e) (kinds_at ways s e) ++ map (λ r. fault_at r BadPart) (repeats_in ways e ++ shims_in ways e)

abbrev pub faults_at : Ways → Site → List Fault
faults_at ways t = faults_with ways (said (path t)) t.element

-- the faults of the root itself: its condition, and in a feed of the web another address than it was read under
unfoldable pub root_faults : List ℕ → Elem → List Fault
root_faults uri root =
    (if is_unclear root then fault_at root BadRange ∷ [] else [])
    ++ (if not (is_local uri) && is_wrong (same uri) (attribute (codes "uri") root) then fault_at root WrongUri ∷ [] else [])

-- an implementation that counts
abbrev pub counts : Elem → Bool
counts e = is_impl e && not (is_unclear e)

abbrev pub implementations : List Site → List Site
implementations = filter (λ t. counts t.element)

-- the implementations whose id an earlier one has
unfoldable pub same_ids : List Elem → List Fault
same_ids es = map (λ e. fault_at e SameId) (repeated (share (codes "id")) (filter counts es))

-- the lesser place, and there the lesser kind
unfoldable pub is_first : Fault → Fault → Bool
is_first f g = nat_lt f.place g.place || (f.place == g.place && nat_le (number f.kind) (number g.kind))

abbrev pub lesser : Fault → Option Fault → Option Fault
lesser f None = Some f
lesser f (Some g) = if is_first f g then Some f else Some g

abbrev pub least : List Fault → Option Fault
least [] = None
least (f ∷ fs) = lesser f (least fs)

-- the lesser of two, where there are any
abbrev pub lesser_of : Option Fault → Option Fault → Option Fault
lesser_of None g = g
lesser_of (Some f) g = lesser f g
