-- The text of facts: the line of the root, and then what is said of versions, where those of one interface of which the same is said share a
-- line. What holds of every choice has no line: that one version of an interface is chosen at most, and that a command is used only
-- where its version is chosen.
use Rattle.std.specs.Prelude.{ℕ, zero, suc, ◌==◌, nat_lt, ◌-◌, Bool, false, not, ◌&&◌, cond, if◌then◌else◌, List, [], ◌∷◌, ◌++◌, length, filter, codes, bytes_eq, slice_get, Option, Some, None}
use Rattle.std.specs.List.{flat_map, list_any}
use Rattle.zi_policy.specs.declared.types.Width.{Width}
use Rattle.zi_policy.specs.declared.types.Width.TheVariants.{Any, Bits32, Bits64}
use Rattle.zi_parts.specs.declared.types.Dep.{Dep}
use Rattle.zi_parts.specs.declared.types.Command.{Command}
use Rattle.zi_universe.specs.declared.types.Requirement.{Requirement}
use Rattle.zi_universe.specs.declared.types.Candidate.{Candidate}
use Rattle.zi_universe.specs.declared.types.Interface.{Interface}
use Rattle.zi_choice.specs.Choice.{number}
use Rattle.zi_choice.specs.Vars.{Var, Cand, Cmd, Wide, candidates_of}
use Rattle.zi_build.specs.Clauses.{each, keep, is_admitted}
use Rattle.zi_facts.specs.declared.line.Said.{Said}
use Rattle.zi_facts.specs.declared.line.Line.{Line}
use Rattle.zi_facts.specs.Facts.{Told, Root, Wanted, Once, Bits, Part, Needs, Refuses, Names}

-- Versions.

-- a version, with the id where another candidate of the interface has the same
abbrev pub same_version : Candidate → Candidate → Bool
same_version k l = bytes_eq l.imp.version k.imp.version

abbrev pub is_shared : List Candidate → Candidate → Bool
is_shared all k = nat_lt 1 (length (filter (same_version k) all))

abbrev pub id_text : Bool → List ℕ → List ℕ
id_text shared id = if shared then codes " (" ++ (id ++ codes ")") else []

abbrev pub version_text : List Candidate → Candidate → List ℕ
version_text all k = k.imp.version ++ id_text (is_shared all k) k.imp.id

-- the version at a place, where there is one
abbrev pub found_text : List Candidate → Option Candidate → List ℕ
found_text all None = []
found_text all (Some k) = version_text all k

abbrev pub text_at : List Candidate → ℕ → List ℕ
text_at all n = found_text all (slice_get all n)

abbrev pub next_text : List Candidate → ℕ → List ℕ
next_text all n = codes ", " ++ text_at all n

-- the versions of these numbers, with ", " between
abbrev pub versions_text : List Candidate → List ℕ → List ℕ
versions_text all [] = []
versions_text all (n ∷ ns) = text_at all n ++ flat_map (next_text all) ns

-- The candidates that a dependency is on.

abbrev pub targets_at : List Interface → Option ℕ → List Candidate
targets_at u None = []
targets_at u (Some j) = candidates_of u j

abbrev pub targets : List Interface → Dep → List Candidate
targets u d = targets_at u (number u d.interface)

-- the numbers of those that it admits
abbrev pub admitted_number : Dep → ℕ → Candidate → List ℕ
admitted_number d e k = keep (is_admitted d k) e

abbrev pub admitted : Dep → List Candidate → List ℕ
admitted d ks = each 0 (admitted_number d) ks

-- a candidate has a command of a name
abbrev pub is_named : List ℕ → Command → Bool
is_named name m = bytes_eq m.name name

abbrev pub has_command : Candidate → List ℕ → Bool
has_command k name = list_any (is_named name) k.imp.commands

-- the numbers of those that it admits and that have no command of a name
abbrev pub is_lacking : Dep → List ℕ → Candidate → Bool
is_lacking d name k = is_admitted d k && not (has_command k name)

abbrev pub lacking_number : Dep → List ℕ → ℕ → Candidate → List ℕ
lacking_number d name e k = keep (is_lacking d name k) e

abbrev pub lacking : Dep → List ℕ → List Candidate → List ℕ
lacking d name ks = each 0 (lacking_number d name) ks

-- What a fact says.

abbrev pub needs_in : List Candidate → List ℕ → List ℕ
needs_in ks ns =
    if length ks == 0 then codes ", which has no version that may be used"
    else if length ns == 0 then codes " in a version that isn't there"
    else if length ns == length ks then codes " in any version"
    else codes " in " ++ versions_text ks ns

abbrev pub needs_text : List Interface → Dep → List ℕ
needs_text u d = codes " needs " ++ (d.interface ++ needs_in (targets u d) (admitted d (targets u d)))

abbrev pub allows_in : List Candidate → List ℕ → List ℕ
allows_in ks ns = if length ns == 0 then codes " in no version" else codes " in " ++ (versions_text ks ns ++ codes " only")

abbrev pub allows_text : List Interface → Dep → List ℕ
allows_text u d = codes " allows " ++ (d.interface ++ allows_in (targets u d) (admitted d (targets u d)))

abbrev pub lacks_in : List Candidate → List ℕ → List ℕ
lacks_in ks ns = if length ns == 0 then [] else codes ", which isn't there in " ++ versions_text ks ns

abbrev pub named_text : List Interface → Dep → List ℕ → List ℕ
named_text u d name =
    codes " needs the command " ++ (name ++ (codes " of " ++ (d.interface ++ lacks_in (targets u d) (lacking d name (targets u d)))))

abbrev pub run_words : Option ℕ → List ℕ
run_words None = codes " has no command "
run_words (Some m) = codes " is run by its command "

abbrev pub wanted_text : Option (List ℕ) → Option ℕ → List ℕ
wanted_text None place = []
wanted_text (Some name) place = run_words place ++ name

abbrev pub width_text : Width → List ℕ
width_text Any = codes " is for any machine"
width_text Bits32 = codes " is for 32 bits"
width_text Bits64 = codes " is for 64 bits"

-- the name of the command at a place of a candidate, where it is there
abbrev pub name_in : Option Command → List ℕ
name_in None = []
name_in (Some m) = m.name

abbrev pub name_of : Option Candidate → ℕ → List ℕ
name_of None m = []
name_of (Some k) m = name_in (slice_get k.imp.commands m)

-- as what a version has a dependency: as itself, or as a command of it
abbrev pub as_text : List Interface → Var → List ℕ
as_text u (Cand i c) = []
as_text u (Cmd i c m) = codes ", as " ++ (name_of (slice_get (candidates_of u i) c) m ++ codes ",")
as_text u Wide = []

abbrev pub interface_of : Var → ℕ
interface_of (Cand i c) = i
interface_of (Cmd i c m) = i
interface_of Wide = 0

abbrev pub candidate_of : Var → ℕ
candidate_of (Cand i c) = c
candidate_of (Cmd i c m) = c
candidate_of Wide = 0

abbrev pub said_by : List Interface → Var → List ℕ → Option Said
said_by u y text = Some (record { interface = interface_of y; candidate = candidate_of y; words = as_text u y ++ text })

abbrev pub said_of : List Interface → Requirement → Told → Option Said
said_of u req Root = None
said_of u req (Once i) = None
said_of u req (Part i c m) = None
said_of u req (Wanted c place) = Some (record { interface = 0; candidate = c; words = wanted_text req.command place })
said_of u req (Bits i c width) = Some (record { interface = i; candidate = c; words = width_text width })
said_of u req (Needs y d) = said_by u y (needs_text u d)
said_of u req (Refuses y d j e) = said_by u y (allows_text u d)
said_of u req (Names y d name j e place) = said_by u y (named_text u d name)

-- The lines.

-- the same is said of versions of the same interface
abbrev pub says : Said → Line → Bool
says s l = l.interface == s.interface && bytes_eq l.words s.words

abbrev pub line_of : Said → Line
line_of s = record { interface = s.interface; words = s.words; candidates = s.candidate ∷ [] }

abbrev pub is_number : Option ℕ → ℕ → Bool
is_number None n = false
is_number (Some m) n = m == n

-- the last of some numbers is this one
abbrev pub is_last : List ℕ → ℕ → Bool
is_last ns n = is_number (slice_get ns (length ns - 1)) n

-- one candidate more; those of a line come in their order
abbrev pub with_candidate : List ℕ → ℕ → List ℕ
with_candidate ns n = if is_last ns n then ns else ns ++ n ∷ []

abbrev pub joined : Line → ℕ → Line
joined l c = record l { candidates = with_candidate l.candidates c }

-- a candidate more in the line at a place
abbrev pub with_joined : List Line → ℕ → ℕ → List Line
with_joined [] i c = []
with_joined (l ∷ ls) zero c = joined l c ∷ ls
with_joined (l ∷ ls) (suc i) c = l ∷ with_joined ls i c

-- a line more, or its candidate in the first line that says the same
abbrev pub with_said : List Line → Said → List Line
with_said [] s = line_of s ∷ []
with_said (l ∷ ls) s = cond (says s l) (joined l s.candidate ∷ ls) (l ∷ with_said ls s)

abbrev pub with_some : List Line → Option Said → List Line
with_some ls None = ls
with_some ls (Some s) = with_said ls s

abbrev pub lines_of : List Interface → Requirement → List Line → List Told → List Line
lines_of u req ls [] = ls
lines_of u req ls (t ∷ ts) = lines_of u req (with_some ls (said_of u req t)) ts

-- The text.

abbrev pub uri_in : Option Interface → List ℕ
uri_in None = []
uri_in (Some x) = x.uri

abbrev pub every_text : List Candidate → List ℕ → List ℕ
every_text ks ns = if nat_lt 1 (length ks) && length ns == length ks then codes " (every version)" else []

abbrev pub line_text : List Interface → Line → List ℕ
line_text u l =
    codes "  " ++ (uri_in (slice_get u l.interface) ++ (every_text (candidates_of u l.interface) l.candidates
    ++ (codes " " ++ (versions_text (candidates_of u l.interface) l.candidates ++ (l.words ++ codes "\n")))))

abbrev pub own_number : ℕ → Candidate → List ℕ
own_number e k = e ∷ []

abbrev pub root_in : List Candidate → List ℕ
root_in ks =
    if length ks == 0 then codes " is needed, and has no version that may be used\n"
    else codes " is needed, in one of these: " ++ (versions_text ks (each 0 own_number ks) ++ codes "\n")

abbrev pub root_text : List Interface → Requirement → Told → List ℕ
root_text u req Root = req.interface ++ root_in (candidates_of u 0)
root_text u req (Once i) = []
root_text u req (Part i c m) = []
root_text u req (Wanted c place) = []
root_text u req (Bits i c width) = []
root_text u req (Needs y d) = []
root_text u req (Refuses y d j e) = []
root_text u req (Names y d name j e place) = []

-- the text of facts
abbrev pub facts_text : List Interface → Requirement → List Told → List ℕ
facts_text u req ts = flat_map (root_text u req) ts ++ flat_map (line_text u) (lines_of u req [] ts)
