-- Why a candidate that stands before the choice isn't chosen at a place of the walk: the first of six reasons that holds. Each
-- speaks of the stops before the place, which are the interfaces that are listed and the commands that are used before it, and
-- of what is chosen there.
use Rattle.std.specs.Prelude.{ℕ, ◌==◌, Bool, true, false, not, ◌&&◌, if◌then◌else◌, List, [], ◌++◌, map, filter, find, Option, Some, None, is_none, slice_get, option_map, unwrap_or}
use Rattle.std.specs.List.{list_any, list_all, flat_map}
use Rattle.zi_policy.specs.declared.types.Width.{Width}
use Rattle.zi_policy.specs.declared.types.Width.TheVariants.{Any, Bits32, Bits64}
use Rattle.zi_parts.specs.declared.types.Dep.{Dep}
use Rattle.zi_parts.specs.declared.types.DepKind.{DepKind}
use Rattle.zi_parts.specs.declared.types.DepKind.TheVariants.{Essential, Recommended, Restricts}
use Rattle.zi_parts.specs.declared.types.Command.{Command}
use Rattle.zi_universe.specs.declared.types.Requirement.{Requirement}
use Rattle.zi_universe.specs.declared.types.Candidate.{Candidate}
use Rattle.zi_universe.specs.declared.types.Interface.{Interface}
use Rattle.zi_choice.specs.Choice.{Choice, chosen, number, command_of, command_at, deps_of, needs_of}
use Rattle.zi_choice.specs.Walk.{wanted}
use Rattle.zi_choice.specs.Valid.{group}
use Rattle.zi_choice.specs.Vars.{candidates_of}
use Rattle.zi_build.specs.Clauses.{is_admitted, named_by}
use Rattle.zi_choice.specs.declared.traced.Stop.{Stop}
use Rattle.zi_choice.specs.declared.traced.Stop.TheVariants.{Came, Needed}
use Rattle.zi_choice.specs.Stops.{came_to, interface_of}
use Rattle.zi_why.specs.declared.report.Reason.{Reason}
use Rattle.zi_why.specs.declared.report.Reason.TheVariants.{Version, Lacking, Bits, Against, Needs, Search}

-- A dependency with the interface, by its number, whose choice or whose used command has it: its owner.
pub record Owned : Type 0 where
  pub owner : ℕ
  pub dep : Dep

abbrev pub owned_by : ℕ → Dep → Owned
owned_by j d = record { owner = j; dep = d }

abbrev pub needs_at : Option Command → List Dep
needs_at None = []
needs_at (Some m) = needs_of m

-- what is owned at a stop: the dependencies of what is chosen for the interface, or those of the command and then its runner
abbrev pub owned_at : List Interface → Choice → Stop → List Owned
owned_at u s (Came j) = map (owned_by j) (deps_of (chosen u s j))
owned_at u s (Needed j name) = map (owned_by j) (needs_at (command_at u s j name))

abbrev pub owned : List Interface → Choice → List Stop → List Owned
owned u s xs = flat_map (owned_at u s) xs

abbrev pub is_number : ℕ → Option ℕ → Bool
is_number i None = false
is_number i (Some j) = j == i

abbrev pub is_on : List Interface → ℕ → Owned → Bool
is_on u i o = is_number i (number u o.dep.interface)

-- the owned dependencies that are on an interface
abbrev pub bearing : List Interface → Choice → List Stop → ℕ → List Owned
bearing u s xs i = filter (is_on u i) (owned u s xs)

-- a candidate has a command; it suits a dependency: its version is admitted, and each command named is there
abbrev pub has : Candidate → List ℕ → Bool
has k name = not (is_none (command_of k name))

abbrev pub lacks : Candidate → List ℕ → Bool
lacks k name = is_none (command_of k name)

abbrev pub does_suit : Dep → Candidate → Bool
does_suit d k = is_admitted d k && list_all (has k) (named_by d)

abbrev pub is_essential : DepKind → Bool
is_essential Essential = true
is_essential Recommended = false
is_essential Restricts = false

-- 1: an owner's dependency on the interface doesn't admit the candidate
abbrev pub refuses : Candidate → Owned → Bool
refuses k o = not (is_admitted o.dep k)

abbrev pub refusing : List Interface → Choice → List Stop → ℕ → Candidate → Option Owned
refusing u s xs i k = find (refuses k) (bearing u s xs i)

-- 2: a command that is wanted of the root, or that an owner's dependency on the interface names, is lacking
abbrev pub of_root : Requirement → ℕ → List (List ℕ)
of_root req i = if i == 0 then wanted req.command else []

abbrev pub named_of : Owned → List (List ℕ)
named_of o = named_by o.dep

abbrev pub asked_of : List Interface → Requirement → Choice → List Stop → ℕ → List (List ℕ)
asked_of u req s xs i = of_root req i ++ flat_map named_of (bearing u s xs i)

abbrev pub lacking : List Interface → Requirement → Choice → List Stop → ℕ → Candidate → Option (List ℕ)
lacking u req s xs i k = find (lacks k) (asked_of u req s xs i)

-- 3: the choice of an earlier place is of the other bit group
abbrev pub are_apart : Width → Width → Bool
are_apart Bits32 Bits64 = true
are_apart Bits64 Bits32 = true
are_apart v w = false

abbrev pub is_of_other : Candidate → Option Candidate → Bool
is_of_other k None = false
is_of_other k (Some c) = are_apart (group c) (group k)

abbrev pub is_other_at : List Interface → Choice → Candidate → Stop → Bool
is_other_at u s k (Came j) = is_of_other k (chosen u s j)
is_other_at u s k (Needed j name) = false

abbrev pub of_other_bits : List Interface → Choice → List Stop → Candidate → Option Stop
of_other_bits u s xs k = find (is_other_at u s k) xs

-- 4: a dependency of the candidate is on its own interface or on that of an earlier place, and what is chosen there (the
-- candidate, where it is its own) isn't admitted or lacks a command named, or the dependency is essential and none is chosen
abbrev pub isnt_met_by : Dep → Option Candidate → Bool
isnt_met_by d None = is_essential d.kind
isnt_met_by d (Some k) = not (does_suit d k)

abbrev pub isnt_met_at : List Interface → Choice → List Stop → ℕ → Candidate → Dep → Option ℕ → Bool
isnt_met_at u s xs i k d None = false
isnt_met_at u s xs i k d (Some j) = if j == i then isnt_met_by d (Some k) else (came_to xs j && isnt_met_by d (chosen u s j))

abbrev pub is_against : List Interface → Choice → List Stop → ℕ → Candidate → Dep → Bool
is_against u s xs i k d = isnt_met_at u s xs i k d (number u d.interface)

abbrev pub against : List Interface → Choice → List Stop → ℕ → Candidate → Option Dep
against u s xs i k = find (is_against u s xs i k) k.imp.deps

-- 5: an essential dependency of the candidate is on an interface none of whose candidates suits it
abbrev pub targets : List Interface → Option ℕ → List Candidate
targets u None = []
targets u (Some j) = candidates_of u j

abbrev pub is_beyond : List Interface → Dep → Bool
is_beyond u d = is_essential d.kind && not (list_any (does_suit d) (targets u (number u d.interface)))

abbrev pub missing : List Interface → Candidate → Option Dep
missing u k = find (is_beyond u) k.imp.deps

-- the address of the interface of a number
abbrev pub uri_of : List Interface → ℕ → List ℕ
uri_of u i = unwrap_or (option_map (λ (x : Interface). x.uri) (slice_get u i)) []

-- what each says
abbrev pub by_owner : List Interface → Owned → Reason
by_owner u o = Version (uri_of u o.owner)

abbrev pub by_stop : List Interface → Stop → Reason
by_stop u x = Bits (uri_of u (interface_of x))

abbrev pub by_target : Dep → Reason
by_target d = Against d.interface

abbrev pub by_need : Dep → Reason
by_need d = Needs d.interface

-- the first that holds
abbrev pub else_reason : Option Reason → Reason → Reason
else_reason None r = r
else_reason (Some r) q = r

-- the reason for a candidate of an interface, behind these stops; the number of hints is that of its block
abbrev pub reason : List Interface → Requirement → Choice → List Stop → ℕ → Candidate → ℕ → Reason
reason u req s xs i k hints =
    else_reason (option_map (by_owner u) (refusing u s xs i k))
    (else_reason (option_map (λ name. Lacking name) (lacking u req s xs i k))
    (else_reason (option_map (by_stop u) (of_other_bits u s xs k))
    (else_reason (option_map by_target (against u s xs i k))
    (else_reason (option_map by_need (missing u k)) (Search hints)))))
