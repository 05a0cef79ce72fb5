-- What the constraints of a universe and a requirement say of the feeds, each as a value, in the order of the constraints. Where a
-- version is spoken of it is a candidate, by the numbers of its interface and its own.
use Rattle.std.specs.Prelude.{◌≡◌, ℕ, Bool, not, List, [], ◌∷◌, ◌++◌, length, map, get_or, Option, Some, None}
use Rattle.std.specs.List.{flat_map}
use Rattle.zi_policy.specs.declared.types.Width.{Width}
use Rattle.zi_policy.specs.declared.types.Width.TheVariants.{Any, Bits32, Bits64}
use Rattle.zi_parts.specs.declared.types.Dep.{Dep}
use Rattle.zi_parts.specs.declared.types.DepKind.{DepKind}
use Rattle.zi_parts.specs.declared.types.DepKind.TheVariants.{Essential, Recommended, Restricts}
use Rattle.zi_parts.specs.declared.types.Command.{Command}
use Rattle.zi_universe.specs.declared.types.Requirement.{Requirement}
use Rattle.zi_universe.specs.declared.types.Candidate.{Candidate}
use Rattle.zi_universe.specs.declared.types.Interface.{Interface}
use Rattle.zi_choice.specs.Choice.{needs_of, command_place}
use Rattle.zi_choice.specs.Valid.{group}
use Rattle.zi_choice.specs.Vars.{Var, Cand, Cmd, Wide, candidates_of}
use Rattle.zi_build.specs.Clauses.{Rule, One_of, clause, yes, no, having, each, keep, among, admitted_one, is_admitted, named_by, root_one, one_var, two_or_more, rules}
use Rattle.zi_facts.specs.declared.fact.Owner.{Owner}
use Rattle.zi_facts.specs.declared.fact.Fact.{Fact}
use Rattle.zi_facts.specs.declared.fact.Fact.TheVariants as fact

-- A fact. A version or a command of one needs, where it is chosen or used, what a dependency of it says.
pub data Told : Type 0 where
  Root : Told  -- one of the root's versions is needed
  Wanted : ℕ → Option ℕ → Told  -- a version of the root is run by its command at a place; it has none where there is no place
  Once : ℕ → Told  -- one version of an interface is chosen at most
  Bits : ℕ → ℕ → Width → Told  -- a version is for so many bits
  Part : ℕ → ℕ → ℕ → Told  -- a command is used only where its version is chosen
  Needs : Var → Dep → Told  -- it needs one of the versions that its dependency admits
  Refuses : Var → Dep → ℕ → ℕ → Told  -- its dependency doesn't admit a version
  Names : Var → Dep → List ℕ → ℕ → ℕ → Option ℕ → Told  -- of a version that its dependency admits it needs the command of a name, at a place; it has none where there is no place

abbrev pub of_bits : Var → Width → Rule
of_bits y Any = clause []
of_bits y Bits32 = clause (no y ∷ no Wide ∷ [])
of_bits y Bits64 = clause (no y ∷ yes Wide ∷ [])

-- the constraint that a fact is
abbrev pub rule_of : List Interface → Told → Rule
rule_of u Root = clause (each 0 root_one (candidates_of u 0))
rule_of u (Wanted c place) = clause (no (Cand 0 c) ∷ having 0 c place)
rule_of u (Once i) = One_of (each 0 (one_var i) (candidates_of u i))
rule_of u (Bits i c width) = of_bits (Cand i c) width
rule_of u (Part i c m) = clause (no (Cmd i c m) ∷ yes (Cand i c) ∷ [])
rule_of u (Needs y d) = clause (no y ∷ among u d (admitted_one d))
rule_of u (Refuses y d j e) = clause (no y ∷ no (Cand j e) ∷ [])
rule_of u (Names y d name j e place) = clause (no y ∷ no (Cand j e) ∷ having j e place)

abbrev pub told_refusal : Var → Dep → ℕ → ℕ → Candidate → List Told
told_refusal y d j e k = keep (not (is_admitted d k)) (Refuses y d j e)

abbrev pub told_admission : List Interface → Var → Dep → DepKind → List Told
told_admission u y d Essential = Needs y d ∷ []
told_admission u y d Recommended = among u d (told_refusal y d)
told_admission u y d Restricts = among u d (told_refusal y d)

abbrev pub told_name : Var → Dep → List ℕ → ℕ → ℕ → Candidate → List Told
told_name y d name j e k = keep (is_admitted d k) (Names y d name j e (command_place k name))

abbrev pub told_naming : List Interface → Var → Dep → List (List ℕ) → List Told
told_naming u y d names = flat_map (λ name. among u d (told_name y d name)) names

abbrev pub told_need : List Interface → Var → Dep → List Told
told_need u y d = told_admission u y d d.kind ++ told_naming u y d (named_by d)

abbrev pub told_needs : List Interface → Var → List Dep → List Told
told_needs u y ds = flat_map (told_need u y) ds

abbrev pub told_width : ℕ → ℕ → Width → List Told
told_width i c Any = []
told_width i c Bits32 = Bits i c Bits32 ∷ []
told_width i c Bits64 = Bits i c Bits64 ∷ []

abbrev pub told_command : List Interface → ℕ → ℕ → ℕ → Command → List Told
told_command u i c n m = Part i c n ∷ told_needs u (Cmd i c n) (needs_of m)

abbrev pub told_candidate : List Interface → ℕ → ℕ → Candidate → List Told
told_candidate u i c k =
    told_width i c (group k) ++ (told_needs u (Cand i c) k.imp.deps ++ each 0 (told_command u i c) k.imp.commands)

abbrev pub told_interface : List Interface → ℕ → Interface → List Told
told_interface u i x = each 0 (told_candidate u i) x.candidates

abbrev pub told_once : ℕ → Interface → List Told
told_once i x = keep (two_or_more (length x.candidates)) (Once i)

abbrev pub told_wanted : List ℕ → ℕ → Candidate → List Told
told_wanted name c k = Wanted c (command_place k name) ∷ []

abbrev pub told_requirement : List Interface → Option (List ℕ) → List Told
told_requirement u None = []
told_requirement u (Some name) = each 0 (told_wanted name) (candidates_of u 0)

-- what each constraint says, in the order of the constraints
abbrev pub told : List Interface → Requirement → List Told
told u req =
    Root ∷ (told_requirement u req.command ++ (each 0 told_once u ++ each 0 (told_interface u) u))

-- the variable of an owner: the version, or its command at a place
abbrev pub var_at : ℕ → ℕ → Option ℕ → Var
var_at i c None = Cand i c
var_at i c (Some m) = Cmd i c m

abbrev pub owner_var : Owner → Var
owner_var o = var_at o.interface o.candidate o.command

-- a fact as a value
abbrev pub as_told : Fact → Told
as_told fact.Root = Root
as_told (fact.Wanted c place) = Wanted c place
as_told (fact.Once i) = Once i
as_told (fact.Bits i c width) = Bits i c width
as_told (fact.Part i c m) = Part i c m
as_told (fact.Needs o d) = Needs (owner_var o) d.now
as_told (fact.Refuses o d j e) = Refuses (owner_var o) d.now j e
as_told (fact.Names o d name j e place) = Names (owner_var o) d.now name.now j e place

abbrev pub told_at : List Told → ℕ → Told
told_at ts n = get_or ts n Root
