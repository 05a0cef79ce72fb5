-- The selections of a choice: what is chosen, with the dependencies that are met and the commands that are used.
use Rattle.std.specs.Prelude.{◌≡◌, ℕ, ◌+◌, Bool, ◌&&◌, List, [], ◌∷◌, ◌++◌, map, filter, codes, Option, Some, None, option_map, option_to_list, is_some, IsPermutation, AllPairs}
use Rattle.std.specs.Ordering.{nat_cmp}
use Rattle.std.specs.Cmp.Lexicographic.{slice_cmp}
use Rattle.std.specs.declared.cmp.Ordering.TheVariants.{Less}
use Rattle.zi_policy.specs.declared.types.Arch.{Arch}
use Rattle.zi_policy.specs.Stabilities.{stability_text}
use Rattle.zi_parts.specs.declared.types.Dep.{Dep}
use Rattle.zi_parts.specs.declared.types.Runner.{Runner}
use Rattle.zi_parts.specs.declared.types.Command.{Command}
use Rattle.zi_universe.specs.declared.types.Requirement.{Requirement}
use Rattle.zi_universe.specs.declared.types.Candidate.{Candidate}
use Rattle.zi_universe.specs.declared.types.Interface.{Interface}
use Rattle.zi_universe.specs.Candidates.{asks}
use Rattle.zi_choice.specs.Choice.{Choice, chosen}
use Rattle.zi_choice.specs.Valid.{target}
use Rattle.zi_choice.specs.Walk.{Walk, Walks, is_used}
use Rattle.zi_sels.specs.declared.types.Selection.{Selection}
use Rattle.zi_sels.specs.declared.types.Selections.{Selections}

-- a platform as feeds write it
abbrev pub arch_text : Arch → List ℕ
arch_text arch = arch.os ++ codes "-" ++ arch.machine

-- a dependency without what it restricts and when it is active
abbrev pub plain : Dep → Dep
plain dep = record {
  interface = dep.interface;
  kind = dep.kind;
  ranges = [];
  condition = record { os = None; wanted = None };
  commands = dep.commands;
  bindings = dep.bindings;
}

-- a dependency asks for an interface, and something is chosen for it
abbrev pub is_met : List Interface → Choice → Dep → Bool
is_met universe choice dep = asks dep && is_some (target universe choice dep)

-- the dependencies that ask for an interface for which something is chosen
abbrev pub met : List Interface → Choice → List Dep → List Dep
met universe choice deps = map plain (filter (is_met universe choice) deps)

abbrev pub plain_runner : Runner → Runner
plain_runner runner = record { dep = plain runner.dep; words = runner.words }

-- a command with its met dependencies
abbrev pub used_command : List Interface → Choice → Command → Command
used_command universe choice command = record {
  name = command.name;
  path = command.path;
  words = command.words;
  runner = option_map plain_runner command.runner;
  deps = met universe choice command.deps;
  bindings = command.bindings;
  unbuilt = command.unbuilt;
}

-- of these commands of the interface of a number those that the walk uses, in their order
abbrev pub used_of : List Interface → Choice → Walk → ℕ → List Command → List Command
used_of universe choice walk i commands =
    map (used_command universe choice) (filter (λ command. is_used walk i command.name) commands)

-- what is selected for the interface of a number and an address: this candidate
unfoldable pub selection_by : List Interface → Choice → Walk → ℕ → List ℕ → Candidate → Selection
selection_by universe choice walk i uri candidate = record {
  interface = uri;
  id = candidate.imp.id;
  version = candidate.imp.version;
  from_feed = candidate.standing.feed;
  «package» = option_map (λ p. p.name) candidate.imp.«package»;
  local = candidate.imp.local;
  arch = option_map arch_text candidate.imp.arch;
  released = candidate.imp.released;
  stability = Some (stability_text candidate.standing.stability);
  digests = candidate.imp.digests;
  deps = met universe choice candidate.imp.deps;
  commands = used_of universe choice walk i candidate.imp.commands;
  bindings = candidate.imp.bindings;
}

-- what is selected for the interface of a number, where something is
abbrev pub selected_at : List Interface → Choice → Walk → ℕ → Interface → List Selection
selected_at universe choice walk i interface =
    option_to_list (option_map (selection_by universe choice walk i interface.uri) (chosen universe choice i))

-- what is selected for interfaces, the first of them with this number
abbrev pub selected_from : List Interface → Choice → Walk → ℕ → List Interface → List Selection
selected_from universe choice walk i [] = []
selected_from universe choice walk i (interface ∷ interfaces) =
    selected_at universe choice walk i interface ++ selected_from universe choice walk (i + 1) interfaces

-- what is selected, interface by interface
abbrev pub selected : List Interface → Choice → Walk → List Selection
selected universe choice walk = selected_from universe choice walk 0 universe

-- each stands before all behind it, by the bytes of the interface
abbrev pub AreSorted : List Selection → Type 0
AreSorted items = AllPairs (λ (x y : Selection). slice_cmp nat_cmp x.interface y.interface ≡ Less) items

-- these are the selections of a choice
pub record AreSelected (universe : List Interface) (req : Requirement) (choice : Choice) (sels : Selections) : Type 0 where
  pub walk : Walk
  pub walks : Walks universe req choice walk
  pub interface : sels.interface ≡ req.interface
  pub command : sels.command ≡ req.command
  pub same : IsPermutation (selected universe choice walk) sels.items
  pub sorted : AreSorted sels.items
