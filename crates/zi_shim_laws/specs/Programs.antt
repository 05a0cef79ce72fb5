-- The commands that bindings of selections make available: those of a dependency are there, where something is selected for its
-- interface (the Zero Install feed format, "Executable bindings").
use Rattle.std.specs.Prelude.{◌≡◌, ℕ, List, ◌++◌, None, find, bytes_eq, IfSome, All}
use Rattle.std.specs.List.{flat_map}
use Rattle.zi_parts.specs.Values.{command_by}
use Rattle.zi_parts.specs.declared.types.Binding.{Binding}
use Rattle.zi_parts.specs.declared.types.Binding.TheVariants.{Env, ExecVar, ExecPath, Unbuilt}
use Rattle.zi_parts.specs.declared.types.Command.{Command}
use Rattle.zi_parts.specs.declared.types.Dep.{Dep}
use Rattle.zi_sels.specs.declared.types.Selection.{Selection}
use Rattle.zi_sels.specs.declared.types.Selections.{Selections}
use Rattle.zi_sels_laws.specs.Whole.{IsNamed}
use Rattle.zi_shim_laws.specs.Names.{deps_in}

-- what is selected for this interface has a command of this name, where something is selected
abbrev pub HasIfSelected : List Selection → List ℕ → List ℕ → Type 0
HasIfSelected items interface name = IfSome (find (λ (x : Selection). bytes_eq x.interface interface) items) (λ x. IsNamed name x.commands)

-- so it is of the command that a binding makes available, where it makes one
abbrev pub IsAvailable : List Selection → List ℕ → Binding → Type 0
IsAvailable items interface (Env name extra mode separator default) = Unit {0}
IsAvailable items interface (ExecVar name command) = HasIfSelected items interface command
IsAvailable items interface (ExecPath name command) = HasIfSelected items interface command
IsAvailable items interface (Unbuilt element) = Unit {0}

-- In a selection its own bindings and its commands' make no command available, and that of each dependency's is there, those of its
-- commands and of what runs them among them.
pub record HasPrograms (items : List Selection) (x : Selection) : Type 0 where
  pub own : All (λ (b : Binding). command_by b ≡ None) (x.bindings ++ flat_map (λ (k : Command). k.bindings) x.commands)
  pub deps : All (λ (d : Dep). All (IsAvailable items d.interface) d.bindings) (deps_in x)

abbrev pub HavePrograms : Selections → Type 0
HavePrograms sels = All (HasPrograms sels.items) sels.items
