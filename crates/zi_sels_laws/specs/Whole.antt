-- Selections that lack no command (the published format of selections documents, and "Commands" in that of feeds).
use Rattle.std.specs.Prelude.{ℕ, List, bytes_eq, find, IsSome, IfSome, IsSomeAnd, All}
use Rattle.zi_parts.specs.declared.types.Runner.{Runner}
use Rattle.zi_parts.specs.declared.types.Command.{Command}
use Rattle.zi_sels.specs.declared.types.Selection.{Selection}
use Rattle.zi_sels.specs.declared.types.Selections.{Selections}
use Rattle.zi_sels.specs.Written.{command_wanted}

-- one of these commands has this name
abbrev pub IsNamed : List ℕ → List Command → Type 0
IsNamed name commands = IsSome (find (λ (k : Command). bytes_eq k.name name) commands)

-- something is selected for this interface, and it has a command of this name
abbrev pub HasCommand : List Selection → List ℕ → List ℕ → Type 0
HasCommand items interface name = IsSomeAnd (find (λ (x : Selection). bytes_eq x.interface interface) items) (λ x. IsNamed name x.commands)

-- what runs a command is selected, with the command that is asked for of it
abbrev pub RunnerIsThere : List Selection → Runner → Type 0
RunnerIsThere items runner = HasCommand items runner.dep.interface (command_wanted runner)

abbrev pub CanBeRun : List Selection → Command → Type 0
CanBeRun items command = IfSome command.runner (RunnerIsThere items)

-- The command that is asked for is there, where one is; and so is the one that each runner asks for.
pub record AreWhole (sels : Selections) : Type 0 where
  pub root : IfSome sels.command (HasCommand sels.items sels.interface)
  pub runners : All (λ (x : Selection). All (CanBeRun sels.items) x.commands) sels.items
