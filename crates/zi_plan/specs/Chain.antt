-- The chain of runners: the command that is to be run, the command that runs it, and so on (the Zero Install feed format,
-- "Commands").
use Rattle.std.specs.Prelude.{◌≡◌, ℕ, Bool, ◌&&◌, List, [], ◌∷◌, find, bytes_eq, nat_eq, codes, Option, Some, None, Result, Ok, Err, unwrap_or, option_map, if◌then◌else◌}
use Rattle.std.specs.List.{list_any, starts_with}
use Rattle.std.specs.Option.{option_or}
use Rattle.zi_reading.specs.Words.{first}
use Rattle.zi_reading.specs.Forms.{is_path}
use Rattle.zi_parts.specs.declared.types.Command.{Command}
use Rattle.zi_parts.specs.declared.types.Runner.{Runner}
use Rattle.zi_plan.specs.declared.fault.PlanFault.{PlanFault}
use Rattle.zi_plan.specs.declared.fault.PlanFault.TheVariants as fault
use Rattle.zi_plan.specs.Placed.{Placed, placed_for}

-- a command as it is asked for: an interface, and a name among the commands of what is selected for it
pub record Asked : Type 0 where
  pub interface : List ℕ
  pub command : List ℕ

-- it is one of those that the chain has already
abbrev pub is_same : Asked → Asked → Bool
is_same a b = bytes_eq a.interface b.interface && bytes_eq a.command b.command

abbrev pub is_met : List Asked → Asked → Bool
is_met met asked = list_any (λ a. is_same a asked) met

-- the first command of a name
abbrev pub command_of : List Command → List ℕ → Option Command
command_of commands name = find (λ k. bytes_eq k.name name) commands

-- one command of the chain, the interface that it is of, and the folder of what is selected for that, which a package doesn't have
pub record Link : Type 0 where
  pub interface : List ℕ
  pub folder : Option (List ℕ)
  pub command : Command

-- the path of a command is a relative path with a part; that of a package, which has no folder, begins with `/`
abbrev pub is_path_in : Option (List ℕ) → List ℕ → Bool
is_path_in (Some folder) text = is_path text
is_path_in None text = starts_with nat_eq text (codes "/")

-- why a command can't stand in the chain: it has a part that isn't built, or its path isn't right
abbrev pub path_fault : Option (List ℕ) → Option (List ℕ) → Option PlanFault
path_fault folder None = None
path_fault folder (Some text) = if is_path_in folder text then None else Some (fault.BadPath text)

abbrev pub command_fault : Option (List ℕ) → Command → Option PlanFault
command_fault folder command = option_or (option_map (λ element. fault.Unbuilt element) command.unbuilt) (path_fault folder command.path)

-- The command that is asked for, or the first check on it that fails: it isn't in the chain yet, its interface is selected, it is
-- a command of that selection, each part of it is built, and its path is right.
abbrev pub checked_link : Asked → Placed → Command → Option PlanFault → Result Link PlanFault
checked_link asked placed command None = Ok (record { interface = asked.interface; folder = placed.folder; command = command })
checked_link asked placed command (Some reason) = Err reason

abbrev pub link_in : Asked → Placed → Option Command → Result Link PlanFault
link_in asked placed None = Err (fault.NoCommand asked.interface asked.command)
link_in asked placed (Some command) = checked_link asked placed command (command_fault placed.folder command)

abbrev pub link_of : Asked → Option Placed → Result Link PlanFault
link_of asked None = Err (fault.NoSelection asked.interface)
link_of asked (Some placed) = link_in asked placed (command_of placed.selection.commands asked.command)

abbrev pub link_at : List Placed → Bool → Asked → Result Link PlanFault
link_at ps is_met asked = if is_met then Err (fault.Loop asked.interface asked.command) else link_of asked (placed_for ps asked.interface)

abbrev pub link_for : List Placed → List Asked → Asked → Result Link PlanFault
link_for ps met asked = link_at ps (is_met met asked) asked

-- the command that a runner asks for
abbrev pub asked_by : Runner → Asked
asked_by runner = record { interface = runner.dep.interface; command = unwrap_or (first runner.dep.commands) (codes "run") }

abbrev pub behind : Link → Result (List Link) PlanFault → Result (List Link) PlanFault
behind link (Ok links) = Ok (link ∷ links)
behind link (Err reason) = Err reason

-- The chain from a command on, these being met before it: the commands up to the one that has no runner, or the first check that
-- fails.
pub data Leads (ps : List Placed) : List Asked → Asked → Result (List Link) PlanFault → Type 0 where
  stops : {met : List Asked} {asked : Asked} {reason : PlanFault} → link_for ps met asked ≡ Err reason → Leads ps met asked (Err reason)
  ends : {met : List Asked} {asked : Asked} (link : Link) → link_for ps met asked ≡ Ok link → link.command.runner ≡ None → Leads ps met asked (Ok (link ∷ []))
  goes_on : {met : List Asked} {asked : Asked} {answer : Result (List Link) PlanFault} (link : Link) (runner : Runner) → link_for ps met asked ≡ Ok link → link.command.runner ≡ Some runner
      → Leads ps (asked ∷ met) (asked_by runner) answer → Leads ps met asked (behind link answer)

-- why a chain can't be run: its last command has no path
abbrev pub no_path : Link → Option (List ℕ) → Option PlanFault
no_path link None = Some (fault.NoPath link.interface link.command.name)
no_path link (Some path) = None

abbrev pub last_fault : List Link → Option PlanFault
last_fault [] = None
last_fault (link ∷ []) = no_path link link.command.path
last_fault (link ∷ next ∷ links) = last_fault (next ∷ links)
