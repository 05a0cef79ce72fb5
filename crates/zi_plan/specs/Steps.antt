-- What the parts of the plan answer.
use Rattle.std.specs.Prelude.{◌≡◌, ◌⊎◌, ℕ, Bool, true, false, ◌&&◌, ◌||◌, List, [], ◌∷◌, ◌++◌, map, bytes_eq, Option, Some, None, Result, Ok, Err, option_map, option_copied, if◌then◌else◌}
use Rattle.std.specs.List.{list_any}
use Rattle.std.specs.Option.{option_or, is_some}
use Rattle.std.specs.Borrow.{Bor}
use Rattle.std.specs.Map.{lookup}
use Rattle.zi_outside.specs.declared.launch.Dir.{Dir}
use Rattle.zi_outside.specs.declared.var.Var.{Var}
use Rattle.zi_parts.specs.declared.types.Command.{Command}
use Rattle.zi_bind.specs.Bound.{fault_of}
use Rattle.zi_bind.specs.Shims.{is_shimmed}
use Rattle.zi_bind.specs.Expansion.{Values}
use Rattle.zi_sels.specs.declared.types.Selection.{Selection}
use Rattle.zi_plan.specs.declared.fault.PlanFault.{PlanFault}
use Rattle.zi_plan.specs.declared.fault.PlanFault.TheVariants as fault
use Rattle.zi_plan.specs.declared.placing.InFolder.{InFolder}
use Rattle.zi_plan.specs.declared.table.Wanted.{Wanted}
use Rattle.zi_plan.specs.declared.chain.Linked.{Linked}
use Rattle.zi_plan.specs.declared.binding.BoundTo.{BoundTo}
use Rattle.zi_plan.specs.declared.call.ShimCall.{ShimCall}
use Rattle.zi_plan.specs.Placed.{Placed, placed_in, all_placed, without_folder, placed_for}
use Rattle.zi_plan.specs.Chain.{Asked, Link, is_same, command_of}
use Rattle.zi_plan.specs.Launches.{Bound, in_shims, bound_in, shims_exposed, binding_fault}
use Rattle.zi_plan.specs.Plans.{UnlessMemory, Tells, fault_by}
use Rattle.zi_plan.specs.Shims.{SaysWords, asked_of, call_of}

-- what is lent, as it is said
abbrev pub placed_seen : InFolder → Placed
placed_seen x = record { selection = x.selection.now; folder = option_copied x.folder }

abbrev pub wanted_seen : Wanted → Asked
wanted_seen w = record { interface = w.interface.now; command = w.command.now }

abbrev pub link_seen : Linked → Link
link_seen l = record { interface = l.interface.now; folder = option_copied l.folder; command = l.command.now }

abbrev pub bound_seen : BoundTo → Bound
bound_seen x = record { interface = x.interface.now; folder = x.folder.now; binding = x.binding.now }

abbrev pub seen_ok : {X Y : Type 0} → (X → Y) → Result X PlanFault → Result Y PlanFault
seen_ok seen (Ok x) = Ok (seen x)
seen_ok seen (Err reason) = Err reason

-- this is told
abbrev pub Says : {X : Type 0} → Result X PlanFault → Result X PlanFault → Type 0
Says expected result = Tells (λ answer. expected ≡ answer) result

-- this fault, if there is one, is told
abbrev pub Checks : Option PlanFault → Result Unit PlanFault → Type 0
Checks expected (Ok _) = expected ≡ None
Checks expected (Err reason) = UnlessMemory reason (expected ≡ Some reason)

-- each selection has a folder, and all are placed; or the first that has none is told
abbrev pub Places : List Selection → List (Option (List ℕ)) → Result (List InFolder) PlanFault → Type 0
Places items folders (Ok placed) = (without_folder items folders ≡ None) × (map placed_seen placed ≡ all_placed items folders)
Places items folders (Err reason) = UnlessMemory reason (option_map (λ interface. fault.NoFolder interface) (without_folder items folders) ≡ Some reason)

-- a selection in its folder, or none where it has to have a folder
abbrev pub PlacesOne : Selection → Option (List ℕ) → Option Placed → Type 0
PlacesOne x folder (Some placed) = ((is_some x.«package» || is_some folder) ≡ true) × (placed ≡ placed_in x folder)
PlacesOne x folder None = (is_some x.«package» || is_some folder) ≡ false

-- all bindings are applied, those that make a command available with these folders, and none has a fault; or the first fault is told
abbrev pub AppliesAll : List Bound → List (List ℕ) → List Var → Result Unit PlanFault → List Var → Type 0
AppliesAll bs shims old (Ok _) new = (binding_fault bs ≡ None) × (new ≡ bound_in (in_shims bs shims) old)
AppliesAll bs shims old (Err reason) new = UnlessMemory reason (option_map fault_by (binding_fault bs) ≡ Some reason)

-- One binding is applied, whatever stands behind it, and these folders of shims are left; or its fault is told.
abbrev pub AppliesNext : Bound → List (List ℕ) → List Var → Result (Bor (List (List ℕ))) PlanFault → List Var → Type 0
AppliesNext b shims old (Ok rest) new =
    (fault_of b.binding ≡ None) × ((bs : List Bound) → bound_in (in_shims (b ∷ bs) shims) old ≡ bound_in (in_shims bs rest.now) new)
AppliesNext b shims old (Err reason) new = UnlessMemory reason (option_map fault_by (fault_of b.binding) ≡ Some reason)

-- The folder of one binding is exposed, if it makes a command available and there is a folder, whatever stands behind it.
abbrev pub ExposesNext : Bound → List (List ℕ) → List Dir → List (List ℕ) → List Dir → Type 0
ExposesNext b shims old rest new = (bs : List Bound) → old ++ shims_exposed (in_shims (b ∷ bs) shims) ≡ new ++ shims_exposed (in_shims bs rest)

-- the call of a shim, or its fault
abbrev pub CallsOne : List Placed → Values → Bound → Result ShimCall PlanFault → Type 0
CallsOne ps values b (Ok call) = (words : List (List ℕ)) × SaysWords ps values (asked_of b) (Ok words) × (call ≡ call_of b words)
CallsOne ps values b (Err reason) = SaysWords ps values (asked_of b) (Err reason)

-- the call of a binding that makes a command available is added, or its fault is told; any other adds none
abbrev pub PutsCall : List Placed → Values → Bound → List ShimCall → Result Unit PlanFault → List ShimCall → Type 0
PutsCall ps values b old (Ok _) new =
    ((is_shimmed b.binding ≡ false) × (new ≡ old))
    ⊎ ((is_shimmed b.binding ≡ true) × ((call : ShimCall) × CallsOne ps values b (Ok call) × (new ≡ old ++ call ∷ [])))
PutsCall ps values b old (Err reason) new = UnlessMemory reason ((is_shimmed b.binding ≡ true) × CallsOne ps values b (Err reason))

-- The command that is asked for, by the names of interfaces and commands.
abbrev pub command_in : Asked → Option Placed → Option Command
command_in asked None = None
command_in asked (Some placed) = command_of placed.selection.commands asked.command

abbrev pub command_for : List Placed → Asked → Option Command
command_for ps asked = command_in asked (placed_for ps asked.interface)

-- what the tables have
abbrev pub selected_in : List (Bor (List ℕ) × InFolder) → List ℕ → Option Placed
selected_in entries interface = option_map placed_seen (lookup (λ k. bytes_eq interface k.now) entries)

abbrev pub commands_in : List (Wanted × Bor Command) → Asked → Option Command
commands_in entries asked = option_map (λ c. c.now) (lookup (λ k. bytes_eq asked.interface k.interface.now && bytes_eq asked.command k.command.now) entries)

abbrev pub FindsSelected : List Placed → List (Bor (List ℕ) × InFolder) → Type 0
FindsSelected ps entries = (interface : List ℕ) → selected_in entries interface ≡ placed_for ps interface

abbrev pub FindsCommands : List Placed → List (Wanted × Bor Command) → Type 0
FindsCommands ps entries = (asked : Asked) → commands_in entries asked ≡ command_for ps asked

-- the commands of an interface are put before those that are there
abbrev pub those_of : List ℕ → List Command → Asked → Option Command
those_of interface commands asked = if bytes_eq interface asked.interface then command_of commands asked.command else None

abbrev pub AddsCommands : List ℕ → List Command → List (Wanted × Bor Command) → List (Wanted × Bor Command) → Type 0
AddsCommands interface commands old new = (asked : Asked) → commands_in new asked ≡ option_or (those_of interface commands asked) (commands_in old asked)

-- a selection is added with its commands, unless its interface has one
abbrev pub AddsUnless : Bool → Placed → List (Bor (List ℕ) × InFolder) → List (Wanted × Bor Command) → List (Bor (List ℕ) × InFolder) → List (Wanted × Bor Command) → Type 0
AddsUnless true p selected commands new_selected new_commands = (new_selected ≡ selected) × (new_commands ≡ commands)
AddsUnless false p selected commands new_selected new_commands =
    ((interface : List ℕ) → selected_in new_selected interface ≡ (if bytes_eq p.selection.interface interface then Some p else selected_in selected interface))
    × AddsCommands p.selection.interface p.selection.commands commands new_commands

abbrev pub AddsPlaced : Placed → List (Bor (List ℕ) × InFolder) → List (Wanted × Bor Command) → List (Bor (List ℕ) × InFolder) → List (Wanted × Bor Command) → Type 0
AddsPlaced p selected commands new_selected new_commands = AddsUnless (is_some (selected_in selected p.selection.interface)) p selected commands new_selected new_commands

-- it is one of those that are met
abbrev pub has : List Wanted → Asked → Bool
has keys asked = list_any (λ k. bytes_eq asked.interface k.interface.now && bytes_eq asked.command k.command.now) keys

-- one more is met
abbrev pub IsMetToo : List Wanted → Asked → List Wanted → Type 0
IsMetToo old asked new = (other : Asked) → has new other ≡ (is_same asked other || has old other)
