-- What is launched: the variables after all bindings, and the words along the chain of runners (the Zero Install feed format,
-- "Commands" and "Bindings").
use Rattle.std.specs.Prelude.{ℕ, Bool, true, false, List, [], ◌∷◌, ◌++◌, map, filter, filter_map, Option, Some, None, option_map, Result, Ok, if◌then◌else◌}
use Rattle.std.specs.List.{flat_map}
use Rattle.std.specs.Option.{option_or}
use Rattle.zi_outside.specs.declared.launch.Dir.{Dir}
use Rattle.zi_outside.specs.declared.var.Var.{Var}
use Rattle.zi_parts.specs.declared.types.Dep.{Dep}
use Rattle.zi_parts.specs.declared.types.Command.{Command}
use Rattle.zi_parts.specs.declared.types.Runner.{Runner}
use Rattle.zi_parts.specs.declared.types.Word.{Word}
use Rattle.zi_parts.specs.declared.types.Binding.{Binding}
use Rattle.zi_parts.specs.declared.types.Binding.TheVariants.{Env, ExecVar, ExecPath, Unbuilt}
use Rattle.zi_parts.specs.declared.types.Extra.TheVariants.{Insert, Value}
use Rattle.zi_bind.specs.Bound.{with_binding, fault_of}
use Rattle.zi_bind.specs.Shims.{is_shimmed, with_shim}
use Rattle.zi_bind.specs.Expansion.{expanded, each_of, Values}
use Rattle.zi_bind.specs.declared.fault.ApplyFault.{ApplyFault}
use Rattle.zi_bind.specs.declared.fault.BindFault.{BindFault}
use Rattle.zi_plan.specs.Placed.{Placed, placed_for}
use Rattle.zi_plan.specs.Chain.{Link}

-- Bindings: all of them in their one order, each with the interface that it speaks of, and a folder: of what is selected for that, or
-- of the binding's shim.
pub record Bound : Type 0 where
  pub interface : List ℕ
  pub folder : List ℕ
  pub binding : Binding

-- what the binding adds is a path in a folder
abbrev pub is_insert : Binding → Bool
is_insert (Env name (Insert path) mode separator default) = true
is_insert (Env name (Value text) mode separator default) = false
is_insert (ExecVar name command) = false
is_insert (ExecPath name command) = false
is_insert (Unbuilt element) = false

-- The folder with which a binding is applied. A package has none: its `insert` is left out, and any other binding looks at no folder.
abbrev pub folder_of : Option (List ℕ) → Binding → Option (List ℕ)
folder_of (Some folder) binding = Some folder
folder_of None binding = if is_insert binding then None else Some []

abbrev pub bound_to : Placed → Binding → Option Bound
bound_to p binding = option_map (λ folder. record { interface = p.selection.interface; folder = folder; binding = binding }) (folder_of p.folder binding)

-- bindings of what is selected, in its folder
abbrev pub in_folder : Placed → List Binding → List Bound
in_folder p bindings = filter_map (bound_to p) bindings

-- those of a dependency count where its interface is selected, with the folder of that
abbrev pub where_selected : List Binding → Option Placed → List Bound
where_selected bindings None = []
where_selected bindings (Some p) = in_folder p bindings

abbrev pub of_dep : List Placed → Dep → List Bound
of_dep ps dep = where_selected dep.bindings (placed_for ps dep.interface)

abbrev pub of_runner : List Placed → Option Runner → List Bound
of_runner ps None = []
of_runner ps (Some runner) = of_dep ps runner.dep

-- a command's own, those of its dependencies, and those of its runner
abbrev pub of_command : List Placed → Placed → Command → List Bound
of_command ps p command = in_folder p command.bindings ++ (flat_map (of_dep ps) command.deps ++ of_runner ps command.runner)

-- a selection's own, those of its dependencies, and command by command
abbrev pub of_placed : List Placed → Placed → List Bound
of_placed ps p = in_folder p p.selection.bindings ++ (flat_map (of_dep ps) p.selection.deps ++ flat_map (of_command ps p) p.selection.commands)

-- the one list of bindings, selection by selection in the order of the document
abbrev pub all_bindings : List Placed → List Bound
all_bindings ps = flat_map (of_placed ps) ps

-- those that make a command available
abbrev pub shimmed : List Bound → List Bound
shimmed bs = filter (λ b. is_shimmed b.binding) bs

abbrev pub in_shim : Bound → List ℕ → Bound
in_shim b folder = record { interface = b.interface; folder = folder; binding = b.binding }

-- Those that make a command available get these folders, in their order; behind the last of the folders they are passed over.
abbrev pub in_shims : List Bound → List (List ℕ) → List Bound
in_shims [] folders = []
in_shims (b ∷ bs) [] = if is_shimmed b.binding then in_shims bs [] else b ∷ in_shims bs []
in_shims (b ∷ bs) (f ∷ fs) = if is_shimmed b.binding then in_shim b f ∷ in_shims bs fs else b ∷ in_shims bs (f ∷ fs)

-- the variables after bindings, one after another
abbrev pub bound_in : List Bound → List Var → List Var
bound_in [] vars = vars
bound_in (b ∷ bs) vars = bound_in bs (with_shim b.folder b.binding (with_binding b.folder b.binding vars))

-- the folders of the shims that are exposed, in the order of their bindings
abbrev pub shims_exposed : List Bound → List Dir
shims_exposed bs = map (λ b. record { interface = b.interface; folder = b.folder }) (shimmed bs)

-- the fault of the first binding that can't be applied
abbrev pub binding_fault : List Bound → Option ApplyFault
binding_fault [] = None
binding_fault (b ∷ bs) = option_or (fault_of b.binding) (binding_fault bs)

-- Words.

-- A word as it stands, or one of a document that is expanded.
pub data Said : Type 0 where
  plain : List ℕ → Said
  open_word : Word → Said

abbrev pub args : List Word → List Said
args words = map open_word words

abbrev pub runner_args : Option Runner → List Said
runner_args None = []
runner_args (Some runner) = args runner.words

-- the folder, `/` and the path, where there is one; the path of a package is the word itself
abbrev pub path_text : Option (List ℕ) → Option (List ℕ) → List (List ℕ)
path_text folder None = []
path_text (Some folder) (Some path) = (folder ++ 47 ∷ path) ∷ []
path_text None (Some path) = path ∷ []

abbrev pub path_word : Option (List ℕ) → Option (List ℕ) → List Said
path_word folder path = map plain (path_text folder path)

-- what a command adds: the args of its runner, its path in the folder of what is selected, and its own args
abbrev pub command_words : Option (List ℕ) → Command → List Said
command_words folder command = runner_args command.runner ++ (path_word folder command.path ++ args command.words)

abbrev pub link_words : Link → List Said
link_words link = command_words link.folder link.command

-- the words of a chain: those of what runs a command come before its own
abbrev pub chain_words : List Link → List Said
chain_words [] = []
chain_words (link ∷ links) = chain_words links ++ link_words link

-- what a word stands for
abbrev pub spoken : Values → Said → Result (List (List ℕ)) BindFault
spoken values (plain text) = Ok (text ∷ [])
spoken values (open_word word) = expanded values word

-- what all words stand for, in their order; or the first fault
abbrev pub spoken_all : Values → List Said → Result (List (List ℕ)) BindFault
spoken_all values words = each_of (spoken values) words
