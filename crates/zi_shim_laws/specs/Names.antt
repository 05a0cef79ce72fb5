-- Names of shims in selections: those of the bindings that make a command available (the Zero Install feed format, "Executable
-- bindings").
use Rattle.std.specs.Prelude.{◌≡◌, ℕ, true, List, [], ◌∷◌, ◌++◌, Option, Some, None, All}
use Rattle.std.specs.List.{flat_map}
use Rattle.zi_shim.specs.Trees.{is_shim_name}
use Rattle.zi_parts.specs.declared.types.Binding.{Binding}
use Rattle.zi_parts.specs.declared.types.Binding.TheVariants.{Env, ExecVar, ExecPath, Unbuilt}
use Rattle.zi_parts.specs.declared.types.Command.{Command}
use Rattle.zi_parts.specs.declared.types.Dep.{Dep}
use Rattle.zi_parts.specs.declared.types.Runner.{Runner}
use Rattle.zi_sels.specs.declared.types.Selection.{Selection}
use Rattle.zi_sels.specs.declared.types.Selections.{Selections}

-- where it makes a command available, its name is one that a shim may have
abbrev pub HasShimName : Binding → Type 0
HasShimName (Env name extra mode separator default) = Unit {0}
HasShimName (ExecVar name command) = is_shim_name name ≡ true
HasShimName (ExecPath name command) = is_shim_name name ≡ true
HasShimName (Unbuilt element) = Unit {0}

abbrev pub runner_deps : Option Runner → List Dep
runner_deps None = []
runner_deps (Some runner) = runner.dep ∷ []

-- the dependencies of a selection, and those of its commands and of what runs them
abbrev pub deps_in : Selection → List Dep
deps_in x = x.deps ++ flat_map (λ (k : Command). k.deps ++ runner_deps k.runner) x.commands

-- its bindings, and those of its commands and of all these dependencies
abbrev pub bindings_in : Selection → List Binding
bindings_in x = x.bindings ++ (flat_map (λ (k : Command). k.bindings) x.commands ++ flat_map (λ (d : Dep). d.bindings) (deps_in x))

abbrev pub HaveShimNames : Selections → Type 0
HaveShimNames sels = All (λ (x : Selection). All HasShimName (bindings_in x)) sels.items
