-- Bindings that make a command available as a small program, a shim (the Zero Install feed format, "Executable bindings").
use Rattle.std.specs.Prelude.{ℕ, Bool, true, false, List, [], ◌∷◌, ◌++◌, None, codes}
use Rattle.zi_outside.specs.Vars.{with_var}
use Rattle.zi_outside.specs.declared.var.Var.{Var}
use Rattle.zi_parts.specs.declared.types.Binding.{Binding}
use Rattle.zi_parts.specs.declared.types.Binding.TheVariants.{Env, ExecVar, ExecPath, Unbuilt}
use Rattle.zi_parts.specs.declared.types.Extra.TheVariants.{Value}
use Rattle.zi_parts.specs.declared.types.Mode.TheVariants.{Prepend}
use Rattle.zi_bind.specs.Bound.{with_binding}

-- the binding makes a command available
abbrev pub is_shimmed : Binding → Bool
is_shimmed (Env name extra mode separator default) = false
is_shimmed (ExecVar name command) = true
is_shimmed (ExecPath name command) = true
is_shimmed (Unbuilt element) = false

-- The variables after such a binding, with the folder of its shim: its variable is the path of the program, or the folder stands
-- before what is in PATH, as one that a value prepends. Any other changes nothing.
unfoldable pub with_shim : List ℕ → Binding → List Var → List Var
with_shim folder (Env name extra mode separator default) vars = vars
with_shim folder (ExecVar name command) vars = with_var name (folder ++ 47 ∷ name) vars
with_shim folder (ExecPath name command) vars = with_binding [] (Env (codes "PATH") (Value folder) Prepend (codes ":") None) vars
with_shim folder (Unbuilt element) vars = vars
