-- What bindings make of variables (the Zero Install feed format, "Environment bindings").
use Rattle.std.specs.Prelude.{ℕ, Bool, ◌||◌, List, [], ◌∷◌, ◌++◌, Option, Some, None, is_some, is_none, take_while, codes, bytes_eq, if◌then◌else◌}
use Rattle.std.specs.Option.{option_or}
use Rattle.zi_tree.specs.Parts.{parts_of}
use Rattle.zi_outside.specs.Vars.{value_of, with_var}
use Rattle.zi_outside.specs.declared.var.Var.{Var}
use Rattle.zi_parts.specs.declared.types.Binding.{Binding}
use Rattle.zi_parts.specs.declared.types.Binding.TheVariants.{Env, ExecVar, ExecPath, Unbuilt}
use Rattle.zi_parts.specs.declared.types.Extra.{Extra}
use Rattle.zi_parts.specs.declared.types.Extra.TheVariants.{Insert, Value}
use Rattle.zi_parts.specs.declared.types.Mode.{Mode}
use Rattle.zi_parts.specs.declared.types.Mode.TheVariants.{Prepend, Append, Replace}
use Rattle.zi_bind.specs.declared.fault.ApplyFault.{ApplyFault}
use Rattle.zi_bind.specs.declared.fault.ApplyFault.TheVariants as fault

-- what counts as the old value of a variable that isn't set and has no default
unfoldable pub standard_value : List ℕ → Option (List ℕ)
standard_value name =
    if bytes_eq name (codes "PATH") then Some (codes "/bin:/usr/bin")
    else if bytes_eq name (codes "XDG_CONFIG_DIRS") then Some (codes "/etc/xdg")
    else if bytes_eq name (codes "XDG_DATA_DIRS") then Some (codes "/usr/local/share:/usr/share")
    else None

-- the path means the folder itself
abbrev pub is_folder_itself : List ℕ → Bool
is_folder_itself path = bytes_eq path [] || bytes_eq path (codes ".")

-- what a binding adds: a path in the folder of the implementation, or a text
unfoldable pub extra_text : List ℕ → Extra → List ℕ
extra_text folder (Insert path) = if is_folder_itself path then folder else folder ++ 47 ∷ path
extra_text folder (Value text) = text

-- a variable that is set to the empty text has an old value
abbrev pub old_value : List Var → List ℕ → Option (List ℕ) → Option (List ℕ)
old_value vars name default = option_or (value_of vars name) (option_or default (standard_value name))

-- the new value, by the mode: where there is no old value the extra text stands alone
abbrev pub new_value : Mode → List ℕ → List ℕ → Option (List ℕ) → List ℕ
new_value Prepend separator extra None = extra
new_value Prepend separator extra (Some old) = extra ++ (separator ++ old)
new_value Append separator extra None = extra
new_value Append separator extra (Some old) = old ++ (separator ++ extra)
new_value Replace separator extra old = extra

-- the variables after one binding; one that isn't built, or that makes a command available, changes nothing
unfoldable pub with_binding : List ℕ → Binding → List Var → List Var
with_binding folder (Env name extra mode separator default) vars = with_var name (new_value mode separator (extra_text folder extra) (old_value vars name default)) vars
with_binding folder (ExecVar name command) vars = vars
with_binding folder (ExecPath name command) vars = vars
with_binding folder (Unbuilt element) vars = vars

-- the variables after bindings with one folder, one after another
abbrev pub bound : List ℕ → List Binding → List Var → List Var
bound folder [] vars = vars
bound folder (binding ∷ bindings) vars = bound folder bindings (with_binding folder binding vars)

-- why a text can't be added: what is inserted is no relative path
abbrev pub fault_of_extra : Extra → Option ApplyFault
fault_of_extra (Insert path) = if is_some (parts_of path) then None else Some (fault.BadPath path)
fault_of_extra (Value text) = None

-- why a binding can't be applied: it isn't built, or what it inserts is no relative path
unfoldable pub fault_of : Binding → Option ApplyFault
fault_of (Env name extra mode separator default) = fault_of_extra extra
fault_of (ExecVar name command) = None
fault_of (ExecPath name command) = None
fault_of (Unbuilt element) = Some (fault.Unbuilt element)

-- the fault of the first binding that can't be applied
abbrev pub first_fault : List Binding → Option ApplyFault
first_fault [] = None
first_fault (binding ∷ bindings) = option_or (fault_of binding) (first_fault bindings)

-- the bindings before that one
abbrev pub can_be_applied : Binding → Bool
can_be_applied binding = is_none (fault_of binding)

abbrev pub before_fault : List Binding → List Binding
before_fault bindings = take_while can_be_applied bindings
