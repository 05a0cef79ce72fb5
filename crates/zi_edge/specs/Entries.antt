-- The entries of an environment (POSIX, "Environment Variable Definition"): `name=value`.
use Rattle.std.specs.Prelude.{ℕ, Bool, ◌==◌, nat_lt, List, [], ◌∷◌, length, Option, Some, None, codes, is_some, if◌then◌else◌}
use Rattle.std.specs.List.{position_or_len, before_first, after_first}
use Rattle.zi_outside.specs.Vars.{value_of, with_var}
use Rattle.zi_outside.specs.declared.var.Var.{Var}

abbrev pub is_equals : ℕ → Bool
is_equals b = b == 61

abbrev pub has_equals : List ℕ → Bool
has_equals entry = nat_lt (position_or_len is_equals entry) (length entry)

-- a name and a value, where there is a name
abbrev pub named : List ℕ → List ℕ → Option (List ℕ × List ℕ)
named [] value = None
named (b ∷ bs) value = Some (b ∷ bs, value)

-- the name and the value of an entry: what stands before its first `=`, and behind it
abbrev pub halves : List ℕ → Option (List ℕ × List ℕ)
halves entry = if has_equals entry then named (before_first is_equals entry) (after_first is_equals entry) else None

-- the variables with one more, unless its name is there
abbrev pub with_new : Option (List ℕ × List ℕ) → List Var → List Var
with_new None vars = vars
with_new (Some (name, value)) vars = if is_some (value_of vars name) then vars else with_var name value vars

-- a text that isn't empty
abbrev pub some_text : Option (List ℕ) → Option (List ℕ)
some_text None = None
some_text (Some []) = None
some_text (Some (b ∷ bs)) = Some (b ∷ bs)

-- the program that fetches
abbrev pub helper_of : List Var → Option (List ℕ)
helper_of vars = some_text (value_of vars (codes "ZI_FETCH"))
