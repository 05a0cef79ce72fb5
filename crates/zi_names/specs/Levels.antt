-- The scopes of the open elements, as one list of bindings and the numbers of those that each element declares.
use Rattle.std.specs.Prelude.{ℕ, List, [], ◌∷◌, drop}
use Rattle.zi_names.specs.declared.attributes.Binding.{Binding}

-- the innermost element first
abbrev pub levels : List ℕ → List Binding → List (List Binding)
levels [] scope = scope ∷ []
levels (n ∷ ns) scope = scope ∷ levels ns (drop n scope)
