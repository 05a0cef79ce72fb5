-- The names of the variables that are set after a binding, whatever its folder is.
use Rattle.std.proofs.Common.{◌≡◌, ℕ, Bool, true, false, bytes_eq, codes, if◌then◌else◌, List, [], ◌∷◌, length, map, Some, refl, sym, ap, ◌∙◌}
use Rattle.std.specs.Prelude.{is_some}
use Rattle.std.specs.Ordering.{is_lt, nat_cmp}
use Rattle.std.specs.Cmp.Lexicographic.{slice_cmp}
use Rattle.zi_outside.specs.declared.var.Var.{Var}
use Rattle.zi_outside.specs.Vars.{value_of, with_var}
use Rattle.zi_parts.specs.declared.types.Binding.{Binding}
use Rattle.zi_parts.specs.declared.types.Binding.TheVariants.{Env, ExecVar, ExecPath, Unbuilt}
use Rattle.zi_bind.specs.Bound.{with_binding}
use Rattle.zi_bind.specs.Shims.{with_shim}
use Rattle.zi_bind.specs.Names.{HaveSameNames}

-- The names of variables.

abbrev pub names : List Var → List (List ℕ)
names vs = map (λ (v : Var). v.name) vs

-- with one more in its place
inserted : List ℕ → List (List ℕ) → List (List ℕ)
inserted n [] = n ∷ []
inserted n (m ∷ ms) = if bytes_eq m n then n ∷ ms else if is_lt (slice_cmp nat_cmp n m) then n ∷ (m ∷ ms) else m ∷ inserted n ms

names_with : (n x : List ℕ) (vs : List Var) → names (with_var n x vs) ≡ inserted n (names vs)
unfolding inserted
names_with n x [] = refl
names_with n x (v ∷ vs) = elim (bytes_eq v.name n) as (λ b.
    names (if b then record { name = n; value = x } ∷ vs else if is_lt (slice_cmp nat_cmp n v.name) then record { name = n; value = x } ∷ (v ∷ vs) else v ∷ with_var n x vs)
    ≡ (if b then n ∷ names vs else if is_lt (slice_cmp nat_cmp n v.name) then n ∷ (v.name ∷ names vs) else v.name ∷ inserted n (names vs))) [
      | true ↦ refl
      | false ↦ elim (is_lt (slice_cmp nat_cmp n v.name)) as (λ b.
          names (if b then record { name = n; value = x } ∷ (v ∷ vs) else v ∷ with_var n x vs) ≡ (if b then n ∷ (v.name ∷ names vs) else v.name ∷ inserted n (names vs))) [
            | true ↦ refl
            | false ↦ ap (λ t. v.name ∷ t) (names_with n x vs)
          ]
    ]

has : List ℕ → List (List ℕ) → Bool
has k [] = false
has k (m ∷ ms) = if bytes_eq m k then true else has k ms

has_value : (vs : List Var) (k : List ℕ) → is_some (value_of vs k) ≡ has k (names vs)
unfolding has
has_value [] k = refl
has_value (v ∷ vs) k = elim (bytes_eq v.name k) as (λ b. is_some (if b then Some v.value else value_of vs k) ≡ (if b then true else has k (names vs))) [
  | true ↦ refl
  | false ↦ has_value vs k
]

pub same_names : (vs ws : List Var) → names vs ≡ names ws → HaveSameNames (value_of vs) (value_of ws)
same_names vs ws e k = has_value vs k ∙ ap (has k) e ∙ sym (has_value ws k)

-- The names after a binding.

pub after : Binding → List (List ℕ) → List (List ℕ)
after (Env name extra mode separator default) ns = inserted name ns
after (Unbuilt element) ns = ns
after (ExecVar name command) ns = inserted name ns
after (ExecPath name command) ns = inserted (codes "PATH") ns

pub names_after : (f : List ℕ) (b : Binding) (vs : List Var) → names (with_shim f b (with_binding f b vs)) ≡ after b (names vs)
unfolding with_shim with_binding after
names_after f (Env name extra mode separator default) vs = names_with name _ vs
names_after f (Unbuilt element) vs = refl
names_after f (ExecVar name command) vs = names_with name _ vs
names_after f (ExecPath name command) vs = names_with (codes "PATH") _ vs
