-- The scopes of the open elements as start tags come.
use Rattle.std.proofs.Common.{◌≡◌, ℕ, ◌<◌, arith, List, [], ◌∷◌, ◌++◌, length, drop, reverse, refl, sym, ap, ◌∙◌}
use Rattle.std.proofs.lemmas.List.{reverse-append, length-reverse, drop_at}
use Rattle.zi_names.specs.declared.attributes.Raw.{Raw}
use Rattle.zi_names.specs.declared.attributes.Binding.{Binding}
use Rattle.zi_names.specs.Names.{declared, scope_in}
use Rattle.zi_names.specs.Levels.{levels}
use Rattle.zi_names.specs.Scopes.{innermost}

pub innermost_levels : (ns : List ℕ) (scope : List Binding) → innermost (levels ns scope) ≡ scope
innermost_levels [] scope = refl
innermost_levels (n ∷ ns) scope = refl

outer_scope : (ws : List Raw) (scope : List Binding) (n : ℕ) → n ≡ length (declared ws) → drop n (scope_in ws scope) ≡ scope
unfolding scope_in
outer_scope ws scope n e = drop_at (reverse (declared ws)) scope n (length-reverse (declared ws) ∙ sym e)

-- one more open element
pub levels_more : (counts more : List ℕ) (n : ℕ) (ws : List Raw) (scope inside : List Binding) → more ≡ counts ++ n ∷ [] → n ≡ length (declared ws)
    → inside ≡ scope_in ws scope → levels (reverse more) inside ≡ inside ∷ levels (reverse counts) scope
levels_more counts more n ws scope inside e count at =
    ap (λ ms. levels ms inside) (ap reverse e ∙ reverse-append counts (n ∷ []))
    ∙ ap (λ s. inside ∷ levels (reverse counts) s) (ap (drop n) at ∙ outer_scope ws scope n count)

pub levels_some : (ns : List ℕ) (scope : List Binding) → 0 < length (levels ns scope)
levels_some [] scope = omega arith
levels_some (n ∷ ns) scope = omega arith
