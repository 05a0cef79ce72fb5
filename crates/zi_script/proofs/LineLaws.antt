-- The lines of variables, one after another.
use Rattle.std.proofs.Common.{◌≡◌, ℕ, ◌+◌, List, [], ◌∷◌, ◌++◌, take, Some, option_map, slice_get, refl, sym, ap, ◌∙◌, append_assoc}
use Rattle.std.specs.List.{filter, flat_map}
use Rattle.std.proofs.lemmas.Grind.{flat_map-append}
use Rattle.std.proofs.lemmas.List.Elements.{filter-append}
use Rattle.zi_outside.specs.declared.var.Var.{Var}
use Rattle.zi_script.specs.Script.{line, is_changed, changed, lines}
use Rattle.zi_script.proofs.NamingLaws.{next_var}

lines_more : (old xs ys : List Var) → lines old (xs ++ ys) ≡ lines old xs ++ lines old ys
lines_more old xs ys = ap (flat_map line) (filter-append (is_changed old) xs ys) ∙ flat_map-append line (changed old xs) (changed old ys)

pub lines_then : (old vars : List Var) (i : ℕ) (name value start now then : List ℕ) → option_map (λ (v : Var). v.name) (slice_get vars i) ≡ Some name
    → option_map (λ (v : Var). v.value) (slice_get vars i) ≡ Some value → now ≡ start ++ lines old (take i vars)
    → then ≡ now ++ lines old (record { name = name; value = value } ∷ []) → then ≡ start ++ lines old (take (i + 1) vars)
lines_then old vars i name value start now then n m h e =
    let one = lines old (record { name = name; value = value } ∷ []) in
    e ∙ ap (λ t. t ++ one) h ∙ append_assoc start (lines old (take i vars)) one
    ∙ ap (λ t. start ++ t) (sym (lines_more old (take i vars) (record { name = name; value = value } ∷ [])) ∙ ap (lines old) (sym (next_var vars i name value n m)))
