-- What the declarations of a tag's first attributes are.
use Rattle.std.proofs.Common.{◌≡◌, ◌+◌, ◌≤◌, Bool, true, false, cond, List, [], ◌∷◌, ◌++◌, length, map, reverse, ap, ◌∙◌, arith}
use Rattle.std.specs.Prelude.{filter}
use Rattle.std.proofs.lemmas.List.{map-append, reverse-append, append-nil, length-append}
use Rattle.std.proofs.lemmas.List.Elements.{filter-append}
use Rattle.zi_names.specs.declared.attributes.Raw.{Raw}
use Rattle.zi_names.specs.declared.attributes.Binding.{Binding}
use Rattle.zi_names.specs.Names.{is_declaration, binding_of, declared, scope_in}

filter_push : {X : Type 0} (p : X → Bool) (xs : List X) (x : X) → filter p (xs ++ x ∷ []) ≡ filter p xs ++ cond (p x) (x ∷ []) []
filter_push p xs x = filter-append p xs (x ∷ [])

pub declared_push : (ws : List Raw) (w : Raw) → is_declaration w ≡ true → declared (ws ++ w ∷ []) ≡ declared ws ++ binding_of w ∷ []
declared_push ws w h =
    ap (map binding_of) (filter_push is_declaration ws w ∙ ap (λ v. filter is_declaration ws ++ cond v (w ∷ []) []) h) ∙ map-append binding_of (filter is_declaration ws) (w ∷ [])

pub declared_same : (ws : List Raw) (w : Raw) → is_declaration w ≡ false → declared (ws ++ w ∷ []) ≡ declared ws
declared_same ws w h =
    ap (map binding_of) (filter_push is_declaration ws w ∙ (ap (λ v. filter is_declaration ws ++ cond v (w ∷ []) []) h ∙ append-nil (filter is_declaration ws)))

pub scope_push : (ws : List Raw) (w : Raw) (scope : List Binding) → is_declaration w ≡ true → scope_in (ws ++ w ∷ []) scope ≡ binding_of w ∷ scope_in ws scope
unfolding scope_in
scope_push ws w scope h = ap (λ ds. reverse ds ++ scope) (declared_push ws w h) ∙ ap (λ ds. ds ++ scope) (reverse-append (declared ws) (binding_of w ∷ []))

pub scope_same : (ws : List Raw) (w : Raw) (scope : List Binding) → is_declaration w ≡ false → scope_in (ws ++ w ∷ []) scope ≡ scope_in ws scope
unfolding scope_in
scope_same ws w scope h = ap (λ ds. reverse ds ++ scope) (declared_same ws w h)

pub declared_within : (ws : List Raw) → length (declared ws) ≤ length ws
declared_within [] = omega arith
declared_within (w ∷ ws) = let more : length (declared ws) ≤ length ws = declared_within ws in grind arith

pub length_declared_push : (ws : List Raw) (w : Raw) → is_declaration w ≡ true → length (declared (ws ++ w ∷ [])) ≡ length (declared ws) + 1
length_declared_push ws w h = ap length (declared_push ws w h) ∙ length-append (declared ws) (binding_of w ∷ [])
