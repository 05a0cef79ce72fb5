-- The commands that bindings make known, as a loop over these finds them.
use Rattle.std.proofs.Common.{◌≡◌, ℕ, ◌+◌, ◌<◌, List, [], ◌∷◌, ◌++◌, length, take, get_or, refl, sym, ap, ◌∙◌, Option, Some, None}
use Rattle.std.specs.Prelude.{fold}
use Rattle.std.specs.List.{filter_map}
use Rattle.std.proofs.lemmas.List.{take_more}
use Rattle.std.proofs.lemmas.List.Elements.{filter_map-append}
use Rattle.zi_reading.specs.Words.{optional}
use Rattle.zi_parts.specs.declared.types.Binding.{Binding}
use Rattle.zi_parts.specs.Values.{command_by, with_name}

-- one name more
pub named_one : (front new : List (List ℕ)) (o : Option (List ℕ)) (name text : List ℕ) → Some text ≡ o → name ≡ text → new ≡ with_name front name
    → new ≡ fold with_name front (optional o)
named_one front new o name text some copied made = made ∙ (ap (with_name front) copied ∙ ap (λ p. fold with_name front (optional p)) some)

one_given : {X Y : Type 0} (g : X → Option Y) (x : X) (o : Option Y) → g x ≡ o → filter_map g (x ∷ []) ≡ optional o
one_given g x None h = rw h refl
one_given g x (Some y) h = rw h refl

fold_behind : {X Y : Type 0} (f : X → Y → X) (x : X) (ys zs : List Y) → fold f x (ys ++ zs) ≡ fold f (fold f x ys) zs
fold_behind f x [] zs = refl
fold_behind f x (y ∷ ys) zs = fold_behind f (f x y) ys zs

pub named_more : (front names new : List (List ℕ)) (bs : List Binding) (i : ℕ) (x : Binding) → i < length bs → x ≡ get_or bs i x
    → names ≡ fold with_name front (filter_map command_by (take i bs)) → new ≡ fold with_name names (optional (command_by x))
    → new ≡ fold with_name front (filter_map command_by (take (i + 1) bs))
named_more front names new bs i x lt at so_far added =
    let more : filter_map command_by (take (i + 1) bs) ≡ filter_map command_by (take i bs) ++ optional (command_by x) =
    ap (filter_map command_by) (take_more bs i x lt ∙ ap (λ y. take i bs ++ y ∷ []) (sym at))
    ∙ (filter_map-append command_by (take i bs) (x ∷ []) ∙ ap (λ v. filter_map command_by (take i bs) ++ v) (one_given command_by x (command_by x) refl)) in
    added ∙ (ap (λ v. fold with_name v (optional (command_by x))) so_far
    ∙ (sym (fold_behind with_name front (filter_map command_by (take i bs)) (optional (command_by x))) ∙ ap (fold with_name front) (sym more)))
