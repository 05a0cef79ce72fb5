-- A document has one list of trees.
use Rattle.std.proofs.Common.{◌≡◌, ℕ, List, [], ◌∷◌, refl, sym, ap, ◌∙◌, subst, Option, Some, None}
use Rattle.zi_sels.specs.declared.types.Selection.{Selection}
use Rattle.zi_sels.specs.declared.types.Selections.{Selections}
use Rattle.zi_showing.specs.Tree.{needs, still_to_show, Trees, none, tree, Grow, ends, passes, grows, all_asked, AreTrees}

-- what grows of addresses is one
abbrev Same : List Selection → List (List ℕ) → List (List ℕ) → Trees → List (List ℕ) → Type 0
Same items shown us a after = (b : Trees) (later : List (List ℕ)) → Grow items shown us b later → (a ≡ b) × (after ≡ later)

nothing_none : {X : Type 0} (o : Option X) (x : X) → o ≡ None → o ≡ Some x → ⊥
nothing_none o x e f = let g : None ≡ Some x = sym e ∙ f in cc

one_some : {X : Type 0} (o : Option X) (x y : X) → o ≡ Some x → o ≡ Some y → x ≡ y
one_some o x y e f = let g : Some x ≡ Some y = sym e ∙ f in cc

same_trees : (items : List Selection) {shown us after : List (List ℕ)} {a : Trees} → Grow items shown us a after → Same items shown us a after
same_trees items (ends {shown}) b later ends = (refl, refl)
same_trees items (passes {shown} {us} {after} {u} {ts} e g) b later (passes f h) = same_trees items g b later h
same_trees items (passes {shown} {us} {after} {u} {ts} e g) b later (grows x f h k) = absurd (nothing_none (still_to_show items shown u) x e f)
same_trees items (grows {shown} {us} {mid} {after} {u} {below} {next} x e g k) b later (passes f h) = absurd (nothing_none (still_to_show items shown u) x f e)
same_trees items (grows {shown} {us} {mid} {after} {u} {below} {next} x e g k) b later (grows {mid = other} {below = under} {next = behind} y f h l) =
    let same : x ≡ y = one_some (still_to_show items shown u) x y e f in
    let low = same_trees items g under other (subst (λ z. Grow items (u ∷ shown) (needs z) under other) (sym same) h) in
    let high = same_trees items k behind later (subst (λ m. Grow items m us behind later) (sym low.1) l) in
    (ap (λ z. tree z below next) same ∙ ap (λ t. tree y t next) low.0 ∙ ap (tree y under) high.0, high.1)

pub one_list : (sels : Selections) (a b : Trees) → AreTrees sels a → AreTrees sels b → a ≡ b
one_list sels a b (after, g) (later, h) = (same_trees sels.items g b later h).0
