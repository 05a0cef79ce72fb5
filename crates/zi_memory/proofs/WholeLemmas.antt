-- Each entry holds a tree, after each change.
use Rattle.std.proofs.Common.{◌≡◌, ℕ, zero, suc, ◌<◌, true, List, [], ◌∷◌, length, refl, get_or, set, insert, remove, arith}
use Rattle.std.proofs.lemmas.Bool.{and_parts}
use Rattle.zi_tree.specs.Order.{is_tree}
use Rattle.zi_memory.specs.declared.top_entry.TopEntry.{TopEntry}
use Rattle.zi_memory.specs.Memory.{are_trees}

whole_parts : (x : TopEntry) (es : List TopEntry) → are_trees (x ∷ es) ≡ true → (is_tree x.tree ≡ true) × (are_trees es ≡ true)
whole_parts x es h = and_parts (is_tree x.tree) (are_trees es) h

whole_with : (x : TopEntry) (es : List TopEntry) → is_tree x.tree ≡ true → are_trees es ≡ true → are_trees (x ∷ es) ≡ true
whole_with x es h k = rw (h, k) refl

pub whole_set : (es : List TopEntry) (i : ℕ) (e : TopEntry) → is_tree e.tree ≡ true → are_trees es ≡ true → are_trees (set es i e) ≡ true
whole_set [] i e h w = refl
whole_set (x ∷ es) zero e h w = whole_with e es h (whole_parts x es w).1
whole_set (x ∷ es) (suc i) e h w = let p = whole_parts x es w in whole_with x (set es i e) p.0 (whole_set es i e h p.1)

pub whole_insert : (es : List TopEntry) (i : ℕ) (e : TopEntry) → is_tree e.tree ≡ true → are_trees es ≡ true → are_trees (insert es i e) ≡ true
whole_insert [] zero e h w = whole_with e [] h refl
whole_insert [] (suc i) e h w = whole_with e [] h refl
whole_insert (x ∷ es) zero e h w = whole_with e (x ∷ es) h w
whole_insert (x ∷ es) (suc i) e h w = let p = whole_parts x es w in whole_with x (insert es i e) p.0 (whole_insert es i e h p.1)

pub whole_remove : (es : List TopEntry) (i : ℕ) → are_trees es ≡ true → are_trees (remove es i) ≡ true
whole_remove [] zero w = refl
whole_remove [] (suc i) w = refl
whole_remove (x ∷ es) zero w = (whole_parts x es w).1
whole_remove (x ∷ es) (suc i) w = let p = whole_parts x es w in whole_with x (remove es i) p.0 (whole_remove es i p.1)

pub whole_at : (es : List TopEntry) (i : ℕ) (d : TopEntry) → i < length es → are_trees es ≡ true → is_tree (get_or es i d).tree ≡ true
whole_at [] i d lt w = absurd (omega arith)
whole_at (x ∷ es) zero d lt w = (whole_parts x es w).0
whole_at (x ∷ es) (suc i) d lt w = whole_at es i d (omega arith) (whole_parts x es w).1
