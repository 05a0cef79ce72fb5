-- What the cells show after a new stamp.
use Rattle.std.proofs.Common.{◌≡◌, ℕ, zero, suc, set, ◌+◌, ◌<◌, ◌≤◌, Bool, false, eqb, cond, List, [], ◌∷◌, map, length, replicate, get_or, refl, sym, ap, ap₂, ◌∙◌, arith, Option, Some, None}
use Rattle.std.specs.List.{All}
use Rattle.std.proofs.lemmas.List.Elements.{All-head, All-tail}
use Rattle.std.proofs.lemmas.List.{map-set, length-map, length-replicate}
use Rattle.std.proofs.lemmas.Bool.Decides.{nat_tests}
use mathlib.Core.Path.{fun_ext}
use Rattle.std.proofs.lemmas.Grind.{common_steps}
use Rattle.zi_formula.specs.declared.formula.Lit.{Lit}
use Rattle.zi_proof.specs.Known.{put, nothing, without}
use Rattle.zi_proof.specs.Cells.{shown, fresh_cell, known_by}
use Rattle.zi_proof.specs.declared.marks.Cell.{Cell}

old_shows_none : (p : ℕ) (c : Cell) → c.stamp ≤ p → shown (p + 1) c ≡ None
old_shows_none p c h = grind (arith, nat_tests)

pub all_old : (p : ℕ) (cs : List Cell) → All (λ c. c.stamp ≤ p) cs → map (shown (p + 1)) cs ≡ replicate (length cs) None
all_old p [] h = refl
all_old p (c ∷ cs) h =
    ap₂ (λ x xs. x ∷ xs) (old_shows_none p c (All-head (λ c. c.stamp ≤ p) c cs h)) (all_old p cs (All-tail (λ c. c.stamp ≤ p) c cs h))

fresh_shows : (n : ℕ) → map (shown 1) (replicate n fresh_cell) ≡ replicate n None
fresh_shows zero = refl
fresh_shows (suc n) = ap (λ xs. None ∷ xs) (fresh_shows n)

pub present_shows : (p : ℕ) (b : Bool) → shown p (record { stamp = p; sign = b }) ≡ Some b
present_shows p b = grind (arith, nat_tests)

pub fresh_view : (xs : List Cell) (n : ℕ) → xs ≡ replicate n fresh_cell → map (shown 1) xs ≡ replicate n None
fresh_view xs n e = ap (map (shown 1)) e ∙ fresh_shows n

nothing_shown : (n x : ℕ) → get_or {A = Option Bool} (replicate n None) x None ≡ None
nothing_shown zero x = refl
nothing_shown (suc n) zero = refl
nothing_shown (suc n) (suc x) = nothing_shown n x

known_nothing : (m : List (Option Bool)) (n : ℕ) → m ≡ replicate n None → known_by m ≡ nothing
known_nothing m n e = fun_ext (λ x. ap (λ xs. get_or xs x None) e ∙ nothing_shown n x)

cleared : (p q : ℕ) (cs ds : List Cell) (m : List (Option Bool)) → map (shown q) ds ≡ m → length cs ≡ length ds → All (λ c. c.stamp ≤ p) cs → map (shown (p + 1)) cs ≡ replicate (length m) None
cleared p q cs ds m e n h =
    all_old p cs h ∙ ap (λ k. replicate k None) (n ∙ sym (length-map ds (shown q)) ∙ ap length e)

pub put_view : (p : ℕ) (cs : List Cell) (m : List (Option Bool)) (i : ℕ) (b : Bool) → map (shown p) cs ≡ m → map (shown p) (set cs i (record { stamp = p; sign = b })) ≡ set m i (Some b)
put_view p cs m i b e =
    map-set (shown p) cs i (record { stamp = p; sign = b }) ∙ ap₂ (λ xs y. set xs i y) e (present_shows p b)

pub cleared_known : (p : ℕ) (cs : List Cell) → All (λ c. c.stamp ≤ p) cs → known_by (map (shown (p + 1)) cs) ≡ nothing
cleared_known p cs h = known_nothing (map (shown (p + 1)) cs) (length cs) (all_old p cs h)

pub same_length : (p q : ℕ) (cs ds : List Cell) (m : List (Option Bool)) → map (shown q) ds ≡ m → length cs ≡ length ds → length (map (shown p) cs) ≡ length m
same_length p q cs ds m e n = length-map cs (shown p) ∙ (n ∙ (sym (length-map ds (shown q)) ∙ ap length e))

put_at : (m : List (Option Bool)) (l : Lit) (y : ℕ) → l.variable < length m → get_or (set m l.variable (Some l.positive)) y None ≡ cond (eqb y l.variable) (Some l.positive) (get_or m y None)
put_at m l y h = grind (arith, common_steps, nat_tests)

known_by-put : (m : List (Option Bool)) (l : Lit) → l.variable < length m → known_by (set m l.variable (Some l.positive)) ≡ put (known_by m) l
known_by-put m l h = fun_ext (λ y. put_at m l y h)

pub put_known : (p : ℕ) (cs : List Cell) (m : List (Option Bool)) (l : Lit) → map (shown p) cs ≡ m → l.variable < length m → known_by (map (shown p) (set cs l.variable (record { stamp = p; sign = l.positive }))) ≡ put (known_by m) l
put_known p cs m l e h = ap known_by (put_view p cs m l.variable l.positive e) ∙ known_by-put m l h

forget_at : (m : List (Option Bool)) (x y : ℕ) → x < length m → get_or (set m x None) y None ≡ cond (eqb y x) None (get_or m y None)
forget_at m x y h = grind (arith, common_steps, nat_tests)

stale_shows : (p : ℕ) (b : Bool) → 0 < p → shown p (record { stamp = 0; sign = b }) ≡ None
stale_shows p b h = grind (arith, nat_tests)

pub forget_known : (p : ℕ) (cs : List Cell) (m : List (Option Bool)) (x : ℕ) → 0 < p → map (shown p) cs ≡ m → x < length m → known_by (map (shown p) (set cs x (record { stamp = 0; sign = false }))) ≡ without (known_by m) x
forget_known p cs m x z e h =
    let f : map (shown p) (set cs x (record { stamp = 0; sign = false })) ≡ set m x None = map-set (shown p) cs x (record { stamp = 0; sign = false }) ∙ ap₂ (λ xs y. set xs x y) e (stale_shows p false z) in
    ap known_by f ∙ fun_ext (λ y. forget_at m x y h)

-- new marks have the room that was asked for, and show nothing
pub fresh_marks : (xs : List Cell) (n m : ℕ) → xs ≡ replicate m fresh_cell → m ≡ n + 1 → (length (map (shown 1) xs) ≡ n + 1) × (known_by (map (shown 1) xs) ≡ nothing)
fresh_marks xs n m e k =
    (length-map xs (shown 1) ∙ (ap length e ∙ (length-replicate m fresh_cell ∙ k)), known_nothing (map (shown 1) xs) m (fresh_view xs m e))
