-- A clause that moves: what is in the rows then.
use Rattle.std.proofs.Common.{◌≡◌, ◌≢◌, ℕ, ◌<◌, ◌≤◌, ◌+◌, Bool, true, false, List, [], ◌∷◌, ◌++◌, length, get_or, set, take, refl, sym, ap, ◌∙◌, subst, arith, inl, inr, ◌⊎◌, All, swap_remove, Option, Some, None}
use Rattle.std.specs.List.{slice_get}
use Rattle.std.proofs.lemmas.Bool.{false≢true}
use Rattle.std.proofs.lemmas.List.{length-set}
use Rattle.zi_formula.specs.declared.formula.Lit.{Lit}
use Rattle.zi_formula.specs.declared.formula.Constraint.{Constraint}
use Rattle.zi_formula.specs.declared.formula.Constraint.TheVariants.{Clause, AtMostOne}
use Rattle.zi_formula.specs.Form.{ConstraintWithin, has_lit}
use Rattle.zi_proof.specs.Known.{Known, is_false}
use Rattle.zi_sat.specs.declared.pair.Pair.{Pair}
use Rattle.zi_sat.specs.declared.rows.Watcher.{Watcher}
use Rattle.zi_sat.specs.declared.watch.Visit.TheVariants.{Moves}
use Rattle.zi_sat.specs.Rows.{row_at, Has}
use Rattle.zi_sat.specs.Guard.{row_of, Held, HeldPair, Visited, Fits, AllFit, Blocks}
use Rattle.zi_sat.proofs.GuardLaws.{lit_within}
use Rattle.zi_sat.proofs.RowLaws.{row_other, add_grows, add_has, add_all, taken_keeps, taken_all, taken_front}
use Rattle.zi_sat.proofs.VisitLaws.{row_same, beside_held, Leaves}

-- what moves is a clause

pub moves_high : (n : ℕ) (c : Constraint) (l : Lit) (k : Known) (p s : Option Pair) (m : Pair) → ConstraintWithin n c → Visited c l k p s (Moves m) → m.first.variable ≤ n
moves_high n (AtMostOne xs) l k p s m w v = absurd v
moves_high n (Clause ls) l k None s m w v = absurd v
moves_high n (Clause ls) l k (Some p) s m w v = (lit_within n ls m.first w v.2).1

moves_open : (c : Constraint) (l : Lit) (k : Known) (p s : Option Pair) (m : Pair) → Visited c l k p s (Moves m) → is_false k m.first ≡ false
moves_open (AtMostOne xs) l k p s m v = absurd v
moves_open (Clause ls) l k None s m v = absurd v
moves_open (Clause ls) l k (Some p) s m v = v.4

pub moves_apart : (c : Constraint) (l : Lit) (k : Known) (p s : Option Pair) (m : Pair) → is_false k l ≡ true → Visited c l k p s (Moves m) → row_of m.first ≡ row_of l → ⊥
moves_apart c l k p s m f v e =
    false≢true (sym (moves_open c l k p s m v) ∙ (ap (is_false k) (row_same m.first l e) ∙ f))

moves_blocks : (h : ℕ → ℕ → Type 0) (i q : ℕ) (c : Constraint) (l : Lit) (k : Known) (p s : Option Pair) (m : Pair) → Held h i p c → Visited c l k p s (Moves m) → Blocks c q m.second
moves_blocks h i q (AtMostOne xs) l k p s m d v = absurd v
moves_blocks h i q (Clause ls) l k None s m d v = absurd v
moves_blocks h i q (Clause ls) l k (Some p) s m d v = (beside_held h i ls p l m.second v.0 d).0

pub moved_place : (rows more : List (List Watcher)) (l : Lit) (r j : ℕ) (w : Watcher) (k : Known) (p s : Option Pair) (m : Pair) (c : Constraint) → r ≡ row_of l → more ≡ set rows (row_of m.first) (row_at rows (row_of m.first) ++ w ∷ []) → is_false k l ≡ true → Visited c l k p s (Moves m) → j < length (row_at rows r) → j < length (row_at more r)
moved_place rows more l r j w k p s m c a f o v z =
    let apart : r ≡ row_of m.first → ⊥ = λ b. moves_apart c l k p s m o v (sym b ∙ a) in
    let same : row_at more r ≡ row_at rows r = ap (λ x. row_at x r) f ∙ row_other rows (row_of m.first) r (row_at rows (row_of m.first) ++ w ∷ []) apart in
    omega (arith, z, ap length same)

-- its watcher goes from the row of `l` to that of its new literal
pub record MovedRows (all : List Constraint) (rows less : List (List Watcher)) (l : Lit) (i r j q : ℕ) : Type 0 where
  pub leaves : Leaves rows less l i
  pub has : Has less q i
  pub fit : AllFit less all
  pub front : take j (row_at less r) ≡ take j (row_at rows r)
  pub bound : j ≤ length (row_at less r)
  pub len : length less ≡ length rows

pub moved_rows : (all : List Constraint) (rows more less : List (List Watcher)) (l : Lit) (r j : ℕ) (e d : Watcher) (k : Known) (p s : Option Pair) (m : Pair) (c : Constraint) → r ≡ row_of l → row_of m.first < length rows → r < length rows → j < length (row_at rows r) → ((d : Watcher) → e ≡ get_or (row_at rows r) j d) → more ≡ set rows (row_of m.first) (row_at rows (row_of m.first) ++ record { place = e.place; block = m.second } ∷ []) → less ≡ set more r (swap_remove (row_at more r) j d) → slice_get all e.place ≡ Some c → is_false k l ≡ true → Held (Has rows) e.place p c → Visited c l k p s (Moves m) → AllFit rows all → MovedRows all rows less l e.place r j (row_of m.first)
moved_rows all rows more less l r j e d k p s m c a x y z g f h i o t v w =
    let q : ℕ = row_of m.first in
    let n : Watcher = record { place = e.place; block = m.second } in
    let apart : r ≡ row_of m.first → ⊥ = λ b. moves_apart c l k p s m o v (sym b ∙ a) in
    let same : row_at more r ≡ row_at rows r = ap (λ x. row_at x r) f ∙ row_other rows (row_of m.first) r (row_at rows (row_of m.first) ++ record { place = e.place; block = m.second } ∷ []) apart in
    let size : length more ≡ length rows = ap length f ∙ length-set rows (row_of m.first) (row_at rows (row_of m.first) ++ record { place = e.place; block = m.second } ∷ []) in
    let low : r < length more = omega (arith, y, size) in
    let here : j < length (row_at more r) = omega (arith, z, ap length same) in
    let out = taken_front more less r j d low here h in
    record {
      leaves = λ b u x1. elim (taken_keeps more less r j d low here h b u (add_grows rows more (row_of m.first) (record { place = e.place; block = m.second }) x f b u x1)) [
        | inl has ↦ inl has
        | inr gone ↦ inr (gone.0 ∙ a, gone.1 e ∙ (ap (λ ws. (get_or ws j e).place) same ∙ ap (λ w. w.place) (sym (g e))))
      ];
      has = elim (taken_keeps more less r j d low here h (row_of m.first) e.place (add_has rows more (row_of m.first) (record { place = e.place; block = m.second }) x f)) [
        | inl has ↦ has
        | inr gone ↦ absurd (apart (sym gone.0))
      ];
      fit = taken_all (Fits all) more less r j d low here h (add_all (Fits all) rows more (row_of m.first) (record { place = e.place; block = m.second }) x f (c, i, moves_blocks (Has rows) e.place (row_of m.first) c l k p s m t v) w);
      front = out.0 ∙ ap (take j) same;
      bound = omega (arith, out.1, here);
      len = ap length h ∙ (length-set more r (swap_remove (row_at more r) j d) ∙ size);
    }
