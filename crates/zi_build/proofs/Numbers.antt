-- What stands at a variable's number in the table of all variables, and so that different variables have different numbers.
use Rattle.std.proofs.Common.{◌≡◌, ℕ, zero, suc, ◌+◌, ◌-◌, ◌<◌, ◌≤◌, List, [], ◌∷◌, ◌++◌, length, get_or, refl, sym, ap, ◌∙◌, subst, arith, Some}
use Rattle.std.specs.Prelude.{slice_get}
use Rattle.std.proofs.lemmas.List.{get_or_append_left, get_or-append-add, length-append}
use Rattle.std.proofs.lemmas.Option.{slice_get_within, same_Some}
use Rattle.zi_parts.specs.declared.types.Command.{Command}
use Rattle.zi_universe.specs.declared.types.Candidate.{Candidate}
use Rattle.zi_universe.specs.declared.types.Interface.{Interface}
use Rattle.zi_choice.specs.Vars.{Var, Cand, Cmd, Wide, total, before, candidates_of, own_candidates, own_commands, all_commands, var_number, var_count}
use Rattle.zi_build.specs.Clauses.{each}
use Rattle.zi_build.specs.There.{Listed}
use Rattle.zi_choice.proofs.SumLaws.{before_below}
use Rattle.zi_build.proofs.Meaning.{IsAt}
use Rattle.zi_choice.proofs.Base.{interface_at, candidates_at}
use Rattle.zi_feed.specs.IdLaws.{none_some}

-- an item of lists that stand one after another
pub each_get : {A B : Type 0} (size : A → ℕ) (f : ℕ → A → List B) (fit : (n : ℕ) (x : A) → length (f n x) ≡ size x) (n : ℕ) (xs : List A) (i : ℕ) (x : A) (j : ℕ) (d : B) → slice_get xs i ≡ Some x → j < size x → get_or (each n f xs) (before size xs i + j) d ≡ get_or (f (n + i) x) j d
each_get size f fit n [] i x j d e l = absurd (none_some e)
each_get size f fit n (y ∷ ys) zero x j d e l =
    let same : y ≡ x = same_Some _ _ e in
    let q : 0 + j ≡ j = omega arith in
    let z : n ≡ n + 0 = omega arith in
    let fy : length (f n y) ≡ size y = fit n y in
    let s : size y ≡ size x = ap size same in
    let l2 : j < length (f n y) = omega (arith, l, fy, s) in
    ap (λ k. get_or (f n y ++ each (suc n) f ys) k d) q ∙ get_or_append_left (f n y) (each (suc n) f ys) d j l2 ∙ ap (λ v. get_or (f n v) j d) same ∙ ap (λ k. get_or (f k x) j d) z
each_get size f fit n (y ∷ ys) (suc i) x j d e l =
    let b = before size ys i in
    let fy : length (f n y) ≡ size y = fit n y in
    let q : (size y + b) + j ≡ length (f n y) + (b + j) = omega (arith, fy) in
    let z : suc n + i ≡ n + suc i = omega arith in
    ap (λ k. get_or (f n y ++ each (suc n) f ys) k d) q ∙ get_or-append-add (f n y) (each (suc n) f ys) (b + j) d ∙ each_get size f fit (suc n) ys i x j d e l ∙ ap (λ k. get_or (f k x) j d) z

pub each_length : {A B : Type 0} (size : A → ℕ) (f : ℕ → A → List B) (fit : (n : ℕ) (x : A) → length (f n x) ≡ size x) (n : ℕ) (xs : List A) → length (each n f xs) ≡ total size xs
each_length size f fit n [] = refl
each_length size f fit n (y ∷ ys) =
    let h = each_length size f fit (suc n) ys in
    let fy = fit n y in
    let a = length-append (f n y) (each (suc n) f ys) in
    omega (arith, h, fy, a)

-- one item for each
abbrev pub single : {A B : Type 0} → (ℕ → B) → ℕ → A → List B
single g n x = g n ∷ []

pub singles_get : {A B : Type 0} (g : ℕ → B) (n : ℕ) (xs : List A) (c : ℕ) (d : B) → c < length xs → get_or (each n (single g) xs) c d ≡ g (n + c)
singles_get g n [] c d l = absurd (omega (arith, l))
singles_get g n (x ∷ xs) zero d l = let z : n ≡ n + 0 = omega arith in ap g z
singles_get g n (x ∷ xs) (suc c) d l =
    let z : suc n + c ≡ n + suc c = omega arith in singles_get g (suc n) xs c d (omega (arith, l)) ∙ ap g z

pub singles_length : {A B : Type 0} (g : ℕ → B) (n : ℕ) (xs : List A) → length (each n (single g) xs) ≡ length xs
singles_length g n [] = refl
singles_length g n (x ∷ xs) = ap suc (singles_length g (suc n) xs)

-- the table of what a function gives for all variables, in their order
module _ {B : Type 0} (w : Var → B) where
  abbrev pub cand_row : ℕ → Interface → List B
  cand_row i x = each 0 (single (λ c. w (Cand i c))) x.candidates

  abbrev pub cmd_row : ℕ → ℕ → Candidate → List B
  cmd_row i c k = each 0 (single (λ n. w (Cmd i c n))) k.imp.commands

  abbrev pub cmds_row : ℕ → Interface → List B
  cmds_row i x = each 0 (cmd_row i) x.candidates

  pub cand_fit : (i : ℕ) (x : Interface) → length (cand_row i x) ≡ own_candidates x
  cand_fit i x = singles_length (λ c. w (Cand i c)) 0 x.candidates

  pub cmd_fit : (i c : ℕ) (k : Candidate) → length (cmd_row i c k) ≡ own_commands k
  cmd_fit i c k = singles_length (λ n. w (Cmd i c n)) 0 k.imp.commands

  pub cmds_fit : (i : ℕ) (x : Interface) → length (cmds_row i x) ≡ all_commands x
  cmds_fit i x = each_length own_commands (cmd_row i) (cmd_fit i) 0 x.candidates

  abbrev pub table : List Interface → List B
  table u = each 0 cand_row u ++ (each 0 cmds_row u ++ w Wide ∷ [])

  cand_there : (u : List Interface) (i c : ℕ) (k : Candidate) (d : B) → IsAt u i c k → get_or (table u) (before own_candidates u i + c) d ≡ w (Cand i c)
  cand_there u i c k d at =
      let x = interface_at u i c k at in
      let l : c < own_candidates x.0 = slice_get_within x.0.candidates c k x.2 in
      let below : before own_candidates u i + c < total own_candidates u = before_below own_candidates u i x.0 c x.1 l in
      let len : length (each 0 cand_row u) ≡ total own_candidates u = each_length own_candidates cand_row cand_fit 0 u in
      let z : 0 + c ≡ c = omega arith in
      let y : 0 + i ≡ i = omega arith in
      get_or_append_left (each 0 cand_row u) (each 0 cmds_row u ++ w Wide ∷ []) d (before own_candidates u i + c) (omega (arith, below, len))
      ∙ each_get own_candidates cand_row cand_fit 0 u i x.0 c d x.1 l
      ∙ singles_get (λ c. w (Cand (0 + i) c)) 0 x.0.candidates c d l
      ∙ ap (λ n. w (Cand (0 + i) n)) z
      ∙ ap (λ n. w (Cand n c)) y

  cmd_there : (u : List Interface) (i c n : ℕ) (k : Candidate) (m : Command) (d : B) → IsAt u i c k → slice_get k.imp.commands n ≡ Some m → get_or (table u) (total own_candidates u + (before all_commands u i + (before own_commands (candidates_of u i) c + n))) d ≡ w (Cmd i c n)
  cmd_there u i c n k m d at e =
      let x = interface_at u i c k at in
      let ks : candidates_of u i ≡ x.0.candidates = candidates_at u i x.0 x.1 in
      let l : n < own_commands k = slice_get_within k.imp.commands n m e in
      let inner : ℕ = before own_commands x.0.candidates c + n in
      let in_all : before own_commands x.0.candidates c + n < total own_commands x.0.candidates = before_below own_commands x.0.candidates c k n x.2 l in
      let outer : ℕ = before all_commands u i + inner in
      let below : before all_commands u i + (before own_commands x.0.candidates c + n) < total all_commands u = before_below all_commands u i x.0 (before own_commands x.0.candidates c + n) x.1 in_all in
      let len : length (each 0 cand_row u) ≡ total own_candidates u = each_length own_candidates cand_row cand_fit 0 u in
      let len2 : length (each 0 cmds_row u) ≡ total all_commands u = each_length all_commands cmds_row cmds_fit 0 u in
      let z : 0 + n ≡ n = omega arith in
      let y : 0 + i ≡ i = omega arith in
      let t : 0 + c ≡ c = omega arith in
      ap (λ q. get_or (table u) (total own_candidates u + (before all_commands u i + (before own_commands q c + n))) d) ks
      ∙ ap (λ q. get_or (table u) (q + outer) d) (sym len)
      ∙ get_or-append-add (each 0 cand_row u) (each 0 cmds_row u ++ w Wide ∷ []) outer d
      ∙ get_or_append_left (each 0 cmds_row u) (w Wide ∷ []) d outer (omega (arith, below, len2))
      ∙ each_get all_commands cmds_row cmds_fit 0 u i x.0 inner d x.1 in_all
      ∙ each_get own_commands (cmd_row (0 + i)) (cmd_fit (0 + i)) 0 x.0.candidates c k n d x.2 l
      ∙ singles_get (λ n. w (Cmd (0 + i) (0 + c) n)) 0 k.imp.commands n d l
      ∙ ap (λ q. w (Cmd (0 + i) (0 + c) q)) z
      ∙ ap (λ q. w (Cmd (0 + i) q n)) t
      ∙ ap (λ q. w (Cmd q c n)) y

  wide_there : (u : List Interface) (d : B) → get_or (table u) (total own_candidates u + total all_commands u) d ≡ w Wide
  wide_there u d =
      let len : length (each 0 cand_row u) ≡ total own_candidates u = each_length own_candidates cand_row cand_fit 0 u in
      let len2 : length (each 0 cmds_row u) ≡ total all_commands u = each_length all_commands cmds_row cmds_fit 0 u in
      let z : length (each 0 cmds_row u) ≡ length (each 0 cmds_row u) + 0 = omega arith in
      ap (λ q. get_or (table u) (q + total all_commands u) d) (sym len)
      ∙ get_or-append-add (each 0 cand_row u) (each 0 cmds_row u ++ w Wide ∷ []) (total all_commands u) d
      ∙ ap (λ q. get_or (each 0 cmds_row u ++ w Wide ∷ []) q d) (sym len2 ∙ z)
      ∙ get_or-append-add (each 0 cmds_row u) (w Wide ∷ []) 0 d

  less_one : (n : ℕ) → (1 + n) - 1 ≡ n
  less_one n = omega arith

  -- at a variable's number, less one, stands what the function gives for it
  pub at_number : (u : List Interface) (x : Var) (d : B) → Listed u x → get_or (table u) (var_number u x - 1) d ≡ w x
  at_number u (Cand i c) d h = ap (λ n. get_or (table u) n d) (less_one (before own_candidates u i + c)) ∙ cand_there u i c h.0 d h.1
  at_number u (Cmd i c n) d h = ap (λ n. get_or (table u) n d) (less_one (total own_candidates u + (before all_commands u i + (before own_commands (candidates_of u i) c + n)))) ∙ cmd_there u i c n h.0 h.1 d h.2 h.3
  at_number u Wide d h = ap (λ n. get_or (table u) n d) (less_one (total own_candidates u + total all_commands u)) ∙ wide_there u d

-- different variables have different numbers
pub one_number : (u : List Interface) (x y : Var) → Listed u x → Listed u y → var_number u x ≡ var_number u y → x ≡ y
one_number u x y h g e =
    sym (at_number (λ z. z) u x x h) ∙ ap (λ n. get_or (table (λ z. z) u) (n - 1) x) e ∙ at_number (λ z. z) u y x g

pub number_low : (u : List Interface) (x : Var) → 1 ≤ var_number u x
number_low u (Cand i c) = omega arith
number_low u (Cmd i c n) = omega arith
number_low u Wide = omega arith

pub number_high : (u : List Interface) (x : Var) → Listed u x → var_number u x ≤ var_count u
number_high u (Cand i c) h =
    let x = interface_at u i c h.0 h.1 in
    let l : c < own_candidates x.0 = slice_get_within x.0.candidates c h.0 x.2 in
    let b = before_below own_candidates u i x.0 c x.1 l in omega (arith, b)
number_high u (Cmd i c n) h =
    let x = interface_at u i c h.0 h.2 in
    let ks : candidates_of u i ≡ x.0.candidates = candidates_at u i x.0 x.1 in
    let l : n < own_commands h.0 = slice_get_within h.0.imp.commands n h.1 h.3 in
    let a : before own_commands (candidates_of u i) c + n < total own_commands x.0.candidates = subst (λ q. before own_commands q c + n < total own_commands x.0.candidates) (sym ks) (before_below own_commands x.0.candidates c h.0 n x.2 l) in
    let b = before_below all_commands u i x.0 (before own_commands (candidates_of u i) c + n) x.1 a in omega (arith, b)
number_high u Wide h = omega arith
