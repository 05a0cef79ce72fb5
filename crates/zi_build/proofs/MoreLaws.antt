-- What a command adds, and clauses of candidates, each of which stands once.
use Rattle.std.proofs.Common.{◌≡◌, ℕ, suc, ◌==◌, ◌<◌, Bool, true, false, cond, ◌&&◌, List, [], ◌∷◌, ◌++◌, length, map, refl, sym, ap, ◌∙◌, subst, arith, Option, Some, None, ne_eqb}
use Rattle.std.specs.Prelude.{slice_get}
use Rattle.zi_parts.specs.declared.types.Dep.{Dep}
use Rattle.zi_choice.specs.Choice.{needs_of, with_runner}
use Rattle.zi_formula.specs.declared.formula.Lit.{Lit}
use Rattle.std.proofs.lemmas.List.{append-nil}
use Rattle.zi_universe.specs.declared.types.Candidate.{Candidate}
use Rattle.zi_universe.specs.declared.types.Interface.{Interface}
use Rattle.zi_formula.specs.declared.formula.Constraint.TheVariants.{Clause}
use Rattle.zi_build.specs.declared.writing.Writer.{Writer}
use Rattle.zi_choice.specs.Vars.{Var, Cand, Cmd, candidates_of}
use Rattle.zi_build.specs.Clauses.{Rule, constraint_of, each, yes, no, without, once, clause, lit_of, need, needs, at_target, keep, admitted_one, is_admitted, of_command, root_one}
use Rattle.zi_build.specs.There.{Listed}
use Rattle.zi_build.specs.Writing.{Puts, Adds}
use Rattle.zi_parts.specs.declared.types.Command.{Command}
use Rattle.zi_parts.specs.declared.types.Runner.{Runner}
use Rattle.zi_build.proofs.WriteLaws.{adds_both, adds_as, puts_as, item_at, no_yes, without_app, needs_join}

pub command_clause : ℕ → ℕ → ℕ → Rule
command_clause i c n = clause (no (Cmd i c n) ∷ yes (Cand i c) ∷ [])

pub command_adds : (keeps : Bool) (u : List Interface) (i c n : ℕ) (m : Command) (r : Runner) (v w x z : Writer) (a b : Lit) → a ≡ lit_of u (no (Cmd i c n)) → b ≡ lit_of u (yes (Cand i c)) → m.runner ≡ Some r → Puts keeps v (Clause (a ∷ b ∷ []) ∷ []) w → Adds keeps u w (needs u (Cmd i c n) m.deps) x → Adds keeps u x (need u (Cmd i c n) r.dep) z → Adds keeps u v (of_command u i c n m) z
command_adds keeps u i c n m r v w x z a b e f g p q s =
    let y : Var = Cmd i c n in
    let first : Adds keeps u v (clause (no y ∷ yes (Cand i c) ∷ []) ∷ []) w = puts_as keeps u v w (Clause (a ∷ b ∷ [])) (clause (no y ∷ yes (Cand i c) ∷ [])) (ap (λ k. Clause (k ∷ b ∷ [])) e ∙ ap (λ k. Clause (lit_of u (no y) ∷ k ∷ [])) f) p in
    let more : Adds keeps u w (needs u y m.deps ++ need u y r.dep) z = adds_both keeps u w x z (needs u y m.deps) (need u y r.dep) q s in
    let same : needs u y m.deps ++ need u y r.dep ≡ needs u y (needs_of m) =
    sym (needs_join u y m.deps (r.dep ∷ []) ∙ ap (λ rs. needs u y m.deps ++ rs) (append-nil (need u y r.dep))) ∙ ap (λ o. needs u y (with_runner m.deps o)) (sym g) in
    adds_both keeps u v w z (clause (no y ∷ yes (Cand i c) ∷ []) ∷ []) (needs u y (needs_of m)) first (adds_as keeps u w z (needs u y m.deps ++ need u y r.dep) (needs u y (needs_of m)) same more)

pub command_item : (u : List Interface) (i c n : ℕ) (k : Candidate) (ms : List Command) → slice_get (candidates_of u i) c ≡ Some k → ms ≡ k.imp.commands → n < length ms → Listed u (Cmd i c n)
command_item u i c n k ms e f l = let r = item_at k.imp.commands n (subst (λ z. n < length z) f l) in (k, r.0, e, r.2)

-- the admitted candidates, each once
keep_no : (y z : Var) (b : Bool) → without (no y) (keep b (yes z)) ≡ keep b (yes z)
keep_no y z true = no_yes y z []
keep_no y z false = refl

no_each : (y : Var) (d : Dep) (j n : ℕ) (ks : List Candidate) → without (no y) (each n (admitted_one d j) ks) ≡ each n (admitted_one d j) ks
no_each y d j n [] = refl
no_each y d j n (k ∷ ks) =
    without_app (no y) (admitted_one d j n k) (each (suc n) (admitted_one d j) ks)
    ∙ ap (λ ls. ls ++ without (no y) (each (suc n) (admitted_one d j) ks)) (keep_no y (Cand j n) (is_admitted d k))
    ∙ ap (λ ls. admitted_one d j n k ++ ls) (no_each y d j (suc n) ks)

and_off : (b c : Bool) → c ≡ false → ((b && c) && true) ≡ false
and_off true c e = ap (λ x. x && true) e
and_off false c e = refl

keep_yes : (j i n : ℕ) (b : Bool) → i < n → without (yes (Cand j i)) (keep b (yes (Cand j n))) ≡ keep b (yes (Cand j n))
keep_yes j i n true l = ap (λ c. cond c [] (yes (Cand j n) ∷ [])) (and_off (j == j) (i == n) (ne_eqb i n (λ e. omega (arith, e, l))))
keep_yes j i n false l = refl

yes_each : (d : Dep) (j i n : ℕ) (ks : List Candidate) → i < n → without (yes (Cand j i)) (each n (admitted_one d j) ks) ≡ each n (admitted_one d j) ks
yes_each d j i n [] l = refl
yes_each d j i n (k ∷ ks) l =
    without_app (yes (Cand j i)) (admitted_one d j n k) (each (suc n) (admitted_one d j) ks)
    ∙ ap (λ ls. ls ++ without (yes (Cand j i)) (each (suc n) (admitted_one d j) ks)) (keep_yes j i n (is_admitted d k) l)
    ∙ ap (λ ls. admitted_one d j n k ++ ls) (yes_each d j i (suc n) ks (omega (arith, l)))

once_each : (d : Dep) (j n : ℕ) (ks : List Candidate) → once (each n (admitted_one d j) ks) ≡ each n (admitted_one d j) ks
once_each d j n [] = refl
once_each d j n (k ∷ ks) = at (is_admitted d k) (once_each d j (suc n) ks)
  where
    at : (b : Bool) → once (each (suc n) (admitted_one d j) ks) ≡ each (suc n) (admitted_one d j) ks → once (keep b (yes (Cand j n)) ++ each (suc n) (admitted_one d j) ks) ≡ keep b (yes (Cand j n)) ++ each (suc n) (admitted_one d j) ks
    at true h = ap (λ ls. yes (Cand j n) ∷ without (yes (Cand j n)) ls) h ∙ ap (λ ls. yes (Cand j n) ∷ ls) (yes_each d j n (suc n) ks (omega arith))
    at false h = h

pub once_target : (u : List Interface) (y : Var) (d : Dep) (o : Option ℕ) → once (no y ∷ at_target u (admitted_one d) o) ≡ no y ∷ at_target u (admitted_one d) o
once_target u y d None = refl
once_target u y d (Some j) = ap (λ ls. no y ∷ without (no y) ls) (once_each d j 0 (candidates_of u j)) ∙ ap (λ ls. no y ∷ ls) (no_each y d j 0 (candidates_of u j))

pub target_is : (u : List Interface) (y : Var) (d : Dep) (o : Option ℕ) (l m n : List Lit) (a : Lit) → l ≡ [] → a ≡ lit_of u (no y) → m ≡ l ++ a ∷ [] → n ≡ m ++ map (lit_of u) (at_target u (admitted_one d) o) → Clause n ≡ constraint_of u (clause (no y ∷ at_target u (admitted_one d) o))
target_is u y d o l m n a e f g h =
    let first : m ≡ lit_of u (no y) ∷ [] = g ∙ ap (λ z. z ++ a ∷ []) e ∙ ap (λ b. b ∷ []) f in
    ap (λ z. Clause z) (h ∙ ap (λ z. z ++ map (lit_of u) (at_target u (admitted_one d) o)) first ∙ ap (map (lit_of u)) (sym (once_target u y d o)))

-- the root's candidates, each once
yes_root : (i n : ℕ) (ks : List Candidate) → i < n → without (yes (Cand 0 i)) (each n root_one ks) ≡ each n root_one ks
yes_root i n [] l = refl
yes_root i n (k ∷ ks) l =
    ap (λ c. cond c (without (yes (Cand 0 i)) (each (suc n) root_one ks)) (yes (Cand 0 n) ∷ without (yes (Cand 0 i)) (each (suc n) root_one ks))) (and_off (0 == 0) (i == n) (ne_eqb i n (λ e. omega (arith, e, l))))
    ∙ ap (λ ls. yes (Cand 0 n) ∷ ls) (yes_root i (suc n) ks (omega (arith, l)))

once_root : (n : ℕ) (ks : List Candidate) → once (each n root_one ks) ≡ each n root_one ks
once_root n [] = refl
once_root n (k ∷ ks) = ap (λ ls. yes (Cand 0 n) ∷ without (yes (Cand 0 n)) ls) (once_root (suc n) ks) ∙ ap (λ ls. yes (Cand 0 n) ∷ ls) (yes_root n (suc n) ks (omega arith))

pub root_is : (u : List Interface) (ks js : List Candidate) (n : List Lit) → js ≡ ks → n ≡ map (lit_of u) (each 0 root_one js) → Clause n ≡ constraint_of u (clause (each 0 root_one ks))
root_is u ks js n s h = ap (λ z. Clause z) (h ∙ ap (λ z. map (lit_of u) (each 0 root_one z)) s ∙ ap (map (lit_of u)) (sym (once_root 0 ks)))
