-- What is written, one constraint after another.
use Rattle.std.proofs.Common.{◌≡◌, ℕ, zero, suc, ◌+◌, ◌-◌, ◌<◌, ◌≤◌, ◌^◌, Bool, true, false, not, cond, ◌&&◌, List, [], ◌∷◌, ◌++◌, length, map, take, get_or, refl, sym, ap, ◌∙◌, subst, arith, Option, Some, None, Bor, append_assoc, inl, inr}
use Rattle.std.specs.Prelude.{slice_get, option_and_then, nat_lt}
use Rattle.std.proofs.lemmas.Bool.{false≢true, cases_lt, lt-ltb}
use Rattle.std.proofs.lemmas.Option.{slice_get-get_or}
use Rattle.zi_parts.specs.declared.types.Dep.{Dep}
use Rattle.zi_universe.specs.Whole.{IsWhole}
use Rattle.zi_choice.specs.Choice.{number, command_place, candidate_at}
use Rattle.zi_formula.specs.declared.formula.Lit.{Lit}
use Rattle.zi_choice.proofs.Base.{found_of, candidate_is, candidates_at, interface_at}
use Rattle.zi_choice.proofs.SumLaws.{total_few}
use Rattle.std.specs.List.{flat_map}
use Rattle.std.proofs.lemmas.List.{map-append, append-nil, take_all, take_more}
use Rattle.std.proofs.lemmas.Grind.{flat_map-append}
use Rattle.zi_universe.specs.declared.types.Candidate.{Candidate}
use Rattle.zi_universe.specs.declared.types.Interface.{Interface}
use Rattle.zi_formula.specs.declared.formula.Constraint.{Constraint}
use Rattle.zi_formula.specs.declared.formula.Constraint.TheVariants.{Clause}
use Rattle.zi_build.specs.declared.writing.Writer.{Writer}
use Rattle.zi_build.specs.declared.variables.VariableTable.{VariableTable}
use Rattle.zi_choice.specs.Vars.{Var, Cand, Cmd, total, before, own_candidates, own_commands, all_commands, candidates_of, var_number}
use Rattle.zi_build.specs.Clauses.{Rule, constraint_of, size_of, literals, each, same_var, same_says, Says, yes, no, without, once, clause, having, lit_of, need, needs, naming, named_by, admission, of_interface, of_candidate, among, at_target, keep, named_one}
use Rattle.zi_build.specs.There.{Listed}
use Rattle.zi_build.specs.Writing.{starts, IsTable, Holds, Puts, Adds}
use Rattle.zi_build.proofs.Numbers.{number_high, number_low}
use Rattle.zi_build.proofs.NumberLaws.{starts_at, command_starts_at}
use Rattle.zi_version.proofs.Steps.{and-false}

pub literals_app : (cs ds : List Constraint) → literals (cs ++ ds) ≡ literals cs + literals ds
literals_app [] ds = omega arith
literals_app (c ∷ cs) ds = let h = literals_app cs ds in omega (arith, h)

-- nothing comes behind those that are too many
pub put_past : (b : Bool) (v : Writer) (ds : List Constraint) → 8000000 < v.size → Puts b v ds v
put_past b v ds l cs h =
    let e = literals_app cs ds in
    record {
      few = λ f. absurd (omega (arith, l, f));
      many = λ m. let k = h.many m in omega (arith, e, k);
    }

-- one constraint more
pub put_over : (b : Bool) (v w : Writer) (c : Constraint) → v.size ≤ 8000000 → 8000000 - v.size < size_of c → w.size ≡ 8000001 → Puts b v (c ∷ []) w
put_over b v w c l m e cs h =
    let a = literals_app cs (c ∷ []) in
    let p = h.few l in
    let d = p.0 in
    record {
      few = λ f. absurd (omega (arith, e, f));
      many = λ g. omega (arith, a, d, m, l);
    }

pub put_more : (b : Bool) (v w : Writer) (c : Constraint) → v.size ≤ 8000000 → size_of c ≤ 8000000 - v.size → w.size ≡ v.size + size_of c → (b ≡ true → w.constraints ≡ v.constraints ++ c ∷ []) → Puts b v (c ∷ []) w
put_more b v w c l m e k cs h =
    let a = literals_app cs (c ∷ []) in
    let p = h.few l in
    let d = p.0 in
    record {
      few = λ f. (omega (arith, a, d, e), λ t. k t ∙ ap (λ xs. xs ++ c ∷ []) (p.1 t));
      many = λ g. absurd (omega (arith, g, e, m, l));
    }

-- the limit isn't passed
pub not_past : (n : ℕ) → nat_lt 8000000 n ≡ false → n ≤ 8000000
not_past n e = elim (cases_lt 8000000 n) [ inl l ↦ absurd (false≢true (sym e ∙ lt-ltb 8000000 n l)) | inr l ↦ l ]

-- nothing more, and one part behind the other
pub adds_none : (b : Bool) (u : List Interface) (v : Writer) → Adds b u v [] v
adds_none b u v cs h = subst (λ xs. Holds b v xs) (sym (append-nil cs)) h

pub adds_both : (b : Bool) (u : List Interface) (v w x : Writer) (rs ss : List Rule) → Adds b u v rs w → Adds b u w ss x → Adds b u v (rs ++ ss) x
adds_both b u v w x rs ss f g cs h =
    subst (λ xs. Holds b x xs) (append_assoc cs (map (constraint_of u) rs) (map (constraint_of u) ss) ∙ ap (λ xs. cs ++ xs) (sym (map-append (constraint_of u) rs ss))) (g (cs ++ map (constraint_of u) rs) (f cs h))

-- past the limit anything counts as written
pub adds_past : (b : Bool) (u : List Interface) (v : Writer) (rs : List Rule) → 8000000 < v.size → Adds b u v rs v
adds_past b u v rs l cs h =
    let e = literals_app cs (map (constraint_of u) rs) in
    record {
      few = λ f. absurd (omega (arith, l, f));
      many = λ m. let k = h.many m in omega (arith, e, k);
    }

pub adds_as : (b : Bool) (u : List Interface) (v w : Writer) (rs ss : List Rule) → rs ≡ ss → Adds b u v rs w → Adds b u v ss w
adds_as b u v w rs ss e f = subst (λ xs. Adds b u v xs w) e f

-- a constraint is that of a rule
pub puts_as : (b : Bool) (u : List Interface) (v w : Writer) (c : Constraint) (r : Rule) → c ≡ constraint_of u r → Puts b v (c ∷ []) w → Adds b u v (r ∷ []) w
puts_as b u v w c r e f = subst (λ d. Puts b v (d ∷ []) w) e f

-- what else a writer has doesn't matter
pub puts_beside : (b : Bool) (v x y w : Writer) (ds : List Constraint) → v.size ≡ x.size → v.constraints ≡ x.constraints → y.size ≡ w.size → y.constraints ≡ w.constraints → Puts b x ds y → Puts b v ds w
puts_beside b v x y w ds s t p q f cs h =
    let g : Holds b y (cs ++ ds) = f cs (record {
      few = λ l. (let r = h.few (subst (λ n. n ≤ 8000000) (sym s) l) in (r.0 ∙ s, λ k. sym t ∙ r.1 k));
      many = λ l. h.many (subst (λ n. 8000000 < n) (sym s) l);
    }) in
    record {
      few = λ l. (let r = g.few (subst (λ n. n ≤ 8000000) (sym p) l) in (r.0 ∙ p, λ k. sym q ∙ r.1 k));
      many = λ l. g.many (subst (λ n. 8000000 < n) (sym p) l);
    }

-- a clause that was written in the writer's room
pub wrote : (b : Bool) (u : List Interface) (v x w : Writer) (ls : List Lit) (r : Rule) → v.size ≡ x.size → v.constraints ≡ x.constraints → Clause ls ≡ constraint_of u r → Puts b x (Clause ls ∷ []) w → Adds b u v (r ∷ []) w
wrote b u v x w ls r s t e f = puts_as b u v w (Clause ls) r e (puts_beside b v x w w (Clause ls ∷ []) s t refl refl f)

-- one item more of a list that is gone through
each_next : {A B : Type 0} (n : ℕ) (f : ℕ → A → List B) (xs : List A) (i : ℕ) (x : A) → i < length xs → x ≡ get_or xs i x → each n f (take (suc i) xs) ≡ each n f (take i xs) ++ f (n + i) x
each_next n f [] i x l e = absurd (omega (arith, l))
each_next n f (y ∷ xs) zero x l e = let z : n ≡ n + 0 = omega arith in append-nil (f n y) ∙ ap (λ a. f n a) (sym e) ∙ ap (λ m. f m x) z
each_next n f (y ∷ xs) (suc i) x l e =
    let z : suc n + i ≡ n + suc i = omega arith in
    ap (λ bs. f n y ++ bs) (each_next (suc n) f xs i x (omega (arith, l)) e) ∙ sym (append_assoc (f n y) (each (suc n) f (take i xs)) (f (suc n + i) x)) ∙ ap (λ m. (f n y ++ each (suc n) f (take i xs)) ++ f m x) z

pub each_more : {A B : Type 0} (f : ℕ → A → List B) (xs : List A) (i : ℕ) (x : A) → i < length xs → x ≡ get_or xs i x → each 0 f (take (i + 1) xs) ≡ each 0 f (take i xs) ++ f i x
each_more f xs i x l e =
    let s : i + 1 ≡ suc i = omega arith in
    let z : 0 + i ≡ i = omega arith in
    ap (λ m. each 0 f (take m xs)) s ∙ each_next 0 f xs i x l e ∙ ap (λ m. each 0 f (take i xs) ++ f m x) z

-- a loop over a list adds what each item adds
pub adds_next : {A : Type 0} (b : Bool) (u : List Interface) (v w x : Writer) (f : ℕ → A → List Rule) (xs : List A) (i : ℕ) (a : A) → i < length xs → a ≡ get_or xs i a → Adds b u v (each 0 f (take i xs)) w → Adds b u w (f i a) x → Adds b u v (each 0 f (take (i + 1) xs)) x
adds_next b u v w x f xs i a l e g h = adds_as b u v x (each 0 f (take i xs) ++ f i a) (each 0 f (take (i + 1) xs)) (sym (each_more f xs i a l e)) (adds_both b u v w x (each 0 f (take i xs)) (f i a) g h)

-- numbers by the table
pub record Numbered (u : List Interface) (x : Var) (n : ℕ) : Type 0 where
  pub is : n ≡ var_number u x
  pub low : 1 ≤ n
  pub high : n < 2 ^ 32

pub numbered : (u : List Interface) (t : VariableTable) (x : Var) (n : ℕ) → IsTable u t → Listed u x → n ≡ var_number u x → Numbered u x n
numbered u t x n h there e =
    let a = number_high u x there in
    let b = number_low u x in
    let few = h.few in
    record { is = e; low = omega (arith, b, e); high = omega (arith, a, e, few) }

-- where a candidate's number and a command's stand
pub first_within : (u : List Interface) (t : VariableTable) (xs : List ℕ) (i c : ℕ) → IsTable u t → Listed u (Cand i c) → xs ≡ t.candidates → i < length xs
first_within u t xs i c h there e =
    let x = interface_at u i c there.0 there.1 in
    subst (λ ys. i < length ys) (sym (e ∙ h.candidates)) (starts_at own_candidates 1 u i x.0 0 x.1).1

pub first_at : (u : List Interface) (t : VariableTable) (xs : List ℕ) (i c : ℕ) → IsTable u t → Listed u (Cand i c) → xs ≡ t.candidates → Numbered u (Cand i c) (get_or xs i 0 + c)
first_at u t xs i c h there s =
    let x = interface_at u i c there.0 there.1 in
    let p : get_or xs i 0 ≡ 1 + before own_candidates u i = ap (λ ys. get_or ys i 0) (s ∙ h.candidates) ∙ (starts_at own_candidates 1 u i x.0 0 x.1).0 in
    numbered u t (Cand i c) (get_or xs i 0 + c) h there (omega (arith, p))

pub row_within : (u : List Interface) (t : VariableTable) (rows : List (List ℕ)) (i c n : ℕ) → IsTable u t → Listed u (Cmd i c n) → rows ≡ t.commands → i < length rows
row_within u t rows i c n h there e =
    let x = interface_at u i c there.0 there.2 in
    subst (λ ys. i < length ys) (sym (e ∙ h.commands)) (command_starts_at (1 + total own_candidates u) u i x.0 [] x.1).1

row_is : (u : List Interface) (t : VariableTable) (rows : List (List ℕ)) (row : List ℕ) (i : ℕ) (x : Interface) → IsTable u t → slice_get u i ≡ Some x → rows ≡ t.commands → row ≡ get_or rows i row → row ≡ starts own_commands ((1 + total own_candidates u) + before all_commands u i) x.candidates
row_is u t rows row i x h at s e = e ∙ ap (λ ys. get_or ys i row) (s ∙ h.commands) ∙ (command_starts_at (1 + total own_candidates u) u i x row at).0

pub command_within : (u : List Interface) (t : VariableTable) (rows : List (List ℕ)) (row : List ℕ) (i c n : ℕ) → IsTable u t → Listed u (Cmd i c n) → rows ≡ t.commands → row ≡ get_or rows i row → c < length row
command_within u t rows row i c n h there s e =
    let x = interface_at u i c there.0 there.2 in
    subst (λ ys. c < length ys) (sym (row_is u t rows row i x.0 h x.1 s e)) (starts_at own_commands ((1 + total own_candidates u) + before all_commands u i) x.0.candidates c there.0 0 x.2).1

pub command_at_place : (u : List Interface) (t : VariableTable) (rows : List (List ℕ)) (row : List ℕ) (i c n : ℕ) → IsTable u t → Listed u (Cmd i c n) → rows ≡ t.commands → row ≡ get_or rows i row → Numbered u (Cmd i c n) (get_or row c 0 + n)
command_at_place u t rows row i c n h there s e =
    let x = interface_at u i c there.0 there.2 in
    let p : get_or row c 0 ≡ ((1 + total own_candidates u) + before all_commands u i) + before own_commands x.0.candidates c =
    ap (λ ys. get_or ys c 0) (row_is u t rows row i x.0 h x.1 s e) ∙ (starts_at own_commands ((1 + total own_candidates u) + before all_commands u i) x.0.candidates c there.0 0 x.2).0 in
    let q : before own_commands (candidates_of u i) c ≡ before own_commands x.0.candidates c = ap (λ ks. before own_commands ks c) (candidates_at u i x.0 x.1) in
    numbered u t (Cmd i c n) (get_or row c 0 + n) h there (omega (arith, p, q))

-- a command by its place
pub named_place : (u v : List Interface) (j e : ℕ) (k : Candidate) (name : List ℕ) (o : Option ℕ) → v ≡ u → slice_get (candidates_of u j) e ≡ Some k → o ≡ option_and_then (λ (x : Candidate). command_place x name) (candidate_at v j e) → o ≡ command_place k name
named_place u v j e k name o n at f =
    f ∙ ap (λ w. option_and_then (λ (x : Candidate). command_place x name) (candidate_at w j e)) n ∙ ap (λ q. option_and_then (λ (x : Candidate). command_place x name) q) (candidate_is u j e ∙ at)

pub fits_command : (u : List Interface) (t : VariableTable) (i c n : ℕ) → IsTable u t → Listed u (Cmd i c n) → n < 2 ^ 32
fits_command u t i c n h there =
    let a = number_high u (Cmd i c n) there in
    let few = h.few in
    omega (arith, a, few)

-- what a name's place says
pub placed_there : (u : List Interface) (i c : ℕ) (k : Candidate) (name : List ℕ) (n : ℕ) → slice_get (candidates_of u i) c ≡ Some k → command_place k name ≡ Some n → Listed u (Cmd i c n)
placed_there u i c k name n e f = let r = found_of k name n f in (k, r.0, e, r.2)

-- the candidates of an interface
pub candidates_there : (u us : List Interface) (j : ℕ) (x : Interface) (cs : List Candidate) → us ≡ u → j < length u → x ≡ get_or us j x → cs ≡ x.candidates → cs ≡ candidates_of u j
candidates_there u us j x cs e l h f =
    let at : slice_get u j ≡ Some x = slice_get-get_or u j x l ∙ ap (λ y. Some y) (ap (λ v. get_or v j x) (sym e) ∙ sym h) in
    f ∙ sym (candidates_at u j x at)

own_few : (u : List Interface) (j : ℕ) → length (candidates_of u j) ≤ total own_candidates u
own_few [] j = omega arith
own_few (x ∷ u) zero = omega arith
own_few (x ∷ u) (suc j) = let h = own_few u j in omega (arith, h)

pub candidates_few : (u : List Interface) (j : ℕ) → IsWhole u → length (candidates_of u j) ≤ 65536
candidates_few u j h = let a = own_few u j in let b = total_few u h in omega (arith, a, b)

pub no_yes : (x z : Var) (ls : List Says) → without (no x) (yes z ∷ ls) ≡ yes z ∷ without (no x) ls
no_yes x z ls = ap (λ b. cond b (without (no x) ls) (yes z ∷ without (no x) ls)) (and-false (same_var x z))

pub having_stays : (x : Var) (j e : ℕ) (o : Option ℕ) → without (no x) (having j e o) ≡ having j e o
having_stays x j e None = refl
having_stays x j e (Some m) = no_yes x (Cmd j e m) []

having_once : (j e : ℕ) (o : Option ℕ) → once (having j e o) ≡ having j e o
having_once j e None = refl
having_once j e (Some m) = refl

pub once_wanted : (x : Var) (j e : ℕ) (o : Option ℕ) → once (no x ∷ having j e o) ≡ no x ∷ having j e o
once_wanted x j e o = ap (λ ls. no x ∷ without (no x) ls) (having_once j e o) ∙ ap (λ ls. no x ∷ ls) (having_stays x j e o)

pub without_app : (l : Says) (ms ns : List Says) → without l (ms ++ ns) ≡ without l ms ++ without l ns
without_app l [] ns = refl
without_app l (m ∷ ms) ns = at (same_says l m) (without_app l ms ns)
  where
    at : (b : Bool) → without l (ms ++ ns) ≡ without l ms ++ without l ns → cond b (without l (ms ++ ns)) (m ∷ without l (ms ++ ns)) ≡ cond b (without l ms) (m ∷ without l ms) ++ without l ns
    at true h = h
    at false h = ap (λ xs. m ∷ xs) h

pub once_against : (y x : Var) (j e : ℕ) (o : Option ℕ) → once (no y ∷ no x ∷ having j e o) ≡ no y ∷ (without (no y) (no x ∷ []) ++ having j e o)
once_against y x j e o =
    ap (λ ls. no y ∷ without (no y) ls) (once_wanted x j e o) ∙ ap (λ ls. no y ∷ ls) (without_app (no y) (no x ∷ []) (having j e o) ∙ ap (λ ls. without (no y) (no x ∷ []) ++ ls) (having_stays y j e o))

-- what dependencies need, one after another
needs_next : (u : List Interface) (y : Var) (ds : List Dep) (i : ℕ) (d : Dep) → i < length ds → d ≡ get_or ds i d → needs u y (take (suc i) ds) ≡ needs u y (take i ds) ++ need u y d
needs_next u y [] i d l e = absurd (omega (arith, l))
needs_next u y (x ∷ ds) zero d l e = append-nil (need u y x) ∙ ap (need u y) (sym e)
needs_next u y (x ∷ ds) (suc i) d l e = ap (λ rs. need u y x ++ rs) (needs_next u y ds i d (omega (arith, l)) e) ∙ sym (append_assoc (need u y x) (needs u y (take i ds)) (need u y d))

pub needs_more : (b : Bool) (u : List Interface) (y : Var) (ds : List Dep) (i : ℕ) (d : Dep) (v w x : Writer) → i < length ds → d ≡ get_or ds i d → Adds b u v (needs u y (take i ds)) w → Adds b u w (need u y d) x → Adds b u v (needs u y (take (i + 1) ds)) x
needs_more b u y ds i d v w x l e g h =
    let s : suc i ≡ i + 1 = omega arith in
    adds_as b u v x (needs u y (take i ds) ++ need u y d) (needs u y (take (i + 1) ds)) (sym (needs_next u y ds i d l e) ∙ ap (λ n. needs u y (take n ds)) s) (adds_both b u v w x (needs u y (take i ds)) (need u y d) g h)

-- pieces of dependencies
pub needs_join : (u : List Interface) (y : Var) (ds es : List Dep) → needs u y (ds ++ es) ≡ needs u y ds ++ needs u y es
needs_join u y [] es = refl
needs_join u y (d ∷ ds) es = ap (λ rs. need u y d ++ rs) (needs_join u y ds es) ∙ sym (append_assoc (need u y d) (needs u y ds) (needs u y es))

pub needs_piece : (b : Bool) (u : List Interface) (y : Var) (ps : List (Bor (List Dep))) (i : ℕ) (p : Bor (List Dep)) (v w x : Writer) → i < length ps → p ≡ get_or ps i p
    → Adds b u v (needs u y (flat_map (λ q. q.now) (take i ps))) w → Adds b u w (needs u y p.now) x → Adds b u v (needs u y (flat_map (λ q. q.now) (take (i + 1) ps))) x
needs_piece b u y ps i p v w x l e g h =
    let one : take (i + 1) ps ≡ take i ps ++ p ∷ [] = take_more ps i p l ∙ ap (λ z. take i ps ++ z ∷ []) (sym e) in
    let more : flat_map (λ q. q.now) (take (i + 1) ps) ≡ flat_map (λ q. q.now) (take i ps) ++ p.now =
    ap (flat_map (λ q. q.now)) one ∙ flat_map-append (λ q. q.now) (take i ps) (p ∷ []) ∙ ap (λ z. flat_map (λ q. q.now) (take i ps) ++ z) (append-nil p.now) in
    adds_as b u v x (needs u y (flat_map (λ q. q.now) (take i ps)) ++ needs u y p.now) (needs u y (flat_map (λ q. q.now) (take (i + 1) ps)))
    (sym (needs_join u y (flat_map (λ q. q.now) (take i ps)) p.now) ∙ ap (needs u y) (sym more))
    (adds_both b u v w x (needs u y (flat_map (λ q. q.now) (take i ps))) (needs u y p.now) g h)

pub needs_whole : (b : Bool) (u : List Interface) (y : Var) (ps : List (Bor (List Dep))) (i : ℕ) (ds : List Dep) (v w : Writer) → length ps ≤ i → flat_map (λ q. q.now) ps ≡ ds
    → Adds b u v (needs u y (flat_map (λ q. q.now) (take i ps))) w → Adds b u v (needs u y ds) w
needs_whole b u y ps i ds v w l e g =
    adds_as b u v w (needs u y (flat_map (λ q. q.now) (take i ps))) (needs u y ds) (ap (λ z. needs u y (flat_map (λ q. q.now) z)) (take_all i ps l) ∙ ap (needs u y) e) g

pub against_is : (u : List Interface) (y : Var) (j e : ℕ) (o : Option ℕ) (l m n p : List Lit) (a : Lit) → l ≡ [] → a ≡ lit_of u (no y) → m ≡ l ++ a ∷ [] → n ≡ m ++ map (lit_of u) (without (no y) (no (Cand j e) ∷ [])) → p ≡ n ++ map (lit_of u) (having j e o) → Clause p ≡ constraint_of u (clause (no y ∷ no (Cand j e) ∷ having j e o))
against_is u y j e o l m n p a f g h k q =
    let x : List Says = without (no y) (no (Cand j e) ∷ []) in
    let first : m ≡ lit_of u (no y) ∷ [] = h ∙ ap (λ z. z ++ a ∷ []) f ∙ ap (λ b. b ∷ []) g in
    let all : p ≡ map (lit_of u) (no y ∷ (x ++ having j e o)) =
    q ∙ ap (λ z. z ++ map (lit_of u) (having j e o)) (k ∙ ap (λ z. z ++ map (lit_of u) x) first) ∙ ap (λ z. lit_of u (no y) ∷ z) (sym (map-append (lit_of u) x (having j e o))) in
    ap (λ z. Clause z) (all ∙ ap (map (lit_of u)) (sym (once_against y (Cand j e) j e o)))

pub wanted_is : (u : List Interface) (e : ℕ) (o : Option ℕ) (l m n : List Lit) (a : Lit) → l ≡ [] → a ≡ lit_of u (no (Cand 0 e)) → m ≡ l ++ a ∷ [] → n ≡ m ++ map (lit_of u) (having 0 e o) → Clause n ≡ constraint_of u (clause (no (Cand 0 e) ∷ having 0 e o))
wanted_is u e o l m n a f g h k =
    let first : m ≡ lit_of u (no (Cand 0 e)) ∷ [] = h ∙ ap (λ z. z ++ a ∷ []) f ∙ ap (λ b. b ∷ []) g in
    let all : n ≡ map (lit_of u) (no (Cand 0 e) ∷ having 0 e o) = k ∙ ap (λ z. z ++ map (lit_of u) (having 0 e o)) first in
    ap (λ z. Clause z) (all ∙ ap (map (lit_of u)) (sym (once_wanted (Cand 0 e) 0 e o)))

pub kept : {A : Type 0} (b : Bool) (x : A) → b ≡ true → x ∷ [] ≡ keep b x
kept b x e = ap (λ c. keep c x) (sym e)

pub turned : (b c : Bool) → b ≡ c → b ≡ false → not c ≡ true
turned b c e f = ap not (sym e ∙ f)

pub adds_over : {A : Type 0} (b : Bool) (u : List Interface) (v w x : Writer) (f : ℕ → A → List Rule) (xs ys : List A) (i : ℕ) (a : A) → ys ≡ xs → i < length ys → a ≡ get_or ys i a → Adds b u v (each 0 f (take i xs)) w → Adds b u w (f i a) x → Adds b u v (each 0 f (take (i + 1) xs)) x
adds_over b u v w x f xs ys i a s l e g h = adds_next b u v w x f xs i a (subst (λ z. i < length z) s l) (e ∙ ap (λ z. get_or z i a) s) g h

naming_next : (u : List Interface) (y : Var) (d : Dep) (ns : List (List ℕ)) (i : ℕ) (n : List ℕ) → i < length ns → n ≡ get_or ns i n → naming u y d (take (suc i) ns) ≡ naming u y d (take i ns) ++ among u d (named_one y d n)
naming_next u y d [] i n l e = absurd (omega (arith, l))
naming_next u y d (x ∷ ns) zero n l e = append-nil (among u d (named_one y d x)) ∙ ap (λ m. among u d (named_one y d m)) (sym e)
naming_next u y d (x ∷ ns) (suc i) n l e = ap (λ rs. among u d (named_one y d x) ++ rs) (naming_next u y d ns i n (omega (arith, l)) e) ∙ sym (append_assoc (among u d (named_one y d x)) (naming u y d (take i ns)) (among u d (named_one y d n)))

pub naming_more : (b : Bool) (u : List Interface) (y : Var) (d : Dep) (j : ℕ) (ns ms : List (List ℕ)) (i : ℕ) (n : List ℕ) (v w x : Writer) → number u d.interface ≡ Some j → ms ≡ ns → i < length ms → n ≡ get_or ms i n → Adds b u v (naming u y d (take i ns)) w → Adds b u w (each 0 (named_one y d n j) (candidates_of u j)) x → Adds b u v (naming u y d (take (i + 1) ns)) x
naming_more b u y d j ns ms i n v w x t q l e g h =
    let s : suc i ≡ i + 1 = omega arith in
    let more : Adds b u w (among u d (named_one y d n)) x = adds_as b u w x (each 0 (named_one y d n j) (candidates_of u j)) (among u d (named_one y d n)) (ap (at_target u (named_one y d n)) (sym t)) h in
    adds_as b u v x (naming u y d (take i ns) ++ among u d (named_one y d n)) (naming u y d (take (i + 1) ns)) (sym (naming_next u y d ns i n (subst (λ z. i < length z) q l) (e ∙ ap (λ z. get_or z i n) q)) ∙ ap (λ k. naming u y d (take k ns)) s) (adds_both b u v w x (naming u y d (take i ns)) (among u d (named_one y d n)) g more)

pub push_over : {A : Type 0} (u : List Interface) (f : ℕ → A → List Says) (l m n : List Lit) (xs ys : List A) (i : ℕ) (a : A) → ys ≡ xs → i < length ys → a ≡ get_or ys i a → m ≡ l ++ map (lit_of u) (each 0 f (take i xs)) → n ≡ m ++ map (lit_of u) (f i a) → n ≡ l ++ map (lit_of u) (each 0 f (take (i + 1) xs))
push_over u f l m n xs ys i a s k e g h =
    h ∙ ap (λ z. z ++ map (lit_of u) (f i a)) g ∙ append_assoc l (map (lit_of u) (each 0 f (take i xs))) (map (lit_of u) (f i a)) ∙ ap (λ z. l ++ z) (sym (map-append (lit_of u) (each 0 f (take i xs)) (f i a)) ∙ ap (map (lit_of u)) (sym (each_more f xs i a (subst (λ z. i < length z) s k) (e ∙ ap (λ z. get_or z i a) s))))

naming_nowhere : (u : List Interface) (y : Var) (d : Dep) (ns : List (List ℕ)) → number u d.interface ≡ None → naming u y d ns ≡ []
naming_nowhere u y d [] e = refl
naming_nowhere u y d (n ∷ ns) e = ap (λ o. at_target u (named_one y d n) o ++ naming u y d ns) e ∙ naming_nowhere u y d ns e

pub need_nowhere : (u : List Interface) (y : Var) (d : Dep) → number u d.interface ≡ None → admission u y d d.kind ≡ need u y d
need_nowhere u y d e = sym (ap (λ rs. admission u y d d.kind ++ rs) (naming_nowhere u y d (named_by d) e) ∙ append-nil (admission u y d d.kind))

pub item_at : {A : Type 0} (xs : List A) (i : ℕ) → i < length xs → (x : A) × (x ≡ get_or xs i x) × (slice_get xs i ≡ Some x)
item_at [] i l = absurd (omega (arith, l))
item_at (x ∷ xs) zero l = (x, refl, refl)
item_at (x ∷ xs) (suc i) l = item_at xs i (omega (arith, l))

pub adds_interface : (b : Bool) (u : List Interface) (v w x : Writer) (i : ℕ) → i < length u → Adds b u v (each 0 (of_interface u) (take i u)) w → Adds b u w (each 0 (of_candidate u i) (candidates_of u i)) x → Adds b u v (each 0 (of_interface u) (take (i + 1) u)) x
adds_interface b u v w x i l g h =
    let r = item_at u i l in
    adds_next b u v w x (of_interface u) u i r.0 l r.1 g (adds_as b u w x (each 0 (of_candidate u i) (candidates_of u i)) (of_interface u i r.0) (ap (each 0 (of_candidate u i)) (candidates_at u i r.0 r.2)) h)
