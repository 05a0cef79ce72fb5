-- Each command has a clause of two literals.
use Rattle.std.proofs.Common.{◌≡◌, ℕ, suc, ◌+◌, ◌*◌, ◌<◌, ◌≤◌, Bool, true, false, List, [], ◌∷◌, ◌++◌, length, map, sym, ap, ◌∙◌, subst, arith}
use Rattle.std.specs.Prelude.{nat_lt}
use Rattle.std.proofs.lemmas.Bool.{ltb-true}
use Rattle.std.proofs.lemmas.List.{map-append, length-map}
use Rattle.zi_parts.specs.declared.types.Command.{Command}
use Rattle.zi_universe.specs.declared.types.Requirement.{Requirement}
use Rattle.zi_universe.specs.declared.types.Candidate.{Candidate}
use Rattle.zi_universe.specs.declared.types.Interface.{Interface}
use Rattle.zi_choice.specs.Valid.{group}
use Rattle.zi_choice.specs.Vars.{Cand, Cmd, total, own_commands, all_commands, candidates_of, var_count}
use Rattle.zi_build.specs.Clauses.{Rule, Says, yes, no, once, clause, each, literals, lit_of, constraint_of, of_command, of_candidate, of_interface, of_width, needs, of_requirement, group_of, root_one, rules, formula}
use Rattle.zi_formula.specs.declared.formula.Constraint.{Constraint}
use Rattle.zi_formula.specs.declared.formula.Formula.{Formula}
use Rattle.zi_formula.specs.Form.{WellFormed}
use Rattle.zi_build.specs.declared.writing.Writer.{Writer}
use Rattle.zi_build.specs.Writing.{Holds, Adds}
use Rattle.zi_build.specs.Answers.{IsBuilt}
use Rattle.zi_build.proofs.Formed.{is_formed}
use Rattle.zi_build.proofs.WriteLaws.{literals_app, no_yes, not_past}

abbrev size : List Interface → List Rule → ℕ
size u rs = literals (map (constraint_of u) rs)

size_app : (u : List Interface) (rs ss : List Rule) → size u (rs ++ ss) ≡ size u rs + size u ss
size_app u rs ss = ap literals (map-append (constraint_of u) rs ss) ∙ literals_app (map (constraint_of u) rs) (map (constraint_of u) ss)

two_there : (i c n : ℕ) → length (once (no (Cmd i c n) ∷ yes (Cand i c) ∷ [])) ≡ 2
two_there i c n = ap (λ ls. length (no (Cmd i c n) ∷ ls)) (no_yes (Cmd i c n) (Cand i c) [])

two_more : (u : List Interface) (i c n : ℕ) (m : Command) → 2 ≤ size u (of_command u i c n m)
two_more u i c n m =
    let ls : List Says = once (no (Cmd i c n) ∷ yes (Cand i c) ∷ []) in
    let e = two_there i c n in
    let f : length (map (lit_of u) ls) ≡ length ls = length-map ls (lit_of u) in omega (arith, e, f)

of_commands : (u : List Interface) (i c n : ℕ) (ms : List Command) → 2 * length ms ≤ size u (each n (of_command u i c) ms)
of_commands u i c n [] = omega arith
of_commands u i c n (m ∷ ms) =
    let a = two_more u i c n m in
    let b = of_commands u i c (suc n) ms in
    let d = size_app u (of_command u i c n m) (each (suc n) (of_command u i c) ms) in omega (arith, a, b, d)

of_one : (u : List Interface) (i c : ℕ) (k : Candidate) → 2 * own_commands k ≤ size u (of_candidate u i c k)
of_one u i c k =
    let a = of_commands u i c 0 k.imp.commands in
    let ws : List Rule = of_width (Cand i c) (group k) in
    let ns : List Rule = needs u (Cand i c) k.imp.deps in
    let b = size_app u ws (ns ++ each 0 (of_command u i c) k.imp.commands) in
    let d = size_app u ns (each 0 (of_command u i c) k.imp.commands) in omega (arith, a, b, d)

of_candidates : (u : List Interface) (i n : ℕ) (ks : List Candidate) → 2 * total own_commands ks ≤ size u (each n (of_candidate u i) ks)
of_candidates u i n [] = omega arith
of_candidates u i n (k ∷ ks) =
    let a = of_one u i n k in
    let b = of_candidates u i (suc n) ks in
    let d = size_app u (of_candidate u i n k) (each (suc n) (of_candidate u i) ks) in omega (arith, a, b, d)

of_interfaces : (u : List Interface) (n : ℕ) (xs : List Interface) → 2 * total all_commands xs ≤ size u (each n (of_interface u) xs)
of_interfaces u n [] = omega arith
of_interfaces u n (x ∷ xs) =
    let a = of_candidates u n 0 x.candidates in
    let b = of_interfaces u (suc n) xs in
    let d = size_app u (of_interface u n x) (each (suc n) (of_interface u) xs) in omega (arith, a, b, d)

-- so the commands alone can make too many literals
pub commands_within : (u : List Interface) (req : Requirement) → 2 * total all_commands u ≤ literals (formula u req).constraints
commands_within u req =
    let first : List Rule = clause (each 0 root_one (candidates_of u 0)) ∷ [] in
    let q : List Rule = of_requirement u req.command in
    let g : List Rule = each 0 group_of u in
    let m : List Rule = each 0 (of_interface u) u in
    let a = of_interfaces u 0 u in
    let b = size_app u first (q ++ (g ++ m)) in
    let d = size_app u q (g ++ m) in
    let e = size_app u g m in omega (arith, a, b, d, e)

-- what has been counted from nothing on
pub counted : (b : Bool) (u : List Interface) (req : Requirement) (v w : Writer) → v.size ≡ 0 → v.constraints ≡ [] → Adds b u v (rules u req) w → Holds b w (formula u req).constraints
counted b u req v w e f g =
    g [] (record {
      few = λ l. (sym e, λ t. f);
      many = λ l. absurd (omega (arith, e, l));
    })

-- past the limit the constraints have too many literals, and within it they are those that were kept
pub too_many : (b : Bool) (u : List Interface) (req : Requirement) (w : Writer) → nat_lt 8000000 w.size ≡ true → Holds b w (formula u req).constraints → 8000000 < literals (formula u req).constraints
too_many b u req w e h = h.many (ltb-true 8000000 w.size e)

pub all_kept : (b : Bool) (u : List Interface) (req : Requirement) (w : Writer) → b ≡ true → nat_lt 8000000 w.size ≡ false → Holds b w (formula u req).constraints → (w.constraints ≡ (formula u req).constraints) × (literals (formula u req).constraints ≤ 8000000)
all_kept b u req w kept e h = let l = not_past w.size e in let p = h.few l in let q = p.0 in (p.1 kept, omega (arith, l, q))

-- the formula, where it is kept whole
pub built : (u : List Interface) (req : Requirement) (last : ℕ) (cs : List Constraint) → last ≡ var_count u → cs ≡ (formula u req).constraints → literals (formula u req).constraints ≤ 8000000 → IsBuilt u req (record { variables = last; constraints = cs })
built u req last cs e f few =
    let is : ◌≡◌ {A = Formula} (record { variables = last; constraints = cs }) (formula u req) = ap (λ n. record { variables = n; constraints = cs }) e ∙ ap (λ ds. record { variables = var_count u; constraints = ds }) f in
    let formed = is_formed u req in
    let n = formed.2 in
    record {
      is = is;
      few = few;
      formed = subst (λ g. WellFormed g) (sym is) (record { within = formed.0; once = formed.1; few = omega (arith, n, few) });
    }
