-- What is known of a universe's constraints and of parts of them, for the search.
use Rattle.std.proofs.Common.{◌≡◌, ℕ, ◌+◌, ◌-◌, ◌<◌, ◌≤◌, ◌^◌, List, length, sym, ap, ◌∙◌, subst, arith}
use Rattle.zi_formula.specs.declared.formula.Formula.{Formula}
use Rattle.zi_formula.specs.Form.{WellFormed}
use Rattle.zi_universe.specs.declared.types.Requirement.{Requirement}
use Rattle.zi_universe.specs.declared.types.Interface.{Interface}
use Rattle.zi_choice.specs.Vars.{var_count}
use Rattle.zi_build.specs.Clauses.{formula, literals}
use Rattle.zi_build.specs.Answers.{IsBuilt}
use Rattle.zi_build.proofs.Formed.{is_formed}
use Rattle.zi_conflict.specs.Core.{only}
use Rattle.zi_conflict.specs.Resting.{numbers_to, IsPart}
use Rattle.zi_conflict.proofs.PartLaws.{only_formed, only_length, part_length, to_length}

pub built_few : (u : List Interface) (req : Requirement) (f : Formula) → IsBuilt u req f → length f.constraints ≤ 8000001
built_few u req f h =
    let e : length f.constraints ≡ length (formula u req).constraints = ap (λ (g : Formula). length g.constraints) h.is in
    let l : length (formula u req).constraints ≤ 1 + literals (formula u req).constraints = (is_formed u req).2 in
    let m : literals (formula u req).constraints ≤ 8000000 = h.few in
    omega (arith, e, l, m)

-- a formula has as many variables as its universe
pub built_variables : (u : List Interface) (req : Requirement) (f : Formula) (n : ℕ) → IsBuilt u req f → n ≡ f.variables → n < 4294967296 → var_count u < 4294967296
built_variables u req f n h e l =
    let a : f.variables ≡ var_count u = ap (λ (g : Formula). g.variables) h.is in
    omega (arith, a, e, l)

pub part_formed : (u : List Interface) (req : Requirement) (f g : Formula) (ns : List ℕ) → IsBuilt u req f → IsPart ns (numbers_to (length f.constraints)) → g ≡ only f ns → WellFormed g
part_formed u req f g ns h p e = subst WellFormed (sym e) (only_formed f ns h.formed p)

pub part_few : (u : List Interface) (req : Requirement) (f g : Formula) (ns : List ℕ) → IsBuilt u req f → IsPart ns (numbers_to (length f.constraints)) → g ≡ only f ns → length g.constraints + 1000 < 2 ^ 32 - 1
part_few u req f g ns h p e =
    let a : length g.constraints ≡ length ns = ap (λ (k : Formula). length k.constraints) e ∙ only_length f ns in
    let b = part_length ns (numbers_to (length f.constraints)) p in
    let c = to_length (length f.constraints) in
    let d = built_few u req f h in
    omega (arith, a, b, c, d)
