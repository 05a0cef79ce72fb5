-- What is answered for a universe and a requirement.
use Rattle.std.specs.Prelude.{◌≡◌, ◌<◌, ◌≤◌, List, Option, Some, None}
use Rattle.zi_formula.specs.declared.formula.Constraint.{Constraint}
use Rattle.zi_formula.specs.declared.formula.Formula.{Formula}
use Rattle.zi_formula.specs.Form.{WellFormed}
use Rattle.zi_universe.specs.declared.types.Requirement.{Requirement}
use Rattle.zi_universe.specs.declared.types.Interface.{Interface}
use Rattle.zi_build.specs.declared.building.BuildFault.{BuildFault}
use Rattle.zi_build.specs.declared.building.BuildFault.TheVariants.{TooLarge, Memory}
use Rattle.zi_build.specs.Clauses.{formula, literals, most_literals}

-- the constraints, whose literals are within the limit; none where they are too many
abbrev pub AreKept : List Interface → Requirement → Option (List Constraint) → Type 0
AreKept u req None = most_literals < literals (formula u req).constraints
AreKept u req (Some cs) = (cs ≡ (formula u req).constraints) × (literals (formula u req).constraints ≤ most_literals)

-- the formula, whose literals are within the limit
pub record IsBuilt (u : List Interface) (req : Requirement) (f : Formula) : Type 0 where
  pub is : f ≡ formula u req
  pub few : literals (formula u req).constraints ≤ most_literals
  pub formed : WellFormed f

-- too large exactly where its literals pass the limit; want of memory says nothing
abbrev pub FaultMeans : List Interface → Requirement → BuildFault → Type 0
FaultMeans u req (TooLarge limit) = (limit ≡ most_literals) × (most_literals < literals (formula u req).constraints)
FaultMeans u req Memory = Unit {0}
