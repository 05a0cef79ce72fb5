-- Of what a core is.
use Rattle.zi_formula.specs.declared.formula.Formula.{Formula}
use Rattle.zi_universe.specs.Whole.{BeginsWith}
use Rattle.zi_build.specs.Answers.{IsBuilt}
use Rattle.zi_conflict.specs.declared.cores.Ground.{Ground}

abbrev pub formula_of : Ground → Formula
formula_of on = on.formula.now

-- a core is of a universe that was loaded, and of its formula
pub record IsGround (on : Ground) : Type 0 where
  pub rooted : BeginsWith on.universe.now on.req.now.interface
  pub built : IsBuilt on.universe.now on.req.now on.formula.now
