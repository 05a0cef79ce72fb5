-- What callers see of the decider.
use Rattle.std.specs.Prelude.{List}
use Rattle.zi_reach.specs.declared.rule.Face.{Face}
use Rattle.zi_reach.specs.declared.rule.Turn.{Turn}

pub record ReachSeen : Type 0 where
  pub faces : List Face
  pub order : List Turn
