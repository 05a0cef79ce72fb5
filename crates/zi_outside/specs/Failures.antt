-- What is seen of the failures of an object in memory.
use Rattle.std.specs.Prelude.{ℕ, List}

-- the numbers of the calls that are to fail, and how often one has failed
pub record Failures : Type 0 where
  pub plan : List ℕ
  pub faults : ℕ
