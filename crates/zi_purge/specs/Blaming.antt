-- What a call named at which the shelf failed.
use Rattle.std.specs.Prelude.{◌≡◌, ℕ, Option, Some, None}
use Rattle.zi_purge.specs.declared.phase.Phase.{Phase as KeptPhase}
use Rattle.zi_purge.specs.declared.phase.Phase.TheVariants.{IsStuck}
use Rattle.zi_purge.specs.declared.purge.Purge.{Purge}
use Rattle.zi_purge.specs.declared.step.PurgeStep.{PurgeStep}
use Rattle.zi_purge.specs.declared.step.PurgeStep.TheVariants.{Fault}

abbrev pub blamed_in : KeptPhase → ℕ → Option ℕ
blamed_in IsStuck n = Some n
blamed_in p n = None

-- the number of the temporary name that it named, if it named one
abbrev pub blamed : Purge → Option ℕ
blamed x = blamed_in x.phase x.number

-- after a fault the purger tells which
abbrev pub Blames : PurgeStep → Option ℕ → Type 0
Blames (Fault tmp) number = number ≡ tmp
Blames step number = Unit {0}
