-- What comes of an error of the system.
use Rattle.std.specs.Prelude.{◌≡◌, ◌≢◌, Result, Err}
use Rattle.std.specs.IoError.{error_kind}
use Rattle.std.specs.declared.io.Error.{Error}
use Rattle.std.specs.declared.io.ErrorKind.TheVariants.{OutOfMemory}
use Rattle.zi_edge.specs.declared.trouble.Reason.{Reason}
use Rattle.zi_edge.specs.declared.trouble.Reason.TheVariants.{System}
use Rattle.zi_edge.specs.declared.trouble.Trouble.{Trouble}
use Rattle.zi_edge.specs.declared.trouble.Trouble.TheVariants.{Failed, Memory}

-- want of memory is that, and every other error a failure
pub record IsTroubleOf (error : Error) (t : Trouble) : Type 0 where
  pub memory : error_kind error ≡ OutOfMemory → t ≡ Memory
  pub failed : error_kind error ≢ OutOfMemory → t ≡ Failed (System error)

-- it is a failure, and no want of memory
abbrev pub IsFailure : Trouble → Type 0
IsFailure t = (reason : Reason) × (t ≡ Failed reason)

-- a call that failed, and lacked no memory
abbrev pub Fails : {X : Type 0} → Result X Trouble → Type 0
Fails result = (reason : Reason) × (result ≡ Err (Failed reason))
