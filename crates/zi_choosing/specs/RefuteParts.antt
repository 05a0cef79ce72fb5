-- Parts of the work of `refute`.
use Rattle.std.specs.Prelude.{◌≡◌, ℕ, ◌⊎◌, List}
use Rattle.zi_outside.specs.Views.{Sinking}
use Rattle.zi_universe.specs.declared.types.Interface.{Interface}
use Rattle.zi_universe.specs.declared.types.Requirement.{Requirement}
use Rattle.zi_proof.specs.declared.proof.Certificate.{Certificate}
use Rattle.zi_proof.specs.declared.fault.ProofFault.TheVariants.{Bad}
use Rattle.zi_proof.specs.ProofText.{IsProofText, FaultMeans}
use Rattle.zi_outcome.specs.declared.outcome.Outcome.{Outcome}
use Rattle.zi_outcome.specs.declared.outcome.Outcome.TheVariants.{TooLarge, BadProof, Rejected, Memory}
use Rattle.zi_outcome.specs.Writing.{Prints}
use Rattle.zi_world.specs.Files.{GetsWithin, IsMissing}
use Rattle.zi_choosing.specs.Loaded.{Lent}
use Rattle.zi_choosing.specs.Refute.{proof_limit, yes_line, IsRight, IsWrong, IsTooLarge}

-- a certificate as a refutation: nothing is written, and this is why
abbrev pub IsNone : Requirement → List Interface → Certificate → Outcome → Type 0
IsNone req universe c Rejected = IsWrong universe req c
IsNone req universe c (TooLarge limit) = IsTooLarge universe req c limit
IsNone req universe c Memory = Unit {0}
IsNone req universe c other = ⊥

-- what the check of it says
abbrev pub ChecksRead : Requirement → List Interface → Certificate → Sinking → Sinking → Outcome → Type 0
ChecksRead req universe c old new outcome =
    (IsRight universe req c × Prints yes_line old new outcome) ⊎ (IsNone req universe c outcome × (new ≡ old))

-- the bytes are no proof, or memory was refused
abbrev pub IsUnreadable : List ℕ → Outcome → Type 0
IsUnreadable bytes (BadProof line) = FaultMeans bytes (Bad line)
IsUnreadable bytes Memory = Unit {0}
IsUnreadable bytes other = ⊥

-- what the check of bytes says
abbrev pub ChecksText : Requirement → List Interface → List ℕ → Sinking → Sinking → Outcome → Type 0
ChecksText req universe bytes old new outcome =
    ((c : Certificate) × IsProofText bytes c × ChecksRead req universe c old new outcome) ⊎ (IsUnreadable bytes outcome × (new ≡ old))

-- what the check of a file says
abbrev pub ChecksFile : Requirement → List Interface → List ℕ → Lent → Lent → Outcome → Type 0
ChecksFile req universe name before after outcome =
    ((bytes : List ℕ) × GetsWithin proof_limit name before.feeds after.feeds bytes × ChecksText req universe bytes before.out after.out outcome)
    ⊎ (IsMissing proof_limit name before.feeds after.feeds outcome × (after.out ≡ before.out))
