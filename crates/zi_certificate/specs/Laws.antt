-- What certificates and refutations show, whoever made them.
use Rattle.std.specs.Prelude.{◌≡◌, List}
use Rattle.zi_proof.specs.declared.proof.Proof.{Proof}
use Rattle.zi_proof.specs.declared.proof.Certificate.{Certificate}
use Rattle.zi_universe.specs.declared.types.Requirement.{Requirement}
use Rattle.zi_universe.specs.declared.types.Interface.{Interface}
use Rattle.zi_choice.specs.Choice.{Choice}
use Rattle.zi_choice.specs.Valid.{IsValid, NoneIsValid}
use Rattle.zi_choice.specs.Best.{IsBest}
use Rattle.zi_certificate.specs.Certificates.{Excludes, Refutes}

-- a valid choice with a certificate is the best one
abbrev pub CertifiedIsBest : Type 0
CertifiedIsBest =
    (u : List Interface) (req : Requirement) (s : Choice) (c : Certificate) → IsValid u req s → Excludes u req s c → IsBest u req s

-- where there is a refutation no choice is valid
abbrev pub RefutedIsNone : Type 0
RefutedIsNone = (u : List Interface) (req : Requirement) (p : Proof) → Refutes u req p → NoneIsValid u req
