-- The trail of a search has the blocks of its choice.
use Rattle.std.specs.Prelude.{◌≡◌, true, List, [], ◌∷◌}
use Rattle.zi_formula.specs.declared.formula.Formula.{Formula}
use Rattle.zi_formula.specs.Truth.{Models}
use Rattle.zi_proof.specs.declared.proof.Lemma.{Lemma}
use Rattle.zi_proof.specs.Known.{nothing}
use Rattle.zi_proof.specs.Accepted.{citable, accepted, follows}
use Rattle.zi_sat.specs.declared.entry.Entry.{Entry}
use Rattle.zi_sat.specs.Trail.{lits_of, learn, OpenAll}
use Rattle.zi_sat.specs.Moves.{Lawful}
use Rattle.zi_sat.specs.Ends.{values_of, AreDecided}
use Rattle.zi_universe.specs.declared.types.Requirement.{Requirement}
use Rattle.zi_universe.specs.declared.types.Interface.{Interface}
use Rattle.zi_choice.specs.Choice.{Choice}
use Rattle.zi_choice.specs.Vars.{var_count}
use Rattle.zi_build.specs.Clauses.{formula}
use Rattle.zi_walk.specs.Rule.{walk_picks}
use Rattle.zi_walk.specs.Laws.{IsHeld}
use Rattle.zi_walk.proofs.Replay.{replay}
use Rattle.zi_certificate.specs.Certificates.{Asked, asked_from}

-- each block that is asked for is accepted with the trail walked again from what it assumes
abbrev pub AreGiven : Formula → List Lemma → List Entry → List Asked → Type 0
AreGiven f ms es [] = Unit {0}
AreGiven f ms es (a ∷ xs) =
    (accepted f ms a.assumed (replay (citable f.constraints ms) (learn nothing a.assumed) es) ≡ true) × AreGiven f ms es xs

abbrev pub BlocksAreThere : Type 0
BlocksAreThere =
    (u : List Interface) (req : Requirement) (ms : List Lemma) (es : List Entry) (s : Choice) →
    follows (formula u req) ms ≡ true →
    Lawful (citable (formula u req).constraints ms) (formula u req).constraints (walk_picks u req (var_count u)) es →
    OpenAll nothing (lits_of es) →
    AreDecided (var_count u) es →
    Models (values_of es) (formula u req) →
    (held : IsHeld u req es s) →
    AreGiven (formula u req) ms es (asked_from u 1 [] held.walk.places)
