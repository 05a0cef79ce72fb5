-- What is left of a text that is cut at a separator.
use Rattle.std.specs.Prelude.{ℕ, Bool, cond, List, []}
use Rattle.zi_proof.specs.ProofText.{all_pieces}

abbrev pub pieces_left : Bool → ℕ → List ℕ → List (List ℕ)
pieces_left done c t = cond done [] (all_pieces c t)
