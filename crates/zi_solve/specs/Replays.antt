-- How the hints of a trail are written, entry by entry.
use Rattle.std.specs.Prelude.{◌≡◌, ℕ, ◌+◌, Bool, true, List, [], ◌∷◌, ◌++◌, cond, length, Option}
use Rattle.zi_formula.specs.declared.formula.Constraint.{Constraint}
use Rattle.zi_formula.specs.declared.formula.Formula.{Formula}
use Rattle.zi_formula.specs.Form.{Within}
use Rattle.zi_proof.specs.declared.proof.Lemma.{Lemma}
use Rattle.zi_proof.specs.Known.{Known}
use Rattle.zi_proof.specs.Accepted.{lemmas_within}
use Rattle.zi_sat.specs.declared.entry.Entry.{Entry}
use Rattle.zi_walk.proofs.Replay.{replay}

-- hints may be walked there
pub record Knows (f : Formula) (ms : List Lemma) (marks : List (Option Bool)) : Type 0 where
  pub within : Within f
  pub earlier : lemmas_within f.variables ms ≡ true
  pub made : length marks ≡ f.variables + 1

-- the hints so far, and those of the entries behind this one unless they end, are all those from before it
abbrev pub Replays : List Constraint → Known → Entry → List ℕ → Bool → List ℕ → Known → Type 0
Replays all k e hs ends gs g = (rest : List Entry) → gs ++ cond ends [] (replay all g rest) ≡ hs ++ replay all k (e ∷ rest)
