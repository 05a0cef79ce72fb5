-- What acceptance means for the models of a formula.
use Rattle.std.specs.Prelude.{◌≡◌, ℕ, Bool, true, List, [], ◌∷◌, map}
use Rattle.zi_formula.specs.declared.formula.Lit.{Lit}
use Rattle.zi_formula.specs.declared.formula.Formula.{Formula}
use Rattle.zi_formula.specs.Truth.{Models, lit_true, all_true}
use Rattle.zi_proof.specs.declared.proof.Lemma.{Lemma}
use Rattle.zi_proof.specs.declared.proof.Certificate.{Certificate}
use Rattle.zi_proof.specs.Accepted.{follows, accepted, lemma_clause}
use Rattle.zi_proof.specs.ProofText.{IsProofText}

-- the assignment makes every literal of the list true
abbrev pub MakesTrue : (ℕ → Bool) → List Lit → Type 0
MakesTrue v [] = Unit {0}
MakesTrue v (l ∷ ls) = (lit_true v l ≡ true) × MakesTrue v ls

-- a lemma of a list that follows is true in every model of the formula
abbrev pub LemmasAreTrue : Type 0
LemmasAreTrue =
    (f : Formula) (ms : List Lemma) (v : ℕ → Bool) → follows f ms ≡ true → Models v f → all_true v (map lemma_clause ms) ≡ true

-- where hints are accepted from some literals, no model of the formula makes all of these true
abbrev pub BlocksExclude : Type 0
BlocksExclude =
    (f : Formula) (ms : List Lemma) (assumed : List Lit) (hints : List ℕ) (v : ℕ → Bool) → follows f ms ≡ true → accepted f ms assumed hints ≡ true → Models v f → MakesTrue v assumed → ⊥

-- A text is that of one certificate at most. (That a certificate has one text is what `certificate_text` says.)
abbrev pub ATextHasOneCertificate : Type 0
ATextHasOneCertificate = (bytes : List ℕ) (c d : Certificate) → IsProofText bytes c → IsProofText bytes d → c ≡ d
