-- The proof text: lines that end in LF, with single spaces between items.
--   zi-proof 1              the first line
--   l LIT.. 0 HINT.. 0      a lemma
--   b PLACE VARIABLE HINT.. 0   a block; all blocks come after all lemmas
--   e                       the last line
-- A literal is its variable's number, with - before it where it is negative, as in DIMACS CNF; `LIT..` and `HINT..` are zero or
-- more items. Numbers are decimal, from 1 to 2^32 - 1, without leading zeros.
use Rattle.std.specs.Prelude.{◌≡◌, ℕ, ◌-◌, ◌<◌, ◌≤◌, ◌^◌, cond, List, [], ◌∷◌, ◌++◌, map, codes, decimal}
use Rattle.std.specs.List.{All}
use Rattle.zi_text.specs.Front.{StopsAt}
use Rattle.zi_text.specs.Pieces.{pieces}
use Rattle.zi_formula.specs.declared.formula.Lit.{Lit}
use Rattle.zi_proof.specs.declared.proof.Lemma.{Lemma}
use Rattle.zi_proof.specs.declared.proof.Block.{Block}
use Rattle.zi_proof.specs.declared.proof.Certificate.{Certificate}
use Rattle.zi_proof.specs.declared.fault.ProofFault.{ProofFault}
use Rattle.zi_proof.specs.declared.fault.ProofFault.TheVariants.{Bad, Memory}

-- a number that the text can hold
abbrev pub InRange : ℕ → Type 0
InRange n = (1 ≤ n) × (n < 2 ^ 32)

abbrev pub LemmaNumbered : Lemma → Type 0
LemmaNumbered m = All (λ l. InRange l.variable) m.lits × All InRange m.hints

abbrev pub BlockNumbered : Block → Type 0
BlockNumbered b = InRange b.place × InRange b.candidate × All InRange b.hints

-- every variable, place and hint is one that the text can hold
abbrev pub Numbered : Certificate → Type 0
Numbered c = All LemmaNumbered c.proof.lemmas × All BlockNumbered c.blocks

-- each item behind a separator
abbrev pub behind : ℕ → List (List ℕ) → List ℕ
behind c [] = []
behind c (w ∷ ws) = c ∷ (w ++ behind c ws)

abbrev pub zero_word : List ℕ
zero_word = 48 ∷ []

abbrev pub lit_word : Lit → List ℕ
lit_word l = cond l.positive (decimal l.variable) (45 ∷ decimal l.variable)

abbrev pub hint_words : List ℕ → List (List ℕ)
hint_words hs = map decimal hs ++ zero_word ∷ []

abbrev pub lemma_words : Lemma → List (List ℕ)
lemma_words m = map lit_word m.lits ++ zero_word ∷ hint_words m.hints

abbrev pub block_words : Block → List (List ℕ)
block_words b = decimal b.place ∷ decimal b.candidate ∷ hint_words b.hints

abbrev pub header : List ℕ
header = codes "zi-proof 1"

abbrev pub lemma_line : Lemma → List ℕ
lemma_line m = codes "l" ++ behind 32 (lemma_words m)

abbrev pub block_line : Block → List ℕ
block_line b = codes "b" ++ behind 32 (block_words b)

abbrev pub end_line : List ℕ
end_line = codes "e"

abbrev pub certificate_lines : Certificate → List (List ℕ)
certificate_lines c = header ∷ (map lemma_line c.proof.lemmas ++ map block_line c.blocks) ++ end_line ∷ []

-- each line and LF behind it
abbrev pub lines_text : List (List ℕ) → List ℕ
lines_text [] = []
lines_text (l ∷ ls) = l ++ 10 ∷ lines_text ls

-- the text of a certificate
abbrev pub certificate_text : Certificate → List ℕ
certificate_text c = lines_text (certificate_lines c)

-- the text is that of this certificate
abbrev pub IsProofText : List ℕ → Certificate → Type 0
IsProofText bytes c = Numbered c × (bytes ≡ certificate_text c)

-- the lines of a proof text
abbrev pub RightLines : List (List ℕ) → Type 0
RightLines ls = (c : Certificate) × (Numbered c × (ls ≡ certificate_lines c))

-- a text cut at a separator
abbrev pub all_pieces : ℕ → List ℕ → List (List ℕ)
all_pieces c t = (pieces c t).0 ∷ (pieces c t).1

abbrev pub but_last : List (List ℕ) → List (List ℕ)
but_last [] = []
but_last (x ∷ []) = []
but_last (x ∷ y ∷ ys) = x ∷ but_last (y ∷ ys)

-- the lines of a text that end in LF
abbrev pub whole_lines : List ℕ → List (List ℕ)
whole_lines t = but_last (all_pieces 10 t)

-- A bad text is that of no certificate. The line is the number, from 1, of the first whole line up to which no right text
-- begins so, or one more than the number of whole lines where all of them begin one. Want of memory says nothing.
abbrev pub FaultMeans : List ℕ → ProofFault → Type 0
FaultMeans bytes (Bad line) =
    ((c : Certificate) → ¬ IsProofText bytes c) × (1 ≤ line) × StopsAt RightLines (whole_lines bytes) (line - 1)
FaultMeans bytes Memory = Unit {0}
