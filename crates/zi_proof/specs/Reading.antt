-- What the reader's steps give, word by word.
use Rattle.std.specs.Prelude.{◌≡◌, ◌==◌, ℕ, ◌+◌, ◌-◌, ◌*◌, ◌^◌, ◌&&◌, ◌⊎◌, nat_lt, Bool, true, false, if◌then◌else◌, List, [], ◌∷◌, ◌++◌, map, Option, Some, None, Result, Ok, Err}
use Rattle.std.specs.Char.{is_ascii_digit}
use Rattle.std.specs.List.{All}
use Rattle.zi_text.specs.declared.memory.Memory.{Memory}
use Rattle.zi_formula.specs.declared.formula.Lit.{Lit}
use Rattle.zi_proof.specs.declared.proof.Lemma.{Lemma}
use Rattle.zi_proof.specs.declared.proof.Block.{Block}
use Rattle.zi_proof.specs.declared.line.Line.{Line}
use Rattle.zi_proof.specs.declared.line.Line.TheVariants as line
use Rattle.zi_proof.specs.declared.line.Step.{Step}
use Rattle.zi_proof.specs.declared.line.Step.TheVariants as step
use Rattle.zi_proof.specs.ProofText.{LemmaNumbered, BlockNumbered, lemma_line, block_line, header, end_line}

-- the number that digits stand for, after the number n, where it stays below 2 ^ 32
abbrev pub digits_on : ℕ → List ℕ → Option ℕ
digits_on n [] = Some n
digits_on n (d ∷ ds) = if is_ascii_digit d && nat_lt (10 * n + (d - 48)) (2 ^ 32) then digits_on (10 * n + (d - 48)) ds else None

-- a number without a leading zero
abbrev pub number_of : List ℕ → Option ℕ
number_of [] = None
number_of (d ∷ ds) = if d == 48 then None else digits_on 0 (d ∷ ds)

abbrev pub signed : Bool → Option ℕ → Option Lit
signed b None = None
signed b (Some n) = Some (record { variable = n; positive = b })

abbrev pub lit_of : List ℕ → Option Lit
lit_of [] = None
lit_of (b ∷ bs) = if b == 45 then signed false (number_of bs) else signed true (number_of (b ∷ bs))

abbrev pub is_zero : List ℕ → Bool
is_zero [] = false
is_zero (b ∷ []) = b == 48
is_zero (b ∷ c ∷ bs) = false

abbrev pub last_hint : List (List ℕ) → Option (List ℕ)
last_hint [] = Some []
last_hint (w ∷ ws) = None

abbrev pub more_hints : Option ℕ → Option (List ℕ) → Option (List ℕ)
more_hints None r = None
more_hints (Some n) None = None
more_hints (Some n) (Some hs) = Some (n ∷ hs)

-- hints up to the word 0, which is the last
abbrev pub hints_of : List (List ℕ) → Option (List ℕ)
hints_of [] = None
hints_of (w ∷ ws) = if is_zero w then last_hint ws else more_hints (number_of w) (hints_of ws)

abbrev pub more_lits : Option Lit → Option (List Lit × List (List ℕ)) → Option (List Lit × List (List ℕ))
more_lits None r = None
more_lits (Some l) None = None
more_lits (Some l) (Some (ls, ws)) = Some (l ∷ ls, ws)

-- literals up to the word 0, and the words behind it
abbrev pub lits_of : List (List ℕ) → Option (List Lit × List (List ℕ))
lits_of [] = None
lits_of (w ∷ ws) = if is_zero w then Some ([], ws) else more_lits (lit_of w) (lits_of ws)

abbrev pub with_hints : List Lit → Option (List ℕ) → Option Lemma
with_hints ls None = None
with_hints ls (Some hs) = Some (record { lits = ls; hints = hs })

abbrev pub lemma_with : Option (List Lit × List (List ℕ)) → Option Lemma
lemma_with None = None
lemma_with (Some (ls, ws)) = with_hints ls (hints_of ws)

abbrev pub lemma_of : List (List ℕ) → Option Lemma
lemma_of ws = lemma_with (lits_of ws)

abbrev pub with_rest : List (List ℕ) → Option ℕ → Option (ℕ × List (List ℕ))
with_rest ws None = None
with_rest ws (Some n) = Some (n, ws)

-- the number that the first word is, and the words behind it
abbrev pub first_number : List (List ℕ) → Option (ℕ × List (List ℕ))
first_number [] = None
first_number (w ∷ ws) = with_rest ws (number_of w)

abbrev pub whole_block : ℕ → ℕ → Option (List ℕ) → Option Block
whole_block p c None = None
whole_block p c (Some hs) = Some (record { place = p; candidate = c; hints = hs })

abbrev pub block_behind : ℕ → Option (ℕ × List (List ℕ)) → Option Block
block_behind p None = None
block_behind p (Some (c, ws)) = whole_block p c (hints_of ws)

abbrev pub block_with : Option (ℕ × List (List ℕ)) → Option Block
block_with None = None
block_with (Some (p, ws)) = block_behind p (first_number ws)

abbrev pub block_of : List (List ℕ) → Option Block
block_of ws = block_with (first_number ws)

-- what a line is
abbrev pub Says : List ℕ → Line → Type 0
Says text (line.Lemma m) = LemmaNumbered m × (text ≡ lemma_line m)
Says text (line.Block b) = BlockNumbered b × (text ≡ block_line b)
Says text line.End = text ≡ end_line
Says text line.Other =
    ((m : Lemma) → LemmaNumbered m → text ≡ lemma_line m → ⊥) × ((b : Block) → BlockNumbered b → text ≡ block_line b → ⊥) × (text ≡ end_line → ⊥)

-- the lines up to a place
abbrev pub front_lines : List Lemma → List Block → List (List ℕ)
front_lines ms bs = header ∷ (map lemma_line ms ++ map block_line bs)

abbrev pub PartsNumbered : List Lemma → List Block → Type 0
PartsNumbered ms bs = All LemmaNumbered ms × All BlockNumbered bs

-- what may come next
abbrev pub Next : List Block → List ℕ → Type 0
Next bs text = ((bs ≡ []) × ((m : Lemma) × (LemmaNumbered m × (text ≡ lemma_line m)))) ⊎ (((b : Block) × (BlockNumbered b × (text ≡ block_line b))) ⊎ (text ≡ end_line))

-- what one more line came to
abbrev pub Took : List ℕ → List Lemma → List Block → Result Step Memory → List Lemma → List Block → Type 0
Took text ms bs (Ok step.More) ms2 bs2 =
    (front_lines ms2 bs2 ≡ front_lines ms bs ++ text ∷ []) × (PartsNumbered ms bs → PartsNumbered ms2 bs2)
Took text ms bs (Ok step.End) ms2 bs2 = (text ≡ end_line) × (ms2 ≡ ms) × (bs2 ≡ bs)
Took text ms bs (Ok step.Bad) ms2 bs2 = (Next bs text → ⊥) × (ms2 ≡ ms) × (bs2 ≡ bs)
Took text ms bs (Err e) ms2 bs2 = Unit {0}
