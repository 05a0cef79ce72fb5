-- Words without separators, and what is cut is what was joined.
use Rattle.std.proofs.Common.{◌≡◌, ◌≢◌, ℕ, ◌<◌, Bool, true, false, not, ◌&&◌, cond, eqb, List, [], ◌∷◌, ◌++◌, map, refl, sym, ap, ◌∙◌, subst, arith, inl, inr, ◌⊎◌}
use Rattle.std.specs.List.{All}
use Rattle.std.specs.Fmt.{decimal}
use Rattle.std.specs.Str.Parse.{AllDigits}
use Rattle.std.proofs.lemmas.Fmt.{decimal_is_IsNumeral}
use Rattle.std.proofs.lemmas.Str.Parse.{digit_from_value}
use Rattle.std.proofs.lemmas.List.{append-nil}
use Rattle.std.proofs.lemmas.List.Elements.{All-head, All-tail}
use Rattle.std.proofs.lemmas.Bool.Decides.{nat_tests, eqb_tells}
use Rattle.std.proofs.lemmas.Bool.{and_parts}
use Rattle.zi_text.specs.Pieces.{pieces}
use Rattle.zi_formula.specs.declared.formula.Lit.{Lit}
use Rattle.zi_proof.specs.declared.proof.Lemma.{Lemma}
use Rattle.zi_proof.specs.declared.proof.Block.{Block}
use Rattle.zi_proof.specs.declared.proof.Certificate.{Certificate}
use Rattle.zi_proof.specs.ProofText.{all_pieces, behind, lines_text, InRange, LemmaNumbered, BlockNumbered, Numbered, zero_word, lit_word, hint_words, lemma_words, block_words, lemma_line, block_line, header, end_line, certificate_lines, certificate_text}
use Rattle.zi_proof.proofs.CutLaws.{pieces_same, pieces_other}
use Rattle.zi_proof.proofs.NumberLaws.{LitInRange}

-- no byte of the word is c
abbrev pub Free : ℕ → List ℕ → Type 0
Free c [] = Unit {0}
Free c (x ∷ xs) = (x ≢ c) × Free c xs

abbrev pub FreeAll : ℕ → List (List ℕ) → Type 0
FreeAll c [] = Unit {0}
FreeAll c (w ∷ ws) = Free c w × FreeAll c ws

abbrev free_test : ℕ → List ℕ → Bool
free_test c [] = true
free_test c (x ∷ xs) = not (eqb x c) && free_test c xs

not_same : (x c : ℕ) → not (eqb x c) ≡ true → x ≢ c
not_same x c h = grind (arith, nat_tests)

free_by_test : (c : ℕ) (w : List ℕ) → free_test c w ≡ true → Free c w
free_by_test c [] h = tt
free_by_test c (x ∷ xs) h = (not_same x c (and_parts (not (eqb x c)) (free_test c xs) h).0, free_by_test c xs (and_parts (not (eqb x c)) (free_test c xs) h).1)

free_append : (c : ℕ) (v w : List ℕ) → Free c v → Free c w → Free c (v ++ w)
free_append c [] w f g = g
free_append c (x ∷ v) w f g = (f.0, free_append c v w f.1 g)

free_digits : (c : ℕ) (ds : List ℕ) → c < 48 → AllDigits 10 ds → Free c ds
free_digits c [] h d = tt
free_digits c (x ∷ ds) h d = let r = digit_from_value x d.0 in (omega arith, free_digits c ds h d.1)

free_decimal : (c n : ℕ) → c < 45 → InRange n → Free c (decimal n)
free_decimal c n h r = free_digits c (decimal n) (omega arith) (decimal_is_IsNumeral n (omega arith)).0.1

free_lit_by : (c : ℕ) (b : Bool) (n : ℕ) → c < 45 → InRange n → Free c (cond b (decimal n) (45 ∷ decimal n))
free_lit_by c true n h r = free_decimal c n h r
free_lit_by c false n h r = (omega arith, free_decimal c n h r)

free_all_append : (c : ℕ) (vs ws : List (List ℕ)) → FreeAll c vs → FreeAll c ws → FreeAll c (vs ++ ws)
free_all_append c [] ws f g = g
free_all_append c (v ∷ vs) ws f g = (f.0, free_all_append c vs ws f.1 g)

free_zero : (c : ℕ) → c < 45 → Free c zero_word
free_zero c h = (omega arith, tt)

free_hints : (c : ℕ) (hs : List ℕ) → c < 45 → All InRange hs → FreeAll c (hint_words hs)
free_hints c [] h a = (free_zero c h, tt)
free_hints c (x ∷ hs) h a = (free_decimal c x h (All-head InRange x hs a), free_hints c hs h (All-tail InRange x hs a))

free_lits : (c : ℕ) (ls : List Lit) → c < 45 → All LitInRange ls → FreeAll c (map lit_word ls)
free_lits c [] h a = tt
free_lits c (l ∷ ls) h a = (free_lit_by c l.positive l.variable h (All-head LitInRange l ls a), free_lits c ls h (All-tail LitInRange l ls a))

free_lemma : (c : ℕ) (m : Lemma) → c < 45 → LemmaNumbered m → FreeAll c (lemma_words m)
free_lemma c m h r = free_all_append c (map lit_word m.lits) (zero_word ∷ hint_words m.hints) (free_lits c m.lits h r.0) (free_zero c h, free_hints c m.hints h r.1)

free_block : (c : ℕ) (b : Block) → c < 45 → BlockNumbered b → FreeAll c (block_words b)
free_block c b h r = (free_decimal c b.place h r.0, (free_decimal c b.candidate h r.1, free_hints c b.hints h r.2))

free_behind : (c s : ℕ) (ws : List (List ℕ)) → s ≢ c → FreeAll c ws → Free c (behind s ws)
free_behind c s [] h f = tt
free_behind c s (w ∷ ws) h f = (h, free_append c w (behind s ws) f.0 (free_behind c s ws h f.1))

-- cutting

pieces_free : (c : ℕ) (w : List ℕ) → Free c w → pieces c w ≡ (w, [])
pieces_free c [] f = refl
pieces_free c (x ∷ w) f = pieces_other x c w f.0 ∙ ap (λ p. (x ∷ p.0, p.1)) (pieces_free c w f.1)

pieces_before : (c : ℕ) (w t : List ℕ) → Free c w → pieces c (w ++ c ∷ t) ≡ (w, all_pieces c t)
pieces_before c [] t f = pieces_same c t
pieces_before c (x ∷ w) t f = pieces_other x c (w ++ c ∷ t) f.0 ∙ ap (λ p. (x ∷ p.0, p.1)) (pieces_before c w t f.1)

pub pieces_first : (c : ℕ) (w t : List ℕ) → Free c w → all_pieces c (w ++ c ∷ t) ≡ w ∷ all_pieces c t
pieces_first c w t f = ap (λ p. p.0 ∷ p.1) (pieces_before c w t f)

-- what was joined is cut into the same words
pub pieces_behind : (c : ℕ) (w : List ℕ) (ws : List (List ℕ)) → Free c w → FreeAll c ws → all_pieces c (w ++ behind c ws) ≡ w ∷ ws
pieces_behind c w [] f g = ap (all_pieces c) (append-nil w) ∙ ap (λ p. p.0 ∷ p.1) (pieces_free c w f)
pieces_behind c w (v ∷ ws) f g = pieces_first c w (v ++ behind c ws) f ∙ ap (λ vs. w ∷ vs) (pieces_behind c v ws g.0 g.1)

pub pieces_lines : (ls : List (List ℕ)) → FreeAll 10 ls → all_pieces 10 (lines_text ls) ≡ ls ++ [] ∷ []
pieces_lines [] f = refl
pieces_lines (l ∷ ls) f = pieces_first 10 l (lines_text ls) f.0 ∙ ap (λ vs. l ∷ vs) (pieces_lines ls f.1)

-- what was cut is joined to the same text
joined_same : (c : ℕ) (xs : List ℕ) → (pieces c xs).0 ++ behind c (pieces c xs).1 ≡ xs → (pieces c (c ∷ xs)).0 ++ behind c (pieces c (c ∷ xs)).1 ≡ c ∷ xs
joined_same c xs h = ap (λ p. p.0 ++ behind c p.1) (pieces_same c xs) ∙ ap (λ t. c ∷ t) h

joined_other : (c x : ℕ) (xs : List ℕ) → x ≢ c → (pieces c xs).0 ++ behind c (pieces c xs).1 ≡ xs → (pieces c (x ∷ xs)).0 ++ behind c (pieces c (x ∷ xs)).1 ≡ x ∷ xs
joined_other c x xs n h = ap (λ p. p.0 ++ behind c p.1) (pieces_other x c xs n) ∙ ap (λ t. x ∷ t) h

joined_case : (c x : ℕ) (xs : List ℕ) → ((eqb x c ≡ true) × (x ≡ c)) ⊎ ((eqb x c ≡ false) × (x ≢ c)) → (pieces c xs).0 ++ behind c (pieces c xs).1 ≡ xs → (pieces c (x ∷ xs)).0 ++ behind c (pieces c (x ∷ xs)).1 ≡ x ∷ xs
joined_case c x xs (inl p) h = subst (λ y. (pieces c (y ∷ xs)).0 ++ behind c (pieces c (y ∷ xs)).1 ≡ y ∷ xs) (sym p.1) (joined_same c xs h)
joined_case c x xs (inr p) h = joined_other c x xs p.1 h

joined_pieces : (c : ℕ) (t : List ℕ) → (pieces c t).0 ++ behind c (pieces c t).1 ≡ t
joined_pieces c [] = refl
joined_pieces c (x ∷ xs) = joined_case c x xs (eqb_tells x c) (joined_pieces c xs)

abbrev pub rejoined : ℕ → List (List ℕ) → List ℕ
rejoined c [] = []
rejoined c (w ∷ ws) = w ++ behind c ws

pub text_of_pieces : (c : ℕ) (t : List ℕ) (ws : List (List ℕ)) → all_pieces c t ≡ ws → t ≡ rejoined c ws
text_of_pieces c t ws e = sym (joined_pieces c t) ∙ ap (rejoined c) e

lines_behind : (ls : List (List ℕ)) → behind 10 (ls ++ [] ∷ []) ≡ 10 ∷ lines_text ls
lines_behind [] = refl
lines_behind (l ∷ ls) = ap (λ t. 10 ∷ (l ++ t)) (lines_behind ls)

lines_rejoined : (ls : List (List ℕ)) → rejoined 10 (ls ++ [] ∷ []) ≡ lines_text ls
lines_rejoined [] = refl
lines_rejoined (l ∷ ls) = ap (λ t. l ++ t) (lines_behind ls)

pub text_of_lines : (t : List ℕ) (ls : List (List ℕ)) → all_pieces 10 t ≡ ls ++ [] ∷ [] → t ≡ lines_text ls
text_of_lines t ls e = text_of_pieces 10 t (ls ++ [] ∷ []) e ∙ lines_rejoined ls

-- the lines of a certificate

pub lemma_pieces : (m : Lemma) → LemmaNumbered m → all_pieces 32 (lemma_line m) ≡ (108 ∷ []) ∷ lemma_words m
lemma_pieces m r = pieces_behind 32 (108 ∷ []) (lemma_words m) (free_by_test 32 (108 ∷ []) refl) (free_lemma 32 m (omega arith) r)

pub block_pieces : (b : Block) → BlockNumbered b → all_pieces 32 (block_line b) ≡ (98 ∷ []) ∷ block_words b
block_pieces b r = pieces_behind 32 (98 ∷ []) (block_words b) (free_by_test 32 (98 ∷ []) refl) (free_block 32 b (omega arith) r)

free_lemma_line : (m : Lemma) → LemmaNumbered m → Free 10 (lemma_line m)
free_lemma_line m r = free_append 10 (108 ∷ []) (behind 32 (lemma_words m)) (free_by_test 10 (108 ∷ []) refl) (free_behind 10 32 (lemma_words m) (omega arith) (free_lemma 10 m (omega arith) r))

free_block_line : (b : Block) → BlockNumbered b → Free 10 (block_line b)
free_block_line b r = free_append 10 (98 ∷ []) (behind 32 (block_words b)) (free_by_test 10 (98 ∷ []) refl) (free_behind 10 32 (block_words b) (omega arith) (free_block 10 b (omega arith) r))

free_lemma_lines : (ms : List Lemma) → All LemmaNumbered ms → FreeAll 10 (map lemma_line ms)
free_lemma_lines [] a = tt
free_lemma_lines (m ∷ ms) a = (free_lemma_line m (All-head LemmaNumbered m ms a), free_lemma_lines ms (All-tail LemmaNumbered m ms a))

free_block_lines : (bs : List Block) → All BlockNumbered bs → FreeAll 10 (map block_line bs)
free_block_lines [] a = tt
free_block_lines (b ∷ bs) a = (free_block_line b (All-head BlockNumbered b bs a), free_block_lines bs (All-tail BlockNumbered b bs a))

free_lines : (c : Certificate) → Numbered c → FreeAll 10 (certificate_lines c)
free_lines c r =
    (free_by_test 10 header refl, free_all_append 10 (map lemma_line c.proof.lemmas ++ map block_line c.blocks) (end_line ∷ []) (free_all_append 10 (map lemma_line c.proof.lemmas) (map block_line c.blocks) (free_lemma_lines c.proof.lemmas r.0) (free_block_lines c.blocks r.1)) (free_by_test 10 end_line refl, tt))

-- the text of a certificate is cut into its lines, with nothing behind the last
pub certificate_pieces : (c : Certificate) → Numbered c → all_pieces 10 (certificate_text c) ≡ certificate_lines c ++ [] ∷ []
certificate_pieces c r = pieces_lines (certificate_lines c) (free_lines c r)
