-- A text that is written piece by piece.
use Rattle.std.proofs.Common.{◌≡◌, ℕ, ◌+◌, ◌/◌, ◌%◌, ◌^◌, ◌<◌, ◌≤◌, List, [], ◌∷◌, ◌++◌, map, length, get_or, take, refl, sym, ap, ◌∙◌, subst, arith, append_assoc, Result, Ok, Err}
use Rattle.std.specs.Fmt.{decimal}
use Rattle.std.proofs.lemmas.Fmt.{decimal_digit, decimal_step}
use Rattle.std.proofs.lemmas.List.{take_more, map_push}
use Rattle.std.proofs.Math.Seq.{take-append_seam}
use Rattle.zi_text.specs.declared.memory.Memory.{Memory}
use Rattle.zi_formula.specs.declared.formula.Lit.{Lit}
use Rattle.zi_proof.specs.declared.proof.Lemma.{Lemma}
use Rattle.zi_proof.specs.declared.proof.Certificate.{Certificate}
use Rattle.zi_proof.specs.ProofText.{behind, lit_word, zero_word, hint_words, lemma_line, block_line, lines_text, header, end_line, certificate_text}
use Rattle.zi_proof.specs.Writing.{Grown, Puts}

pub grown_on : (old mid new a : List ℕ) → mid ≡ old ++ a → Grown mid new → Grown old new
grown_on old mid new a e (more, g) = (a ++ more, g ∙ ap (λ x. x ++ more) e ∙ append_assoc old a more)

-- one piece and then another
pub put_both : {X : Type 0} (old mid new a b : List ℕ) (r : Result X Memory) → mid ≡ old ++ a → Puts mid b r new → Puts old (a ++ b) r new
put_both old mid new a b (Ok x) e p = p ∙ ap (λ y. y ++ b) e ∙ append_assoc old a b
put_both old mid new a b (Err f) e p = grown_on old mid new a e p

pub taken_back : (old new : List ℕ) → Grown old new → take (length old) new ≡ old
taken_back old new (more, g) = ap (take (length old)) g ∙ take-append_seam old more

behind-append : (c : ℕ) (vs ws : List (List ℕ)) → behind c (vs ++ ws) ≡ behind c vs ++ behind c ws
behind-append c [] ws = refl
behind-append c (v ∷ vs) ws = ap (λ t. c ∷ (v ++ t)) (behind-append c vs ws) ∙ ap (λ t. c ∷ t) (sym (append_assoc v (behind c vs) (behind c ws)))

lines-append : (vs ws : List (List ℕ)) → lines_text (vs ++ ws) ≡ lines_text vs ++ lines_text ws
lines-append [] ws = refl
lines-append (v ∷ vs) ws = ap (λ t. v ++ 10 ∷ t) (lines-append vs ws) ∙ sym (append_assoc v (10 ∷ lines_text vs) (lines_text ws))

-- a number
pub small_number : {X : Type 0} (old new : List ℕ) (n : ℕ) (r : Result X Memory) → n < 10 → Puts old ((48 + n) ∷ []) r new → Puts old (decimal n) r new
small_number old new n r h p = subst (λ t. Puts old t r new) (sym (decimal_digit n h)) p

pub large_number : {X : Type 0} (old mid new : List ℕ) (n : ℕ) (r : Result X Memory) → 10 ≤ n → n < 2 ^ 32 → mid ≡ old ++ decimal (n / 10) → Puts mid ((48 + n % 10) ∷ []) r new → Puts old (decimal n) r new
large_number old mid new n r h small e p =
    subst (λ t. Puts old t r new) (sym (decimal_step n h (omega arith))) (put_both old mid new (decimal (n / 10)) ((48 + n % 10) ∷ []) r e p)

-- one item more of a list
pub item_more : {X : Type 0} (f : X → List ℕ) (old mid new : List ℕ) (xs : List X) (i : ℕ) (d x : X) → i < length xs → x ≡ get_or xs i d → mid ≡ old ++ behind 32 (map f (take i xs)) → new ≡ mid ++ behind 32 (f x ∷ []) → new ≡ old ++ behind 32 (map f (take (i + 1) xs))
item_more f old mid new xs i d x lt e m n =
    let t : map f (take (i + 1) xs) ≡ map f (take i xs) ++ f x ∷ [] = ap (map f) (take_more xs i d lt) ∙ map_push f (take i xs) (get_or xs i d) ∙ ap (λ y. map f (take i xs) ++ f y ∷ []) (sym e) in
    n ∙ ap (λ y. y ++ behind 32 (f x ∷ [])) m ∙ append_assoc old (behind 32 (map f (take i xs))) (behind 32 (f x ∷ [])) ∙ ap (λ y. old ++ y) (sym (behind-append 32 (map f (take i xs)) (f x ∷ [])) ∙ ap (behind 32) (sym t))

one_line : (l : List ℕ) → lines_text (l ∷ []) ≡ l ++ 10 ∷ []
one_line l = refl

pub line_more : {X : Type 0} (f : X → List ℕ) (old mid new : List ℕ) (xs : List X) (i : ℕ) (d x : X) → i < length xs → x ≡ get_or xs i d → mid ≡ old ++ lines_text (map f (take i xs)) → new ≡ mid ++ (f x ++ 10 ∷ []) → new ≡ old ++ lines_text (map f (take (i + 1) xs))
line_more f old mid new xs i d x lt e m n =
    let t : map f (take (i + 1) xs) ≡ map f (take i xs) ++ f x ∷ [] = ap (map f) (take_more xs i d lt) ∙ map_push f (take i xs) (get_or xs i d) ∙ ap (λ y. map f (take i xs) ++ f y ∷ []) (sym e) in
    n ∙ ap (λ y. y ++ (f x ++ 10 ∷ [])) m ∙ append_assoc old (lines_text (map f (take i xs))) (f x ++ 10 ∷ []) ∙ ap (λ y. old ++ y) (sym (lines-append (map f (take i xs)) (f x ∷ [])) ∙ ap lines_text (sym t))

pub hints_end : (ns : List ℕ) → behind 32 (map decimal ns) ++ 32 ∷ 48 ∷ 10 ∷ [] ≡ behind 32 (hint_words ns) ++ 10 ∷ []
hints_end ns = sym (append_assoc (behind 32 (map decimal ns)) (32 ∷ 48 ∷ []) (10 ∷ [])) ∙ ap (λ t. t ++ 10 ∷ []) (sym (behind-append 32 (map decimal ns) (zero_word ∷ [])))

pub lits_end : (ls : List Lit) → behind 32 (map lit_word ls) ++ 32 ∷ 48 ∷ [] ≡ behind 32 (map lit_word ls ++ zero_word ∷ [])
lits_end ls = sym (behind-append 32 (map lit_word ls) (zero_word ∷ []))

pub lemma_end : (m : Lemma) → (108 ∷ behind 32 (map lit_word m.lits ++ zero_word ∷ [])) ++ (behind 32 (hint_words m.hints) ++ 10 ∷ []) ≡ lemma_line m ++ 10 ∷ []
lemma_end m =
    sym (append_assoc (108 ∷ behind 32 (map lit_word m.lits ++ zero_word ∷ [])) (behind 32 (hint_words m.hints)) (10 ∷ []))
    ∙ ap (λ t. (108 ∷ t) ++ 10 ∷ []) (sym (behind-append 32 (map lit_word m.lits ++ zero_word ∷ []) (hint_words m.hints)) ∙ ap (behind 32) (append_assoc (map lit_word m.lits) (zero_word ∷ []) (hint_words m.hints)))

pub puts_as : {X : Type 0} (old new a b : List ℕ) (r : Result X Memory) → a ≡ b → Puts old a r new → Puts old b r new
puts_as old new a b r e p = subst (λ t. Puts old t r new) e p

-- three pieces, the last of which may have failed
pub put_three : {X : Type 0} (old one two new a b c text : List ℕ) (r : Result X Memory) → one ≡ old ++ a → two ≡ one ++ b → (a ++ b) ++ c ≡ text → Puts two c r new → Puts old text r new
put_three old one two new a b c text r e f t p =
    puts_as old new ((a ++ b) ++ c) text r t (put_both old two new (a ++ b) c r (f ∙ ap (λ y. y ++ b) e ∙ append_assoc old a b) p)

pub put_four : {X : Type 0} (old one two three new a b c d text : List ℕ) (r : Result X Memory) → one ≡ old ++ a → two ≡ one ++ b → three ≡ two ++ c → ((a ++ b) ++ c) ++ d ≡ text → Puts three d r new → Puts old text r new
put_four old one two three new a b c d text r e f g t p =
    put_three old two three new (a ++ b) c d text r (f ∙ ap (λ y. y ++ b) e ∙ append_assoc old a b) g t p

pub certificate_end : (c : Certificate) → (((header ++ 10 ∷ []) ++ lines_text (map lemma_line c.proof.lemmas)) ++ lines_text (map block_line c.blocks)) ++ (end_line ++ 10 ∷ []) ≡ certificate_text c
certificate_end c =
    let ls = map lemma_line c.proof.lemmas in
    let bs = map block_line c.blocks in
    ap (λ t. ((header ++ 10 ∷ []) ++ t) ++ (end_line ++ 10 ∷ [])) (sym (lines-append ls bs)) ∙ ap (λ t. (header ++ 10 ∷ []) ++ t) (sym (lines-append (ls ++ bs) (end_line ∷ [])))

pub ruleset numbers = (small_number, large_number)

pub ruleset pieces = (put_both, grown_on)
