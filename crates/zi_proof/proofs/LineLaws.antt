-- What a line is, by its words; which line may come next; and where lines stop being those of a proof text.
use Rattle.std.proofs.Common.{◌≡◌, ◌≢◌, ℕ, suc, ◌+◌, ◌-◌, ◌<◌, List, [], ◌∷◌, ◌++◌, map, length, take, refl, sym, ap, ◌∙◌, subst, arith, append_assoc, inl, inr, ◌⊎◌, Option, Some, None, length-append}
use Rattle.std.specs.List.{All}
use Rattle.std.proofs.lemmas.List.{append-nil}
use Rattle.std.proofs.lemmas.List.Elements.{All-nil}
use Rattle.std.proofs.Math.Seq.{take-append_seam}
use Rattle.zi_text.specs.Front.{BeginsRight, StopsAt, stops_before, stops_at_end}
use Rattle.zi_proof.specs.declared.proof.Lemma.{Lemma}
use Rattle.zi_proof.specs.declared.proof.Block.{Block}
use Rattle.zi_proof.specs.declared.proof.Certificate.{Certificate}
use Rattle.zi_proof.specs.declared.line.Line.TheVariants as line
use Rattle.zi_proof.specs.declared.fault.ProofFault.TheVariants.{Bad}
use Rattle.zi_proof.specs.ProofText.{all_pieces, but_last, whole_lines, behind, LemmaNumbered, BlockNumbered, lemma_words, block_words, lemma_line, block_line, header, end_line, certificate_lines, IsProofText, RightLines, FaultMeans}
use Rattle.zi_proof.specs.Reading.{lemma_of, block_of, Says, front_lines, PartsNumbered, Next}
use Rattle.zi_proof.proofs.NumberLaws.{lemma_told, lemma_read, block_told, block_read}
use Rattle.zi_proof.proofs.FreeLaws.{text_of_pieces, text_of_lines, lemma_pieces, block_pieces, certificate_pieces}
use Rattle.zi_text.proofs.ListLaws.{heads}

pub head_same : (x y : List ℕ) (xs ys : List (List ℕ)) → x ∷ xs ≡ y ∷ ys → x ≡ y
head_same x y xs ys e = cc

pub tail_same : (x y : List ℕ) (xs ys : List (List ℕ)) → x ∷ xs ≡ y ∷ ys → xs ≡ ys
tail_same x y xs ys e = cc

pub not_block : (m : Lemma) (b : Block) → lemma_line m ≡ block_line b → ⊥
not_block m b e = let k : ◌≡◌ {A = ℕ} 108 98 = heads 108 98 (behind 32 (lemma_words m)) (behind 32 (block_words b)) e in absurd (omega arith)

pub lemma_not_end : (m : Lemma) → lemma_line m ≡ end_line → ⊥
lemma_not_end m e = let k : ◌≡◌ {A = ℕ} 108 101 = heads 108 101 (behind 32 (lemma_words m)) [] e in absurd (omega arith)

pub block_not_end : (b : Block) → block_line b ≡ end_line → ⊥
block_not_end b e = let k : ◌≡◌ {A = ℕ} 98 101 = heads 98 101 (behind 32 (block_words b)) [] e in absurd (omega arith)

-- a line by its words

lemma_words_of : (text : List ℕ) (ws : List (List ℕ)) (w : List ℕ) (m : Lemma) → all_pieces 32 text ≡ w ∷ ws → LemmaNumbered m → text ≡ lemma_line m → w ∷ ws ≡ (108 ∷ []) ∷ lemma_words m
lemma_words_of text ws w m e r t = sym e ∙ ap (all_pieces 32) t ∙ lemma_pieces m r

block_words_of : (text : List ℕ) (ws : List (List ℕ)) (w : List ℕ) (b : Block) → all_pieces 32 text ≡ w ∷ ws → BlockNumbered b → text ≡ block_line b → w ∷ ws ≡ (98 ∷ []) ∷ block_words b
block_words_of text ws w b e r t = sym e ∙ ap (all_pieces 32) t ∙ block_pieces b r

end_words_of : (text : List ℕ) (ws : List (List ℕ)) (w : List ℕ) → all_pieces 32 text ≡ w ∷ ws → text ≡ end_line → w ∷ ws ≡ (101 ∷ []) ∷ []
end_words_of text ws w e t = sym e ∙ ap (all_pieces 32) t

letters_differ : (a b : ℕ) (vs ws : List (List ℕ)) → (a ∷ []) ∷ vs ≡ (b ∷ []) ∷ ws → a ≡ b
letters_differ a b vs ws e = heads a b [] [] (head_same (a ∷ []) (b ∷ []) vs ws e)

pub says_lemma : (text : List ℕ) (ws : List (List ℕ)) (m : Lemma) → all_pieces 32 text ≡ (108 ∷ []) ∷ ws → lemma_of ws ≡ Some m → Says text (line.Lemma m)
says_lemma text ws m e k =
    let t = lemma_told ws m k in
    (t.1, text_of_pieces 32 text ((108 ∷ []) ∷ ws) e ∙ ap (λ v. 108 ∷ behind 32 v) t.0)

none_lemma : (ws : List (List ℕ)) (m : Lemma) → lemma_of ws ≡ None → ws ≡ lemma_words m → LemmaNumbered m → ⊥
none_lemma ws m k e r =
    let z : ◌≡◌ {A = Option Lemma} None (Some m) = sym k ∙ ap lemma_of e ∙ lemma_read m r in
    cc

pub says_no_lemma : (text : List ℕ) (ws : List (List ℕ)) → all_pieces 32 text ≡ (108 ∷ []) ∷ ws → lemma_of ws ≡ None → Says text line.Other
says_no_lemma text ws e k = (
  (λ m r t. none_lemma ws m k (tail_same (108 ∷ []) (108 ∷ []) ws (lemma_words m) (lemma_words_of text ws (108 ∷ []) m e r t)) r),
  (λ b r t. let z : ◌≡◌ {A = ℕ} 108 98 = letters_differ 108 98 ws (block_words b) (block_words_of text ws (108 ∷ []) b e r t) in absurd (omega arith)),
  (λ t. let z : ◌≡◌ {A = ℕ} 108 101 = letters_differ 108 101 ws [] (end_words_of text ws (108 ∷ []) e t) in absurd (omega arith)),
)

pub says_block : (text : List ℕ) (ws : List (List ℕ)) (b : Block) → all_pieces 32 text ≡ (98 ∷ []) ∷ ws → block_of ws ≡ Some b → Says text (line.Block b)
says_block text ws b e k =
    let t = block_told ws b k in
    (t.1, text_of_pieces 32 text ((98 ∷ []) ∷ ws) e ∙ ap (λ v. 98 ∷ behind 32 v) t.0)

none_block : (ws : List (List ℕ)) (b : Block) → block_of ws ≡ None → ws ≡ block_words b → BlockNumbered b → ⊥
none_block ws b k e r =
    let z : ◌≡◌ {A = Option Block} None (Some b) = sym k ∙ ap block_of e ∙ block_read b r in
    cc

pub says_no_block : (text : List ℕ) (ws : List (List ℕ)) → all_pieces 32 text ≡ (98 ∷ []) ∷ ws → block_of ws ≡ None → Says text line.Other
says_no_block text ws e k = (
  (λ m r t. let z : ◌≡◌ {A = ℕ} 98 108 = letters_differ 98 108 ws (lemma_words m) (lemma_words_of text ws (98 ∷ []) m e r t) in absurd (omega arith)),
  (λ b r t. none_block ws b k (tail_same (98 ∷ []) (98 ∷ []) ws (block_words b) (block_words_of text ws (98 ∷ []) b e r t)) r),
  (λ t. let z : ◌≡◌ {A = ℕ} 98 101 = letters_differ 98 101 ws [] (end_words_of text ws (98 ∷ []) e t) in absurd (omega arith)),
)

pub says_end : (text : List ℕ) → all_pieces 32 text ≡ (101 ∷ []) ∷ [] → Says text line.End
says_end text e = text_of_pieces 32 text ((101 ∷ []) ∷ []) e

pub says_other : (text w : List ℕ) (ws : List (List ℕ)) → all_pieces 32 text ≡ w ∷ ws → w ≢ 108 ∷ [] → w ≢ 98 ∷ [] → (w ≡ 101 ∷ [] → ws ≢ []) → Says text line.Other
says_other text w ws e l b k = (
  (λ m r t. l (head_same w (108 ∷ []) ws (lemma_words m) (lemma_words_of text ws w m e r t))),
  (λ c r t. b (head_same w (98 ∷ []) ws (block_words c) (block_words_of text ws w c e r t))),
  (λ t. k (head_same w (101 ∷ []) ws [] (end_words_of text ws w e t)) (tail_same w (101 ∷ []) ws [] (end_words_of text ws w e t))),
)

-- which line may come next

abbrev LaterNext : List ℕ → Type 0
LaterNext text = ((b : Block) × (BlockNumbered b × (text ≡ block_line b))) ⊎ (text ≡ end_line)

abbrev Fits : List Block → List ℕ → List (List ℕ) → Type 0
Fits bs x more = Next bs x × (x ≡ end_line → more ≡ [])

abbrev LaterFits : List ℕ → List (List ℕ) → Type 0
LaterFits x more = LaterNext x × (x ≡ end_line → more ≡ [])

blocks_fit : (bs cb : List Block) (x : List ℕ) (more : List (List ℕ)) → All BlockNumbered cb → map block_line bs ++ x ∷ more ≡ map block_line cb ++ end_line ∷ [] → LaterFits x more
blocks_fit [] [] x more a e = (inr (head_same x end_line more [] e), λ z. tail_same x end_line more [] e)
blocks_fit [] (c ∷ cb) x more a e =
    let k = head_same x (block_line c) more (map block_line cb ++ end_line ∷ []) e in
    (inl (c, (All-first c cb a, k)), λ z. absurd (block_not_end c (sym k ∙ z)))
  where
    All-first : (c : Block) (cb : List Block) → All BlockNumbered (c ∷ cb) → BlockNumbered c
    All-first c cb a = a 0 c (omega arith)
blocks_fit (b ∷ bs) [] x more a e = absurd (block_not_end b (head_same (block_line b) end_line (map block_line bs ++ x ∷ more) [] e))
blocks_fit (b ∷ bs) (c ∷ cb) x more a e =
    blocks_fit bs cb x more (λ k d h. a (suc k) d (omega arith)) (tail_same (block_line b) (block_line c) (map block_line bs ++ x ∷ more) (map block_line cb ++ end_line ∷ []) e)

later_fits : (bs : List Block) (x : List ℕ) (more : List (List ℕ)) → LaterFits x more → Fits bs x more
later_fits bs x more f = (inr f.0, f.1)

fits_lemma : (m : Lemma) (bs : List Block) (x : List ℕ) (more tail : List (List ℕ)) → LemmaNumbered m → map block_line bs ++ x ∷ more ≡ lemma_line m ∷ tail → Fits bs x more
fits_lemma m [] x more tail r e =
    let k = head_same x (lemma_line m) more tail e in
    (inl (refl, (m, (r, k))), λ z. absurd (lemma_not_end m (sym k ∙ z)))
fits_lemma m (b ∷ bs) x more tail r e = absurd (not_block m b (sym (head_same (block_line b) (lemma_line m) (map block_line bs ++ x ∷ more) tail e)))

pub no_lemma_first : (m : Lemma) (tail : List (List ℕ)) (cb : List Block) → lemma_line m ∷ tail ≡ map block_line cb ++ end_line ∷ [] → ⊥
no_lemma_first m tail [] e = lemma_not_end m (head_same (lemma_line m) end_line tail [] e)
no_lemma_first m tail (b ∷ cb) e = not_block m b (head_same (lemma_line m) (block_line b) tail (map block_line cb ++ end_line ∷ []) e)

parts_fit : (ms cl : List Lemma) (bs cb : List Block) (x : List ℕ) (more : List (List ℕ)) → All LemmaNumbered cl → All BlockNumbered cb → map lemma_line ms ++ (map block_line bs ++ x ∷ more) ≡ map lemma_line cl ++ (map block_line cb ++ end_line ∷ []) → Fits bs x more
parts_fit [] [] bs cb x more a b e = later_fits bs x more (blocks_fit bs cb x more b e)
parts_fit [] (m ∷ cl) bs cb x more a b e = fits_lemma m bs x more (map lemma_line cl ++ (map block_line cb ++ end_line ∷ [])) (a 0 m (omega arith)) e
parts_fit (m ∷ ms) [] bs cb x more a b e = absurd (no_lemma_first m (map lemma_line ms ++ (map block_line bs ++ x ∷ more)) cb e)
parts_fit (m ∷ ms) (n ∷ cl) bs cb x more a b e =
    parts_fit ms cl bs cb x more (λ k d h. a (suc k) d (omega arith)) b (tail_same (lemma_line m) (lemma_line n) (map lemma_line ms ++ (map block_line bs ++ x ∷ more)) (map lemma_line cl ++ (map block_line cb ++ end_line ∷ [])) e)

-- a line that goes on the lines of a proof text is one that may come next
fits_next : (ms : List Lemma) (bs : List Block) (x : List ℕ) (more : List (List ℕ)) → RightLines (front_lines ms bs ++ x ∷ more) → Fits bs x more
fits_next ms bs x more (c, (r, e)) =
    parts_fit ms c.proof.lemmas bs c.blocks x more r.0 r.1
    (sym (append_assoc (map lemma_line ms) (map block_line bs) (x ∷ more))
    ∙ tail_same header header ((map lemma_line ms ++ map block_line bs) ++ x ∷ more) ((map lemma_line c.proof.lemmas ++ map block_line c.blocks) ++ end_line ∷ []) e
    ∙ append_assoc (map lemma_line c.proof.lemmas) (map block_line c.blocks) (end_line ∷ []))

blocks_no_end : (bs : List Block) (pre : List (List ℕ)) → map block_line bs ≡ pre ++ end_line ∷ [] → ⊥
blocks_no_end [] [] e = absurd (omega (arith, ap length e))
blocks_no_end [] (p ∷ pre) e = absurd (omega (arith, ap length e))
blocks_no_end (b ∷ bs) [] e = block_not_end b (head_same (block_line b) end_line (map block_line bs) [] e)
blocks_no_end (b ∷ bs) (p ∷ pre) e = blocks_no_end bs pre (tail_same (block_line b) p (map block_line bs) (pre ++ end_line ∷ []) e)

parts_no_end : (ms : List Lemma) (bs : List Block) (pre : List (List ℕ)) → map lemma_line ms ++ map block_line bs ≡ pre ++ end_line ∷ [] → ⊥
parts_no_end [] bs pre e = blocks_no_end bs pre e
parts_no_end (m ∷ ms) bs [] e = lemma_not_end m (head_same (lemma_line m) end_line (map lemma_line ms ++ map block_line bs) [] e)
parts_no_end (m ∷ ms) bs (p ∷ pre) e = parts_no_end ms bs pre (tail_same (lemma_line m) p (map lemma_line ms ++ map block_line bs) (pre ++ end_line ∷ []) e)

-- the lines before the last are no whole proof text
front_not_right : (ms : List Lemma) (bs : List Block) → RightLines (front_lines ms bs) → ⊥
front_not_right ms bs (c, (r, e)) =
    parts_no_end ms bs (map lemma_line c.proof.lemmas ++ map block_line c.blocks) (tail_same header header (map lemma_line ms ++ map block_line bs) ((map lemma_line c.proof.lemmas ++ map block_line c.blocks) ++ end_line ∷ []) e)

-- where lines stop

front_whole : (ms : List Lemma) (bs : List Block) → PartsNumbered ms bs → RightLines (front_lines ms bs ++ end_line ∷ [])
front_whole ms bs r = (record { proof = record { lemmas = ms }; blocks = bs }, (r, refl))

pub front_begins : (ms : List Lemma) (bs : List Block) → PartsNumbered ms bs → BeginsRight RightLines (front_lines ms bs)
front_begins ms bs r = (end_line ∷ [], front_whole ms bs r)

end_begins : (ms : List Lemma) (bs : List Block) → PartsNumbered ms bs → BeginsRight RightLines (front_lines ms bs ++ end_line ∷ [])
end_begins ms bs r = ([], subst RightLines (sym (append-nil (front_lines ms bs ++ end_line ∷ []))) (front_whole ms bs r))

nothing_begins : BeginsRight RightLines []
nothing_begins = (header ∷ end_line ∷ [], (record { proof = record { lemmas = [] }; blocks = [] }, ((All-nil LemmaNumbered, All-nil BlockNumbered), refl)))

push_take : (front more : List (List ℕ)) (x : List ℕ) → take (length front + 1) (front ++ x ∷ more) ≡ front ++ x ∷ []
push_take front more x =
    let n : length (front ++ x ∷ []) ≡ length front + 1 = length-append front (x ∷ []) in
    ap (λ k. take k (front ++ x ∷ more)) (sym n) ∙ ap (take (length (front ++ x ∷ []))) (sym (append_assoc front (x ∷ []) more)) ∙ take-append_seam (front ++ x ∷ []) more

stops_here : (front more : List (List ℕ)) (x : List ℕ) → BeginsRight RightLines front → (BeginsRight RightLines (front ++ x ∷ []) → ⊥) → StopsAt RightLines (front ++ x ∷ more) (length front)
stops_here front more x b n =
    stops_before RightLines (front ++ x ∷ more) (length front) (omega (arith, length-append front (x ∷ more)))
    (subst (BeginsRight RightLines) (sym (take-append_seam front (x ∷ more))) b)
    (λ k. n (subst (BeginsRight RightLines) (push_take front more x) k))

-- the whole lines of a text of which some were taken

but_last_more : (x : List ℕ) (ys : List (List ℕ)) → 0 < length ys → but_last (x ∷ ys) ≡ x ∷ but_last ys
but_last_more x [] h = absurd (omega arith)
but_last_more x (y ∷ ys) h = refl

pub but_last_append : (front ys : List (List ℕ)) → 0 < length ys → but_last (front ++ ys) ≡ front ++ but_last ys
but_last_append [] ys h = refl
but_last_append (x ∷ front) ys h = but_last_more x (front ++ ys) (omega (arith, length-append front ys)) ∙ ap (λ zs. x ∷ zs) (but_last_append front ys h)

whole_of : (c : Certificate) (bytes : List ℕ) → IsProofText bytes c → all_pieces 10 bytes ≡ certificate_lines c ++ [] ∷ []
whole_of c bytes r = ap (all_pieces 10) r.1 ∙ certificate_pieces c r.0

right_whole : (c : Certificate) (bytes : List ℕ) → IsProofText bytes c → RightLines (whole_lines bytes)
right_whole c bytes r =
    (c, (r.0, ap but_last (whole_of c bytes r) ∙ but_last_append (certificate_lines c) ([] ∷ []) (omega arith) ∙ append-nil (certificate_lines c)))

fault_by : (bytes : List ℕ) (whole : List (List ℕ)) (n place : ℕ) → whole_lines bytes ≡ whole → n ≡ place + 1 → StopsAt RightLines whole place → ((c : Certificate) → IsProofText bytes c → ⊥) → FaultMeans bytes (Bad n)
fault_by bytes whole n place w e s never =
    let k : place ≡ n - 1 = omega arith in
    (never, omega arith, subst (StopsAt RightLines (whole_lines bytes)) k (subst (λ ls. StopsAt RightLines ls place) (sym w) s))

-- the text ends early
pub bad_early : (bytes : List ℕ) (ms : List Lemma) (bs : List Block) (left : List (List ℕ)) (n : ℕ) → all_pieces 10 bytes ≡ front_lines ms bs ++ left → PartsNumbered ms bs → 0 < length left → but_last left ≡ [] → n ≡ length (front_lines ms bs) + 1 → FaultMeans bytes (Bad n)
bad_early bytes ms bs left n e r some none k =
    let front = front_lines ms bs in
    let w : whole_lines bytes ≡ front = ap but_last e ∙ but_last_append front left some ∙ ap (λ ys. front ++ ys) none ∙ append-nil front in
    fault_by bytes front n (length front) w k (stops_at_end RightLines front (front_begins ms bs r))
    (λ c t. front_not_right ms bs (subst RightLines w (right_whole c bytes t)))

-- a line that may not come next
pub bad_next : (bytes : List ℕ) (ms : List Lemma) (bs : List Block) (x : List ℕ) (left : List (List ℕ)) (n : ℕ) → all_pieces 10 bytes ≡ front_lines ms bs ++ x ∷ left → PartsNumbered ms bs → 0 < length left → (Next bs x → ⊥) → n ≡ length (front_lines ms bs) + 1 → FaultMeans bytes (Bad n)
bad_next bytes ms bs x left n e r some never k =
    let front = front_lines ms bs in
    let w : whole_lines bytes ≡ front ++ x ∷ but_last left = ap but_last e ∙ but_last_append front (x ∷ left) (omega arith) ∙ ap (λ ys. front ++ ys) (but_last_more x left some) in
    fault_by bytes (front ++ x ∷ but_last left) n (length front) w k
    (stops_here front (but_last left) x (front_begins ms bs r)
    (λ (more, right). never (fits_next ms bs x more (subst RightLines (append_assoc front (x ∷ []) more) right)).0))
    (λ c t. never (fits_next ms bs x (but_last left) (subst RightLines w (right_whole c bytes t))).0)

-- the end line, and more behind it
after_whole : (bytes : List ℕ) (front left : List (List ℕ)) → all_pieces 10 bytes ≡ front ++ end_line ∷ left → 0 < length left → whole_lines bytes ≡ front ++ end_line ∷ but_last left
after_whole bytes front left e some = ap but_last e ∙ but_last_append front (end_line ∷ left) (omega arith) ∙ ap (λ ys. front ++ ys) (but_last_more end_line left some)

after_stops : (ms : List Lemma) (bs : List Block) (rest : List (List ℕ)) → PartsNumbered ms bs → StopsAt RightLines (front_lines ms bs ++ end_line ∷ rest) (length (front_lines ms bs) + 1)
after_stops ms bs [] r =
    let front = front_lines ms bs in
    subst (StopsAt RightLines (front ++ end_line ∷ [])) (length-append front (end_line ∷ [])) (stops_at_end RightLines (front ++ end_line ∷ []) (end_begins ms bs r))
after_stops ms bs (y ∷ rest) r =
    let front = front_lines ms bs in
    let s = stops_here (front ++ end_line ∷ []) rest y (end_begins ms bs r)
    (λ (more, right). absurd (omega (arith, ap length ((fits_next ms bs end_line (y ∷ more) (subst RightLines (append_assoc (front ++ end_line ∷ []) (y ∷ []) more ∙ append_assoc front (end_line ∷ []) (y ∷ more)) right)).1 refl)))) in
    subst (StopsAt RightLines (front ++ end_line ∷ y ∷ rest)) (length-append front (end_line ∷ []))
    (subst (λ ls. StopsAt RightLines ls (length (front ++ end_line ∷ []))) (append_assoc front (end_line ∷ []) (y ∷ rest)) s)

cancel_front : (front xs ys : List (List ℕ)) → front ++ xs ≡ front ++ ys → xs ≡ ys
cancel_front [] xs ys e = e
cancel_front (f ∷ front) xs ys e = cancel_front front xs ys (tail_same f f (front ++ xs) (front ++ ys) e)

after_last : (left : List (List ℕ)) → 0 < length left → but_last left ≡ [] → (z : List ℕ) × (left ≡ z ∷ [])
after_last [] h e = absurd (omega arith)
after_last (z ∷ []) h e = (z, refl)
after_last (z ∷ y ∷ ys) h e = absurd (omega (arith, ap length e))

last_same : (vs bs : List (List ℕ)) (x y : List ℕ) → vs ++ x ∷ [] ≡ bs ++ y ∷ [] → x ≡ y
last_same [] [] x y e = head_same x y [] [] e
last_same [] (b ∷ bs) x y e = absurd (omega (arith, ap length e, length-append bs (y ∷ [])))
last_same (a ∷ vs) [] x y e = absurd (omega (arith, ap length e, length-append vs (x ∷ [])))
last_same (a ∷ vs) (b ∷ bs) x y e = last_same vs bs x y (tail_same a b (vs ++ x ∷ []) (bs ++ y ∷ []) e)

after_not_right : (bytes : List ℕ) (ms : List Lemma) (bs : List Block) (left : List (List ℕ)) → all_pieces 10 bytes ≡ front_lines ms bs ++ end_line ∷ left → 0 < length left → left ≢ [] ∷ [] → (c : Certificate) → IsProofText bytes c → ⊥
after_not_right bytes ms bs left e some not_done c t =
    let front = front_lines ms bs in
    let none = (fits_next ms bs end_line (but_last left) (subst RightLines (after_whole bytes front left e some) (right_whole c bytes t))).1 refl in
    let z = after_last left some none in
    let same : z.0 ≡ [] = last_same (front ++ end_line ∷ []) (certificate_lines c) z.0 [] (append_assoc front (end_line ∷ []) (z.0 ∷ []) ∙ ap (λ ys. front ++ end_line ∷ ys) (sym z.1) ∙ sym e ∙ whole_of c bytes t) in
    not_done (z.1 ∙ ap (λ w. w ∷ []) same)

pub bad_after : (bytes : List ℕ) (ms : List Lemma) (bs : List Block) (left : List (List ℕ)) (n : ℕ) → all_pieces 10 bytes ≡ front_lines ms bs ++ end_line ∷ left → PartsNumbered ms bs → 0 < length left → left ≢ [] ∷ [] → n ≡ length (front_lines ms bs) + 2 → FaultMeans bytes (Bad n)
bad_after bytes ms bs left n e r some not_done k =
    let front = front_lines ms bs in
    fault_by bytes (front ++ end_line ∷ but_last left) n (length front + 1) (after_whole bytes front left e some) (omega arith) (after_stops ms bs (but_last left) r) (after_not_right bytes ms bs left e some not_done)

-- a right text
pub good_text : (bytes : List ℕ) (ms : List Lemma) (bs : List Block) → all_pieces 10 bytes ≡ front_lines ms bs ++ end_line ∷ [] ∷ [] → PartsNumbered ms bs → IsProofText bytes (record { proof = record { lemmas = ms }; blocks = bs })
good_text bytes ms bs e r = (r, text_of_lines bytes (front_lines ms bs ++ end_line ∷ []) (e ∙ sym (append_assoc (front_lines ms bs) (end_line ∷ []) ([] ∷ []))))

-- the first line isn't the header

first_right : (x : List ℕ) (more : List (List ℕ)) → RightLines (x ∷ more) → x ≡ header
first_right x more (c, (r, e)) = head_same x header more ((map lemma_line c.proof.lemmas ++ map block_line c.blocks) ++ end_line ∷ []) e

none_right : RightLines [] → ⊥
none_right (c, (r, e)) = absurd (omega (arith, ap length e))

pub bad_start : (bytes : List ℕ) → but_last (all_pieces 10 bytes) ≡ [] → FaultMeans bytes (Bad 1)
bad_start bytes none =
    fault_by bytes [] 1 0 none (omega arith) (stops_at_end RightLines [] nothing_begins) (λ c t. none_right (subst RightLines none (right_whole c bytes t)))

pub bad_header : (bytes x : List ℕ) (left : List (List ℕ)) → all_pieces 10 bytes ≡ x ∷ left → 0 < length left → x ≢ header → FaultMeans bytes (Bad 1)
bad_header bytes x left e some never =
    let w : whole_lines bytes ≡ x ∷ but_last left = ap but_last e ∙ but_last_more x left some in
    fault_by bytes (x ∷ but_last left) 1 0 w (omega arith)
    (stops_here [] (but_last left) x nothing_begins (λ (more, right). never (first_right x more right)))
    (λ c t. never (first_right x (but_last left) (subst RightLines w (right_whole c bytes t))))
