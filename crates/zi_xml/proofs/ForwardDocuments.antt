-- The reader reads content, what stands around the root, and documents.
use Rattle.std.proofs.Common.{◌≡◌, ℕ, suc, Bool, true, false, List, [], ◌∷◌, ◌++◌, Option, Some, None, length, refl, sym, ap, ◌∙◌, subst, append_assoc, append-nil}
use Rattle.std.proofs.Math.Utf8.{encode}
use Rattle.zi_xml.proofs.CharLemmas.{passed_append, same_self, white_not_name, white_not_ask, white_not_mark, digit_not_quote, encoding_not_quote}
use Rattle.zi_xml.proofs.Forward.{run, run_step, run_word, run_amped, run_hashed, run_hexed, run_named, run_behind, run_quote, Enters, run_start, run_empty, run_close, run_remark, run_instruction, none, run_section}
use Rattle.std.specs.Prelude.{codes, not, encode_utf8, encode_utf8_all}
use Rattle.zi_names.specs.Names.{first_scope}
use Rattle.zi_xml.specs.Chars.{is_white, is_first, is_name, is_char, is_plain, is_quote, is_digit, is_encoding, same_letters, small}
use Rattle.zi_xml.specs.Syntax.{Bit, letter, entity_of, decimal, hexadecimal, Content, stop, bit, section, comment, instruction, void, pair, bit_text, tag_rest, end_tag, section_text, comment_text, instruction_text, text, AllAre, SomeAre, IsBit, IsSection, IsComment, IsInstruction, is_said, brackets_after, IsContentAfter, Misc, white, remark, order, misc_text, miscs_text, IsMisc, AreMisc, Key, version_key, encoding_key, standalone_key, key_text, Setting, setting_text, IsSet, IsSetting, optional_text, IsOptional, Declaration, declaration_text, IsDeclaration, Root, alone, whole, doctype, root_text, IsRoot, Document, mark_text, declared_text, document_text, IsDeclared, IsDocument}
use Rattle.zi_xml.specs.Meaning.{Level, encoding_kind, tick, passed, blame_if, heard_all, bit_told, tag_of, Frame, framed, fresh, adopt, tag_passed, told, root_told, set, setting_told, optional_told, declaration_told, declared_told, start, document_told}
use Rattle.zi_xml.specs.Machine.{Spot, before, among, in_text, of_key, doctype_word, section_word, key_word, version_word, reply_word, begun, front, opened, banged, asked, declaring, heading, headed, numbering, numbered, coded, named, amped, inside, State, state, to, step, initial, second, others, keyed, quoted, back_to, done, first_state}

run_text_amp : (f : Frame) (fs : List Frame) (n : ℕ) (w : List ℕ) (l : Level)
    → run (state (inside (f ∷ fs) n) l) (38 ∷ w) ≡ run (state (amped (in_text (f ∷ fs)) l.at) (tick 38 l)) w
unfolding is_plain is_char
run_text_amp f fs n w l = refl

run_bit : (f : Frame) (fs : List Frame) (n : ℕ) (b : Bit) (w : List ℕ) (l : Level) → IsBit (is_said n) b
    → run (state (inside (f ∷ fs) n) l) (bit_text b ++ w) ≡ run (state (inside (f ∷ fs) (brackets_after n b)) (bit_told b l)) w
run_bit f fs n (letter c) w l h = rw h refl
run_bit f fs n (entity_of m) w l h =
    ap (λ x. run (state (inside (f ∷ fs) n) l) (38 ∷ x)) (append_assoc m (59 ∷ []) w)
    ∙ (run_text_amp f fs n (m ++ 59 ∷ w) l ∙ run_amped (in_text (f ∷ fs)) l.at m w (tick 38 l) h)
run_bit f fs n (decimal m) w l h =
    ap (λ x. run (state (inside (f ∷ fs) n) l) (38 ∷ 35 ∷ x)) (append_assoc m (59 ∷ []) w)
    ∙ (run_text_amp f fs n (35 ∷ (m ++ 59 ∷ w)) l ∙ run_hashed (in_text (f ∷ fs)) l.at m w (tick 38 l) h)
run_bit f fs n (hexadecimal m) w l h =
    ap (λ x. run (state (inside (f ∷ fs) n) l) (38 ∷ 35 ∷ 120 ∷ x)) (append_assoc m (59 ∷ []) w)
    ∙ (run_text_amp f fs n (35 ∷ 120 ∷ (m ++ 59 ∷ w)) l ∙ run_hexed (in_text (f ∷ fs)) l.at m w (tick 38 l) h)

-- `<` begins markup
run_less : (f : Frame) (fs : List Frame) (n : ℕ) (w : List ℕ) (l : Level)
    → run (state (inside (f ∷ fs) n) l) (60 ∷ w) ≡ run (state (opened (among (f ∷ fs)) l) (tick 60 l)) w
unfolding is_plain is_char
run_less f fs n w l = refl

enters_inside : (f : Frame) (fs : List Frame) (o : Level) → Enters (state (opened (among (f ∷ fs)) o) (tick 60 o)) (f ∷ fs) o
enters_inside f fs o c h = rw h refl

enters_front : (b : Bool) (o : Level) → Enters (state (opened (before b) o) (tick 60 o)) [] o
enters_front b o c h = rw h refl

-- `<!--`, behind a `<`
pub run_comment : (s : Spot) (o : Level) (cs w : List ℕ) → IsComment cs → step (state (opened s o) (tick 60 o)) 33 ≡ to (banged s o.at) (tick 33 (tick 60 o))
    → run (state (opened s o) (tick 60 o)) (33 ∷ 45 ∷ 45 ∷ (cs ++ 45 ∷ 45 ∷ 62 ∷ w)) ≡ run (state (back_to s) (passed (comment_text cs) o)) w
run_comment s o cs w i h =
    run_step (state (opened s o) (tick 60 o)) _ 33 (45 ∷ 45 ∷ (cs ++ 45 ∷ 45 ∷ 62 ∷ w)) h
    ∙ run_remark cs false s w (tick 45 (tick 45 (tick 33 (tick 60 o)))) i.0 i.1

-- `<?`, behind a `<`
pub run_order : (s : Spot) (o : Level) (n cs w : List ℕ) → IsInstruction n cs → step (state (opened s o) (tick 60 o)) 63 ≡ to (asked s) (tick 63 (tick 60 o))
    → run (state (opened s o) (tick 60 o)) (63 ∷ (n ++ (cs ++ 63 ∷ 62 ∷ w))) ≡ run (state (back_to s) (passed (instruction_text n cs) o)) w
run_order s o n cs w i h =
    run_step (state (opened s o) (tick 60 o)) _ 63 (n ++ (cs ++ 63 ∷ 62 ∷ w)) h ∙ run_instruction s n cs w (tick 63 (tick 60 o)) i

abbrev pub left_by : ℕ → Content → ℕ
left_by n stop = n
left_by n (bit b k) = left_by (brackets_after n b) k
left_by n (section cs k) = left_by 0 k
left_by n (comment cs k) = left_by 0 k
left_by n (instruction m cs k) = left_by 0 k
left_by n (void m ws e k) = left_by 0 k
left_by n (pair m ws e i f k) = left_by 0 k

comment_flat : (cs k w : List ℕ) → (comment_text cs ++ k) ++ w ≡ 60 ∷ 33 ∷ 45 ∷ 45 ∷ (cs ++ 45 ∷ 45 ∷ 62 ∷ (k ++ w))
comment_flat cs k w = simp append_assoc

instruction_flat : (n cs k w : List ℕ) → (instruction_text n cs ++ k) ++ w ≡ 60 ∷ 63 ∷ (n ++ (cs ++ 63 ∷ 62 ∷ (k ++ w)))
instruction_flat n cs k w = simp append_assoc

section_flat : (cs k w : List ℕ) → (section_text cs ++ k) ++ w ≡ 60 ∷ 33 ∷ 91 ∷ 67 ∷ 68 ∷ 65 ∷ 84 ∷ 65 ∷ 91 ∷ (cs ++ 93 ∷ 93 ∷ 62 ∷ (k ++ w))
section_flat cs k w = simp append_assoc

inside_bang : (f : Frame) (fs : List Frame) (o : Level) → step (state (opened (among (f ∷ fs)) o) (tick 60 o)) 33 ≡ to (banged (among (f ∷ fs)) o.at) (tick 33 (tick 60 o))
unfolding is_first
inside_bang f fs o = refl

inside_ask : (f : Frame) (fs : List Frame) (o : Level) → step (state (opened (among (f ∷ fs)) o) (tick 60 o)) 63 ≡ to (asked (among (f ∷ fs))) (tick 63 (tick 60 o))
unfolding is_first
inside_ask f fs o = refl

run_cdata : (f : Frame) (fs : List Frame) (o : Level) (cs w : List ℕ) → IsSection cs
    → run (state (opened (among (f ∷ fs)) o) (tick 60 o)) (33 ∷ 91 ∷ 67 ∷ 68 ∷ 65 ∷ 84 ∷ 65 ∷ 91 ∷ (cs ++ 93 ∷ 93 ∷ 62 ∷ w))
    ≡ run (state (inside (f ∷ fs) 0) (passed (codes "]]>") (heard_all cs (passed (codes "<![CDATA[") o)))) w
run_cdata f fs o cs w i =
    run_step (state (opened (among (f ∷ fs)) o) (tick 60 o)) _ 33 (91 ∷ 67 ∷ 68 ∷ 65 ∷ 84 ∷ 65 ∷ 91 ∷ (cs ++ 93 ∷ 93 ∷ 62 ∷ w)) (inside_bang f fs o)
    ∙ (run_word (section_word (f ∷ fs)) 67 (codes "DATA[") (cs ++ 93 ∷ 93 ∷ 62 ∷ w) (tick 91 (tick 33 (tick 60 o)))
    ∙ run_section none (f ∷ fs) cs w (passed (codes "<![CDATA[") o) i.0 i.1)

pub run_content : (k : Content) (f : Frame) (fs : List Frame) (n : ℕ) (w : List ℕ) (l : Level) → IsContentAfter n k
    → run (state (inside (f ∷ fs) n) l) (text k ++ w) ≡ run (state (inside (f ∷ fs) (left_by n k)) (told (suc (length fs)) f.scope k l)) w
run_content stop f fs n w l i = refl
run_content (bit b k) f fs n w l i =
    ap (run (state (inside (f ∷ fs) n) l)) (append_assoc (bit_text b) (text k) w)
    ∙ (run_bit f fs n b (text k ++ w) l i.0 ∙ run_content k f fs (brackets_after n b) w (bit_told b l) i.1)
run_content (section cs k) f fs n w l i =
    ap (run (state (inside (f ∷ fs) n) l)) (section_flat cs (text k) w)
    ∙ (run_less f fs n (33 ∷ 91 ∷ 67 ∷ 68 ∷ 65 ∷ 84 ∷ 65 ∷ 91 ∷ (cs ++ 93 ∷ 93 ∷ 62 ∷ (text k ++ w))) l
    ∙ (run_cdata f fs l cs (text k ++ w) i.0
    ∙ run_content k f fs 0 w (passed (codes "]]>") (heard_all cs (passed (codes "<![CDATA[") l))) i.1))
run_content (comment cs k) f fs n w l i =
    ap (run (state (inside (f ∷ fs) n) l)) (comment_flat cs (text k) w)
    ∙ (run_less f fs n (33 ∷ 45 ∷ 45 ∷ (cs ++ 45 ∷ 45 ∷ 62 ∷ (text k ++ w))) l
    ∙ (run_comment (among (f ∷ fs)) l cs (text k ++ w) i.0 (inside_bang f fs l)
    ∙ run_content k f fs 0 w (passed (comment_text cs) l) i.1))
run_content (instruction m cs k) f fs n w l i =
    ap (run (state (inside (f ∷ fs) n) l)) (instruction_flat m cs (text k) w)
    ∙ (run_less f fs n (63 ∷ (m ++ (cs ++ 63 ∷ 62 ∷ (text k ++ w)))) l
    ∙ (run_order (among (f ∷ fs)) l m cs (text k ++ w) i.0 (inside_ask f fs l)
    ∙ run_content k f fs 0 w (passed (instruction_text m cs) l) i.1))
run_content (void m ws e k) f fs n w l i =
    let x : List ℕ = text k ++ w in
    ap (run (state (inside (f ∷ fs) n) l)) (ap (λ y. 60 ∷ y) (append_assoc m (tag_rest ws e (47 ∷ 62 ∷ []) ++ text k) w ∙ ap (λ y. m ++ y) (append_assoc (tag_rest ws e (47 ∷ 62 ∷ [])) (text k) w)))
    ∙ (run_less f fs n (m ++ (tag_rest ws e (47 ∷ 62 ∷ []) ++ x)) l
    ∙ (run_empty (state (opened (among (f ∷ fs)) l) (tick 60 l)) (f ∷ fs) l m ws e x (enters_inside f fs l) i.0 i.1.0 i.1.1.0
    ∙ run_content k f fs 0 w _ i.1.1.1))
run_content (pair m ws e j g k) f fs n w l i =
    let x : List ℕ = text k ++ w in
    let y : List ℕ = end_tag m g ++ x in
    let z : List ℕ = text j ++ y in
    let frame : Frame = framed f.scope (tag_of m ws l) in
    let m0 : Level = fresh (tag_passed (suc (suc (length fs))) f.scope m ws e (62 ∷ []) l) in
    let m1 : Level = told (suc (suc (length fs))) frame.scope j m0 in
    ap (run (state (inside (f ∷ fs) n) l)) (ap (λ v. 60 ∷ v) (append_assoc m (tag_rest ws e (62 ∷ []) ++ (text j ++ (end_tag m g ++ text k))) w
    ∙ ap (λ v. m ++ v) (append_assoc (tag_rest ws e (62 ∷ [])) (text j ++ (end_tag m g ++ text k)) w
    ∙ ap (λ v. tag_rest ws e (62 ∷ []) ++ v) (append_assoc (text j) (end_tag m g ++ text k) w
    ∙ ap (λ v. text j ++ v) (append_assoc (end_tag m g) (text k) w)))))
    ∙ (run_less f fs n (m ++ (tag_rest ws e (62 ∷ []) ++ z)) l
    ∙ (run_start (state (opened (among (f ∷ fs)) l) (tick 60 l)) (f ∷ fs) l m ws e z (enters_inside f fs l) i.0 i.1.0 i.1.1.0
    ∙ (run_content j frame (f ∷ fs) 0 y m0 i.1.1.1.0
    ∙ (run_close frame (f ∷ fs) (left_by 0 j) g x m1 i.1.1.1.1.0
    ∙ run_content k f fs 0 w (adopt frame (passed (end_tag m g) m1)) i.1.1.1.1.1))))

-- A state before the root, where a declaration may begin or not.
pub record Fronts (s : State) (b : Bool) (l : Level) : Type 0 where
  pub white : (c : ℕ) → is_white c ≡ true → step s c ≡ to (front false) (tick c l)
  pub less : step s 60 ≡ to (opened (before b) l) (tick 60 l)

front_fronts : (b : Bool) (l : Level) → Fronts (state (front b) l) b l
unfolding is_white
front_fronts b l = record { white = λ c h. rw h refl; less = refl }

begun_fronts : (l : Level) → Fronts (state begun l) true l
unfolding is_white
begun_fronts l = record { white = λ c h. rw (white_not_mark c h, h) refl; less = refl }

front_bang : (b : Bool) (o : Level) → step (state (opened (before b) o) (tick 60 o)) 33 ≡ to (banged (before b) o.at) (tick 33 (tick 60 o))
unfolding is_first
front_bang b o = refl

front_ask : (b : Bool) (o : Level) → step (state (opened (before b) o) (tick 60 o)) 63 ≡ to (asked (before b)) (tick 63 (tick 60 o))
unfolding is_first
front_ask b o = refl

comment_short : (cs w : List ℕ) → comment_text cs ++ w ≡ 60 ∷ 33 ∷ 45 ∷ 45 ∷ (cs ++ 45 ∷ 45 ∷ 62 ∷ w)
comment_short cs w = simp append_assoc

instruction_short : (n cs w : List ℕ) → instruction_text n cs ++ w ≡ 60 ∷ 63 ∷ (n ++ (cs ++ 63 ∷ 62 ∷ w))
instruction_short n cs w = simp append_assoc

run_misc : (m : Misc) (s : State) (b : Bool) (w : List ℕ) (l : Level) → Fronts s b l → IsMisc m
    → run s (misc_text m ++ w) ≡ run (state (front false) (passed (misc_text m) l)) w
run_misc (white c) s b w l z i = run_step s _ c w (z.white c i)
run_misc (remark cs) s b w l z i =
    ap (run s) (comment_short cs w) ∙ (run_step s _ 60 (33 ∷ 45 ∷ 45 ∷ (cs ++ 45 ∷ 45 ∷ 62 ∷ w)) z.less ∙ run_comment (before b) l cs w i (front_bang b l))
run_misc (order n cs) s b w l z i =
    ap (run s) (instruction_short n cs w) ∙ (run_step s _ 60 (63 ∷ (n ++ (cs ++ 63 ∷ 62 ∷ w))) z.less ∙ run_order (before b) l n cs w i (front_ask b l))

run_root : (t : Root) (s : State) (b : Bool) (w : List ℕ) (l : Level) → Fronts s b l → IsRoot t
    → run s (root_text t ++ w) ≡ run (state (inside [] 0) (root_told t l)) w
run_root (alone n ws e) s b w l z i =
    ap (λ v. run s (60 ∷ v)) (append_assoc n (tag_rest ws e (47 ∷ 62 ∷ []) ++ []) w ∙ ap (λ v. n ++ v) (append_assoc (tag_rest ws e (47 ∷ 62 ∷ [])) [] w))
    ∙ (run_step s _ 60 (n ++ (tag_rest ws e (47 ∷ 62 ∷ []) ++ w)) z.less
    ∙ run_empty (state (opened (before b) l) (tick 60 l)) [] l n ws e w (enters_front b l) i.0 i.1.0 i.1.1.0)
run_root (whole n ws e j g) s b w l z i =
    let y : List ℕ = end_tag n g ++ w in
    let frame : Frame = framed first_scope (tag_of n ws l) in
    let m0 : Level = fresh (tag_passed 1 first_scope n ws e (62 ∷ []) l) in
    let m1 : Level = told 1 frame.scope j m0 in
    ap (λ v. run s (60 ∷ v)) (append_assoc n (tag_rest ws e (62 ∷ []) ++ (text j ++ (end_tag n g ++ []))) w
    ∙ ap (λ v. n ++ v) (append_assoc (tag_rest ws e (62 ∷ [])) (text j ++ (end_tag n g ++ [])) w
    ∙ ap (λ v. tag_rest ws e (62 ∷ []) ++ v) (append_assoc (text j) (end_tag n g ++ []) w
    ∙ ap (λ v. text j ++ v) (append_assoc (end_tag n g) [] w))))
    ∙ (run_step s _ 60 (n ++ (tag_rest ws e (62 ∷ []) ++ (text j ++ y))) z.less
    ∙ (run_start (state (opened (before b) l) (tick 60 l)) [] l n ws e (text j ++ y) (enters_front b l) i.0 i.1.0 i.1.1.0
    ∙ (run_content j frame [] 0 y m0 i.1.1.1.0
    ∙ run_close frame [] (left_by 0 j) g w m1 i.1.1.1.1.0)))
run_root doctype s b w l z i =
    run_step s _ 60 (33 ∷ 68 ∷ 79 ∷ (codes "CTYPE" ++ w)) z.less
    ∙ (run_step (state (opened (before b) l) (tick 60 l)) _ 33 (68 ∷ 79 ∷ (codes "CTYPE" ++ w)) (front_bang b l)
    ∙ run_word (doctype_word l.at) 79 (codes "CTYPE") w (tick 68 (tick 33 (tick 60 l))))

-- what stands before the root, and the root
run_front : (ms : List Misc) (t : Root) (s : State) (b : Bool) (w : List ℕ) (l : Level) → Fronts s b l → AreMisc ms → IsRoot t
    → run s (miscs_text ms ++ (root_text t ++ w)) ≡ run (state (inside [] 0) (root_told t (passed (miscs_text ms) l))) w
run_front [] t s b w l z h i = run_root t s b w l z i
run_front (m ∷ ms) t s b w l z h i =
    ap (run s) (append_assoc (misc_text m) (miscs_text ms) (root_text t ++ w))
    ∙ (run_misc m s b (miscs_text ms ++ (root_text t ++ w)) l z h.0
    ∙ (run_front ms t (state (front false) (passed (misc_text m) l)) false w (passed (misc_text m) l) (front_fronts false _) h.1 i
    ∙ ap (λ x. run (state (inside [] 0) (root_told t x)) w) (sym (passed_append (misc_text m) (miscs_text ms) l))))

-- what stands behind the root
tail_bang : (o : Level) → step (state (opened (among []) o) (tick 60 o)) 33 ≡ to (banged (among []) o.at) (tick 33 (tick 60 o))
tail_bang o = refl

tail_ask : (o : Level) → step (state (opened (among []) o) (tick 60 o)) 63 ≡ to (asked (among [])) (tick 63 (tick 60 o))
tail_ask o = refl

tail_less : (w : List ℕ) (l : Level) → run (state (inside [] 0) l) (60 ∷ w) ≡ run (state (opened (among []) l) (tick 60 l)) w
unfolding is_white
tail_less w l = refl

run_tail_misc : (m : Misc) (w : List ℕ) (l : Level) → IsMisc m → run (state (inside [] 0) l) (misc_text m ++ w) ≡ run (state (inside [] 0) (passed (misc_text m) l)) w
run_tail_misc (white c) w l i = rw i refl
run_tail_misc (remark cs) w l i = ap (run (state (inside [] 0) l)) (comment_short cs w) ∙ (tail_less (33 ∷ 45 ∷ 45 ∷ (cs ++ 45 ∷ 45 ∷ 62 ∷ w)) l ∙ run_comment (among []) l cs w i (tail_bang l))
run_tail_misc (order n cs) w l i = ap (run (state (inside [] 0) l)) (instruction_short n cs w) ∙ (tail_less (63 ∷ (n ++ (cs ++ 63 ∷ 62 ∷ w))) l ∙ run_order (among []) l n cs w i (tail_ask l))

pub run_tail : (ms : List Misc) (l : Level) → AreMisc ms → run (state (inside [] 0) l) (miscs_text ms) ≡ Some (done (passed (miscs_text ms) l))
run_tail [] l h = refl
run_tail (m ∷ ms) l h =
    run_tail_misc m (miscs_text ms) l h.0 ∙ (run_tail ms (passed (misc_text m) l) h.1 ∙ ap (λ x. Some (done x)) (sym (passed_append (misc_text m) (miscs_text ms) l)))

-- the values of settings
run_digits : (q : ℕ) (ks : List Key) (ds w : List ℕ) (l : Level) → is_quote q ≡ true → AllAre is_digit ds
    → run (state (numbered q ks) l) (ds ++ q ∷ w) ≡ run (state (headed ks) (passed (ds ++ q ∷ []) l)) w
run_digits q ks [] w l h i = rw (same_self q) refl
run_digits q ks (c ∷ ds) w l h i = rw (digit_not_quote c q i.0 h, i.0) (run_digits q ks ds w (tick c l) h i.1)

run_number : (q : ℕ) (ks : List Key) (ds w : List ℕ) (l : Level) → is_quote q ≡ true → SomeAre is_digit ds
    → run (state (numbering q ks) l) (ds ++ q ∷ w) ≡ run (state (headed ks) (passed (ds ++ q ∷ []) l)) w
run_number q ks [] w l h i = absurd i
run_number q ks (c ∷ ds) w l h i = rw i.0 (run_digits q ks ds w (tick c l) h i.1)

run_coded : (q : ℕ) (ks : List Key) (v : List ℕ) (p : ℕ) (m w : List ℕ) (l : Level) → is_quote q ≡ true → AllAre is_encoding m
    → run (state (coded q ks v p) l) (m ++ q ∷ w)
    ≡ run (state (headed ks) (blame_if (not (same_letters (v ++ encode_utf8_all m) (codes "UTF-8"))) encoding_kind p (passed (m ++ q ∷ []) l))) w
run_coded q ks v p [] w l h i = rw (same_self q, append-nil v) refl
run_coded q ks v p (c ∷ m) w l h i = rw (encoding_not_quote c q i.0 h, i.0) (run_coded q ks (v ++ encode_utf8 c) p m w (tick c l) h i.1 ∙ rw append_assoc refl)

run_value : (k : Key) (ks : List Key) (q : ℕ) (v w : List ℕ) (l : Level) → is_quote q ≡ true → IsSet k v
    → run (state (quoted (of_key k ks) q) l) (v ++ q ∷ w) ≡ run (state (headed ks) (set k v l.at (passed (v ++ q ∷ []) l))) w
run_value version_key ks q v w l h (ds, e, i) =
    let P : List ℕ → Type 0 = λ x. run (state (quoted (of_key version_key ks) q) l) (x ++ q ∷ w) ≡ run (state (headed ks) (passed (x ++ q ∷ []) l)) w in
    subst P (sym e) (run_word (version_word q ks) 49 (46 ∷ []) (ds ++ q ∷ w) l ∙ run_number q ks ds w (tick 46 (tick 49 l)) h i)
run_value encoding_key ks q [] w l h i = absurd i
run_value encoding_key ks q (c ∷ v) w l h i = rw i.0 (run_coded q ks (encode_utf8 c) l.at v w (tick c l) h i.1)
run_value standalone_key ks q v w l h (true, e) =
    let P : List ℕ → Type 0 = λ x. run (state (quoted (of_key standalone_key ks) q) l) (x ++ q ∷ w) ≡ run (state (headed ks) (passed (x ++ q ∷ []) l)) w in
    subst P (sym e) (run_word (reply_word ks) 101 (115 ∷ q ∷ []) w (tick 121 l))
run_value standalone_key ks q v w l h (false, e) =
    let P : List ℕ → Type 0 = λ x. run (state (quoted (of_key standalone_key ks) q) l) (x ++ q ∷ w) ≡ run (state (headed ks) (passed (x ++ q ∷ []) l)) w in
    subst P (sym e) (run_word (reply_word ks) 111 (q ∷ []) w (tick 110 l))

-- a setting behind its white space
setting_levels : (k e e2 e3 : List ℕ) (q : ℕ) (l : Level)
    → passed (e ++ (k ++ (e2 ++ 61 ∷ (e3 ++ q ∷ [])))) l ≡ tick q (passed e3 (passed (e2 ++ 61 ∷ []) (passed k (passed e l))))
setting_levels k e e2 e3 q l = simp passed_append

-- a state that reads white space, and then the first letter of this key
pub record Heads (s : Level → State) (k : Key) (ks : List Key) : Type 0 where
  pub white : (c : ℕ) (l : Level) → is_white c ≡ true → step (s l) c ≡ Some (s (tick c l))
  pub key : (l : Level) → step (s l) (initial k) ≡ to (keyed k ks) (tick (initial k) l)

run_heads_white : (s : Level → State) (k : Key) (ks : List Key) (e w : List ℕ) (l : Level) → Heads s k ks → AllAre is_white e → run (s l) (e ++ w) ≡ run (s (passed e l)) w
run_heads_white s k ks [] w l z h = refl
run_heads_white s k ks (c ∷ e) w l z h = run_step (s l) _ c (e ++ w) (z.white c l h.0) ∙ run_heads_white s k ks e w (tick c l) z h.1

run_keyed : (k : Key) (ks : List Key) (w : List ℕ) (l : Level) → run (state (keyed k ks) l) (second k ∷ (others k ++ w)) ≡ run (state (named (of_key k ks)) (passed (second k ∷ others k) l)) w
run_keyed k ks w l = run_word (key_word k ks) (second k) (others k) w l

key_is : (k : Key) (w : List ℕ) → key_text k ++ w ≡ initial k ∷ second k ∷ (others k ++ w)
key_is version_key w = refl
key_is encoding_key w = refl
key_is standalone_key w = refl

key_passed : (k : Key) (l : Level) → passed (key_text k) l ≡ passed (second k ∷ others k) (tick (initial k) l)
key_passed version_key l = refl
key_passed encoding_key l = refl
key_passed standalone_key l = refl

setting_flat : (k : Key) (s : Setting) (w : List ℕ)
    → setting_text k s ++ w ≡ s.lead ∷ (s.more ++ (key_text k ++ (s.before ++ 61 ∷ (s.behind ++ s.quote ∷ (s.value ++ s.quote ∷ w)))))
setting_flat k s w = simp append_assoc

-- from a state in which white space has led to s
run_setting : (s : Level → State) (k : Key) (ks : List Key) (x : Setting) (w : List ℕ) (l : Level) → Heads s k ks → IsSetting k x
    → run (s (tick x.lead l)) (x.more ++ (key_text k ++ (x.before ++ 61 ∷ (x.behind ++ x.quote ∷ (x.value ++ x.quote ∷ w)))))
    ≡ run (state (headed ks) (setting_told k x l)) w
run_setting s k ks x w l z i =
    let m0 : Level = passed x.more (tick x.lead l) in
    let m1 : Level = passed (key_text k) m0 in
    let m2 : Level = passed (x.before ++ 61 ∷ []) m1 in
    let m3 : Level = passed x.behind m2 in
    let y3 : List ℕ = x.value ++ x.quote ∷ w in
    let y2 : List ℕ = x.behind ++ x.quote ∷ y3 in
    let y1 : List ℕ = x.before ++ 61 ∷ y2 in
    run_heads_white s k ks x.more (key_text k ++ y1) (tick x.lead l) z i.more
    ∙ (ap (run (s m0)) (key_is k y1)
    ∙ (run_step (s m0) _ (initial k) (second k ∷ (others k ++ y1)) (z.key m0)
    ∙ (run_keyed k ks y1 (tick (initial k) m0)
    ∙ (ap (λ m. run (state (named (of_key k ks)) m) y1) (sym (key_passed k m0))
    ∙ (run_named (of_key k ks) x.before y2 m1 i.before
    ∙ (run_behind (of_key k ks) x.behind (x.quote ∷ y3) m2 i.behind
    ∙ (run_quote (of_key k ks) x.quote y3 m3 i.quote
    ∙ (run_value k ks x.quote x.value w (tick x.quote m3) i.quote i.value
    ∙ ap (λ m. run (state (headed ks) (set k x.value m.at (passed (x.value ++ x.quote ∷ []) m))) w) (sym (setting_levels (key_text k) x.more x.before x.behind x.quote (tick x.lead l)))))))))))

declaring_heads : Heads (state declaring) version_key (encoding_key ∷ standalone_key ∷ [])
unfolding is_white
declaring_heads = record { white = λ c l h. rw h refl; key = λ l. refl }

encoding_heads : Heads (state (heading (encoding_key ∷ standalone_key ∷ []))) encoding_key (standalone_key ∷ [])
unfolding is_white
encoding_heads = record { white = λ c l h. rw h refl; key = λ l. refl }

late_heads : Heads (state (heading (encoding_key ∷ standalone_key ∷ []))) standalone_key []
unfolding is_white
late_heads = record { white = λ c l h. rw h refl; key = λ l. refl }

standalone_heads : Heads (state (heading (standalone_key ∷ []))) standalone_key []
unfolding is_white
standalone_heads = record { white = λ c l h. rw h refl; key = λ l. refl }

-- a setting behind others
run_next : (has : List Key) (k : Key) (ks : List Key) (x : Setting) (w : List ℕ) (l : Level) → Heads (state (heading has)) k ks → IsSetting k x
    → run (state (headed has) l) (setting_text k x ++ w) ≡ run (state (headed ks) (setting_told k x l)) w
run_next has k ks x w l z i =
    ap (run (state (headed has) l)) (setting_flat k x w) ∙ rw i.lead (run_setting (state (heading has)) k ks x w l z i)

run_heading_end : (ks : List Key) (e w : List ℕ) (l : Level) → AllAre is_white e
    → run (state (heading ks) l) (e ++ 63 ∷ 62 ∷ w) ≡ run (state (front false) (passed (e ++ 63 ∷ 62 ∷ []) l)) w
unfolding is_white
run_heading_end ks [] w l h = refl
run_heading_end ks (c ∷ e) w l h = rw h.0 (run_heading_end ks e w (tick c l) h.1)

run_headed_end : (ks : List Key) (e w : List ℕ) (l : Level) → AllAre is_white e
    → run (state (headed ks) l) (e ++ 63 ∷ 62 ∷ w) ≡ run (state (front false) (passed (e ++ 63 ∷ 62 ∷ []) l)) w
unfolding is_white
run_headed_end ks [] w l h = refl
run_headed_end ks (c ∷ e) w l h = rw h.0 (run_heading_end ks e w (tick c l) h.1)

run_last : (a b : Option Setting) (e w : List ℕ) (l : Level) → IsOptional encoding_key a → IsOptional standalone_key b → AllAre is_white e
    → run (state (headed (encoding_key ∷ standalone_key ∷ [])) l) (optional_text encoding_key a ++ (optional_text standalone_key b ++ (e ++ 63 ∷ 62 ∷ w)))
    ≡ run (state (front false) (passed (e ++ 63 ∷ 62 ∷ []) (optional_told standalone_key b (optional_told encoding_key a l)))) w
run_last None None e w l i j h = run_headed_end _ e w l h
run_last None (Some y) e w l i j h =
    run_next (encoding_key ∷ standalone_key ∷ []) standalone_key [] y (e ++ 63 ∷ 62 ∷ w) l late_heads j ∙ run_headed_end [] e w (setting_told standalone_key y l) h
run_last (Some x) None e w l i j h =
    run_next (encoding_key ∷ standalone_key ∷ []) encoding_key (standalone_key ∷ []) x (e ++ 63 ∷ 62 ∷ w) l encoding_heads i
    ∙ run_headed_end (standalone_key ∷ []) e w (setting_told encoding_key x l) h
run_last (Some x) (Some y) e w l i j h =
    run_next (encoding_key ∷ standalone_key ∷ []) encoding_key (standalone_key ∷ []) x (setting_text standalone_key y ++ (e ++ 63 ∷ 62 ∷ w)) l encoding_heads i
    ∙ (run_next (standalone_key ∷ []) standalone_key [] y (e ++ 63 ∷ 62 ∷ w) (setting_told encoding_key x l) standalone_heads j
    ∙ run_headed_end [] e w (setting_told standalone_key y (setting_told encoding_key x l)) h)

-- `xml` and white space at the start
run_xml : (c : ℕ) (w : List ℕ) (l : Level) → is_white c ≡ true
    → run (state (asked (before true)) l) (120 ∷ 109 ∷ 108 ∷ c ∷ w) ≡ run (state declaring (tick c (passed (codes "xml") l))) w
unfolding is_first is_name encode is_char is_digit small
run_xml c w l h = rw (white_not_name_in c h, white_not_ask c h, h) refl
  where
    white_not_name_in : (c : ℕ) → is_white c ≡ true → is_name c ≡ false
    white_not_name_in c h = white_not_name c h

pub declaration_flat : (d : Declaration) (w : List ℕ)
    → declaration_text d ++ w ≡ 60 ∷ 63 ∷ 120 ∷ 109 ∷ 108 ∷ (setting_text version_key d.version ++ (optional_text encoding_key d.encoding ++ (optional_text standalone_key d.standalone ++ (d.last ++ 63 ∷ 62 ∷ w))))
declaration_flat d w = simp append_assoc

run_declaration : (d : Declaration) (s : State) (w : List ℕ) (l : Level) → Fronts s true l → IsDeclaration d
    → run s (declaration_text d ++ w) ≡ run (state (front false) (declaration_told d l)) w
run_declaration d s w l z i =
    let x = d.version in
    let y : List ℕ = optional_text encoding_key d.encoding ++ (optional_text standalone_key d.standalone ++ (d.last ++ 63 ∷ 62 ∷ w)) in
    let y0 : List ℕ = setting_text version_key x ++ y in
    let y1 : List ℕ = x.more ++ (key_text version_key ++ (x.before ++ 61 ∷ (x.behind ++ x.quote ∷ (x.value ++ x.quote ∷ y)))) in
    ap (run s) (declaration_flat d w)
    ∙ (run_step s _ 60 (63 ∷ 120 ∷ 109 ∷ 108 ∷ y0) z.less
    ∙ (run_step (state (opened (before true) l) (tick 60 l)) _ 63 (120 ∷ 109 ∷ 108 ∷ y0) (front_ask true l)
    ∙ (ap (λ v. run (state (asked (before true)) (tick 63 (tick 60 l))) (120 ∷ 109 ∷ 108 ∷ v)) (setting_flat version_key x y)
    ∙ (run_xml x.lead y1 (tick 63 (tick 60 l)) i.version.lead
    ∙ (run_setting (state declaring) version_key (encoding_key ∷ standalone_key ∷ []) x y (passed (codes "<?xml") l) declaring_heads i.version
    ∙ run_last d.encoding d.standalone d.last w (setting_told version_key x (passed (codes "<?xml") l)) i.encoding i.standalone i.last)))))

run_declared : (d : Option Declaration) (ms us : List Misc) (t : Root) (s : State) (l : Level) → Fronts s true l → IsDeclared d → AreMisc ms → IsRoot t → AreMisc us
    → run s (declared_text d ++ (miscs_text ms ++ (root_text t ++ miscs_text us))) ≡ Some (done (passed (miscs_text us) (root_told t (passed (miscs_text ms) (declared_told d l)))))
run_declared None ms us t s l z h i j k = run_front ms t s true (miscs_text us) l z i j ∙ run_tail us _ k
run_declared (Some d) ms us t s l z h i j k =
    run_declaration d s (miscs_text ms ++ (root_text t ++ miscs_text us)) l z h ∙ (run_front ms t (state (front false) (declaration_told d l)) false (miscs_text us) _ (front_fronts false _) i j ∙ run_tail us _ k)

run_marked : (b : Bool) (d : Document) → IsDocument d
    → run first_state (mark_text b ++ (declared_text d.declaration ++ (miscs_text d.front ++ (root_text d.root ++ miscs_text d.tail))))
    ≡ Some (done (passed (miscs_text d.tail) (root_told d.root (passed (miscs_text d.front) (declared_told d.declaration (passed (mark_text b) start))))))
run_marked true d i =
    run_step first_state _ 65279 (declared_text d.declaration ++ (miscs_text d.front ++ (root_text d.root ++ miscs_text d.tail))) refl
    ∙ run_declared d.declaration d.front d.tail d.root (state (front true) (tick 65279 start)) (tick 65279 start) (front_fronts true _) i.declaration i.front i.root i.tail
run_marked false d i = run_declared d.declaration d.front d.tail d.root first_state start (begun_fronts start) i.declaration i.front i.root i.tail

-- the reader reads a document to its end, and says what the document says
pub run_document : (d : Document) → IsDocument d → run first_state (document_text d) ≡ Some (done (document_told d))
run_document d i = run_marked d.mark d i
