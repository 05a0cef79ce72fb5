-- What the reader reads to its end is written as a parse tree.
use Rattle.std.proofs.Common.{◌≡◌, ℕ, ◌+◌, ◌*◌, ◌==◌, ◌&&◌, Bool, true, false, List, [], ◌∷◌, ◌++◌, Option, Some, None, cond, refl, sym, ap, ◌∙◌, subst, append_assoc, arith, ◌⊎◌, inl, inr, append-nil}
use Rattle.std.proofs.Math.Utf8.{encode}
use Rattle.std.proofs.lemmas.Str.{encodes_same}
use Rattle.std.proofs.lemmas.Bool.Decides.{nat_tests}
use Rattle.zi_xml.proofs.CharLemmas.{passed_append, is_code, white_char, white_not_ask, held, carried_held, ten_held, sixteen_held}
use Rattle.zi_xml.proofs.Forward.{then_run, run, written_levels, tag_with, Wait, none, one, two, count, await, bracket_heard}
use Rattle.zi_xml.proofs.ForwardDocuments.{declaration_flat}
use Rattle.zi_xml.proofs.Follows.{Tail, Rest, Front, First, Fronted, Marked, At, close_of, Goes, Ends, Closes, Values, Over, Headed, Quoted, Equals, Named, Attribute, Chosen, Heading, Declaring, Numbered, Coded, Commented, Halted, Instructed, Answering, Xml, Targeted, Asked, Sections, Bracketed, Twice, Special, Banged, Marks, Begins, Shut, Closing, Opens, Refers, counted, hex_counted, Referring, Counting, Hexing, Hexed, Hashed, Amped, Words, Follows, Then}
use Rattle.std.specs.Str.{bytes_eq}
use Rattle.std.specs.Prelude.{codes, not, encode_utf8, encode_utf8_all}
use Rattle.std.proofs.lemmas.Bool.{and_parts}
use Rattle.std.proofs.lemmas.Option.{same_Some}
use Rattle.zi_names.specs.declared.attributes.Raw.{Raw}
use Rattle.zi_xml.specs.Chars.{is_white, is_first, is_name, is_char, is_quote, is_valued, is_digit, is_hex, is_encoding_first, is_encoding, digit_value, hex_value, decimal_from, hex_from, entity, same_letters}
use Rattle.zi_xml.specs.Syntax.{Bit, letter, entity_of, decimal, hexadecimal, Written, stop, bit, section, comment, instruction, void, pair, bit_text, bits_text, all_text, tag_rest, end_tag, section_text, comment_text, instruction_text, text, AllAre, IsBit, IsWritten, brackets, is_unclosed, Unclosed, IsSection, IsComment, Unanswered, IsInstruction, is_said, brackets_after, Misc, white, remark, order, misc_text, miscs_text, IsMisc, Key, version_key, encoding_key, standalone_key, key_text, Setting, setting_text, IsSetting, optional_text, IsOptional, declaration_text, alone, whole, doctype, root_text}
use Rattle.zi_xml.specs.Meaning.{Level, encoding_kind, doctype_kind, tick, passed, add, blame, blame_if, heard, heard_all, carried, bit_told, bit_passed, bits_passed, is_return, in_value, value_of, all_passed, raw_of, Tag, Frame, root_told, set, setting_told, optional_told}
use Rattle.zi_xml.specs.Machine.{Spot, before, among, Host, in_text, in_value as to_value, Owner, of_attr, of_key, Word, doctype_word, section_word, comment_word, over_word, key_word, version_word, reply_word, declared_word, void_word, Doing, begun, front, opened, banged, commenting, halting, asked, targeting, instructing, asking, wording, sectioning, bracketed, twice, declaring, heading, headed, numbering, numbered, coding, coded, replying, named, equalled, naming, spaced, attr_naming, valuing, valued, amped, referring, hashed, counting, hexed, hexing, inside, closing, State, to, go, step, initial, second, others, keyed, choose, quoted, after_word, markup, enter, bang_word, is_xml, declare, leave, leave_name, refer, closed, front_step, declared_end, back_to, with_attribute, done}

-- by the outcome of a test
test : {Q : Type 0} (b : Bool) (x y : Option State) (w : List ℕ) (r : Level)
    → Then (cond b x y) w r → (b ≡ true → Then x w r → Q) → (b ≡ false → Then y w r → Q) → Q
test true x y w r h f g = f refl h
test false x y w r h f g = g refl h

-- and where it leads to a refusal otherwise
only : {Q : Type 0} (b : Bool) (x : Option State) (w : List ℕ) (r : Level) → Then (cond b x None) w r → (b ≡ true → Then x w r → Q) → Q
only true x w r h f = f refl h
only false x w r h f = absurd h

-- a test that is passed is for one character
at_code : (P : ℕ → Type 0) (c k : ℕ) → (c == k) ≡ true → P k → P c
at_code P c k e h = subst P (sym (is_code c k e)) h

pub same_list : (xs ys : List ℕ) → bytes_eq xs ys ≡ true → xs ≡ ys
same_list [] [] h = refl
same_list [] (y ∷ ys) h = cc
same_list (x ∷ xs) [] h = cc
same_list (x ∷ xs) (y ∷ ys) h =
    let k = and_parts (x == y) (bytes_eq xs ys) h in
    let e : x ≡ y = is_code x y k.0 in
    ap (λ v. v ∷ xs) e ∙ ap (λ v. y ∷ v) (same_list xs ys k.1)

-- one more piece before or behind the root
misc_front : (m : Misc) (l : Level) (z : List ℕ) (r : Level) → IsMisc m → Front (passed (misc_text m) l) z r → Front l (misc_text m ++ z) r
misc_front m l z r i x = (
  m ∷ x.0,
  x.1,
  x.2,
  (i, x.3),
  x.4,
  x.5,
  ap (λ v. misc_text m ++ v) x.6 ∙ sym (append_assoc (misc_text m) (miscs_text x.0) (root_text x.1 ++ miscs_text x.2)),
  x.7 ∙ ap (λ v. passed (miscs_text x.2) (root_told x.1 v)) (sym (passed_append (misc_text m) (miscs_text x.0) l)),
)

misc_tail : (m : Misc) (l : Level) (z : List ℕ) (r : Level) → IsMisc m → Tail (passed (misc_text m) l) z r → Tail l (misc_text m ++ z) r
misc_tail m l z r i x =
    (m ∷ x.0, (i, x.1), ap (λ v. misc_text m ++ v) x.2 ∙ sym (refl {a = misc_text m ++ miscs_text x.0}), x.3 ∙ sym (passed_append (misc_text m) (miscs_text x.0) l))

comment_in : (f : Frame) (fs : List Frame) (n : ℕ) (cs : List ℕ) (l : Level) (z : List ℕ) (r : Level) → IsComment cs
    → Rest (f ∷ fs) 0 (passed (comment_text cs) l) z r → Rest (f ∷ fs) n l (comment_text cs ++ z) r
comment_in f fs n cs l z r i x =
    (comment cs x.0, x.1, x.2, (i, x.3), x.4, ap (λ v. comment_text cs ++ v) x.5 ∙ sym (append_assoc (comment_text cs) (text x.0) (end_tag f.name x.1 ++ x.2)), x.6)

instruction_in : (f : Frame) (fs : List Frame) (n : ℕ) (m cs : List ℕ) (l : Level) (z : List ℕ) (r : Level) → IsInstruction m cs
    → Rest (f ∷ fs) 0 (passed (instruction_text m cs) l) z r → Rest (f ∷ fs) n l (instruction_text m cs ++ z) r
instruction_in f fs n m cs l z r i x =
    (instruction m cs x.0, x.1, x.2, (i, x.3), x.4, ap (λ v. instruction_text m cs ++ v) x.5 ∙ sym (append_assoc (instruction_text m cs) (text x.0) (end_tag f.name x.1 ++ x.2)), x.6)

section_in : (f : Frame) (fs : List Frame) (n : ℕ) (cs : List ℕ) (l : Level) (z : List ℕ) (r : Level) → IsSection cs
    → Rest (f ∷ fs) 0 (passed (codes "]]>") (heard_all cs (passed (codes "<![CDATA[") l))) z r → Rest (f ∷ fs) n l (section_text cs ++ z) r
section_in f fs n cs l z r i x =
    (section cs x.0, x.1, x.2, (i, x.3), x.4, ap (λ v. section_text cs ++ v) x.5 ∙ sym (append_assoc (section_text cs) (text x.0) (end_tag f.name x.1 ++ x.2)), x.6)

-- markup behind `<`: the texts
comment_text_is : (cs w z z2 z3 : List ℕ) → w ≡ 33 ∷ z → z ≡ 45 ∷ 45 ∷ z2 → z2 ≡ cs ++ 45 ∷ 45 ∷ 62 ∷ z3 → 60 ∷ w ≡ comment_text cs ++ z3
comment_text_is cs w z z2 z3 h h2 h3 = rw (h, h2, h3) (simp append_assoc)

instruction_text_is : (n cs w z z2 : List ℕ) → w ≡ 63 ∷ z → z ≡ n ++ (cs ++ 63 ∷ 62 ∷ z2) → 60 ∷ w ≡ instruction_text n cs ++ z2
instruction_text_is n cs w z z2 h h2 = rw (h, h2) (simp append_assoc)

section_text_is : (cs w z z2 z3 : List ℕ) → w ≡ 33 ∷ z → z ≡ codes "[CDATA[" ++ z2 → z2 ≡ cs ++ 93 ∷ 93 ∷ 62 ∷ z3 → 60 ∷ w ≡ section_text cs ++ z3
section_text_is cs w z z2 z3 h h2 h3 = rw (h, h2, h3) (simp append_assoc)

instruction_level : (n cs : List ℕ) (l : Level) → passed (cs ++ codes "?>") (passed n (tick 63 (tick 60 l))) ≡ passed (instruction_text n cs) l
instruction_level n cs l = sym (passed_append n (cs ++ codes "?>") (tick 63 (tick 60 l)))

fronted : (b : Bool) (l : Level) (w : List ℕ) (r : Level) → Front l w r → Fronted b l w r
fronted true l w r h = (None, w, tt, refl, h)
fronted false l w r h = h

-- settings
setting_text_is : (k : Key) (c : ℕ) (e e2 e3 : List ℕ) (q : ℕ) (v w y z z2 z3 z4 : List ℕ)
    → w ≡ e ++ y → y ≡ key_text k ++ z → z ≡ e2 ++ 61 ∷ z2 → z2 ≡ e3 ++ q ∷ z3 → z3 ≡ v ++ q ∷ z4
    → c ∷ w ≡ setting_text k (record { lead = c; more = e; before = e2; behind = e3; quote = q; value = v }) ++ z4
setting_text_is k c e e2 e3 q v w y z z2 z3 z4 h h2 h3 h4 h5 = rw (h, h2, h3, h4, h5) (simp append_assoc)

setting_level : (k : Key) (c : ℕ) (e e2 e3 : List ℕ) (q : ℕ) (v : List ℕ) (l : Level)
    → (let m = tick q (passed e3 (passed (e2 ++ 61 ∷ []) (passed (key_text k) (passed e (tick c l))))) in set k v m.at (passed (v ++ q ∷ []) m))
    ≡ setting_told k (record { lead = c; more = e; before = e2; behind = e3; quote = q; value = v }) l
setting_level k c e e2 e3 q v l =
    ap (λ m. set k v m.at (passed (v ++ q ∷ []) m)) (sym (written_levels e (key_text k) e2 e3 q (tick c l)))

-- white space, a keyword, and what follows it
set_on : (k : Key) (ks : List Key) (c : ℕ) (e : List ℕ) (l : Level) (w y z : List ℕ) (r : Level) → is_white c ≡ true → AllAre is_white e
    → w ≡ e ++ y → y ≡ key_text k ++ z → Named (of_key k ks) (passed (key_text k) (passed e (tick c l))) z r
    → (s : Setting) × (u : List ℕ) × IsSetting k s × (c ∷ w ≡ setting_text k s ++ u) × Headed ks (setting_told k s l) u r
set_on k ks c e l w y z r h i t u (e2, z2, j, t2, (e3, q, z3, j3, q3, t3, (v, z4, j4, t4, x))) = (
  record { lead = c; more = e; before = e2; behind = e3; quote = q; value = v },
  z4,
  record { lead = h; more = i; before = j; behind = j3; quote = q3; value = j4 },
  setting_text_is k c e e2 e3 q v w y z z2 z3 z4 t u t2 t3 t4,
  let P : Level → Type 0 = λ m. Headed ks m z4 r in subst P (setting_level k c e e2 e3 q v l) x,
)

over_headed : (ks : List Key) (l : Level) (w : List ℕ) (r : Level) → Over l w r → Headed ks l w r
over_headed [] l w r h = h
over_headed (k ∷ ks) l w r h = inl (over_headed ks l w r h)

chosen_headed : (ks : List Key) (c : ℕ) (e : List ℕ) (l : Level) (w y : List ℕ) (r : Level) → is_white c ≡ true → AllAre is_white e → w ≡ e ++ y
    → Chosen ks (passed e (tick c l)) y r → Headed ks l (c ∷ w) r
chosen_headed [] c e l w y r h i t x = absurd x
chosen_headed (k ∷ ks) c e l w y r h i t (inl (z, u, x)) = inr (set_on k ks c e l w y z r h i t u x)
chosen_headed (k ∷ ks) c e l w y r h i t (inr x) = inl (chosen_headed ks c e l w y r h i t x)

over_text : (c : ℕ) (e w y z : List ℕ) → w ≡ e ++ y → y ≡ 63 ∷ 62 ∷ z → c ∷ w ≡ (c ∷ e) ++ 63 ∷ 62 ∷ z
over_text c e w y z h h2 = ap (λ v. c ∷ v) (h ∙ ap (λ v. e ++ v) h2)

heading_headed : (ks : List Key) (c : ℕ) (l : Level) (w : List ℕ) (r : Level) → is_white c ≡ true → Heading ks (tick c l) w r → Headed ks l (c ∷ w) r
heading_headed ks c l w r h (e, y, i, t, inl (z, u, x)) =
    over_headed ks l (c ∷ w) r (
      c ∷ e,
      z,
      (h, i),
      over_text c e w y z t u,
      let P : Level → Type 0 = λ m. Front m z r in subst P (sym (passed_append e (63 ∷ 62 ∷ []) (tick c l))) x,
    )
heading_headed ks c l w r h (e, y, i, t, inr x) = chosen_headed ks c e l w y r h i t x

-- a declaration from its settings
declaration_text_is : (a : Setting) (b c : Option Setting) (e w z z2 z3 z4 z5 : List ℕ)
    → w ≡ 63 ∷ 120 ∷ 109 ∷ 108 ∷ z → z ≡ setting_text version_key a ++ z2 → z2 ≡ optional_text encoding_key b ++ z3 → z3 ≡ optional_text standalone_key c ++ z4
    → z4 ≡ e ++ 63 ∷ 62 ∷ z5
    → 60 ∷ w ≡ declaration_text (record { version = a; encoding = b; standalone = c; last = e }) ++ z5
declaration_text_is a b c e w z z2 z3 z4 z5 h h2 h3 h4 h5 =
    ap (λ v. 60 ∷ v) h
    ∙ (ap (λ v. 60 ∷ 63 ∷ 120 ∷ 109 ∷ 108 ∷ v) (h2 ∙ ap (λ v. setting_text version_key a ++ v) (h3 ∙ ap (λ v. optional_text encoding_key b ++ v) (h4 ∙ ap (λ v. optional_text standalone_key c ++ v) h5)))
    ∙ sym (declaration_flat (record { version = a; encoding = b; standalone = c; last = e }) z5))

declared : (a : Setting) (b c : Option Setting) (l : Level) (w z z2 z3 z4 : List ℕ) (r : Level)
    → IsSetting version_key a → IsOptional encoding_key b → IsOptional standalone_key c
    → w ≡ 63 ∷ 120 ∷ 109 ∷ 108 ∷ z → z ≡ setting_text version_key a ++ z2 → z2 ≡ optional_text encoding_key b ++ z3 → z3 ≡ optional_text standalone_key c ++ z4
    → Over (optional_told standalone_key c (optional_told encoding_key b (setting_told version_key a (passed (codes "<?xml") l)))) z4 r
    → First l (60 ∷ w) r
declared a b c l w z z2 z3 z4 r ia ib ic h h2 h3 h4 (e, z5, i, h5, x) = (
  Some (record { version = a; encoding = b; standalone = c; last = e }),
  z5,
  record { version = ia; encoding = ib; standalone = ic; last = i },
  declaration_text_is a b c e w z z2 z3 z4 z5 h h2 h3 h4 h5,
  x,
)

xml_first : (l : Level) (w z : List ℕ) (r : Level) → w ≡ 63 ∷ 120 ∷ 109 ∷ 108 ∷ z → Xml (before true) (passed (codes "<?xml") l) z r → First l (60 ∷ w) r
xml_first l w z r h (c, z1, i, t, (e, y, j, u, x)) =
    let s = set_on version_key (encoding_key ∷ standalone_key ∷ []) c e (passed (codes "<?xml") l) z1 (key_text version_key ++ y) y r i j u refl x in
    cases s.0 s.1 s.2 (t ∙ s.3) s.4
  where
    cases : (a : Setting) (z2 : List ℕ) → IsSetting version_key a → z ≡ setting_text version_key a ++ z2
        → Headed (encoding_key ∷ standalone_key ∷ []) (setting_told version_key a (passed (codes "<?xml") l)) z2 r → First l (60 ∷ w) r
    cases a z2 ia g (inl (inl k)) = declared a None None l w z z2 z2 z2 r ia tt tt h g refl refl k
    cases a z2 ia g (inl (inr (c2, z4, ic, t2, k))) = declared a None (Some c2) l w z z2 z2 z4 r ia tt ic h g refl t2 k
    cases a z2 ia g (inr (b, z3, ib, t2, inl k)) = declared a (Some b) None l w z z2 z3 z3 r ia ib tt h g t2 refl k
    cases a z2 ia g (inr (b, z3, ib, t2, inr (c2, z4, ic, t3, k))) = declared a (Some b) (Some c2) l w z z2 z3 z4 r ia ib ic h g t2 t3 k

-- markup before the root
marks_front : (b : Bool) (l : Level) (w : List ℕ) (r : Level) → Marks (before b) l (tick 60 l) w r → Fronted b l (60 ∷ w) r
marks_front b l w r (inl (z, h, inl (z2, h2, (cs, z3, i, j, h3, x)))) =
    let P : List ℕ → Type 0 = λ v. Fronted b l v r in
    subst P (sym (comment_text_is cs w z z2 z3 h h2 h3)) (fronted b l (comment_text cs ++ z3) r (misc_front (remark cs) l z3 r (i, j) x))
marks_front b l w r (inl (z, h, inr (z2, h2, (us, i, h3, x)))) =
    fronted b l (60 ∷ w) r ([], doctype, us, tt, tt, i, rw (h, h2, h3) refl, x)
marks_front b l w r (inr (z, h, inl (n, cs, z2, i, h2, x))) =
    let P : List ℕ → Type 0 = λ v. Fronted b l v r in
    subst P (sym (instruction_text_is n cs w z z2 h h2)) (fronted b l (instruction_text n cs ++ z2) r
    (misc_front (order n cs) l z2 r i (let Q : Level → Type 0 = λ m. Front m z2 r in subst Q (instruction_level n cs l) x)))
marks_front true l w r (inr (z, h, inr (z2, h2, x))) = xml_first l w z2 r (h ∙ ap (λ v. 63 ∷ v) h2) x
marks_front false l w r (inr (z, h, inr (z2, h2, x))) = absurd x

-- and behind it
marks_tail : (l : Level) (w : List ℕ) (r : Level) → Marks (among []) l (tick 60 l) w r → Tail l (60 ∷ w) r
marks_tail l w r (inl (z, h, inl (z2, h2, (cs, z3, i, j, h3, x)))) =
    let P : List ℕ → Type 0 = λ v. Tail l v r in
    subst P (sym (comment_text_is cs w z z2 z3 h h2 h3)) (misc_tail (remark cs) l z3 r (i, j) x)
marks_tail l w r (inl (z, h, inr x)) = absurd x
marks_tail l w r (inr (z, h, inl (n, cs, z2, i, h2, x))) =
    let P : List ℕ → Type 0 = λ v. Tail l v r in
    subst P (sym (instruction_text_is n cs w z z2 h h2)) (misc_tail (order n cs) l z2 r i (let Q : Level → Type 0 = λ m. Tail m z2 r in subst Q (instruction_level n cs l) x))
marks_tail l w r (inr (z, h, inr (z2, h2, x))) = absurd x

-- and inside an element
marks_in : (f : Frame) (fs : List Frame) (n : ℕ) (l : Level) (w : List ℕ) (r : Level) → Marks (among (f ∷ fs)) l (tick 60 l) w r → Rest (f ∷ fs) n l (60 ∷ w) r
marks_in f fs n l w r (inl (z, h, inl (z2, h2, (cs, z3, i, j, h3, x)))) =
    let P : List ℕ → Type 0 = λ v. Rest (f ∷ fs) n l v r in
    subst P (sym (comment_text_is cs w z z2 z3 h h2 h3)) (comment_in f fs n cs l z3 r (i, j) x)
marks_in f fs n l w r (inl (z, h, inr (z2, h2, (cs, z3, i, j, h3, x)))) =
    let P : List ℕ → Type 0 = λ v. Rest (f ∷ fs) n l v r in
    subst P (sym (section_text_is cs w z z2 z3 h h2 h3)) (section_in f fs n cs l z3 r (i, j) x)
marks_in f fs n l w r (inr (z, h, inl (m, cs, z2, i, h2, x))) =
    let P : List ℕ → Type 0 = λ v. Rest (f ∷ fs) n l v r in
    subst P (sym (instruction_text_is m cs w z z2 h h2)) (instruction_in f fs n m cs l z2 r i
    (let Q : Level → Type 0 = λ v. Rest (f ∷ fs) 0 v z2 r in subst Q (instruction_level m cs l) x))
marks_in f fs n l w r (inr (z, h, inr (z2, h2, x))) = absurd x

-- elements
pair_text : (n : List ℕ) (ws : List Written) (e j y k x : List ℕ) (w z z2 : List ℕ)
    → w ≡ n ++ z → z ≡ all_text ws ++ (e ++ 62 ∷ z2) → z2 ≡ j ++ (y ++ (k ++ x))
    → 60 ∷ w ≡ (60 ∷ (n ++ (tag_rest ws e (62 ∷ []) ++ (j ++ (y ++ k))))) ++ x
pair_text n ws e j y k x w z z2 h h2 h3 = rw (h, h2, h3) (simp append_assoc)

void_text : (n : List ℕ) (ws : List Written) (e k x : List ℕ) (w z z2 : List ℕ)
    → w ≡ n ++ z → z ≡ all_text ws ++ (e ++ 47 ∷ 62 ∷ z2) → z2 ≡ k ++ x
    → 60 ∷ w ≡ (60 ∷ (n ++ (tag_rest ws e (47 ∷ 62 ∷ []) ++ k))) ++ x
void_text n ws e k x w z z2 h h2 h3 = rw (h, h2, h3) (simp append_assoc)

begins_in : (f : Frame) (fs : List Frame) (n : ℕ) (l : Level) (w : List ℕ) (r : Level) → Begins (f ∷ fs) l (tick 60 l) w r → Rest (f ∷ fs) n l (60 ∷ w) r
begins_in f fs n l w r (m, z, i, h, (ws, e, true, z2, a, b, h2, x)) =
    let y = x.6 in (
      pair m ws e x.0 x.1 y.0,
      y.1,
      y.2,
      (i, (a, (b, (x.3, (x.4, y.3))))),
      y.4,
      pair_text m ws e (text x.0) (end_tag m x.1) (text y.0) (end_tag f.name y.1 ++ y.2) w z z2 h h2 (x.5 ∙ ap (λ v. text x.0 ++ (end_tag m x.1 ++ v)) y.5),
      y.6,
    )
begins_in f fs n l w r (m, z, i, h, (ws, e, false, z2, a, b, h2, y)) = (
  void m ws e y.0,
  y.1,
  y.2,
  (i, (a, (b, y.3))),
  y.4,
  void_text m ws e (text y.0) (end_tag f.name y.1 ++ y.2) w z z2 h h2 y.5,
  y.6,
)

begins_front : (l : Level) (w : List ℕ) (r : Level) → Begins [] l (tick 60 l) w r → Front l (60 ∷ w) r
begins_front l w r (m, z, i, h, (ws, e, true, z2, a, b, h2, (k, g, z3, j, g2, h3, (us, iu, h4, x)))) = (
  [],
  whole m ws e k g,
  us,
  tt,
  (i, (a, (b, (j, (g2, tt))))),
  iu,
  pair_text m ws e (text k) (end_tag m g) [] (miscs_text us) w z z2 h h2 (h3 ∙ ap (λ v. text k ++ (end_tag m g ++ v)) h4),
  x,
)
begins_front l w r (m, z, i, h, (ws, e, false, z2, a, b, h2, (us, iu, h4, x))) =
    ([], alone m ws e, us, tt, (i, (a, (b, tt))), iu, void_text m ws e [] (miscs_text us) w z z2 h h2 h4, x)

opens_front : (b : Bool) (l : Level) (w : List ℕ) (r : Level) → Opens (before b) l (tick 60 l) w r → Fronted b l (60 ∷ w) r
opens_front b l w r (inl x) = fronted b l (60 ∷ w) r (begins_front l w r x)
opens_front b l w r (inr x) = marks_front b l w r x

opens_in : (f : Frame) (fs : List Frame) (n : ℕ) (l : Level) (w : List ℕ) (r : Level) → Opens (among (f ∷ fs)) l (tick 60 l) w r → Rest (f ∷ fs) n l (60 ∷ w) r
opens_in f fs n l w r (inl x) = begins_in f fs n l w r x
opens_in f fs n l w r (inr (inl (z, h, (e, z2, b, h2, x)))) =
    (stop, e, z2, tt, b, rw (h, h2) (ap (λ v. 60 ∷ 47 ∷ v) (sym (append_assoc f.name (e ++ 62 ∷ []) z2 ∙ ap (λ v. f.name ++ v) (append_assoc e (62 ∷ []) z2)))), x)
opens_in f fs n l w r (inr (inr x)) = marks_in f fs n l w r x

-- a step before the root
front_back : (b : Bool) (l : Level) (c : ℕ) (w : List ℕ) (r : Level) → Then (front_step b l c) w r → Fronted b l (c ∷ w) r
front_back b l c w r h =
    test (is_white c) _ _ w r h
    (λ e x. fronted b l (c ∷ w) r (misc_front (white c) l w r e x))
    (λ _ k. only (c == 60) _ w r k (λ e x. at_code (λ v. Fronted b l (v ∷ w) r) c 60 e (opens_front b l w r (let P : ℕ → Type 0 = λ v. Opens (before b) l (tick v l) w r in subst P (is_code c 60 e) x))))

markup_back : (s : Spot) (o l : Level) (c : ℕ) (w : List ℕ) (r : Level) → Then (markup s o l c) w r → Marks s o l (c ∷ w) r
markup_back s o l c w r h =
    test (c == 33) _ _ w r h
    (λ e x. inl (w, ap (λ v. v ∷ w) (is_code c 33 e), let P : ℕ → Type 0 = λ v. Banged s o.at (tick v l) w r in subst P (is_code c 33 e) x))
    (λ _ k. only (c == 63) _ w r k
    (λ e x. inr (w, ap (λ v. v ∷ w) (is_code c 63 e), let P : ℕ → Type 0 = λ v. Asked s (tick v l) w r in subst P (is_code c 63 e) x)))

enter_back : (fs : List Frame) (o l : Level) (c : ℕ) (w : List ℕ) (r : Level) → is_first c ≡ true → Then (enter fs o l c) w r → Begins fs o l (c ∷ w) r
enter_back fs o l c w r e x = (c ∷ x.0, x.1, (e, x.2), ap (λ v. c ∷ v) x.3, x.4)

bang_back : (s : Spot) (p : ℕ) (l : Level) (c : ℕ) (w : List ℕ) (r : Level) → Then (bang_word s p l c) w r → Special s p l (c ∷ w) r
bang_back (before b) p l c w r h =
    only (c == 68) _ w r h (λ e x. at_code (λ v. Special (before b) p l (v ∷ w) r) c 68 e
    (x.0, ap (λ v. 68 ∷ v) x.1, let P : ℕ → Type 0 = λ v. Tail (blame doctype_kind p (passed (codes "OCTYPE") (tick v l))) x.0 r in subst P (is_code c 68 e) x.2))
bang_back (among []) p l c w r h = h
bang_back (among (f ∷ fs)) p l c w r h =
    only (c == 91) _ w r h (λ e x. at_code (λ v. Special (among (f ∷ fs)) p l (v ∷ w) r) c 91 e
    (x.0, ap (λ v. 91 ∷ v) x.1, let P : ℕ → Type 0 = λ v. Sections none (f ∷ fs) (passed (codes "CDATA[") (tick v l)) x.0 r in subst P (is_code c 91 e) x.2))

-- comments
comment_more : (dash : Bool) (s : Spot) (l : Level) (c : ℕ) (w : List ℕ) (r : Level) → is_char c ≡ true → (dash && c == 45) ≡ false
    → Commented (c == 45) s (tick c l) w r → Commented dash s l (c ∷ w) r
comment_more dash s l c w r i h x = (c ∷ x.0, x.1, (i, x.2), (h, x.3), ap (λ v. c ∷ v) x.4, x.5)

dash_char : is_char 45 ≡ true
unfolding is_char
dash_char = refl

ask_char : is_char 63 ≡ true
unfolding is_char
ask_char = refl

bracket_char : is_char 93 ≡ true
unfolding is_char
bracket_char = refl

commenting_back : (s : Spot) (l : Level) (c : ℕ) (w : List ℕ) (r : Level) → Then (go (commenting s) l c) w r → Commented false s l (c ∷ w) r
commenting_back s l c w r h =
    test (c == 45) _ _ w r h
    (λ e x. at_code (λ v. Commented false s l (v ∷ w) r) c 45 e (dashed (let P : ℕ → Type 0 = λ v. Halted s (tick v l) w r in subst P (is_code c 45 e) x)))
    (λ e k. only (is_char c) _ w r k (λ i x. comment_more false s l c w r i refl (let P : Bool → Type 0 = λ b. Commented b s (tick c l) w r in subst P (sym e) x)))
  where
    dashed : Halted s (tick 45 l) w r → Commented false s l (45 ∷ w) r
    dashed (inl (z, t, x)) = ([], z, tt, refl, ap (λ v. 45 ∷ v) t, x)
    dashed (inr x) = comment_more false s l 45 w r dash_char refl x

halting_back : (s : Spot) (l : Level) (c : ℕ) (w : List ℕ) (r : Level) → Then (go (halting s) l c) w r → Halted s l (c ∷ w) r
halting_back s l c w r h =
    test (c == 45) _ _ w r h
    (λ e x. at_code (λ v. Halted s l (v ∷ w) r) c 45 e
    (inl (x.0, ap (λ v. 45 ∷ v) x.1, let P : ℕ → Type 0 = λ v. At s (tick 62 (tick v l)) x.0 r in subst P (is_code c 45 e) x.2)))
    (λ e k. only (is_char c) _ w r k (λ i x. inr (comment_more true s l c w r i e (let P : Bool → Type 0 = λ b. Commented b s (tick c l) w r in subst P (sym e) x))))

-- instructions
answer_more : (q : Bool) (s : Spot) (l : Level) (c : ℕ) (w : List ℕ) (r : Level) → is_char c ≡ true → (q && c == 62) ≡ false
    → Instructed (c == 63) s (tick c l) w r → Instructed q s l (c ∷ w) r
answer_more q s l c w r i h x = (c ∷ x.0, x.1, (i, x.2), (h, x.3), ap (λ v. c ∷ v) x.4, x.5)

asked_on : (q : Bool) (s : Spot) (l : Level) (w : List ℕ) (r : Level) → Answering s (tick 63 l) w r → Instructed q s l (63 ∷ w) r
asked_on false s l w r (inl (z, t, x)) = ([], z, tt, tt, ap (λ v. 63 ∷ v) t, x)
asked_on false s l w r (inr x) = answer_more false s l 63 w r ask_char refl x
asked_on true s l w r (inl (z, t, x)) = ([], z, tt, tt, ap (λ v. 63 ∷ v) t, x)
asked_on true s l w r (inr x) = answer_more true s l 63 w r ask_char refl x

instructing_back : (s : Spot) (l : Level) (c : ℕ) (w : List ℕ) (r : Level) → Then (go (instructing s) l c) w r → Instructed false s l (c ∷ w) r
instructing_back s l c w r h =
    test (c == 63) _ _ w r h
    (λ e x. at_code (λ v. Instructed false s l (v ∷ w) r) c 63 e (asked_on false s l w r (let P : ℕ → Type 0 = λ v. Answering s (tick v l) w r in subst P (is_code c 63 e) x)))
    (λ e k. only (is_char c) _ w r k (λ i x. answer_more false s l c w r i refl (let P : Bool → Type 0 = λ b. Instructed b s (tick c l) w r in subst P (sym e) x)))

at_back : (s : Spot) (l : Level) (w : List ℕ) (r : Level) → Follows (back_to s) l w r → At s l w r
at_back (before b) l w r h = h
at_back (among fs) l w r h = h

asking_back : (s : Spot) (l : Level) (c : ℕ) (w : List ℕ) (r : Level) → Then (go (asking s) l c) w r → Answering s l (c ∷ w) r
asking_back s l c w r h =
    test (c == 62) _ _ w r h
    (λ e x. at_code (λ v. Answering s l (v ∷ w) r) c 62 e (inl (w, refl, let P : ℕ → Type 0 = λ v. At s (tick v l) w r in subst P (is_code c 62 e) (at_back s (tick c l) w r x))))
    (λ e1 k. test (c == 63) _ _ w r k
    (λ e x. at_code (λ v. Answering s l (v ∷ w) r) c 63 e (inr (asked_on true s l w r (let P : ℕ → Type 0 = λ v. Answering s (tick v l) w r in subst P (is_code c 63 e) x))))
    (λ e k2. only (is_char c) _ w r k2 (λ i x. inr (answer_more true s l c w r i e1 (let P : Bool → Type 0 = λ b. Instructed b s (tick c l) w r in subst P (sym e) x)))))

declare_back : (s : Spot) (n : List ℕ) (l m : Level) (c : ℕ) (w : List ℕ) (r : Level) → is_white c ≡ true → m ≡ tick c l → Then (declare s n m) w r
    → (bytes_eq n (codes "xml") ≡ true) × Xml s l (c ∷ w) r
declare_back (before true) n l m c w r i e h =
    only (bytes_eq n (codes "xml")) _ w r h (λ k x. (k, (c, w, i, refl, let P : Level → Type 0 = λ v. Declaring v w r in subst P e x)))
declare_back (before false) n l m c w r i e h = absurd h
declare_back (among fs) n l m c w r i e h = absurd h

target_more : (s : Spot) (n : List ℕ) (l : Level) (c : ℕ) (w : List ℕ) (r : Level) → is_name c ≡ true → Targeted s (n ++ encode_utf8 c) (tick c l) w r → Targeted s n l (c ∷ w) r
target_more s n l c w r i (inl (m, cs, z, j, x, a, b, d, t, y)) =
    inl (c ∷ m, cs, z, (i, j), ap is_xml (sym (append_assoc n (encode_utf8 c) (encode_utf8_all m))) ∙ x, a, b, d, ap (λ v. c ∷ v) t, y)
target_more s n l c w r i (inr (m, z, j, x, t, y)) =
    inr (c ∷ m, z, (i, j), ap (λ v. bytes_eq v (codes "xml")) (sym (append_assoc n (encode_utf8 c) (encode_utf8_all m))) ∙ x, ap (λ v. c ∷ v) t, y)

targeting_back : (s : Spot) (n : List ℕ) (l : Level) (c : ℕ) (w : List ℕ) (r : Level) → Then (go (targeting s n) l c) w r → Targeted s n l (c ∷ w) r
targeting_back s n l c w r h =
    test (is_name c) _ _ w r h
    (λ e x. target_more s n l c w r e x)
    (λ _ k. test (c == 63) _ _ w r k
    (λ e k2. test (is_xml n) _ _ w r k2
    (λ _ x. absurd x)
    (λ f x. at_code (λ v. Targeted s n l (v ∷ w) r) c 63 e
    (inl ([], [], x.0, tt, ap is_xml (append-nil n) ∙ f, tt, tt, tt, ap (λ v. 63 ∷ v) x.1, let P : ℕ → Type 0 = λ v. At s (tick 62 (tick v l)) x.0 r in subst P (is_code c 63 e) x.2))))
    (λ _ k2. only (is_white c) _ w r k2
    (λ e k3. test (is_xml n) _ _ w r k3
    (λ _ x. let y = declare_back s n l (tick c l) c w r e refl x in inr ([], c ∷ w, tt, ap (λ v. bytes_eq v (codes "xml")) (append-nil n) ∙ y.0, refl, y.1))
    (λ f x. inl (
      [],
      c ∷ x.0,
      x.1,
      tt,
      ap is_xml (append-nil n) ∙ f,
      e,
      (white_char c e, x.2),
      (refl, let P : Bool → Type 0 = λ b. Unanswered b x.0 in subst P (sym (white_not_ask c e)) x.3),
      ap (λ v. c ∷ v) x.4,
      x.5,
    )))))

-- the one target that is `xml`
xml_is : (c : ℕ) (m : List ℕ) → bytes_eq (encode_utf8 c ++ encode_utf8_all m) (codes "xml") ≡ true → c ∷ m ≡ 120 ∷ 109 ∷ 108 ∷ []
unfolding encode
xml_is c m h = encodes_same (c ∷ m) (120 ∷ 109 ∷ 108 ∷ []) (same_list _ _ h)

asked_back : (s : Spot) (l : Level) (c : ℕ) (w : List ℕ) (r : Level) → Then (go (asked s) l c) w r → Asked s l (c ∷ w) r
asked_back s l c w r h = only (is_first c) _ w r h (λ e x. cases e x)
  where
    cases : is_first c ≡ true → Targeted s (encode_utf8 c) (tick c l) w r → Asked s l (c ∷ w) r
    cases e (inl (m, cs, z, j, x, a, b, d, t, y)) =
        inl (c ∷ m, cs, z, record { target = (e, j); other = x; apart = a; chars = b; unended = d }, ap (λ v. c ∷ v) t, y)
    cases e (inr (m, z, j, x, t, y)) =
        let same : c ∷ m ≡ 120 ∷ 109 ∷ 108 ∷ [] = xml_is c m x in
        inr (z, ap (λ v. c ∷ v) t ∙ ap (λ v. v ++ z) same, let P : List ℕ → Type 0 = λ v. Xml s (passed v l) z r in subst P same y)

-- sections
section_more : (t : Wait) (fs : List Frame) (l m : Level) (c : ℕ) (w : List ℕ) (r : Level) → is_char c ≡ true → (u : Wait) → is_unclosed (count t) c ≡ true
    → brackets (count t) c ≡ count u → await u m ≡ heard c (await t l) → Sections u fs m w r → Sections t fs l (c ∷ w) r
section_more t fs l m c w r i u h b e x = (
  c ∷ x.0,
  x.1,
  (i, x.2),
  (h, let P : ℕ → Type 0 = λ v. Unclosed v x.0 in subst P (sym b) x.3),
  ap (λ v. c ∷ v) x.4,
  let P : Level → Type 0 = λ v. Rest fs 0 (passed (codes "]]>") (heard_all x.0 v)) x.1 r in subst P e x.5,
)

no_bracket : (n c : ℕ) → (c == 93) ≡ false → brackets n c ≡ 0
no_bracket n c e = rw e refl

not_end : (n c : ℕ) → (c == 62) ≡ false → is_unclosed n c ≡ true
not_end n c e = grind (arith, nat_tests)

section_char : (t : Wait) (fs : List Frame) (l : Level) (c : ℕ) (w : List ℕ) (r : Level) → is_char c ≡ true → (c == 93) ≡ false → is_unclosed (count t) c ≡ true
    → Sections none fs (heard c (await t l)) w r → Sections t fs l (c ∷ w) r
section_char t fs l c w r i e h x = section_more t fs l (heard c (await t l)) c w r i none h (no_bracket (count t) c e) refl x

sectioning_back : (fs : List Frame) (l : Level) (c : ℕ) (w : List ℕ) (r : Level) → Then (go (sectioning fs) l c) w r → Sections none fs l (c ∷ w) r
sectioning_back fs l c w r h =
    test (c == 93) _ _ w r h
    (λ e x. at_code (λ v. Sections none fs l (v ∷ w) r) c 93 e (cases (let P : ℕ → Type 0 = λ v. Bracketed fs (tick v l) w r in subst P (is_code c 93 e) x)))
    (λ e k. only (is_char c) _ w r k (λ i x. section_char none fs l c w r i e refl x))
  where
    cases : Bracketed fs (tick 93 l) w r → Sections none fs l (93 ∷ w) r
    cases (inl x) = section_more none fs l (tick 93 l) 93 w r bracket_char one refl refl (bracket_heard none l) x
    cases (inr (z, t, x)) = ([], z, tt, tt, ap (λ v. 93 ∷ v) t, x)

bracketed_back : (fs : List Frame) (l : Level) (c : ℕ) (w : List ℕ) (r : Level) → Then (go (bracketed fs) l c) w r → Bracketed fs l (c ∷ w) r
bracketed_back fs l c w r h =
    test (c == 93) _ _ w r h
    (λ e x. at_code (λ v. Bracketed fs l (v ∷ w) r) c 93 e (cases (let P : ℕ → Type 0 = λ v. Twice fs (tick v l) w r in subst P (is_code c 93 e) x)))
    (λ e k. only (is_char c) _ w r k (λ i x. inl (section_char one fs l c w r i e refl x)))
  where
    cases : Twice fs (tick 93 l) w r → Bracketed fs l (93 ∷ w) r
    cases (inl x) = inl (section_more one fs l (tick 93 l) 93 w r bracket_char two refl refl (bracket_heard one l) x)
    cases (inr (inl (z, t, x))) = inl ([], z, tt, tt, ap (λ v. 93 ∷ v) t, x)
    cases (inr (inr (z, t, x))) = inr (z, ap (λ v. 93 ∷ v) t, x)

twice_back : (fs : List Frame) (l : Level) (c : ℕ) (w : List ℕ) (r : Level) → Then (go (twice fs) l c) w r → Twice fs l (c ∷ w) r
twice_back fs l c w r h =
    test (c == 62) _ _ w r h
    (λ e x. at_code (λ v. Twice fs l (v ∷ w) r) c 62 e (inr (inr (w, refl, let P : ℕ → Type 0 = λ v. Rest fs 0 (tick v l) w r in subst P (is_code c 62 e) x))))
    (λ e1 k. test (c == 93) _ _ w r k
    (λ e x. at_code (λ v. Twice fs l (v ∷ w) r) c 93 e (cases (let P : ℕ → Type 0 = λ v. Twice fs (tick v (add (93 ∷ []) l)) w r in subst P (is_code c 93 e) x)))
    (λ e k2. only (is_char c) _ w r k2 (λ i x. inl (section_char two fs l c w r i e (not_end 2 c e1) x))))
  where
    cases : Twice fs (tick 93 (add (93 ∷ []) l)) w r → Twice fs l (93 ∷ w) r
    cases (inl x) = inl (section_more two fs l (tick 93 (add (93 ∷ []) l)) 93 w r bracket_char two refl refl (bracket_heard two l) x)
    cases (inr (inl (z, t, x))) = inl ([], z, tt, tt, ap (λ v. 93 ∷ v) t, x)
    cases (inr (inr (z, t, x))) = inr (inl (z, ap (λ v. 93 ∷ v) t, x))

-- tags
bare : (b : Bool) (fs : List Frame) (t : Tag) (l : Level) (w : List ℕ) (r : Level) → Goes b fs t l w r → Goes b fs (tag_with t []) l w r
bare b fs t l w r h =
    let P : List Raw → Type 0 = λ a. Goes b fs (record { name = t.name; raw = a; outer = t.outer }) l w r in subst P (sym (append-nil t.raw)) h

-- one more attribute before the others
grouped : (b : Bool) (fs : List Frame) (t : Tag) (x : Raw) (xs : List Raw) (l : Level) (w : List ℕ) (r : Level)
    → Goes b fs (tag_with (record { name = t.name; raw = t.raw ++ x ∷ []; outer = t.outer }) xs) l w r → Goes b fs (tag_with t (x ∷ xs)) l w r
grouped b fs t x xs l w r h =
    let P : List Raw → Type 0 = λ a. Goes b fs (record { name = t.name; raw = a; outer = t.outer }) l w r in subst P (append_assoc t.raw (x ∷ []) xs) h

joined_text : (c : ℕ) (e n e2 e3 : List ℕ) (q : ℕ) (v y : List ℕ) (w w2 w3 w4 w5 w6 : List ℕ)
    → w ≡ e ++ (n ++ w2) → w2 ≡ e2 ++ 61 ∷ w3 → w3 ≡ e3 ++ q ∷ w4 → w4 ≡ v ++ q ∷ w5 → w5 ≡ y ++ w6
    → c ∷ w ≡ ((c ∷ (e ++ (n ++ (e2 ++ 61 ∷ (e3 ++ q ∷ (v ++ q ∷ [])))))) ++ y) ++ w6
joined_text c e n e2 e3 q v y w w2 w3 w4 w5 w6 h h2 h3 h4 h5 = rw (h, h2, h3, h4, h5) (simp append_assoc)

-- white space and then what follows it in a tag
gather : (fs : List Frame) (t : Tag) (l : Level) (c : ℕ) (w : List ℕ) (r : Level) → is_white c ≡ true → Attribute fs t (tick c l) w r → Ends fs t l (c ∷ w) r
gather fs t l c w r h x =
    let y = x.6 in
    let u = y.4 in
    let v = u.6 in
    let z = v.4 in
    let a : Written = record { lead = c; more = x.0; name = x.1; before = y.0; behind = u.0; quote = u.1; value = v.0 } in
    let i : IsWritten a = record { lead = h; more = x.3; name = x.4; before = y.2; behind = u.3; quote = u.4; value = v.2 } in (
      a ∷ z.0,
      z.1,
      z.2,
      z.3,
      (i, z.4),
      z.5,
      joined_text c x.0 x.1 y.0 u.0 u.1 (bits_text v.0) (all_text z.0) w x.2 y.1 u.2 v.1 (z.1 ++ (close_of z.2 ++ z.3)) x.5 y.3 u.5 v.3 z.6,
      let P : Level → Type 0 = λ m. Goes z.2 fs (tag_with t (raw_of (a ∷ z.0))) (passed (z.1 ++ close_of z.2) (all_passed z.0 (tick u.1 (bits_passed v.0 m)))) z.3 r in
          subst P (sym (written_levels x.0 x.1 y.0 u.0 u.1 (tick c l))) (grouped z.2 fs t (record { name = encode_utf8_all x.1; value = value_of false v.0 }) (raw_of z.0) _ z.3 r z.7),
    )

leave_back : (fs : List Frame) (t : Tag) (l : Level) (c : ℕ) (w : List ℕ) (r : Level) → Then (leave fs t l c) w r → Ends fs t l (c ∷ w) r
leave_back fs t l c w r h =
    test (is_white c) _ _ w r h
    (λ e k. elim k [
      | inl x ↦ ([], c ∷ x.0, x.1, x.2, tt, (e, x.3), ap (λ v. c ∷ v) x.4, bare x.1 fs t (passed (x.0 ++ close_of x.1) (tick c l)) x.2 r x.5)
      | inr x ↦ gather fs t l c w r e x
    ])
    (λ _ k. test (c == 47) _ _ w r k
    (λ e x. at_code (λ v. Ends fs t l (v ∷ w) r) c 47 e
    ([], [], false, x.0, tt, tt, ap (λ v. 47 ∷ v) x.1, bare false fs t (tick 62 (tick 47 l)) x.0 r (let P : ℕ → Type 0 = λ v. Goes false fs t (tick 62 (tick v l)) x.0 r in subst P (is_code c 47 e) x.2)))
    (λ _ k2. only (c == 62) _ w r k2
    (λ e x. at_code (λ v. Ends fs t l (v ∷ w) r) c 62 e
    ([], [], true, w, tt, tt, refl, bare true fs t (tick 62 l) w r (let P : ℕ → Type 0 = λ v. Goes true fs t (tick v l) w r in subst P (is_code c 62 e) x)))))

leave_name_back : (o : Owner) (l : Level) (c : ℕ) (w : List ℕ) (r : Level) → Then (leave_name o l c) w r → Named o l (c ∷ w) r
leave_name_back o l c w r h =
    test (is_white c) _ _ w r h
    (λ e x. (c ∷ x.0, x.1, (e, x.2), ap (λ v. c ∷ v) x.3, x.4))
    (λ _ k. only (c == 61) _ w r k
    (λ e x. at_code (λ v. Named o l (v ∷ w) r) c 61 e ([], w, tt, refl, let P : ℕ → Type 0 = λ v. Equals o (tick v l) w r in subst P (is_code c 61 e) x)))

spaced_back : (fs : List Frame) (t : Tag) (l : Level) (c : ℕ) (w : List ℕ) (r : Level) → Then (leave fs t l c) w r → Closes fs t l (c ∷ w) r ⊎ Attribute fs t l (c ∷ w) r
spaced_back fs t l c w r h =
    test (is_white c) _ _ w r h
    (λ e k. elim k [
      | inl x ↦ inl (c ∷ x.0, x.1, x.2, (e, x.3), ap (λ v. c ∷ v) x.4, x.5)
      | inr x ↦ inr (c ∷ x.0, x.1, x.2, (e, x.3), x.4, ap (λ v. c ∷ v) x.5, x.6)
    ])
    (λ _ k. test (c == 47) _ _ w r k
    (λ e x. inl (at_code (λ v. Closes fs t l (v ∷ w) r) c 47 e ([], false, x.0, tt, ap (λ v. 47 ∷ v) x.1, let P : ℕ → Type 0 = λ v. Goes false fs t (tick 62 (tick v l)) x.0 r in subst P (is_code c 47 e) x.2)))
    (λ _ k2. only (c == 62) _ w r k2
    (λ e x. inl (at_code (λ v. Closes fs t l (v ∷ w) r) c 62 e ([], true, w, tt, refl, let P : ℕ → Type 0 = λ v. Goes true fs t (tick v l) w r in subst P (is_code c 62 e) x)))))

name_more : (fs : List Frame) (t : Tag) (c : ℕ) (m : List ℕ) (l : Level) (w : List ℕ) (r : Level)
    → Ends fs (record { name = (t.name ++ c ∷ []) ++ m; raw = t.raw; outer = t.outer }) l w r
    → Ends fs (record { name = t.name ++ c ∷ m; raw = t.raw; outer = t.outer }) l w r
name_more fs t c m l w r h =
    let P : List ℕ → Type 0 = λ n. Ends fs (record { name = n; raw = t.raw; outer = t.outer }) l w r in subst P (append_assoc t.name (c ∷ []) m) h

attr_more : (fs : List Frame) (t : Tag) (a : List ℕ) (c : ℕ) (m : List ℕ) (l : Level) (w : List ℕ) (r : Level)
    → Named (of_attr fs t ((a ++ encode_utf8 c) ++ encode_utf8_all m)) l w r → Named (of_attr fs t (a ++ encode_utf8_all (c ∷ m))) l w r
attr_more fs t a c m l w r h = let P : List ℕ → Type 0 = λ n. Named (of_attr fs t n) l w r in subst P (append_assoc a (encode_utf8 c) (encode_utf8_all m)) h

name_end : (fs : List Frame) (t : Tag) (l : Level) (w : List ℕ) (r : Level) → Ends fs t l w r → Follows (naming fs t) l w r
name_end fs t l w r h =
    ([], w, tt, refl, let P : List ℕ → Type 0 = λ n. Ends fs (record { name = n; raw = t.raw; outer = t.outer }) l w r in subst P (sym (append-nil t.name)) h)

attr_end : (fs : List Frame) (t : Tag) (a : List ℕ) (l : Level) (w : List ℕ) (r : Level) → Named (of_attr fs t a) l w r → Follows (attr_naming fs t a) l w r
attr_end fs t a l w r h = ([], w, tt, refl, let P : List ℕ → Type 0 = λ n. Named (of_attr fs t n) l w r in subst P (sym (append-nil a)) h)

value_more : (fs : List Frame) (t : Tag) (a : List ℕ) (q : ℕ) (v : List ℕ) (p : Bool) (b : Bit) (y : List ℕ) (l : Level) (w : List ℕ) (r : Level)
    → IsBit (is_valued q) b → y ≡ bit_text b ++ w → Values fs t a q (v ++ in_value p b) (is_return b) (bit_passed b l) w r → Values fs t a q v p l y r
value_more fs t a q v p b y l w r i e x = (
  b ∷ x.0,
  x.1,
  (i, x.2),
  e ∙ (ap (λ z. bit_text b ++ z) x.3 ∙ sym (append_assoc (bit_text b) (bits_text x.0) (q ∷ x.1))),
  let P : List ℕ → Type 0 = λ n. Ends fs (with_attribute t a n) (tick q (bits_passed x.0 (bit_passed b l))) x.1 r in subst P (append_assoc v (in_value p b) (value_of (is_return b) x.0)) x.4,
)

value_done : (fs : List Frame) (t : Tag) (a : List ℕ) (q : ℕ) (v : List ℕ) (p : Bool) (l : Level) (w : List ℕ) (r : Level)
    → Ends fs (with_attribute t a v) (tick q l) w r → Values fs t a q v p l (q ∷ w) r
value_done fs t a q v p l w r h =
    ([], w, tt, refl, let P : List ℕ → Type 0 = λ n. Ends fs (with_attribute t a n) (tick q l) w r in subst P (sym (append-nil v)) h)

ref_text : (n w z : List ℕ) → w ≡ n ++ 59 ∷ z → 38 ∷ w ≡ (38 ∷ (n ++ 59 ∷ [])) ++ z
ref_text n w z h = ap (λ v. 38 ∷ v) (h ∙ sym (append_assoc n (59 ∷ []) z))

number_text : (n w y z : List ℕ) → w ≡ 35 ∷ y → y ≡ n ++ 59 ∷ z → 38 ∷ w ≡ (38 ∷ 35 ∷ (n ++ 59 ∷ [])) ++ z
number_text n w y z h h2 = ap (λ v. 38 ∷ v) (h ∙ ap (λ v. 35 ∷ v) (h2 ∙ sym (append_assoc n (59 ∷ []) z)))

hex_text : (n w y x z : List ℕ) → w ≡ 35 ∷ y → y ≡ 120 ∷ x → x ≡ n ++ 59 ∷ z → 38 ∷ w ≡ (38 ∷ 35 ∷ 120 ∷ (n ++ 59 ∷ [])) ++ z
hex_text n w y x z h h2 h3 = ap (λ v. 38 ∷ v) (h ∙ ap (λ v. 35 ∷ v) (h2 ∙ ap (λ v. 120 ∷ v) (h3 ∙ sym (append_assoc n (59 ∷ []) z))))

value_amp : (fs : List Frame) (t : Tag) (a : List ℕ) (q : ℕ) (v : List ℕ) (p : Bool) (l : Level) (w : List ℕ) (r : Level)
    → Amped (to_value fs t a q v) l.at (tick 38 l) w r → Values fs t a q v p l (38 ∷ w) r
value_amp fs t a q v p l w r (inl (n, z, i, e, x)) = value_more fs t a q v p (entity_of n) (38 ∷ w) l z r i (ref_text n w z e) x
value_amp fs t a q v p l w r (inr (y, e, inl (n, z, i, e2, x))) = value_more fs t a q v p (decimal n) (38 ∷ w) l z r i (number_text n w y z e e2) x
value_amp fs t a q v p l w r (inr (y, e, inr (u, e2, (n, z, i, e3, x)))) = value_more fs t a q v p (hexadecimal n) (38 ∷ w) l z r i (hex_text n w y u z e e2 e3) x

-- one more bit before what follows
bit_before : (f : Frame) (fs : List Frame) (n : ℕ) (b : Bit) (y : List ℕ) (l : Level) (w : List ℕ) (r : Level)
    → IsBit (is_said n) b → y ≡ bit_text b ++ w → Rest (f ∷ fs) (brackets_after n b) (bit_told b l) w r → Rest (f ∷ fs) n l y r
bit_before f fs n b y l w r i e x =
    (bit b x.0, x.1, x.2, (i, x.3), x.4, e ∙ (ap (λ z. bit_text b ++ z) x.5 ∙ sym (append_assoc (bit_text b) (text x.0) _)), x.6)

text_amp : (f : Frame) (fs : List Frame) (m : ℕ) (l : Level) (w : List ℕ) (r : Level) → Amped (in_text (f ∷ fs)) l.at (tick 38 l) w r → Rest (f ∷ fs) m l (38 ∷ w) r
text_amp f fs m l w r (inl (n, z, i, e, x)) = bit_before f fs m (entity_of n) (38 ∷ w) l z r i (ref_text n w z e) x
text_amp f fs m l w r (inr (y, e, inl (n, z, i, e2, x))) = bit_before f fs m (decimal n) (38 ∷ w) l z r i (number_text n w y z e e2) x
text_amp f fs m l w r (inr (y, e, inr (u, e2, (n, z, i, e3, x)))) = bit_before f fs m (hexadecimal n) (38 ∷ w) l z r i (hex_text n w y u z e e2 e3) x

-- references
refers_back : (h : Host) (o : Option ℕ) (p : ℕ) (l : Level) (w : List ℕ) (r : Level) → Then (Some (refer h o p l)) w r → Refers h o p l w r
refers_back (in_text fs) o p l w r x = x
refers_back (to_value fs t a q v) o p l w r x = x

refer_end : (h : Host) (o : Option ℕ) (p : ℕ) (l : Level) (c : ℕ) (w : List ℕ) (r : Level) → (c == 59) ≡ true → Then (Some (refer h o p (tick c l))) w r → Refers h o p (tick 59 l) w r
refer_end h o p l c w r e x = let P : ℕ → Type 0 = λ v. Refers h o p (tick v l) w r in subst P (is_code c 59 e) (refers_back h o p (tick c l) w r x)

referring_back : (h : Host) (p : ℕ) (n : List ℕ) (l : Level) (c : ℕ) (w : List ℕ) (r : Level) → Then (go (referring h p n) l c) w r → Referring h p n l (c ∷ w) r
referring_back h p n l c w r k =
    test (is_name c) _ _ w r k
    (λ e x. (
      c ∷ x.0,
      x.1,
      (e, x.2),
      ap (λ v. c ∷ v) x.3,
      let P : List ℕ → Type 0 = λ m. Refers h (entity m) p (passed (x.0 ++ 59 ∷ []) (tick c l)) x.1 r in subst P (append_assoc n (encode_utf8 c) (encode_utf8_all x.0)) x.4,
    ))
    (λ _ y. only (c == 59) _ w r y (λ e x. at_code (λ v. Referring h p n l (v ∷ w) r) c 59 e
    ([], w, tt, refl, let P : List ℕ → Type 0 = λ m. Refers h (entity m) p (tick 59 l) w r in subst P (sym (append-nil n)) (refer_end h (entity n) p l c w r e x))))

counting_back : (h : Host) (p n : ℕ) (l : Level) (c : ℕ) (w : List ℕ) (r : Level) → Then (go (counting h p n) l c) w r → Counting h p n l (c ∷ w) r
counting_back h p n l c w r k =
    test (is_digit c) _ _ w r k
    (λ e x. (c ∷ x.0, x.1, (e, x.2), ap (λ v. c ∷ v) x.3, x.4))
    (λ _ y. only (c == 59) _ w r y (λ e x. at_code (λ v. Counting h p n l (v ∷ w) r) c 59 e ([], w, tt, refl, refer_end h (carried n) p l c w r e x)))

hexing_back : (h : Host) (p n : ℕ) (l : Level) (c : ℕ) (w : List ℕ) (r : Level) → Then (go (hexing h p n) l c) w r → Hexing h p n l (c ∷ w) r
hexing_back h p n l c w r k =
    test (is_hex c) _ _ w r k
    (λ e x. (c ∷ x.0, x.1, (e, x.2), ap (λ v. c ∷ v) x.3, x.4))
    (λ _ y. only (c == 59) _ w r y (λ e x. at_code (λ v. Hexing h p n l (v ∷ w) r) c 59 e ([], w, tt, refl, refer_end h (carried n) p l c w r e x)))

counted_held : (n : ℕ) (ds : List ℕ) → carried (counted (held n) ds) ≡ carried (decimal_from n ds)
counted_held n [] = carried_held n
counted_held n (c ∷ ds) = ap (λ v. carried (counted v ds)) (ten_held n (digit_value c)) ∙ counted_held (n * 10 + digit_value c) ds

hex_held : (n : ℕ) (ds : List ℕ) → carried (hex_counted (held n) ds) ≡ carried (hex_from n ds)
hex_held n [] = carried_held n
hex_held n (c ∷ ds) = ap (λ v. carried (hex_counted v ds)) (sixteen_held n (hex_value c)) ∙ hex_held (n * 16 + hex_value c) ds

hexed_back : (h : Host) (p : ℕ) (l : Level) (c : ℕ) (w : List ℕ) (r : Level) → Then (go (hexed h p) l c) w r → Hexed h p l (c ∷ w) r
hexed_back h p l c w r k =
    only (is_hex c) _ w r k (λ e x. (
      c ∷ x.0,
      x.1,
      (e, x.2),
      ap (λ v. c ∷ v) x.3,
      let P : Option ℕ → Type 0 = λ o. Refers h o p (passed (x.0 ++ 59 ∷ []) (tick c l)) x.1 r in subst P (hex_held (0 * 16 + hex_value c) x.0) x.4,
    ))

hashed_back : (h : Host) (p : ℕ) (l : Level) (c : ℕ) (w : List ℕ) (r : Level) → Then (go (hashed h p) l c) w r → Hashed h p l (c ∷ w) r
hashed_back h p l c w r k =
    test (is_digit c) _ _ w r k
    (λ e x. inl (
      c ∷ x.0,
      x.1,
      (e, x.2),
      ap (λ v. c ∷ v) x.3,
      let P : Option ℕ → Type 0 = λ o. Refers h o p (passed (x.0 ++ 59 ∷ []) (tick c l)) x.1 r in subst P (counted_held (0 * 10 + digit_value c) x.0) x.4,
    ))
    (λ _ y. only (c == 120) _ w r y (λ e x. at_code (λ v. Hashed h p l (v ∷ w) r) c 120 e
    (inr (w, refl, let P : ℕ → Type 0 = λ v. Hexed h p (tick v l) w r in subst P (is_code c 120 e) x))))

amped_back : (h : Host) (p : ℕ) (l : Level) (c : ℕ) (w : List ℕ) (r : Level) → Then (go (amped h p) l c) w r → Amped h p l (c ∷ w) r
amped_back h p l c w r k =
    test (is_first c) _ _ w r k
    (λ e x. inl (c ∷ x.0, x.1, (e, x.2), ap (λ v. c ∷ v) x.3, x.4))
    (λ _ y. only (c == 35) _ w r y (λ e x. at_code (λ v. Amped h p l (v ∷ w) r) c 35 e
    (inr (w, refl, let P : ℕ → Type 0 = λ v. Hashed h p (tick v l) w r in subst P (is_code c 35 e) x))))

-- fixed words
words_after : (x : Word) (l : Level) (w : List ℕ) (r : Level) → Then (Some (after_word x l)) w r → Words x l w r
words_after (doctype_word p) l w r h = h
words_after (section_word fs) l w r h = h
words_after (comment_word s) l w r h = h
words_after (over_word s) l w r h = at_back s l w r h
words_after (key_word k ks) l w r h = h
words_after (version_word q ks) l w r h = h
words_after (reply_word ks) l w r h = h
words_after declared_word l w r h = h
words_after (void_word fs t) l w r h = h

wording_back : (x : Word) (y : ℕ) (left : List ℕ) (l : Level) (c : ℕ) (w : List ℕ) (r : Level) → Then (go (wording x y left) l c) w r → Follows (wording x y left) l (c ∷ w) r
wording_back x y [] l c w r h =
    only (c == y) _ w r h (λ e k. (w, ap (λ v. v ∷ w) (is_code c y e), let P : ℕ → Type 0 = λ v. Words x (tick v l) w r in subst P (is_code c y e) (words_after x (tick c l) w r k)))
wording_back x y (z ∷ left) l c w r h =
    only (c == y) _ w r h (λ e k. (k.0, ap (λ v. v ∷ w) (is_code c y e) ∙ ap (λ v. y ∷ v) k.1, let P : ℕ → Type 0 = λ v. Words x (passed (z ∷ left) (tick v l)) k.0 r in subst P (is_code c y e) k.2))

-- the declaration
key_is : (k : Key) (w : List ℕ) → initial k ∷ second k ∷ (others k ++ w) ≡ key_text k ++ w
key_is version_key w = refl
key_is encoding_key w = refl
key_is standalone_key w = refl

key_level : (k : Key) (l : Level) → passed (second k ∷ others k) (tick (initial k) l) ≡ passed (key_text k) l
key_level version_key l = refl
key_level encoding_key l = refl
key_level standalone_key l = refl

keyed_back : (k : Key) (ks : List Key) (l : Level) (c : ℕ) (w : List ℕ) (r : Level) → (c == initial k) ≡ true → Then (to (keyed k ks) (tick c l)) w r
    → (z : List ℕ) × (c ∷ w ≡ key_text k ++ z) × Named (of_key k ks) (passed (key_text k) l) z r
keyed_back k ks l c w r e (z, t, x) = (
  z,
  ap (λ v. v ∷ w) (is_code c (initial k) e) ∙ (ap (λ v. initial k ∷ v) t ∙ key_is k z),
  let P : Level → Type 0 = λ m. Named (of_key k ks) m z r in
      subst P (ap (λ v. passed (second k ∷ others k) (tick v l)) (is_code c (initial k) e) ∙ key_level k l) x,
)

choose_back : (ks : List Key) (l : Level) (c : ℕ) (w : List ℕ) (r : Level) → Then (choose ks l c) w r → Chosen ks l (c ∷ w) r
choose_back [] l c w r h = h
choose_back (k ∷ ks) l c w r h = test (c == initial k) _ _ w r h (λ e x. inl (keyed_back k ks l c w r e x)) (λ _ x. inr (choose_back ks l c w r x))

end_back : (l : Level) (c : ℕ) (w : List ℕ) (r : Level) → (c == 63) ≡ true → Then (to declared_end (tick c l)) w r → (z : List ℕ) × (c ∷ w ≡ 63 ∷ 62 ∷ z) × Front (tick 62 (tick 63 l)) z r
end_back l c w r e (z, t, x) =
    (z, ap (λ v. v ∷ w) (is_code c 63 e) ∙ ap (λ v. 63 ∷ v) t, let P : ℕ → Type 0 = λ v. Front (tick 62 (tick v l)) z r in subst P (is_code c 63 e) x)

heading_back : (ks : List Key) (l : Level) (c : ℕ) (w : List ℕ) (r : Level) → Then (go (heading ks) l c) w r → Heading ks l (c ∷ w) r
heading_back ks l c w r h =
    test (is_white c) _ _ w r h
    (λ e x. (c ∷ x.0, x.1, (e, x.2), ap (λ v. c ∷ v) x.3, x.4))
    (λ _ k. test (c == 63) _ _ w r k
    (λ e x. ([], c ∷ w, tt, refl, inl (end_back l c w r e x)))
    (λ _ x. ([], c ∷ w, tt, refl, inr (choose_back ks l c w r x))))

headed_back : (ks : List Key) (l : Level) (c : ℕ) (w : List ℕ) (r : Level) → Then (go (headed ks) l c) w r → Headed ks l (c ∷ w) r
headed_back ks l c w r h =
    test (is_white c) _ _ w r h
    (λ e x. heading_headed ks c l w r e x)
    (λ _ k. only (c == 63) _ w r k (λ e x. let y = end_back l c w r e x in over_headed ks l (c ∷ w) r ([], y.0, tt, y.1, y.2)))

declaring_back : (l : Level) (c : ℕ) (w : List ℕ) (r : Level) → Then (go declaring l c) w r → Declaring l (c ∷ w) r
declaring_back l c w r h =
    test (is_white c) _ _ w r h
    (λ e x. (c ∷ x.0, x.1, (e, x.2), ap (λ v. c ∷ v) x.3, x.4))
    (λ _ k. only (c == 118) _ w r k (λ e x. let y = keyed_back version_key (encoding_key ∷ standalone_key ∷ []) l c w r e x in ([], y.0, tt, y.1, y.2)))

numbered_back : (q : ℕ) (ks : List Key) (l : Level) (c : ℕ) (w : List ℕ) (r : Level) → Then (go (numbered q ks) l c) w r → Numbered q ks l (c ∷ w) r
numbered_back q ks l c w r h =
    test (c == q) _ _ w r h
    (λ e x. ([], w, tt, ap (λ v. v ∷ w) (is_code c q e), let P : ℕ → Type 0 = λ v. Headed ks (tick v l) w r in subst P (is_code c q e) x))
    (λ _ k. only (is_digit c) _ w r k (λ e x. (c ∷ x.0, x.1, (e, x.2), ap (λ v. c ∷ v) x.3, x.4)))

coded_back : (q : ℕ) (ks : List Key) (v : List ℕ) (p : ℕ) (l : Level) (c : ℕ) (w : List ℕ) (r : Level) → Then (go (coded q ks v p) l c) w r → Coded q ks v p l (c ∷ w) r
coded_back q ks v p l c w r h =
    test (c == q) _ _ w r h
    (λ e x. (
      [],
      w,
      tt,
      ap (λ u. u ∷ w) (is_code c q e),
      let P : List ℕ → Type 0 = λ n. Headed ks (blame_if (not (same_letters n (codes "UTF-8"))) encoding_kind p (tick q l)) w r in
          subst P (sym (append-nil v)) (let Q : ℕ → Type 0 = λ u. Headed ks (blame_if (not (same_letters v (codes "UTF-8"))) encoding_kind p (tick u l)) w r in subst Q (is_code c q e) x),
    ))
    (λ _ k. only (is_encoding c) _ w r k (λ e x. (
      c ∷ x.0,
      x.1,
      (e, x.2),
      ap (λ u. c ∷ u) x.3,
      let P : List ℕ → Type 0 = λ n. Headed ks (blame_if (not (same_letters n (codes "UTF-8"))) encoding_kind p (passed (x.0 ++ q ∷ []) (tick c l))) x.1 r in
          subst P (append_assoc v (encode_utf8 c) (encode_utf8_all x.0)) x.4,
    )))

replying_back : (q : ℕ) (ks : List Key) (l : Level) (c : ℕ) (w : List ℕ) (r : Level) → Then (go (replying q ks) l c) w r → Quoted (of_key standalone_key ks) q l (c ∷ w) r
replying_back q ks l c w r h =
    test (c == 121) _ _ w r h
    (λ e x. at_code (λ v. Quoted (of_key standalone_key ks) q l (v ∷ w) r) c 121 e
    (codes "yes", x.0, (true, refl), ap (λ v. 121 ∷ v) x.1, let P : ℕ → Type 0 = λ v. Headed ks (passed (101 ∷ 115 ∷ q ∷ []) (tick v l)) x.0 r in subst P (is_code c 121 e) x.2))
    (λ _ k. only (c == 110) _ w r k
    (λ e x. at_code (λ v. Quoted (of_key standalone_key ks) q l (v ∷ w) r) c 110 e
    (codes "no", x.0, (false, refl), ap (λ v. 110 ∷ v) x.1, let P : ℕ → Type 0 = λ v. Headed ks (passed (111 ∷ q ∷ []) (tick v l)) x.0 r in subst P (is_code c 110 e) x.2)))

quoted_back : (o : Owner) (q : ℕ) (l : Level) (w : List ℕ) (r : Level) → Follows (quoted o q) l w r → Quoted o q l w r
quoted_back (of_attr fs t a) q l w r h = h
quoted_back (of_key version_key ks) q l w r (z, t, (ds, z2, i, t2, x)) = (codes "1." ++ ds, z2, (ds, refl, i), t ∙ ap (λ v. 49 ∷ 46 ∷ v) t2, x)
quoted_back (of_key encoding_key ks) q l w r h = h
quoted_back (of_key standalone_key ks) q l w r h = h

closed_back : (fs : List Frame) (l : Level) (w : List ℕ) (r : Level) → Then (Some (closed fs l)) w r → Shut fs l w r
closed_back [] l w r h = h
closed_back (f ∷ fs) l w r h = h

closing_back : (fs : List Frame) (left : List ℕ) (l : Level) (c : ℕ) (w : List ℕ) (r : Level) → Then (go (closing fs left) l c) w r → Closing fs left l (c ∷ w) r
closing_back fs [] l c w r h =
    test (c == 62) _ _ w r h
    (λ e x. at_code (λ v. Closing fs [] l (v ∷ w) r) c 62 e ([], w, tt, refl, let P : ℕ → Type 0 = λ v. Shut fs (tick v l) w r in subst P (is_code c 62 e) (closed_back fs (tick c l) w r x)))
    (λ _ k. only (is_white c) _ w r k (λ e x. (c ∷ x.0, x.1, (e, x.2), ap (λ v. c ∷ v) x.3, x.4)))
closing_back fs (y ∷ left) l c w r h =
    only (c == y) _ w r h (λ e x. (
      x.0,
      x.1,
      x.2,
      ap (λ v. v ∷ w) (is_code c y e) ∙ ap (λ v. y ∷ v) x.3,
      let P : ℕ → Type 0 = λ v. Shut fs (passed (left ++ (x.0 ++ 62 ∷ [])) (tick v l)) x.1 r in subst P (is_code c y e) x.4,
    ))

-- What follows a state's successor, behind the character that leads there, follows the state.
pub back : (d : Doing) (l : Level) (c : ℕ) (w : List ℕ) (r : Level) → Then (go d l c) w r → Follows d l (c ∷ w) r
back begun l c w r h =
    test (c == 65279) _ _ w r h
    (λ e x. at_code (λ v. Marked l (v ∷ w) r) c 65279 e (true, w, refl, let P : ℕ → Type 0 = λ v. First (tick v l) w r in subst P (is_code c 65279 e) x))
    (λ _ k. (false, c ∷ w, refl, front_back true l c w r k))
back (front b) l c w r h = front_back b l c w r h
back (opened (before b) o) l c w r h = test (is_first c) _ _ w r h (λ e x. inl (enter_back [] o l c w r e x)) (λ _ k. inr (markup_back (before b) o l c w r k))
back (opened (among []) o) l c w r h = markup_back (among []) o l c w r h
back (opened (among (f ∷ fs)) o) l c w r h =
    test (is_first c) _ _ w r h
    (λ e x. inl (enter_back (f ∷ fs) o l c w r e x))
    (λ _ k. test (c == 47) _ _ w r k
    (λ e x. at_code (λ v. Opens (among (f ∷ fs)) o l (v ∷ w) r) c 47 e
    (inr (inl (w, refl, let P : ℕ → Type 0 = λ v. Closing (f ∷ fs) f.name (tick v l) w r in subst P (is_code c 47 e) x))))
    (λ _ k2. inr (inr (markup_back (among (f ∷ fs)) o l c w r k2))))
back (banged s p) l c w r h =
    test (c == 45) _ _ w r h
    (λ e x. at_code (λ v. Banged s p l (v ∷ w) r) c 45 e
    (inl (x.0, ap (λ v. 45 ∷ v) x.1, let P : ℕ → Type 0 = λ v. Commented false s (tick 45 (tick v l)) x.0 r in subst P (is_code c 45 e) x.2)))
    (λ _ k. inr (bang_back s p l c w r k))
back (commenting s) l c w r h = commenting_back s l c w r h
back (halting s) l c w r h = halting_back s l c w r h
back (asked s) l c w r h = asked_back s l c w r h
back (targeting s n) l c w r h = targeting_back s n l c w r h
back (instructing s) l c w r h = instructing_back s l c w r h
back (asking s) l c w r h = asking_back s l c w r h
back (wording x y left) l c w r h = wording_back x y left l c w r h
back (sectioning fs) l c w r h = sectioning_back fs l c w r h
back (bracketed fs) l c w r h = bracketed_back fs l c w r h
back (twice fs) l c w r h = twice_back fs l c w r h
back declaring l c w r h = declaring_back l c w r h
back (heading ks) l c w r h = heading_back ks l c w r h
back (headed ks) l c w r h = headed_back ks l c w r h
back (numbering q ks) l c w r h = only (is_digit c) _ w r h (λ e x. (c ∷ x.0, x.1, (e, x.2), ap (λ v. c ∷ v) x.3, x.4))
back (numbered q ks) l c w r h = numbered_back q ks l c w r h
back (coding q ks) l c w r h = only (is_encoding_first c) _ w r h (λ e x. (c ∷ x.0, x.1, (e, x.2), ap (λ v. c ∷ v) x.3, x.4))
back (coded q ks v p) l c w r h = coded_back q ks v p l c w r h
back (replying q ks) l c w r h = replying_back q ks l c w r h
back (named o) l c w r h = leave_name_back o l c w r h
back (equalled o) l c w r h =
    test (is_white c) _ _ w r h
    (λ e x. (c ∷ x.0, x.1, x.2, (e, x.3), x.4, ap (λ v. c ∷ v) x.5, x.6))
    (λ _ k. only (is_quote c) _ w r k (λ e x. ([], c, w, tt, e, refl, quoted_back o c (tick c l) w r x)))
back (naming fs t) l c w r h =
    test (is_name c) _ _ w r h
    (λ e x. (c ∷ x.0, x.1, (e, x.2), ap (λ v. c ∷ v) x.3, name_more fs t c x.0 _ x.1 r x.4))
    (λ _ k. name_end fs t l (c ∷ w) r (leave_back fs t l c w r k))
back (spaced fs t) l c w r h =
    test (is_first c) _ _ w r h
    (λ e x. inr ([], c ∷ x.0, x.1, tt, (e, x.2), ap (λ v. c ∷ v) x.3, x.4))
    (λ _ k. spaced_back fs t l c w r k)
back (attr_naming fs t a) l c w r h =
    test (is_name c) _ _ w r h
    (λ e x. (c ∷ x.0, x.1, (e, x.2), ap (λ v. c ∷ v) x.3, attr_more fs t a c x.0 _ x.1 r x.4))
    (λ _ k. attr_end fs t a l (c ∷ w) r (leave_name_back (of_attr fs t a) l c w r k))
back (valuing fs t a q v b) l c w r h =
    test (is_valued q c) _ _ w r h
    (λ e x. value_more fs t a q v b (letter c) (c ∷ w) l w r e refl x)
    (λ _ k. test (c == q) _ _ w r k
    (λ e x. at_code (λ y. Values fs t a q v b l (y ∷ w) r) c q e
    (value_done fs t a q v b l w r (let P : ℕ → Type 0 = λ y. Ends fs (with_attribute t a v) (tick y l) w r in subst P (is_code c q e) x)))
    (λ _ k2. only (c == 38) _ w r k2 (λ e x. at_code (λ y. Values fs t a q v b l (y ∷ w) r) c 38 e
    (value_amp fs t a q v b l w r (let P : ℕ → Type 0 = λ y. Amped (to_value fs t a q v) l.at (tick y l) w r in subst P (is_code c 38 e) x)))))
back (valued fs t) l c w r h = leave_back fs t l c w r h
back (amped h p) l c w r k = amped_back h p l c w r k
back (referring h p n) l c w r k = referring_back h p n l c w r k
back (hashed h p) l c w r k = hashed_back h p l c w r k
back (counting h p n) l c w r k = counting_back h p n l c w r k
back (hexed h p) l c w r k = hexed_back h p l c w r k
back (hexing h p n) l c w r k = hexing_back h p n l c w r k
back (inside [] n) l c w r h =
    test (is_white c) _ _ w r h
    (λ e x. misc_tail (white c) l w r e x)
    (λ _ k. only (c == 60) _ w r k (λ e x. at_code (λ v. Tail l (v ∷ w) r) c 60 e
    (marks_tail l w r (let P : ℕ → Type 0 = λ v. Marks (among []) l (tick v l) w r in subst P (is_code c 60 e) x))))
back (inside (f ∷ fs) n) l c w r h =
    test (is_said n c) _ _ w r h
    (λ e x. bit_before f fs n (letter c) (c ∷ w) l w r e refl x)
    (λ _ k. test (c == 60) _ _ w r k
    (λ e x. at_code (λ v. Rest (f ∷ fs) n l (v ∷ w) r) c 60 e
    (opens_in f fs n l w r (let P : ℕ → Type 0 = λ v. Opens (among (f ∷ fs)) l (tick v l) w r in subst P (is_code c 60 e) x)))
    (λ _ k2. only (c == 38) _ w r k2 (λ e x. at_code (λ v. Rest (f ∷ fs) n l (v ∷ w) r) c 38 e
    (text_amp f fs n l w r (let P : ℕ → Type 0 = λ v. Amped (in_text (f ∷ fs)) l.at (tick v l) w r in subst P (is_code c 38 e) x)))))
back (closing fs left) l c w r h = closing_back fs left l c w r h

follows_end : (s : State) (r : Level) → s ≡ done r → Follows s.doing s.level [] r
follows_end s r e = let P : State → Type 0 = λ t. Follows t.doing t.level [] r in subst P (sym e) ([], tt, refl, refl)

pub sound : (w : List ℕ) (s : State) (r : Level) → run s w ≡ Some (done r) → Follows s.doing s.level w r
sound [] s r h = follows_end s r (same_Some s (done r) h)
sound (c ∷ w) s r h =
    let lead : then_run (step s c) (λ t. run t w) ≡ Some (done r) → Then (step s c) w r =
    elim (step s c) as (λ o. then_run o (λ t. run t w) ≡ Some (done r) → Then o w r) [ None ↦ λ k. cc | Some t ↦ λ k. sound w t r k ] in
    back s.doing s.level c w r (lead h)
