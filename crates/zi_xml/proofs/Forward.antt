-- The reader reads each parse tree to its end, and knows what it says.
use Rattle.std.proofs.Common.{◌≡◌, ℕ, suc, ◌+◌, ◌*◌, ◌==◌, ◌&&◌, Bool, true, false, List, [], ◌∷◌, ◌++◌, Option, Some, None, cond, length, refl, sym, ap, ◌∙◌, subst, append_assoc, append-nil}
use Rattle.std.proofs.Math.Utf8.{encode}
use Rattle.zi_xml.proofs.CharLemmas.{passed_append, same_self, is_code, white_not_name, white_not_first, white_not_end, white_not_ask, quote_not_white, quote_ends, quote_not_amp, held, carried_held, ten_held, sixteen_held}
use Rattle.std.specs.Prelude.{codes, not, nat_le, encode_utf8, encode_utf8_all}
use Rattle.zi_names.specs.declared.attributes.Raw.{Raw}
use Rattle.zi_xml.specs.Chars.{is_white, is_first, is_name, is_char, is_plain, is_quote, is_valued, is_digit, is_hex, digit_value, hex_value, decimal_from, hex_from, entity}
use Rattle.zi_xml.specs.Syntax.{Bit, letter, entity_of, decimal, hexadecimal, Written, bit_text, bits_text, written_text, all_text, tag_rest, end_tag, AllAre, IsName, SomeAre, IsBit, AreBits, IsWritten, AreWritten, brackets, is_unclosed, Unclosed, Undashed, Unanswered, IsApart, IsInstruction}
use Rattle.zi_xml.specs.Meaning.{Level, depth_kind, tick, passed, add, blame_if, line_end, heard, heard_all, carried, bit_passed, bits_passed, is_return, in_value, value_of, written_passed, all_passed, raw_of, Tag, tag_of, Frame, framed, judged, fresh, adopt, tag_passed}
use Rattle.zi_xml.specs.Machine.{Spot, Host, in_value as to_value, Owner, of_attr, Word, void_word, Doing, commenting, halting, asked, targeting, instructing, asking, wording, sectioning, bracketed, twice, named, equalled, naming, spaced, attr_naming, valuing, valued, amped, referring, counting, hexing, inside, closing, State, state, to, step, quoted, emptied, after_word, enter, is_xml, refer, closed, scope_of, back_to, new_tag, named_more, with_attribute}

abbrev pub then_run : Option State → (State → Option State) → Option State
then_run None k = None
then_run (Some s) k = k s

abbrev pub run : State → List ℕ → Option State
run s [] = Some s
run s (c ∷ cs) = then_run (step s c) (λ t. run t cs)

pub run_step : (s t : State) (c : ℕ) (w : List ℕ) → step s c ≡ Some t → run s (c ∷ w) ≡ run t w
run_step s t c w h = ap (λ o. then_run o (λ v. run v w)) h

pub run_append : (s : State) (a b : List ℕ) → run s (a ++ b) ≡ then_run (run s a) (λ t. run t b)
run_append s [] b = refl
run_append s (c ∷ a) b =
    elim (step s c) as (λ r. then_run r (λ t. run t (a ++ b)) ≡ then_run (then_run r (λ t. run t a)) (λ t. run t b)) [
      | None ↦ refl
      | Some t ↦ run_append t a b
    ]

-- a fixed text
pub run_word : (w : Word) (x : ℕ) (left z : List ℕ) (l : Level) → run (state (wording w x left) l) (x ∷ (left ++ z)) ≡ run (after_word w (passed (x ∷ left) l)) z
run_word w x [] z l = rw (same_self x) refl
run_word w x (y ∷ left) z l = rw (same_self x) (run_word w y left z (tick x l))

-- references
pub run_refer_name : (h : Host) (p : ℕ) (n m w : List ℕ) (l : Level) → AllAre is_name m
    → run (state (referring h p n) l) (m ++ 59 ∷ w) ≡ run (refer h (entity (n ++ encode_utf8_all m)) p (passed (m ++ 59 ∷ []) l)) w
unfolding is_name is_first is_digit
run_refer_name h p n [] w l k = rw append-nil refl
run_refer_name h p n (c ∷ m) w l k = rw k.0 (run_refer_name h p (n ++ encode_utf8 c) m w (tick c l) k.1 ∙ rw append_assoc refl)

pub run_amped : (h : Host) (p : ℕ) (n w : List ℕ) (l : Level) → IsName n
    → run (state (amped h p) l) (n ++ 59 ∷ w) ≡ run (refer h (entity (encode_utf8_all n)) p (passed (n ++ 59 ∷ []) l)) w
run_amped h p [] w l k = absurd k
run_amped h p (c ∷ m) w l k = rw k.0 (run_refer_name h p (encode_utf8 c) m w (tick c l) k.1)

run_count : (h : Host) (p n : ℕ) (ds w : List ℕ) (l : Level) → AllAre is_digit ds
    → run (state (counting h p (held n)) l) (ds ++ 59 ∷ w) ≡ run (refer h (carried (decimal_from n ds)) p (passed (ds ++ 59 ∷ []) l)) w
unfolding is_digit
run_count h p n [] w l k = rw (carried_held n) refl
run_count h p n (c ∷ ds) w l k = rw (k.0, ten_held n (digit_value c)) (run_count h p (n * 10 + digit_value c) ds w (tick c l) k.1)

run_hex : (h : Host) (p n : ℕ) (ds w : List ℕ) (l : Level) → AllAre is_hex ds
    → run (state (hexing h p (held n)) l) (ds ++ 59 ∷ w) ≡ run (refer h (carried (hex_from n ds)) p (passed (ds ++ 59 ∷ []) l)) w
unfolding is_hex is_digit
run_hex h p n [] w l k = rw (carried_held n) refl
run_hex h p n (c ∷ ds) w l k = rw (k.0, sixteen_held n (hex_value c)) (run_hex h p (n * 16 + hex_value c) ds w (tick c l) k.1)

pub run_hashed : (h : Host) (p : ℕ) (ds w : List ℕ) (l : Level) → SomeAre is_digit ds
    → run (state (amped h p) l) (35 ∷ (ds ++ 59 ∷ w)) ≡ run (refer h (carried (decimal_from 0 ds)) p (passed (35 ∷ (ds ++ 59 ∷ [])) l)) w
unfolding is_first
run_hashed h p [] w l k = absurd k
run_hashed h p (c ∷ ds) w l k = rw k.0 (run_count h p (0 * 10 + digit_value c) ds w (tick c (tick 35 l)) k.1)

pub run_hexed : (h : Host) (p : ℕ) (ds w : List ℕ) (l : Level) → SomeAre is_hex ds
    → run (state (amped h p) l) (35 ∷ 120 ∷ (ds ++ 59 ∷ w)) ≡ run (refer h (carried (hex_from 0 ds)) p (passed (35 ∷ 120 ∷ (ds ++ 59 ∷ [])) l)) w
unfolding is_first is_digit
run_hexed h p [] w l k = absurd k
run_hexed h p (c ∷ ds) w l k = rw k.0 (run_hex h p (0 * 16 + hex_value c) ds w (tick c (tick 120 (tick 35 l))) k.1)

-- past white space to the end of a tag
run_spaced_open : (fs : List Frame) (t : Tag) (e w : List ℕ) (l : Level) → AllAre is_white e
    → run (state (spaced fs t) l) (e ++ 62 ∷ w) ≡ run (state (inside (framed (scope_of fs) t ∷ fs) 0) (fresh (judged (scope_of fs) t (passed (e ++ 62 ∷ []) l)))) w
unfolding is_white is_first
run_spaced_open fs t [] w l h = refl
run_spaced_open fs t (c ∷ e) w l h = rw (white_not_first c h.0, h.0) (run_spaced_open fs t e w (tick c l) h.1)

run_spaced_void : (fs : List Frame) (t : Tag) (e w : List ℕ) (l : Level) → AllAre is_white e
    → run (state (spaced fs t) l) (e ++ 47 ∷ 62 ∷ w) ≡ run (state (inside fs 0) (emptied fs t (passed (e ++ 47 ∷ 62 ∷ []) l))) w
unfolding is_white is_first
run_spaced_void fs t [] w l h = refl
run_spaced_void fs t (c ∷ e) w l h = rw (white_not_first c h.0, h.0) (run_spaced_void fs t e w (tick c l) h.1)

pub run_name : (fs : List Frame) (t : Tag) (m w : List ℕ) (l : Level) → AllAre is_name m
    → run (state (naming fs t) l) (m ++ w) ≡ run (state (naming fs (record { name = t.name ++ m; raw = t.raw; outer = t.outer })) (passed m l)) w
run_name fs t [] w l h = rw append-nil refl
run_name fs t (c ∷ m) w l h = rw h.0 (run_name fs (named_more t c) m w (tick c l) h.1 ∙ rw append_assoc refl)

pub run_white : (fs : List Frame) (t : Tag) (e w : List ℕ) (l : Level) → AllAre is_white e
    → run (state (spaced fs t) l) (e ++ w) ≡ run (state (spaced fs t) (passed e l)) w
run_white fs t [] w l h = refl
run_white fs t (c ∷ e) w l h = rw (white_not_first c h.0, h.0) (run_white fs t e w (tick c l) h.1)

run_attr_name : (fs : List Frame) (t : Tag) (a m w : List ℕ) (l : Level) → AllAre is_name m
    → run (state (attr_naming fs t a) l) (m ++ w) ≡ run (state (attr_naming fs t (a ++ encode_utf8_all m)) (passed m l)) w
run_attr_name fs t a [] w l h = rw append-nil refl
run_attr_name fs t a (c ∷ m) w l h = rw h.0 (run_attr_name fs t (a ++ encode_utf8 c) m w (tick c l) h.1 ∙ rw append_assoc refl)

pub run_named : (o : Owner) (e w : List ℕ) (l : Level) → AllAre is_white e
    → run (state (named o) l) (e ++ 61 ∷ w) ≡ run (state (equalled o) (passed (e ++ 61 ∷ []) l)) w
unfolding is_white
run_named o [] w l h = refl
run_named o (c ∷ e) w l h = rw h.0 (run_named o e w (tick c l) h.1)

run_before : (fs : List Frame) (t : Tag) (a e w : List ℕ) (l : Level) → AllAre is_white e
    → run (state (attr_naming fs t a) l) (e ++ 61 ∷ w) ≡ run (state (equalled (of_attr fs t a)) (passed (e ++ 61 ∷ []) l)) w
unfolding is_white is_name is_first is_digit
run_before fs t a [] w l h = refl
run_before fs t a (c ∷ e) w l h = rw (white_not_name c h.0, h.0) (run_named (of_attr fs t a) e w (tick c l) h.1)

pub run_behind : (o : Owner) (e w : List ℕ) (l : Level) → AllAre is_white e
    → run (state (equalled o) l) (e ++ w) ≡ run (state (equalled o) (passed e l)) w
run_behind o [] w l h = refl
run_behind o (c ∷ e) w l h = rw h.0 (run_behind o e w (tick c l) h.1)

pub run_quote : (o : Owner) (q : ℕ) (w : List ℕ) (l : Level) → is_quote q ≡ true
    → run (state (equalled o) l) (q ∷ w) ≡ run (state (quoted o q) (tick q l)) w
run_quote o q w l h = rw (quote_not_white q h, h) refl

abbrev pub returned_after : Bool → List Bit → Bool
returned_after b [] = b
returned_after b (x ∷ bs) = returned_after (is_return x) bs

-- a value's ampersand
run_value_amp : (fs : List Frame) (t : Tag) (a : List ℕ) (q : ℕ) (v : List ℕ) (b : Bool) (w : List ℕ) (l : Level) → is_quote q ≡ true
    → run (state (valuing fs t a q v b) l) (38 ∷ w) ≡ run (state (amped (to_value fs t a q v) l.at) (tick 38 l)) w
unfolding is_plain is_char
run_value_amp fs t a q v b w l h = rw (quote_not_amp q h) refl

run_value_bit : (fs : List Frame) (t : Tag) (a : List ℕ) (q : ℕ) (v : List ℕ) (r : Bool) (b : Bit) (w : List ℕ) (l : Level) → is_quote q ≡ true → IsBit (is_valued q) b
    → run (state (valuing fs t a q v r) l) (bit_text b ++ w) ≡ run (state (valuing fs t a q (v ++ in_value r b) (is_return b)) (bit_passed b l)) w
run_value_bit fs t a q v r (letter c) w l h k = rw k refl
run_value_bit fs t a q v r (entity_of n) w l h k =
    ap (λ x. run (state (valuing fs t a q v r) l) (38 ∷ x)) (append_assoc n (59 ∷ []) w)
    ∙ (run_value_amp fs t a q v r (n ++ 59 ∷ w) l h ∙ run_amped (to_value fs t a q v) l.at n w (tick 38 l) k)
run_value_bit fs t a q v r (decimal n) w l h k =
    ap (λ x. run (state (valuing fs t a q v r) l) (38 ∷ 35 ∷ x)) (append_assoc n (59 ∷ []) w)
    ∙ (run_value_amp fs t a q v r (35 ∷ (n ++ 59 ∷ w)) l h ∙ run_hashed (to_value fs t a q v) l.at n w (tick 38 l) k)
run_value_bit fs t a q v r (hexadecimal n) w l h k =
    ap (λ x. run (state (valuing fs t a q v r) l) (38 ∷ 35 ∷ 120 ∷ x)) (append_assoc n (59 ∷ []) w)
    ∙ (run_value_amp fs t a q v r (35 ∷ 120 ∷ (n ++ 59 ∷ w)) l h ∙ run_hexed (to_value fs t a q v) l.at n w (tick 38 l) k)

run_bits : (fs : List Frame) (t : Tag) (a : List ℕ) (q : ℕ) (v : List ℕ) (r : Bool) (bs : List Bit) (w : List ℕ) (l : Level) → is_quote q ≡ true → AreBits (is_valued q) bs
    → run (state (valuing fs t a q v r) l) (bits_text bs ++ w) ≡ run (state (valuing fs t a q (v ++ value_of r bs) (returned_after r bs)) (bits_passed bs l)) w
run_bits fs t a q v r [] w l h k = rw append-nil refl
run_bits fs t a q v r (b ∷ bs) w l h k =
    ap (run (state (valuing fs t a q v r) l)) (append_assoc (bit_text b) (bits_text bs) w)
    ∙ (run_value_bit fs t a q v r b (bits_text bs ++ w) l h k.0
    ∙ (run_bits fs t a q (v ++ in_value r b) (is_return b) bs w (bit_passed b l) h k.1 ∙ rw append_assoc refl))

-- A state in which a tag may go on or end.
pub record Leaves (s : State) (fs : List Frame) (t : Tag) (l : Level) : Type 0 where
  pub white : (c : ℕ) → is_white c ≡ true → step s c ≡ to (spaced fs t) (tick c l)
  pub slash : step s 47 ≡ to (wording (void_word fs t) 62 []) (tick 47 l)
  pub ends : step s 62 ≡ to (inside (framed (scope_of fs) t ∷ fs) 0) (fresh (judged (scope_of fs) t (tick 62 l)))

pub naming_leaves : (fs : List Frame) (t : Tag) (l : Level) → Leaves (state (naming fs t) l) fs t l
unfolding is_white is_name is_first is_digit
naming_leaves fs t l = record { white = λ c h. rw (white_not_name c h, h) refl; slash = refl; ends = refl }

pub valued_leaves : (fs : List Frame) (t : Tag) (l : Level) → Leaves (state (valued fs t) l) fs t l
unfolding is_white is_name is_first
valued_leaves fs t l = record { white = λ c h. rw h refl; slash = refl; ends = refl }

run_first_attr : (fs : List Frame) (t : Tag) (n w : List ℕ) (l : Level) → IsName n
    → run (state (spaced fs t) l) (n ++ w) ≡ run (state (attr_naming fs t (encode_utf8_all n)) (passed n l)) w
run_first_attr fs t [] w l h = absurd h
run_first_attr fs t (c ∷ m) w l h = rw h.0 (run_attr_name fs t (encode_utf8 c) m w (tick c l) h.1)

run_unquote : (fs : List Frame) (t : Tag) (a : List ℕ) (q : ℕ) (v : List ℕ) (r : Bool) (w : List ℕ) (l : Level)
    → run (state (valuing fs t a q v r) l) (q ∷ w) ≡ run (state (valued fs (with_attribute t a v)) (tick q l)) w
run_unquote fs t a q v r w l = rw (quote_ends q, same_self q) refl

pub written_levels : (e n e2 e3 : List ℕ) (q : ℕ) (l : Level)
    → passed (e ++ (n ++ (e2 ++ 61 ∷ (e3 ++ q ∷ [])))) l ≡ tick q (passed e3 (passed (e2 ++ 61 ∷ []) (passed n (passed e l))))
written_levels e n e2 e3 q l = simp passed_append

run_written_flat : (s : State) (fs : List Frame) (t : Tag) (l : Level) (a : Written) (w : List ℕ) → Leaves s fs t l → IsWritten a
    → run s (a.lead ∷ (a.more ++ (a.name ++ (a.before ++ 61 ∷ (a.behind ++ a.quote ∷ (bits_text a.value ++ a.quote ∷ w))))))
    ≡ run (state (valued fs (with_attribute t (encode_utf8_all a.name) (value_of false a.value))) (written_passed a l)) w
run_written_flat s fs t l a w z i =
    let n : List ℕ = encode_utf8_all a.name in
    let l1 = passed a.more (tick a.lead l) in
    let l2 = passed a.name l1 in
    let l3 = passed (a.before ++ 61 ∷ []) l2 in
    let l4 = passed a.behind l3 in
    let x5 : List ℕ = bits_text a.value ++ a.quote ∷ w in
    let x4 : List ℕ = a.behind ++ a.quote ∷ x5 in
    let x3 : List ℕ = a.before ++ 61 ∷ x4 in
    rw (z.white a.lead i.lead, written_levels a.more a.name a.before a.behind a.quote (tick a.lead l))
    (run_white fs t a.more (a.name ++ x3) (tick a.lead l) i.more
    ∙ (run_first_attr fs t a.name x3 l1 i.name
    ∙ (run_before fs t n a.before x4 l2 i.before
    ∙ (run_behind (of_attr fs t n) a.behind (a.quote ∷ x5) l3 i.behind
    ∙ (run_quote (of_attr fs t n) a.quote x5 l4 i.quote
    ∙ (run_bits fs t n a.quote [] false a.value (a.quote ∷ w) (tick a.quote l4) i.quote i.value
    ∙ run_unquote fs t n a.quote (value_of false a.value) (returned_after false a.value) w (bits_passed a.value (tick a.quote l4))))))))

written_flat : (a : Written) (w : List ℕ)
    → written_text a ++ w ≡ a.lead ∷ (a.more ++ (a.name ++ (a.before ++ 61 ∷ (a.behind ++ a.quote ∷ (bits_text a.value ++ a.quote ∷ w)))))
written_flat a w = simp append_assoc

run_written : (s : State) (fs : List Frame) (t : Tag) (l : Level) (a : Written) (w : List ℕ) → Leaves s fs t l → IsWritten a
    → run s (written_text a ++ w) ≡ run (state (valued fs (with_attribute t (encode_utf8_all a.name) (value_of false a.value))) (written_passed a l)) w
run_written s fs t l a w z i = ap (run s) (written_flat a w) ∙ run_written_flat s fs t l a w z i

abbrev pub tag_with : Tag → List Raw → Tag
tag_with t more = record { name = t.name; raw = t.raw ++ more; outer = t.outer }

run_leave_open : (s : State) (fs : List Frame) (t : Tag) (l : Level) (e w : List ℕ) → Leaves s fs t l → AllAre is_white e
    → run s (e ++ 62 ∷ w) ≡ run (state (inside (framed (scope_of fs) t ∷ fs) 0) (fresh (judged (scope_of fs) t (passed (e ++ 62 ∷ []) l)))) w
run_leave_open s fs t l [] w z h = rw (z.ends) refl
run_leave_open s fs t l (c ∷ e) w z h = rw (z.white c h.0) (run_spaced_open fs t e w (tick c l) h.1)

run_leave_void : (s : State) (fs : List Frame) (t : Tag) (l : Level) (e w : List ℕ) → Leaves s fs t l → AllAre is_white e
    → run s (e ++ 47 ∷ 62 ∷ w) ≡ run (state (inside fs 0) (emptied fs t (passed (e ++ 47 ∷ 62 ∷ []) l))) w
run_leave_void s fs t l [] w z h = rw (z.slash) refl
run_leave_void s fs t l (c ∷ e) w z h = rw (z.white c h.0) (run_spaced_void fs t e w (tick c l) h.1)

run_tag_open : (s : State) (fs : List Frame) (t : Tag) (l : Level) (ws : List Written) (e w : List ℕ) → Leaves s fs t l → AreWritten ws → AllAre is_white e
    → run s (all_text ws ++ (e ++ 62 ∷ w))
    ≡ run (state (inside (framed (scope_of fs) (tag_with t (raw_of ws)) ∷ fs) 0) (fresh (judged (scope_of fs) (tag_with t (raw_of ws)) (passed (e ++ 62 ∷ []) (all_passed ws l))))) w
run_tag_open s fs t l [] e w z i h = rw append-nil (run_leave_open s fs t l e w z h)
run_tag_open s fs t l (a ∷ ws) e w z i h =
    let u = with_attribute t (encode_utf8_all a.name) (value_of false a.value) in
    ap (run s) (append_assoc (written_text a) (all_text ws) (e ++ 62 ∷ w))
    ∙ (run_written s fs t l a (all_text ws ++ (e ++ 62 ∷ w)) z i.0
    ∙ (run_tag_open (state (valued fs u) (written_passed a l)) fs u (written_passed a l) ws e w (valued_leaves fs u _) i.1 h ∙ rw append_assoc refl))

run_tag_void : (s : State) (fs : List Frame) (t : Tag) (l : Level) (ws : List Written) (e w : List ℕ) → Leaves s fs t l → AreWritten ws → AllAre is_white e
    → run s (all_text ws ++ (e ++ 47 ∷ 62 ∷ w)) ≡ run (state (inside fs 0) (emptied fs (tag_with t (raw_of ws)) (passed (e ++ 47 ∷ 62 ∷ []) (all_passed ws l)))) w
run_tag_void s fs t l [] e w z i h = rw append-nil (run_leave_void s fs t l e w z h)
run_tag_void s fs t l (a ∷ ws) e w z i h =
    let u = with_attribute t (encode_utf8_all a.name) (value_of false a.value) in
    ap (run s) (append_assoc (written_text a) (all_text ws) (e ++ 47 ∷ 62 ∷ w))
    ∙ (run_written s fs t l a (all_text ws ++ (e ++ 47 ∷ 62 ∷ w)) z i.0
    ∙ (run_tag_void (state (valued fs u) (written_passed a l)) fs u (written_passed a l) ws e w (valued_leaves fs u _) i.1 h
    ∙ ap (λ x. run (state (inside fs 0) (emptied fs (record { name = t.name; raw = x; outer = t.outer }) (passed (e ++ 47 ∷ 62 ∷ []) (all_passed ws (written_passed a l))))) w) (append_assoc t.raw _ (raw_of ws))))

-- A state behind a `<` where an element may begin, o being what is known before it.
abbrev pub Enters : State → List Frame → Level → Type 0
Enters s fs o = (c : ℕ) → is_first c ≡ true → step s c ≡ enter fs o (tick 60 o) c

pub run_start : (s : State) (fs : List Frame) (o : Level) (n : List ℕ) (ws : List Written) (e w : List ℕ) → Enters s fs o → IsName n → AreWritten ws → AllAre is_white e
    → run s (n ++ (tag_rest ws e (62 ∷ []) ++ w))
    ≡ run (state (inside (framed (scope_of fs) (tag_of n ws o) ∷ fs) 0) (fresh (tag_passed (suc (length fs)) (scope_of fs) n ws e (62 ∷ []) o))) w
run_start s fs o [] ws e w z k i h = absurd k
run_start s fs o (c ∷ m) ws e w z k i h =
    let l : Level = blame_if (nat_le 65 (suc (length fs))) depth_kind o.at (tick c (tick 60 o)) in
    rw (z c k.0)
    (run_name fs (new_tag o c) m (tag_rest ws e (62 ∷ []) ++ w) l k.1
    ∙ (ap (run (state (naming fs (record { name = c ∷ m; raw = []; outer = o })) (passed m l))) (append_assoc (all_text ws) (e ++ 62 ∷ []) w ∙ ap (λ x. all_text ws ++ x) (append_assoc e (62 ∷ []) w))
    ∙ run_tag_open (state (naming fs (record { name = c ∷ m; raw = []; outer = o })) (passed m l)) fs _ (passed m l) ws e w (naming_leaves fs _ _) i h))

pub run_empty : (s : State) (fs : List Frame) (o : Level) (n : List ℕ) (ws : List Written) (e w : List ℕ) → Enters s fs o → IsName n → AreWritten ws → AllAre is_white e
    → run s (n ++ (tag_rest ws e (47 ∷ 62 ∷ []) ++ w))
    ≡ run (state (inside fs 0) (adopt (framed (scope_of fs) (tag_of n ws o)) (fresh (tag_passed (suc (length fs)) (scope_of fs) n ws e (47 ∷ 62 ∷ []) o)))) w
run_empty s fs o [] ws e w z k i h = absurd k
run_empty s fs o (c ∷ m) ws e w z k i h =
    let l : Level = blame_if (nat_le 65 (suc (length fs))) depth_kind o.at (tick c (tick 60 o)) in
    rw (z c k.0)
    (run_name fs (new_tag o c) m (tag_rest ws e (47 ∷ 62 ∷ []) ++ w) l k.1
    ∙ (ap (run (state (naming fs (record { name = c ∷ m; raw = []; outer = o })) (passed m l))) (append_assoc (all_text ws) (e ++ 47 ∷ 62 ∷ []) w ∙ ap (λ x. all_text ws ++ x) (append_assoc e (47 ∷ 62 ∷ []) w))
    ∙ run_tag_void (state (naming fs (record { name = c ∷ m; raw = []; outer = o })) (passed m l)) fs _ (passed m l) ws e w (naming_leaves fs _ _) i h))

-- end tags
run_left : (fs : List Frame) (left w : List ℕ) (l : Level) → run (state (closing fs left) l) (left ++ w) ≡ run (state (closing fs []) (passed left l)) w
run_left fs [] w l = refl
run_left fs (x ∷ left) w l = rw (same_self x) (run_left fs left w (tick x l))

run_ended : (fs : List Frame) (e w : List ℕ) (l : Level) → AllAre is_white e
    → run (state (closing fs []) l) (e ++ 62 ∷ w) ≡ run (closed fs (passed (e ++ 62 ∷ []) l)) w
run_ended fs [] w l h = refl
run_ended fs (c ∷ e) w l h = rw (white_not_end c h.0, h.0) (run_ended fs e w (tick c l) h.1)

pub run_closing : (fs : List Frame) (left e w : List ℕ) (l : Level) → AllAre is_white e
    → run (state (closing fs left) l) (left ++ (e ++ 62 ∷ w)) ≡ run (closed fs (passed (left ++ (e ++ 62 ∷ [])) l)) w
run_closing fs left e w l h =
    run_left fs left (e ++ 62 ∷ w) l ∙ (run_ended fs e w (passed left l) h ∙ rw (passed_append left (e ++ 62 ∷ []) l) refl)

pub run_close : (f : Frame) (fs : List Frame) (n : ℕ) (e w : List ℕ) (l : Level) → AllAre is_white e
    → run (state (inside (f ∷ fs) n) l) (end_tag f.name e ++ w) ≡ run (state (inside fs 0) (adopt f (passed (end_tag f.name e) l))) w
unfolding is_plain is_char is_first
run_close f fs n e w l h =
    ap (run (state (closing (f ∷ fs) f.name) (tick 47 (tick 60 l)))) (append_assoc f.name (e ++ 62 ∷ []) w ∙ ap (λ x. f.name ++ x) (append_assoc e (62 ∷ []) w))
    ∙ run_closing (f ∷ fs) f.name e w (tick 47 (tick 60 l)) h

-- comments
abbrev pub remarking : Bool → Spot → Doing
remarking false s = commenting s
remarking true s = halting s

remark_step : (dash : Bool) (s : Spot) (c : ℕ) (l : Level) → is_char c ≡ true → (dash && c == 45) ≡ false
    → step (state (remarking dash s) l) c ≡ to (remarking (c == 45) s) (tick c l)
remark_step false s c l i h = rw i (cases (c == 45))
  where
    cases : (b : Bool) → cond b (to (halting s) (tick c l)) (to (commenting s) (tick c l)) ≡ to (remarking b s) (tick c l)
    cases true = refl
    cases false = refl
remark_step true s c l i h = rw (h, i) refl

pub run_remark : (cs : List ℕ) (dash : Bool) (s : Spot) (w : List ℕ) (l : Level) → AllAre is_char cs → Undashed dash cs
    → run (state (remarking dash s) l) (cs ++ 45 ∷ 45 ∷ 62 ∷ w) ≡ run (state (back_to s) (passed (cs ++ codes "-->") l)) w
run_remark [] false s w l i h = refl
run_remark [] true s w l i h = cc
run_remark (c ∷ cs) dash s w l i h =
    run_step (state (remarking dash s) l) (state (remarking (c == 45) s) (tick c l)) c (cs ++ 45 ∷ 45 ∷ 62 ∷ w) (remark_step dash s c l i.0 h.0) ∙ run_remark cs (c == 45) s w (tick c l) i.1 h.1

-- instructions
abbrev pub telling : Bool → Spot → Doing
telling false s = instructing s
telling true s = asking s

tell_step : (q : Bool) (s : Spot) (c : ℕ) (l : Level) → is_char c ≡ true → (q && c == 62) ≡ false
    → step (state (telling q s) l) c ≡ to (telling (c == 63) s) (tick c l)
tell_step false s c l i h = rw i (cases (c == 63))
  where
    cases : (b : Bool) → cond b (to (asking s) (tick c l)) (to (instructing s) (tick c l)) ≡ to (telling b s) (tick c l)
    cases true = refl
    cases false = refl
tell_step true s c l i h = rw (h, i) (cases (c == 63))
  where
    cases : (b : Bool) → cond b (to (asking s) (tick c l)) (to (instructing s) (tick c l)) ≡ to (telling b s) (tick c l)
    cases true = refl
    cases false = refl

pub run_told : (cs : List ℕ) (q : Bool) (s : Spot) (w : List ℕ) (l : Level) → AllAre is_char cs → Unanswered q cs
    → run (state (telling q s) l) (cs ++ 63 ∷ 62 ∷ w) ≡ run (state (back_to s) (passed (cs ++ codes "?>") l)) w
run_told [] false s w l i h = refl
run_told [] true s w l i h = refl
run_told (c ∷ cs) q s w l i h =
    run_step (state (telling q s) l) (state (telling (c == 63) s) (tick c l)) c (cs ++ 63 ∷ 62 ∷ w) (tell_step q s c l i.0 h.0) ∙ run_told cs (c == 63) s w (tick c l) i.1 h.1

pub run_target : (s : Spot) (n m w : List ℕ) (l : Level) → AllAre is_name m
    → run (state (targeting s n) l) (m ++ w) ≡ run (state (targeting s (n ++ encode_utf8_all m)) (passed m l)) w
run_target s n [] w l h = rw append-nil refl
run_target s n (c ∷ m) w l h = rw h.0 (run_target s (n ++ encode_utf8 c) m w (tick c l) h.1 ∙ rw append_assoc refl)

-- behind a target
pub run_body : (s : Spot) (n cs w : List ℕ) (l : Level) → is_xml n ≡ false → IsApart cs → AllAre is_char cs → Unanswered false cs
    → run (state (targeting s n) l) (cs ++ 63 ∷ 62 ∷ w) ≡ run (state (back_to s) (passed (cs ++ codes "?>") l)) w
unfolding is_name is_first is_digit
run_body s n [] w l x a i h = rw x refl
run_body s n (c ∷ cs) w l x a i h =
    rw (white_not_name c a, white_not_ask c a, a, x)
    (run_told cs false s w (tick c l) i.1 (let P : Bool → Type 0 = λ b. Unanswered b cs in subst P (white_not_ask c a) h.1))

pub run_instruction : (s : Spot) (n cs w : List ℕ) (l : Level) → IsInstruction n cs
    → run (state (asked s) l) (n ++ (cs ++ 63 ∷ 62 ∷ w)) ≡ run (state (back_to s) (passed (n ++ (cs ++ codes "?>")) l)) w
run_instruction s [] cs w l i = absurd i.target
run_instruction s (c ∷ m) cs w l i =
    rw i.target.0
    (run_target s (encode_utf8 c) m (cs ++ 63 ∷ 62 ∷ w) (tick c l) i.target.1
    ∙ (run_body s (encode_utf8 c ++ encode_utf8_all m) cs w (passed m (tick c l)) i.other i.apart i.chars i.unended ∙ rw (passed_append m (cs ++ codes "?>") (tick c l)) refl))

-- sections: how many brackets wait that may be the section's or its end's
pub data Wait : Type 0 where
  none : Wait
  one : Wait
  two : Wait

abbrev pub count : Wait → ℕ
count none = 0
count one = 1
count two = 2

abbrev pub more : Wait → Wait
more none = one
more one = two
more two = two

abbrev pub wait_on : Wait → ℕ → Wait
wait_on t c = cond (c == 93) (more t) none

count_on : (t : Wait) (c : ℕ) → brackets (count t) c ≡ count (wait_on t c)
count_on t c = cases t (c == 93)
  where
    cases : (t : Wait) (b : Bool) → cond b (cond (count t == 0) 1 2) 0 ≡ count (cond b (more t) none)
    cases none true = refl
    cases one true = refl
    cases two true = refl
    cases none false = refl
    cases one false = refl
    cases two false = refl

abbrev pub waiting : Wait → List Frame → Doing
waiting none fs = sectioning fs
waiting one fs = bracketed fs
waiting two fs = twice fs

-- the brackets are the section's
abbrev pub await : Wait → Level → Level
await none l = l
await one l = add (93 ∷ []) l
await two l = add (93 ∷ []) (add (93 ∷ []) l)

abbrev pub awaited : Wait → ℕ → Level → Level
awaited none c l = tick c l
awaited one c l = tick c l
awaited two c l = tick c (add (93 ∷ []) l)

abbrev pub wait_level : Wait → ℕ → Level → Level
wait_level t c l = cond (c == 93) (awaited t c l) (heard c (await t l))

wait_step : (t : Wait) (fs : List Frame) (c : ℕ) (l : Level) → is_char c ≡ true → is_unclosed (count t) c ≡ true
    → step (state (waiting t fs) l) c ≡ to (waiting (wait_on t c) fs) (wait_level t c l)
wait_step none fs c l i h = rw i (cases (c == 93))
  where
    cases : (b : Bool) → cond b (to (bracketed fs) (tick c l)) (to (sectioning fs) (heard c l)) ≡ to (waiting (cond b one none) fs) (cond b (tick c l) (heard c l))
    cases true = refl
    cases false = refl
wait_step one fs c l i h = rw i (cases (c == 93))
  where
    cases : (b : Bool) → cond b (to (twice fs) (tick c l)) (to (sectioning fs) (heard c (await one l))) ≡ to (waiting (cond b two none) fs) (cond b (tick c l) (heard c (await one l)))
    cases true = refl
    cases false = refl
wait_step two fs c l i h = rw (i, not_end (c == 62) h) (cases (c == 93))
  where
    not_end : (b : Bool) → not b ≡ true → b ≡ false
    not_end true k = cc
    not_end false k = refl

    cases : (b : Bool) → cond b (to (twice fs) (awaited two c l)) (to (sectioning fs) (heard c (await two l))) ≡ to (waiting (cond b two none) fs) (cond b (awaited two c l) (heard c (await two l)))
    cases true = refl
    cases false = refl

pub bracket_heard : (t : Wait) (l : Level) → await (more t) (awaited t 93 l) ≡ heard 93 (await t l)
unfolding line_end encode
bracket_heard none l = refl
bracket_heard one l = refl
bracket_heard two l = refl

wait_heard : (t : Wait) (c : ℕ) (l : Level) → await (wait_on t c) (wait_level t c l) ≡ heard c (await t l)
wait_heard t c l = cases (c == 93) refl
  where
    cases : (b : Bool) → (c == 93) ≡ b → await (cond b (more t) none) (cond b (awaited t c l) (heard c (await t l))) ≡ heard c (await t l)
    cases true e = let P : ℕ → Type 0 = λ v. await (more t) (awaited t v l) ≡ heard v (await t l) in subst P (sym (is_code c 93 e)) (bracket_heard t l)
    cases false e = refl

pub run_section : (t : Wait) (fs : List Frame) (cs w : List ℕ) (l : Level) → AllAre is_char cs → Unclosed (count t) cs
    → run (state (waiting t fs) l) (cs ++ 93 ∷ 93 ∷ 62 ∷ w) ≡ run (state (inside fs 0) (passed (codes "]]>") (heard_all cs (await t l)))) w
run_section none fs [] w l i h = refl
run_section one fs [] w l i h = refl
run_section two fs [] w l i h = refl
run_section t fs (c ∷ cs) w l i h =
    run_step (state (waiting t fs) l) _ c (cs ++ 93 ∷ 93 ∷ 62 ∷ w) (wait_step t fs c l i.0 h.0)
    ∙ (run_section (wait_on t c) fs cs w (wait_level t c l) i.1 (let P : ℕ → Type 0 = λ v. Unclosed v cs in subst P (count_on t c) h.1)
    ∙ ap (λ m. run (state (inside fs 0) (passed (codes "]]>") (heard_all cs m))) w) (wait_heard t c l))
