-- A character takes the place on by its bytes, and each fault that it shows ends there.
use Rattle.std.proofs.Common.{◌≡◌, ℕ, ◌+◌, ◌==◌, Bool, true, false, List, [], ◌∷◌, ◌++◌, Option, Some, None, cond, refl, sym, ap, ◌∙◌, append_assoc, append-nil}
use Rattle.std.specs.Str.{bytes_eq}
use Rattle.std.specs.Prelude.{codes}
use Rattle.zi_xml.specs.Chars.{width, is_white, is_first, is_name, is_char, is_quote, is_valued, is_digit, is_hex, is_encoding_first, is_encoding, entity}
use Rattle.zi_xml.specs.Syntax.{Key, is_said}
use Rattle.zi_xml.specs.Meaning.{Level, Fault, Kind, encoding_kind, doctype_kind, entity_kind, prefix_kind, repeated_kind, depth_kind, tick, blame_if, carried, is_lacking, Tag, Frame, judged}
use Rattle.zi_xml.specs.Machine.{Spot, before, among, Host, in_text, in_value, Owner, of_attr, Word, doctype_word, section_word, comment_word, over_word, key_word, version_word, reply_word, declared_word, void_word, Doing, begun, front, opened, banged, commenting, halting, asked, targeting, instructing, asking, wording, sectioning, bracketed, twice, declaring, heading, headed, numbering, numbered, coding, coded, replying, named, equalled, naming, spaced, attr_naming, valuing, valued, amped, referring, hashed, counting, hexed, hexing, inside, closing, State, go, initial, choose, after_word, worded, markup, enter, bang_word, is_xml, declare, leave, leave_name, refer, closed, front_step, scope_of}

abbrev pub AreAt : ℕ → List Fault → Type 0
AreAt n [] = Unit {0}
AreAt n (f ∷ fs) = (f.ends ≡ n) × AreAt n fs

-- a level that follows l by n bytes
abbrev pub Later : Level → ℕ → Level → Type 0
Later l n m = (m.at ≡ l.at + n) × ((more : List Fault) × (m.found ≡ l.found ++ more) × AreAt m.at more)

abbrev pub Grown : Level → ℕ → Option State → Type 0
Grown l n None = Unit {0}
Grown l n (Some t) = Later l n t.level

both : (l : Level) (n : ℕ) (b : Bool) (x y : Option State) → Grown l n x → Grown l n y → Grown l n (cond b x y)
both l n true x y h k = h
both l n false x y h k = k

-- nothing is found
calm : (l : Level) (n : ℕ) (m : Level) → m.at ≡ l.at + n → m.found ≡ l.found → Later l n m
calm l n m e h = (e, ([], h ∙ sym (append-nil l.found), tt))

ticked : (l : Level) (c : ℕ) → Later l (width c) (tick c l)
ticked l c = calm l (width c) (tick c l) refl refl

are_at : (n : ℕ) (xs ys : List Fault) → AreAt n xs → AreAt n ys → AreAt n (xs ++ ys)
are_at n [] ys h k = k
are_at n (x ∷ xs) ys h k = (h.0, are_at n xs ys h.1 k)

-- one fault more, or none
blamed : (l : Level) (n : ℕ) (b : Bool) (k : Kind) (p : ℕ) (m : Level) → Later l n m → Later l n (blame_if b k p m)
blamed l n true k p m h =
    (h.0, (h.1.0 ++ record { kind = k; place = p; ends = m.at } ∷ [], ap (λ v. v ++ record { kind = k; place = p; ends = m.at } ∷ []) h.1.1 ∙ append_assoc l.found h.1.0 _, are_at m.at h.1.0 _ h.1.2 (refl, tt)))
blamed l n false k p m h = h

judged_later : (l : Level) (n : ℕ) (fs : List Frame) (t : Tag) (m : Level) → Later l n m → Later l n (judged (scope_of fs) t m)
judged_later l n fs t m h = blamed l n _ repeated_kind t.outer.at _ (blamed l n _ prefix_kind t.outer.at m h)

grown_front : (b : Bool) (l : Level) (c : ℕ) → Grown l (width c) (front_step b l c)
grown_front b l c = both l (width c) (is_white c) _ _ (ticked l c) (both l (width c) (c == 60) _ _ (ticked l c) tt)

grown_markup : (s : Spot) (o l : Level) (c : ℕ) → Grown l (width c) (markup s o l c)
grown_markup s o l c = both l (width c) (c == 33) _ _ (ticked l c) (both l (width c) (c == 63) _ _ (ticked l c) tt)

grown_enter : (fs : List Frame) (o l : Level) (c : ℕ) → Grown l (width c) (enter fs o l c)
grown_enter fs o l c = blamed l (width c) _ depth_kind o.at (tick c l) (ticked l c)

grown_bang : (s : Spot) (p : ℕ) (l : Level) (c : ℕ) → Grown l (width c) (bang_word s p l c)
grown_bang (before b) p l c = both l (width c) (c == 68) _ _ (ticked l c) tt
grown_bang (among []) p l c = tt
grown_bang (among (f ∷ fs)) p l c = both l (width c) (c == 91) _ _ (ticked l c) tt

grown_declare : (s : Spot) (n : List ℕ) (l : Level) (k : ℕ) (m : Level) → Later l k m → Grown l k (declare s n m)
grown_declare (before b) n l k m h = both l k b _ _ (both l k (bytes_eq n (codes "xml")) _ _ h tt) tt
grown_declare (among fs) n l k m h = tt

grown_after : (w : Word) (l : Level) (n : ℕ) (m : Level) → Later l n m → Later l n (after_word w m).level
grown_after (doctype_word p) l n m h = blamed l n true doctype_kind p m h
grown_after (section_word fs) l n m h = h
grown_after (comment_word s) l n m h = h
grown_after (over_word s) l n m h = h
grown_after (key_word k ks) l n m h = h
grown_after (version_word q ks) l n m h = h
grown_after (reply_word ks) l n m h = h
grown_after declared_word l n m h = h
grown_after (void_word fs t) l n m h = judged_later l n fs t m h

grown_word : (w : Word) (left : List ℕ) (l : Level) (c : ℕ) → Grown l (width c) (Some (worded w left (tick c l)))
grown_word w [] l c = grown_after w l (width c) (tick c l) (ticked l c)
grown_word w (x ∷ left) l c = ticked l c

grown_choose : (ks : List Key) (l : Level) (c : ℕ) → Grown l (width c) (choose ks l c)
grown_choose [] l c = tt
grown_choose (k ∷ ks) l c = both l (width c) (c == initial k) _ _ (ticked l c) (grown_choose ks l c)

grown_leave : (fs : List Frame) (t : Tag) (l : Level) (c : ℕ) → Grown l (width c) (leave fs t l c)
grown_leave fs t l c =
    both l (width c) (is_white c) _ _ (ticked l c)
    (both l (width c) (c == 47) _ _ (ticked l c) (both l (width c) (c == 62) _ _ (judged_later l (width c) fs t (tick c l) (ticked l c)) tt))

grown_name : (o : Owner) (l : Level) (c : ℕ) → Grown l (width c) (leave_name o l c)
grown_name o l c = both l (width c) (is_white c) _ _ (ticked l c) (both l (width c) (c == 61) _ _ (ticked l c) tt)

grown_refer : (h : Host) (o : Option ℕ) (p : ℕ) (l : Level) (c : ℕ) → Grown l (width c) (Some (refer h o p (tick c l)))
grown_refer (in_text fs) o p l c = blamed l (width c) (is_lacking o) entity_kind p (tick c l) (ticked l c)
grown_refer (in_value fs t a q v) o p l c = blamed l (width c) (is_lacking o) entity_kind p (tick c l) (ticked l c)

grown_closed : (fs : List Frame) (l : Level) (c : ℕ) → Grown l (width c) (Some (closed fs (tick c l)))
grown_closed [] l c = ticked l c
grown_closed (f ∷ fs) l c = ticked l c

pub go_grows : (d : Doing) (l : Level) (c : ℕ) → Grown l (width c) (go d l c)
go_grows begun l c = both l (width c) (c == 65279) _ _ (ticked l c) (grown_front true l c)
go_grows (front b) l c = grown_front b l c
go_grows (opened (before b) o) l c = both l (width c) (is_first c) _ _ (grown_enter [] o l c) (grown_markup (before b) o l c)
go_grows (opened (among []) o) l c = grown_markup (among []) o l c
go_grows (opened (among (f ∷ fs)) o) l c =
    both l (width c) (is_first c) _ _ (grown_enter (f ∷ fs) o l c) (both l (width c) (c == 47) _ _ (ticked l c) (grown_markup (among (f ∷ fs)) o l c))
go_grows (banged s p) l c = both l (width c) (c == 45) _ _ (ticked l c) (grown_bang s p l c)
go_grows (commenting s) l c = both l (width c) (c == 45) _ _ (ticked l c) (both l (width c) (is_char c) _ _ (ticked l c) tt)
go_grows (halting s) l c = both l (width c) (c == 45) _ _ (ticked l c) (both l (width c) (is_char c) _ _ (ticked l c) tt)
go_grows (asked s) l c = both l (width c) (is_first c) _ _ (ticked l c) tt
go_grows (targeting s n) l c =
    both l (width c) (is_name c) _ _ (ticked l c)
    (both l (width c) (c == 63) _ _ (both l (width c) (is_xml n) _ _ tt (ticked l c))
    (both l (width c) (is_white c) _ _ (both l (width c) (is_xml n) _ _ (grown_declare s n l (width c) (tick c l) (ticked l c)) (ticked l c)) tt))
go_grows (instructing s) l c = both l (width c) (c == 63) _ _ (ticked l c) (both l (width c) (is_char c) _ _ (ticked l c) tt)
go_grows (asking s) l c = both l (width c) (c == 62) _ _ (ticked l c) (both l (width c) (c == 63) _ _ (ticked l c) (both l (width c) (is_char c) _ _ (ticked l c) tt))
go_grows (wording w x left) l c = both l (width c) (c == x) _ _ (grown_word w left l c) tt
go_grows (sectioning fs) l c = both l (width c) (c == 93) _ _ (ticked l c) (both l (width c) (is_char c) _ _ (ticked l c) tt)
go_grows (bracketed fs) l c = both l (width c) (c == 93) _ _ (ticked l c) (both l (width c) (is_char c) _ _ (ticked l c) tt)
go_grows (twice fs) l c = both l (width c) (c == 62) _ _ (ticked l c) (both l (width c) (c == 93) _ _ (ticked l c) (both l (width c) (is_char c) _ _ (ticked l c) tt))
go_grows declaring l c = both l (width c) (is_white c) _ _ (ticked l c) (both l (width c) (c == 118) _ _ (ticked l c) tt)
go_grows (heading ks) l c = both l (width c) (is_white c) _ _ (ticked l c) (both l (width c) (c == 63) _ _ (ticked l c) (grown_choose ks l c))
go_grows (headed ks) l c = both l (width c) (is_white c) _ _ (ticked l c) (both l (width c) (c == 63) _ _ (ticked l c) tt)
go_grows (numbering q ks) l c = both l (width c) (is_digit c) _ _ (ticked l c) tt
go_grows (numbered q ks) l c = both l (width c) (c == q) _ _ (ticked l c) (both l (width c) (is_digit c) _ _ (ticked l c) tt)
go_grows (coding q ks) l c = both l (width c) (is_encoding_first c) _ _ (ticked l c) tt
go_grows (coded q ks v p) l c =
    both l (width c) (c == q) _ _ (blamed l (width c) _ encoding_kind p (tick c l) (ticked l c)) (both l (width c) (is_encoding c) _ _ (ticked l c) tt)
go_grows (replying q ks) l c = both l (width c) (c == 121) _ _ (ticked l c) (both l (width c) (c == 110) _ _ (ticked l c) tt)
go_grows (named o) l c = grown_name o l c
go_grows (equalled o) l c = both l (width c) (is_white c) _ _ (ticked l c) (both l (width c) (is_quote c) _ _ (ticked l c) tt)
go_grows (naming fs t) l c = both l (width c) (is_name c) _ _ (ticked l c) (grown_leave fs t l c)
go_grows (spaced fs t) l c = both l (width c) (is_first c) _ _ (ticked l c) (grown_leave fs t l c)
go_grows (attr_naming fs t a) l c = both l (width c) (is_name c) _ _ (ticked l c) (grown_name (of_attr fs t a) l c)
go_grows (valuing fs t a q v returned) l c =
    both l (width c) (is_valued q c) _ _ (ticked l c) (both l (width c) (c == q) _ _ (ticked l c) (both l (width c) (c == 38) _ _ (ticked l c) tt))
go_grows (valued fs t) l c = grown_leave fs t l c
go_grows (amped h p) l c = both l (width c) (is_first c) _ _ (ticked l c) (both l (width c) (c == 35) _ _ (ticked l c) tt)
go_grows (referring h p n) l c = both l (width c) (is_name c) _ _ (ticked l c) (both l (width c) (c == 59) _ _ (grown_refer h (entity n) p l c) tt)
go_grows (hashed h p) l c = both l (width c) (is_digit c) _ _ (ticked l c) (both l (width c) (c == 120) _ _ (ticked l c) tt)
go_grows (counting h p n) l c = both l (width c) (is_digit c) _ _ (ticked l c) (both l (width c) (c == 59) _ _ (grown_refer h (carried n) p l c) tt)
go_grows (hexed h p) l c = both l (width c) (is_hex c) _ _ (ticked l c) tt
go_grows (hexing h p n) l c = both l (width c) (is_hex c) _ _ (ticked l c) (both l (width c) (c == 59) _ _ (grown_refer h (carried n) p l c) tt)
go_grows (inside [] n) l c = both l (width c) (is_white c) _ _ (ticked l c) (both l (width c) (c == 60) _ _ (ticked l c) tt)
go_grows (inside (f ∷ fs) n) l c =
    both l (width c) (is_said n c) _ _ (ticked l c) (both l (width c) (c == 60) _ _ (ticked l c) (both l (width c) (c == 38) _ _ (ticked l c) tt))
go_grows (closing fs []) l c = both l (width c) (c == 62) _ _ (grown_closed fs l c) (both l (width c) (is_white c) _ _ (ticked l c) tt)
go_grows (closing fs (x ∷ left)) l c = both l (width c) (c == x) _ _ (ticked l c) tt
