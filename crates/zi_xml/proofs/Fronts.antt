-- Every state can still be read to an end, so what was read is the beginning of some document.
use Rattle.std.proofs.Common.{◌≡◌, ℕ, suc, zero, ◌+◌, ◌==◌, ◌&&◌, Bool, true, false, List, [], ◌∷◌, ◌++◌, Option, Some, None, length, refl, sym, ap, subst, append_assoc, arith, length-append}
use Rattle.std.proofs.Math.Utf8.{encode}
use Rattle.zi_xml.specs.Chars.{small}
use Rattle.zi_xml.proofs.CharLemmas.{same_self, quote_ends}
use Rattle.zi_xml.proofs.Forward.{run, run_word, run_close, run_closing}
use Rattle.std.specs.Prelude.{codes, not, nat_le, encode_utf8}
use Rattle.zi_xml.specs.Chars.{is_white, is_first, is_name, is_char, is_plain, is_quote, is_digit, is_hex, is_encoding_first, digit_value, hex_value, entity, same_letters}
use Rattle.zi_xml.specs.Syntax.{end_tag, Key, version_key, encoding_key, standalone_key}
use Rattle.zi_xml.specs.Meaning.{Level, encoding_kind, depth_kind, tick, passed, add, blame_if, carried, resolved, meant, Tag, Frame, adopt}
use Rattle.zi_xml.specs.Machine.{Spot, before, among, Host, in_text, in_value as to_value, Owner, of_attr, of_key, Word, doctype_word, section_word, comment_word, over_word, key_word, version_word, reply_word, declared_word, void_word, Doing, begun, front, opened, banged, commenting, halting, asked, targeting, instructing, asking, wording, sectioning, bracketed, twice, declaring, heading, headed, numbering, numbered, coding, coded, replying, named, equalled, naming, spaced, attr_naming, valuing, valued, amped, referring, hashed, counting, hexed, hexing, inside, closing, State, state, quoted, emptied, after_word, is_xml, refer, grown, closed, back_to, new_tag, with_attribute, done}

abbrev pub IsEnd : Doing → Type 0
IsEnd (inside [] zero) = Unit {0}
IsEnd _ = ⊥

abbrev pub IsDone : Option State → Type 0
IsDone None = ⊥
IsDone (Some t) = IsEnd t.doing

done_is : (d : Doing) (l : Level) → IsEnd d → (r : Level) × (state d l ≡ done r)
done_is (inside [] zero) l h = (l, refl)
done_is _ l h = absurd h

pub read_out : (o : Option State) → IsDone o → (r : Level) × (o ≡ Some (done r))
read_out None h = absurd h
read_out (Some t) h = let x = done_is t.doing t.level h in (x.0, ap (λ s. Some s) x.1)

-- along an equation
along : (o p : Option State) → o ≡ p → IsDone p → IsDone o
along o p e h = subst IsDone (sym e) h

-- end tags for all open elements
abbrev pub closers : List Frame → List ℕ
closers [] = []
closers (f ∷ fs) = end_tag f.name [] ++ closers fs

reads_after : (fs : List Frame) (l : Level) → IsDone (run (state (inside fs 0) l) (closers fs))
reads_after [] l = tt
reads_after (f ∷ fs) l = along _ _ (run_close f fs 0 [] (closers fs) l tt) (reads_after fs (adopt f (passed (end_tag f.name []) l)))

reads_inside : (f : Frame) (fs : List Frame) (n : ℕ) (l : Level) → IsDone (run (state (inside (f ∷ fs) n) l) (closers (f ∷ fs)))
reads_inside f fs n l = along _ _ (run_close f fs n [] (closers fs) l tt) (reads_after fs (adopt f (passed (end_tag f.name []) l)))

-- a root
abbrev root_out : List ℕ
root_out = codes "<a/>"

reads_front : (b : Bool) (l : Level) → IsDone (run (state (front b) l) root_out)
unfolding is_white is_first is_name is_digit
reads_front b l = tt

abbrev spot_out : Spot → List ℕ
spot_out (before b) = root_out
spot_out (among fs) = closers fs

reads_spot : (s : Spot) (l : Level) → IsDone (run (state (back_to s) l) (spot_out s))
reads_spot (before b) l = reads_front false l
reads_spot (among fs) l = reads_after fs l

abbrev host_out : Host → List ℕ
host_out (in_text fs) = closers fs
host_out (to_value fs t a q v) = q ∷ 47 ∷ 62 ∷ closers fs

-- `/>` from where a tag may end
abbrev shut : List Frame → Tag → Level → Level
shut fs t l = emptied fs t (tick 62 (tick 47 l))

reads_valuing : (fs : List Frame) (t : Tag) (a : List ℕ) (q : ℕ) (v : List ℕ) (b : Bool) (l : Level) → IsDone (run (state (valuing fs t a q v b) l) (q ∷ 47 ∷ 62 ∷ closers fs))
unfolding is_white
reads_valuing fs t a q v b l = rw (quote_ends q, same_self q) (reads_after fs (shut fs (with_attribute t a v) (tick q l)))

reads_host : (h : Host) (o : Option ℕ) (p : ℕ) (l : Level) → IsDone (run (refer h o p l) (host_out h))
reads_host (in_text fs) o p l = reads_after fs (add (meant o) (resolved o p l))
reads_host (to_value fs t a q v) o p l = reads_valuing fs t a q (v ++ meant o) false (resolved o p l)

abbrev declared_out : List ℕ
declared_out = 63 ∷ 62 ∷ root_out

reads_headed : (ks : List Key) (l : Level) → IsDone (run (state (headed ks) l) declared_out)
unfolding is_white
reads_headed ks l = reads_front false (tick 62 (tick 63 l))

reads_heading : (ks : List Key) (l : Level) → IsDone (run (state (heading ks) l) declared_out)
unfolding is_white
reads_heading ks l = reads_front false (tick 62 (tick 63 l))

reads_numbered : (q : ℕ) (ks : List Key) (l : Level) → IsDone (run (state (numbered q ks) l) (q ∷ declared_out))
reads_numbered q ks l = rw (same_self q) (reads_headed ks (tick q l))

reads_numbering : (q : ℕ) (ks : List Key) (l : Level) → IsDone (run (state (numbering q ks) l) (48 ∷ q ∷ declared_out))
unfolding is_digit
reads_numbering q ks l = reads_numbered q ks (tick 48 l)

reads_coded : (q : ℕ) (ks : List Key) (v : List ℕ) (p : ℕ) (l : Level) → IsDone (run (state (coded q ks v p) l) (q ∷ declared_out))
reads_coded q ks v p l = rw (same_self q) (reads_headed ks (blame_if (not (same_letters v (codes "UTF-8"))) encoding_kind p (tick q l)))

reads_coding : (q : ℕ) (ks : List Key) (l : Level) → IsDone (run (state (coding q ks) l) (97 ∷ q ∷ declared_out))
unfolding is_encoding_first
reads_coding q ks l = reads_coded q ks (encode_utf8 97) l.at (tick 97 l)

reads_replying : (q : ℕ) (ks : List Key) (l : Level) → IsDone (run (state (replying q ks) l) (110 ∷ 111 ∷ q ∷ declared_out))
reads_replying q ks l = along _ _ (run_word (reply_word ks) 111 (q ∷ []) declared_out (tick 110 l)) (reads_headed ks (tick q (tick 111 (tick 110 l))))

abbrev owner_out : Owner → List ℕ
owner_out (of_attr fs t a) = 34 ∷ 47 ∷ 62 ∷ closers fs
owner_out (of_key version_key ks) = 49 ∷ 46 ∷ 48 ∷ 34 ∷ declared_out
owner_out (of_key encoding_key ks) = 97 ∷ 34 ∷ declared_out
owner_out (of_key standalone_key ks) = 110 ∷ 111 ∷ 34 ∷ declared_out

reads_owner : (o : Owner) (l : Level) → IsDone (run (state (quoted o 34) l) (owner_out o))
reads_owner (of_attr fs t a) l = reads_valuing fs t a 34 [] false l
reads_owner (of_key version_key ks) l = reads_numbering 34 ks (tick 46 (tick 49 l))
reads_owner (of_key encoding_key ks) l = reads_coding 34 ks l
reads_owner (of_key standalone_key ks) l = reads_replying 34 ks l

reads_named : (o : Owner) (l : Level) → IsDone (run (state (named o) l) (61 ∷ 34 ∷ owner_out o))
unfolding is_white is_quote
reads_named o l = reads_owner o (tick 34 (tick 61 l))

abbrev word_out : Word → List ℕ
word_out (doctype_word p) = []
word_out (section_word fs) = 93 ∷ 93 ∷ 62 ∷ closers fs
word_out (comment_word s) = 45 ∷ 45 ∷ 62 ∷ spot_out s
word_out (over_word s) = spot_out s
word_out (key_word k ks) = 61 ∷ 34 ∷ owner_out (of_key k ks)
word_out (version_word q ks) = 48 ∷ q ∷ declared_out
word_out (reply_word ks) = declared_out
word_out declared_word = root_out
word_out (void_word fs t) = closers fs

reads_word : (w : Word) (l : Level) → IsDone (run (after_word w l) (word_out w))
reads_word (doctype_word p) l = tt
reads_word (section_word fs) l = reads_after fs (tick 62 (tick 93 (tick 93 l)))
reads_word (comment_word s) l = reads_spot s (tick 62 (tick 45 (tick 45 l)))
reads_word (over_word s) l = reads_spot s l
reads_word (key_word k ks) l = reads_named (of_key k ks) l
reads_word (version_word q ks) l = reads_numbering q ks l
reads_word (reply_word ks) l = reads_headed ks l
reads_word declared_word l = reads_front false l
reads_word (void_word fs t) l = reads_after fs (emptied fs t l)

reads_wording : (w : Word) (x : ℕ) (left : List ℕ) (l : Level) → IsDone (run (state (wording w x left) l) (x ∷ (left ++ word_out w)))
reads_wording w x left l = along _ _ (run_word w x left (word_out w) l) (reads_word w (passed (x ∷ left) l))

-- a target of more than three letters isn't `xml`
pub same_length : (xs ys : List ℕ) → same_letters xs ys ≡ true → length xs ≡ length ys
same_length [] [] h = refl
same_length [] (y ∷ ys) h = cc
same_length (x ∷ xs) [] h = cc
same_length (x ∷ xs) (y ∷ ys) h = ap suc (same_length xs ys (second_true (small x == small y) (same_letters xs ys) h))
  where
    second_true : (a b : Bool) → (a && b) ≡ true → b ≡ true
    second_true true b k = k
    second_true false b k = cc

abbrev aaaa : List ℕ → List ℕ
aaaa n = (((n ++ encode_utf8 97) ++ encode_utf8 97) ++ encode_utf8 97) ++ encode_utf8 97

aaaa_long : (n : List ℕ) → length (aaaa n) ≡ length n + 4
unfolding encode
aaaa_long n = simp (length-append, append_assoc) refl

aaaa_not_xml : (n : List ℕ) → is_xml (aaaa n) ≡ false
aaaa_not_xml n = cases (is_xml (aaaa n)) refl
  where
    cases : (b : Bool) → is_xml (aaaa n) ≡ b → b ≡ false
    cases true e = absurd (omega (arith, same_length (aaaa n) (codes "xml") e, aaaa_long n))
    cases false e = refl

reads_targeting : (s : Spot) (n : List ℕ) (l : Level) → IsDone (run (state (targeting s n) l) (97 ∷ 97 ∷ 97 ∷ 97 ∷ 63 ∷ 62 ∷ spot_out s))
unfolding is_name is_first is_digit
reads_targeting s n l = rw (aaaa_not_xml n) (reads_spot s (passed (codes "aaaa?>") l))

-- a way to the end
abbrev pub way_out : Doing → List ℕ
way_out begun = root_out
way_out (front b) = root_out
way_out (opened (before b) o) = 97 ∷ 47 ∷ 62 ∷ []
way_out (opened (among []) o) = 63 ∷ 97 ∷ 97 ∷ 97 ∷ 97 ∷ 97 ∷ 63 ∷ 62 ∷ []
way_out (opened (among (f ∷ fs)) o) = 97 ∷ 47 ∷ 62 ∷ closers (f ∷ fs)
way_out (banged s p) = 45 ∷ 45 ∷ 45 ∷ 45 ∷ 62 ∷ spot_out s
way_out (commenting s) = 45 ∷ 45 ∷ 62 ∷ spot_out s
way_out (halting s) = 45 ∷ 62 ∷ spot_out s
way_out (asked s) = 97 ∷ 97 ∷ 97 ∷ 97 ∷ 97 ∷ 63 ∷ 62 ∷ spot_out s
way_out (targeting s n) = 97 ∷ 97 ∷ 97 ∷ 97 ∷ 63 ∷ 62 ∷ spot_out s
way_out (instructing s) = 63 ∷ 62 ∷ spot_out s
way_out (asking s) = 62 ∷ spot_out s
way_out (wording w x left) = x ∷ (left ++ word_out w)
way_out (sectioning fs) = 93 ∷ 93 ∷ 62 ∷ closers fs
way_out (bracketed fs) = 93 ∷ 62 ∷ closers fs
way_out (twice fs) = 62 ∷ closers fs
way_out declaring = 118 ∷ 101 ∷ (codes "rsion" ++ (61 ∷ 34 ∷ owner_out (of_key version_key (encoding_key ∷ standalone_key ∷ []))))
way_out (heading ks) = declared_out
way_out (headed ks) = declared_out
way_out (numbering q ks) = 48 ∷ q ∷ declared_out
way_out (numbered q ks) = q ∷ declared_out
way_out (coding q ks) = 97 ∷ q ∷ declared_out
way_out (coded q ks v p) = q ∷ declared_out
way_out (replying q ks) = 110 ∷ 111 ∷ q ∷ declared_out
way_out (named o) = 61 ∷ 34 ∷ owner_out o
way_out (equalled o) = 34 ∷ owner_out o
way_out (naming fs t) = 47 ∷ 62 ∷ closers fs
way_out (spaced fs t) = 47 ∷ 62 ∷ closers fs
way_out (attr_naming fs t a) = 61 ∷ 34 ∷ 34 ∷ 47 ∷ 62 ∷ closers fs
way_out (valuing fs t a q v b) = q ∷ 47 ∷ 62 ∷ closers fs
way_out (valued fs t) = 47 ∷ 62 ∷ closers fs
way_out (amped h p) = 97 ∷ 59 ∷ host_out h
way_out (referring h p n) = 59 ∷ host_out h
way_out (hashed h p) = 48 ∷ 59 ∷ host_out h
way_out (counting h p n) = 59 ∷ host_out h
way_out (hexed h p) = 48 ∷ 59 ∷ host_out h
way_out (hexing h p n) = 59 ∷ host_out h
way_out (inside [] zero) = []
way_out (inside [] (suc n)) = 32 ∷ []
way_out (inside (f ∷ fs) n) = closers (f ∷ fs)
way_out (closing [] left) = left ++ 62 ∷ []
way_out (closing (f ∷ fs) left) = left ++ 62 ∷ closers fs

reads_closing : (fs : List Frame) (left w : List ℕ) (l : Level) → IsDone (run (closed fs (passed (left ++ 62 ∷ []) l)) w) → IsDone (run (state (closing fs left) l) (left ++ 62 ∷ w))
reads_closing fs left w l h = along _ _ (run_closing fs left [] w l tt) h

pub reads_out : (d : Doing) (l : Level) → IsDone (run (state d l) (way_out d))
unfolding is_white is_first is_name is_plain is_quote is_digit is_hex is_char encode
reads_out begun l = reads_front true l
reads_out (front b) l = reads_front b l
reads_out (opened (before b) o) l = tt
reads_out (opened (among []) o) l = reads_targeting (among []) (encode_utf8 97) (tick 97 (tick 63 l))
reads_out (opened (among (f ∷ fs)) o) l =
    reads_inside f fs 0 (shut (f ∷ fs) (new_tag o 97) (blame_if (nat_le 65 (suc (length (f ∷ fs)))) depth_kind o.at (tick 97 l)))
reads_out (banged s p) l = reads_spot s (passed (codes "---->") l)
reads_out (commenting s) l = reads_spot s (passed (codes "-->") l)
reads_out (halting s) l = reads_spot s (passed (codes "->") l)
reads_out (asked s) l = reads_targeting s (encode_utf8 97) (tick 97 l)
reads_out (targeting s n) l = reads_targeting s n l
reads_out (instructing s) l = reads_spot s (passed (codes "?>") l)
reads_out (asking s) l = reads_spot s (tick 62 l)
reads_out (wording w x left) l = reads_wording w x left l
reads_out (sectioning fs) l = reads_after fs (passed (codes "]]>") l)
reads_out (bracketed fs) l = reads_after fs (passed (codes "]>") l)
reads_out (twice fs) l = reads_after fs (tick 62 l)
reads_out declaring l = reads_wording (key_word version_key (encoding_key ∷ standalone_key ∷ [])) 101 (codes "rsion") (tick 118 l)
reads_out (heading ks) l = reads_heading ks l
reads_out (headed ks) l = reads_headed ks l
reads_out (numbering q ks) l = reads_numbering q ks l
reads_out (numbered q ks) l = reads_numbered q ks l
reads_out (coding q ks) l = reads_coding q ks l
reads_out (coded q ks v p) l = reads_coded q ks v p l
reads_out (replying q ks) l = reads_replying q ks l
reads_out (named o) l = reads_named o l
reads_out (equalled o) l = reads_owner o (tick 34 l)
reads_out (naming fs t) l = reads_after fs (shut fs t l)
reads_out (spaced fs t) l = reads_after fs (shut fs t l)
reads_out (attr_naming fs t a) l = reads_valuing fs t a 34 [] false (tick 34 (tick 61 l))
reads_out (valuing fs t a q v b) l = reads_valuing fs t a q v b l
reads_out (valued fs t) l = reads_after fs (shut fs t l)
reads_out (amped h p) l = reads_host h (entity (encode_utf8 97)) p (tick 59 (tick 97 l))
reads_out (referring h p n) l = reads_host h (entity n) p (tick 59 l)
reads_out (hashed h p) l = reads_host h (carried (grown 10 0 (digit_value 48))) p (tick 59 (tick 48 l))
reads_out (counting h p n) l = reads_host h (carried n) p (tick 59 l)
reads_out (hexed h p) l = reads_host h (carried (grown 16 0 (hex_value 48))) p (tick 59 (tick 48 l))
reads_out (hexing h p n) l = reads_host h (carried n) p (tick 59 l)
reads_out (inside [] zero) l = tt
reads_out (inside [] (suc n)) l = tt
reads_out (inside (f ∷ fs) n) l = reads_inside f fs n l
reads_out (closing [] left) l = reads_closing [] left [] l tt
reads_out (closing (f ∷ fs) left) l = reads_closing (f ∷ fs) left (closers fs) l (reads_after fs (adopt f (passed (left ++ 62 ∷ []) l)))
