-- What may follow in each state, in the grammar's own words: w is left, and the document says r.
use Rattle.std.proofs.Common.{◌≡◌, ℕ, suc, Bool, true, false, List, [], ◌∷◌, ◌++◌, Option, Some, None, length, ◌⊎◌}
use Rattle.zi_xml.proofs.Forward.{tag_with, Wait, none, one, two, count, await}
use Rattle.std.specs.Str.{bytes_eq}
use Rattle.std.specs.Prelude.{codes, not, encode_utf8_all}
use Rattle.zi_xml.specs.Chars.{is_white, is_name, is_char, is_quote, is_valued, is_digit, is_hex, is_encoding, digit_value, hex_value, decimal_from, hex_from, entity, same_letters}
use Rattle.zi_xml.specs.Syntax.{Bit, Written, Content, bits_text, all_text, end_tag, text, AllAre, IsName, SomeAre, AreBits, AreWritten, Unclosed, Undashed, Unanswered, IsApart, IsInstruction, IsContentAfter, Misc, miscs_text, AreMisc, Key, version_key, encoding_key, standalone_key, key_text, Setting, setting_text, IsSet, IsSetting, Declaration, Root, root_text, IsRoot, mark_text, declared_text, IsDeclared}
use Rattle.zi_xml.specs.Meaning.{Level, encoding_kind, doctype_kind, tick, passed, add, blame, blame_if, heard_all, carried, resolved, meant, bits_passed, value_of, all_passed, raw_of, Tag, Frame, framed, judged, fresh, adopt, named_on, told, root_told, set, setting_told, declared_told}
use Rattle.zi_xml.specs.Machine.{Spot, before, among, Host, in_text, in_value as to_value, Owner, of_attr, of_key, Word, doctype_word, section_word, comment_word, over_word, key_word, version_word, reply_word, declared_word, void_word, Doing, begun, front, opened, banged, commenting, halting, asked, targeting, instructing, asking, wording, sectioning, bracketed, twice, declaring, heading, headed, numbering, numbered, coding, coded, replying, named, equalled, naming, spaced, attr_naming, valuing, valued, amped, referring, hashed, counting, hexed, hexing, inside, closing, State, emptied, is_xml, grown, scope_of, with_attribute}

-- behind the root
abbrev pub Tail : Level → List ℕ → Level → Type 0
Tail l w r = (ms : List Misc) × AreMisc ms × (w ≡ miscs_text ms) × (r ≡ passed (miscs_text ms) l)

-- inside these elements
abbrev pub Rest : List Frame → ℕ → Level → List ℕ → Level → Type 0
Rest [] n l w r = Tail l w r
Rest (f ∷ fs) n l w r =
    (k : Content) × (e : List ℕ) × (z : List ℕ) × IsContentAfter n k × AllAre is_white e × (w ≡ text k ++ (end_tag f.name e ++ z))
    × Rest fs 0 (adopt f (passed (end_tag f.name e) (told (suc (length fs)) f.scope k l))) z r

-- before the root
abbrev pub Front : Level → List ℕ → Level → Type 0
Front l w r =
    (ms : List Misc) × (t : Root) × (us : List Misc) × AreMisc ms × IsRoot t × AreMisc us × (w ≡ miscs_text ms ++ (root_text t ++ miscs_text us))
    × (r ≡ passed (miscs_text us) (root_told t (passed (miscs_text ms) l)))

abbrev pub First : Level → List ℕ → Level → Type 0
First l w r = (d : Option Declaration) × (z : List ℕ) × IsDeclared d × (w ≡ declared_text d ++ z) × Front (declared_told d l) z r

abbrev pub Fronted : Bool → Level → List ℕ → Level → Type 0
Fronted true l w r = First l w r
Fronted false l w r = Front l w r

abbrev pub Marked : Level → List ℕ → Level → Type 0
Marked l w r = (b : Bool) × (z : List ℕ) × (w ≡ mark_text b ++ z) × First (passed (mark_text b) l) z r

abbrev pub At : Spot → Level → List ℕ → Level → Type 0
At (before b) l w r = Front l w r
At (among fs) l w r = Rest fs 0 l w r

-- how a tag ends
abbrev pub close_of : Bool → List ℕ
close_of true = 62 ∷ []
close_of false = 47 ∷ 62 ∷ []

abbrev pub Goes : Bool → List Frame → Tag → Level → List ℕ → Level → Type 0
Goes true fs t l w r = Rest (framed (scope_of fs) t ∷ fs) 0 (fresh (judged (scope_of fs) t l)) w r
Goes false fs t l w r = Rest fs 0 (emptied fs t l) w r

abbrev pub Ends : List Frame → Tag → Level → List ℕ → Level → Type 0
Ends fs t l w r =
    (ws : List Written) × (e : List ℕ) × (b : Bool) × (z : List ℕ) × AreWritten ws × AllAre is_white e × (w ≡ all_text ws ++ (e ++ (close_of b ++ z)))
    × Goes b fs (tag_with t (raw_of ws)) (passed (e ++ close_of b) (all_passed ws l)) z r

abbrev pub Closes : List Frame → Tag → Level → List ℕ → Level → Type 0
Closes fs t l w r =
    (e : List ℕ) × (b : Bool) × (z : List ℕ) × AllAre is_white e × (w ≡ e ++ (close_of b ++ z)) × Goes b fs t (passed (e ++ close_of b) l) z r

abbrev pub Values : List Frame → Tag → List ℕ → ℕ → List ℕ → Bool → Level → List ℕ → Level → Type 0
Values fs t a q v b l w r =
    (bs : List Bit) × (z : List ℕ) × AreBits (is_valued q) bs × (w ≡ bits_text bs ++ q ∷ z)
    × Ends fs (with_attribute t a (v ++ value_of b bs)) (tick q (bits_passed bs l)) z r

-- in a declaration
abbrev pub Over : Level → List ℕ → Level → Type 0
Over l w r = (e : List ℕ) × (z : List ℕ) × AllAre is_white e × (w ≡ e ++ 63 ∷ 62 ∷ z) × Front (passed (e ++ 63 ∷ 62 ∷ []) l) z r

abbrev pub Headed : List Key → Level → List ℕ → Level → Type 0
Headed [] l w r = Over l w r
Headed (k ∷ ks) l w r = Headed ks l w r ⊎ ((s : Setting) × (z : List ℕ) × IsSetting k s × (w ≡ setting_text k s ++ z) × Headed ks (setting_told k s l) z r)

abbrev pub Quoted : Owner → ℕ → Level → List ℕ → Level → Type 0
Quoted (of_attr fs t a) q l w r = Values fs t a q [] false l w r
Quoted (of_key k ks) q l w r = (v : List ℕ) × (z : List ℕ) × IsSet k v × (w ≡ v ++ q ∷ z) × Headed ks (set k v l.at (passed (v ++ q ∷ []) l)) z r

abbrev pub Equals : Owner → Level → List ℕ → Level → Type 0
Equals o l w r =
    (e : List ℕ) × (q : ℕ) × (z : List ℕ) × AllAre is_white e × (is_quote q ≡ true) × (w ≡ e ++ q ∷ z) × Quoted o q (tick q (passed e l)) z r

abbrev pub Named : Owner → Level → List ℕ → Level → Type 0
Named o l w r = (e : List ℕ) × (z : List ℕ) × AllAre is_white e × (w ≡ e ++ 61 ∷ z) × Equals o (passed (e ++ 61 ∷ []) l) z r

abbrev pub Attribute : List Frame → Tag → Level → List ℕ → Level → Type 0
Attribute fs t l w r =
    (e : List ℕ) × (n : List ℕ) × (z : List ℕ) × AllAre is_white e × IsName n × (w ≡ e ++ (n ++ z)) × Named (of_attr fs t (encode_utf8_all n)) (passed n (passed e l)) z r

abbrev pub Chosen : List Key → Level → List ℕ → Level → Type 0
Chosen [] l y r = ⊥
Chosen (k ∷ ks) l y r = ((z : List ℕ) × (y ≡ key_text k ++ z) × Named (of_key k ks) (passed (key_text k) l) z r) ⊎ Chosen ks l y r

abbrev pub Heading : List Key → Level → List ℕ → Level → Type 0
Heading ks l w r =
    (e : List ℕ) × (y : List ℕ) × AllAre is_white e × (w ≡ e ++ y)
    × (((z : List ℕ) × (y ≡ 63 ∷ 62 ∷ z) × Front (tick 62 (tick 63 (passed e l))) z r) ⊎ Chosen ks (passed e l) y r)

abbrev pub Declaring : Level → List ℕ → Level → Type 0
Declaring l w r =
    (e : List ℕ) × (z : List ℕ) × AllAre is_white e × (w ≡ e ++ (key_text version_key ++ z))
    × Named (of_key version_key (encoding_key ∷ standalone_key ∷ [])) (passed (key_text version_key) (passed e l)) z r

abbrev pub Numbered : ℕ → List Key → Level → List ℕ → Level → Type 0
Numbered q ks l w r = (ds : List ℕ) × (z : List ℕ) × AllAre is_digit ds × (w ≡ ds ++ q ∷ z) × Headed ks (passed (ds ++ q ∷ []) l) z r

abbrev pub Numbering : ℕ → List Key → Level → List ℕ → Level → Type 0
Numbering q ks l w r = (ds : List ℕ) × (z : List ℕ) × SomeAre is_digit ds × (w ≡ ds ++ q ∷ z) × Headed ks (passed (ds ++ q ∷ []) l) z r

abbrev pub Coded : ℕ → List Key → List ℕ → ℕ → Level → List ℕ → Level → Type 0
Coded q ks v p l w r =
    (m : List ℕ) × (z : List ℕ) × AllAre is_encoding m × (w ≡ m ++ q ∷ z)
    × Headed ks (blame_if (not (same_letters (v ++ encode_utf8_all m) (codes "UTF-8"))) encoding_kind p (passed (m ++ q ∷ []) l)) z r

-- comments and instructions
abbrev pub Commented : Bool → Spot → Level → List ℕ → Level → Type 0
Commented dash s l w r =
    (cs : List ℕ) × (z : List ℕ) × AllAre is_char cs × Undashed dash cs × (w ≡ cs ++ 45 ∷ 45 ∷ 62 ∷ z) × At s (passed (cs ++ codes "-->") l) z r

abbrev pub Halted : Spot → Level → List ℕ → Level → Type 0
Halted s l w r = ((z : List ℕ) × (w ≡ 45 ∷ 62 ∷ z) × At s (tick 62 (tick 45 l)) z r) ⊎ Commented true s l w r

abbrev pub Instructed : Bool → Spot → Level → List ℕ → Level → Type 0
Instructed q s l w r =
    (cs : List ℕ) × (z : List ℕ) × AllAre is_char cs × Unanswered q cs × (w ≡ cs ++ 63 ∷ 62 ∷ z) × At s (passed (cs ++ codes "?>") l) z r

abbrev pub Answering : Spot → Level → List ℕ → Level → Type 0
Answering s l w r = ((z : List ℕ) × (w ≡ 62 ∷ z) × At s (tick 62 l) z r) ⊎ Instructed true s l w r

-- behind `xml` at the start
abbrev pub Xml : Spot → Level → List ℕ → Level → Type 0
Xml (before true) l w r = (c : ℕ) × (z : List ℕ) × (is_white c ≡ true) × (w ≡ c ∷ z) × Declaring (tick c l) z r
Xml (before false) l w r = ⊥
Xml (among fs) l w r = ⊥

abbrev pub Targeted : Spot → List ℕ → Level → List ℕ → Level → Type 0
Targeted s n l w r =
    ((m : List ℕ) × (cs : List ℕ) × (z : List ℕ) × AllAre is_name m × (is_xml (n ++ encode_utf8_all m) ≡ false) × IsApart cs × AllAre is_char cs × Unanswered false cs
    × (w ≡ m ++ (cs ++ 63 ∷ 62 ∷ z)) × At s (passed (cs ++ codes "?>") (passed m l)) z r)
    ⊎ ((m : List ℕ) × (z : List ℕ) × AllAre is_name m × (bytes_eq (n ++ encode_utf8_all m) (codes "xml") ≡ true) × (w ≡ m ++ z) × Xml s (passed m l) z r)

abbrev pub Asked : Spot → Level → List ℕ → Level → Type 0
Asked s l w r =
    ((n : List ℕ) × (cs : List ℕ) × (z : List ℕ) × IsInstruction n cs × (w ≡ n ++ (cs ++ 63 ∷ 62 ∷ z)) × At s (passed (cs ++ codes "?>") (passed n l)) z r)
    ⊎ ((z : List ℕ) × (w ≡ 120 ∷ 109 ∷ 108 ∷ z) × Xml s (passed (codes "xml") l) z r)

-- sections
abbrev pub Sections : Wait → List Frame → Level → List ℕ → Level → Type 0
Sections t fs l w r =
    (cs : List ℕ) × (z : List ℕ) × AllAre is_char cs × Unclosed (count t) cs × (w ≡ cs ++ 93 ∷ 93 ∷ 62 ∷ z) × Rest fs 0 (passed (codes "]]>") (heard_all cs (await t l))) z r

abbrev pub Bracketed : List Frame → Level → List ℕ → Level → Type 0
Bracketed fs l w r = Sections one fs l w r ⊎ ((z : List ℕ) × (w ≡ 93 ∷ 62 ∷ z) × Rest fs 0 (tick 62 (tick 93 l)) z r)

abbrev pub Twice : List Frame → Level → List ℕ → Level → Type 0
Twice fs l w r =
    Sections two fs l w r ⊎ (((z : List ℕ) × (w ≡ 93 ∷ 62 ∷ z) × Rest fs 0 (tick 62 (tick 93 (add (93 ∷ []) l))) z r) ⊎ ((z : List ℕ) × (w ≡ 62 ∷ z) × Rest fs 0 (tick 62 l) z r))

-- markup
abbrev pub Special : Spot → ℕ → Level → List ℕ → Level → Type 0
Special (before b) p l w r = (z : List ℕ) × (w ≡ codes "DOCTYPE" ++ z) × Tail (blame doctype_kind p (passed (codes "DOCTYPE") l)) z r
Special (among []) p l w r = ⊥
Special (among (f ∷ fs)) p l w r = (z : List ℕ) × (w ≡ codes "[CDATA[" ++ z) × Sections none (f ∷ fs) (passed (codes "[CDATA[") l) z r

abbrev pub Banged : Spot → ℕ → Level → List ℕ → Level → Type 0
Banged s p l w r = ((z : List ℕ) × (w ≡ 45 ∷ 45 ∷ z) × Commented false s (tick 45 (tick 45 l)) z r) ⊎ Special s p l w r

abbrev pub Marks : Spot → Level → Level → List ℕ → Level → Type 0
Marks s o l w r = ((z : List ℕ) × (w ≡ 33 ∷ z) × Banged s o.at (tick 33 l) z r) ⊎ ((z : List ℕ) × (w ≡ 63 ∷ z) × Asked s (tick 63 l) z r)

abbrev pub Begins : List Frame → Level → Level → List ℕ → Level → Type 0
Begins fs o l w r =
    (n : List ℕ) × (z : List ℕ) × IsName n × (w ≡ n ++ z) × Ends fs (record { name = n; raw = []; outer = o }) (named_on (suc (length fs)) o.at n l) z r

abbrev pub Shut : List Frame → Level → List ℕ → Level → Type 0
Shut [] l w r = Tail l w r
Shut (f ∷ fs) l w r = Rest fs 0 (adopt f l) w r

abbrev pub Closing : List Frame → List ℕ → Level → List ℕ → Level → Type 0
Closing fs left l w r = (e : List ℕ) × (z : List ℕ) × AllAre is_white e × (w ≡ left ++ (e ++ 62 ∷ z)) × Shut fs (passed (left ++ (e ++ 62 ∷ [])) l) z r

abbrev pub Opens : Spot → Level → Level → List ℕ → Level → Type 0
Opens (before b) o l w r = Begins [] o l w r ⊎ Marks (before b) o l w r
Opens (among []) o l w r = Marks (among []) o l w r
Opens (among (f ∷ fs)) o l w r = Begins (f ∷ fs) o l w r ⊎ (((z : List ℕ) × (w ≡ 47 ∷ z) × Closing (f ∷ fs) f.name (tick 47 l) z r) ⊎ Marks (among (f ∷ fs)) o l w r)

-- references
abbrev pub Refers : Host → Option ℕ → ℕ → Level → List ℕ → Level → Type 0
Refers (in_text fs) o p l w r = Rest fs 0 (add (meant o) (resolved o p l)) w r
Refers (to_value fs t a q v) o p l w r = Values fs t a q (v ++ meant o) false (resolved o p l) w r

abbrev pub counted : ℕ → List ℕ → ℕ
counted n [] = n
counted n (c ∷ ds) = counted (grown 10 n (digit_value c)) ds

abbrev pub hex_counted : ℕ → List ℕ → ℕ
hex_counted n [] = n
hex_counted n (c ∷ ds) = hex_counted (grown 16 n (hex_value c)) ds

abbrev pub Referring : Host → ℕ → List ℕ → Level → List ℕ → Level → Type 0
Referring h p n l w r =
    (m : List ℕ) × (z : List ℕ) × AllAre is_name m × (w ≡ m ++ 59 ∷ z) × Refers h (entity (n ++ encode_utf8_all m)) p (passed (m ++ 59 ∷ []) l) z r

abbrev pub Counting : Host → ℕ → ℕ → Level → List ℕ → Level → Type 0
Counting h p n l w r =
    (ds : List ℕ) × (z : List ℕ) × AllAre is_digit ds × (w ≡ ds ++ 59 ∷ z) × Refers h (carried (counted n ds)) p (passed (ds ++ 59 ∷ []) l) z r

abbrev pub Hexing : Host → ℕ → ℕ → Level → List ℕ → Level → Type 0
Hexing h p n l w r =
    (ds : List ℕ) × (z : List ℕ) × AllAre is_hex ds × (w ≡ ds ++ 59 ∷ z) × Refers h (carried (hex_counted n ds)) p (passed (ds ++ 59 ∷ []) l) z r

abbrev pub Hexed : Host → ℕ → Level → List ℕ → Level → Type 0
Hexed h p l w r =
    (ds : List ℕ) × (z : List ℕ) × SomeAre is_hex ds × (w ≡ ds ++ 59 ∷ z) × Refers h (carried (hex_from 0 ds)) p (passed (ds ++ 59 ∷ []) l) z r

abbrev pub Hashed : Host → ℕ → Level → List ℕ → Level → Type 0
Hashed h p l w r =
    ((ds : List ℕ) × (z : List ℕ) × SomeAre is_digit ds × (w ≡ ds ++ 59 ∷ z) × Refers h (carried (decimal_from 0 ds)) p (passed (ds ++ 59 ∷ []) l) z r)
    ⊎ ((z : List ℕ) × (w ≡ 120 ∷ z) × Hexed h p (tick 120 l) z r)

abbrev pub Amped : Host → ℕ → Level → List ℕ → Level → Type 0
Amped h p l w r =
    ((n : List ℕ) × (z : List ℕ) × IsName n × (w ≡ n ++ 59 ∷ z) × Refers h (entity (encode_utf8_all n)) p (passed (n ++ 59 ∷ []) l) z r)
    ⊎ ((z : List ℕ) × (w ≡ 35 ∷ z) × Hashed h p (tick 35 l) z r)

abbrev pub Words : Word → Level → List ℕ → Level → Type 0
Words (doctype_word p) l w r = Tail (blame doctype_kind p l) w r
Words (section_word fs) l w r = Sections none fs l w r
Words (comment_word s) l w r = Commented false s l w r
Words (over_word s) l w r = At s l w r
Words (key_word k ks) l w r = Named (of_key k ks) l w r
Words (version_word q ks) l w r = Numbering q ks l w r
Words (reply_word ks) l w r = Headed ks l w r
Words declared_word l w r = Front l w r
Words (void_word fs t) l w r = Rest fs 0 (emptied fs t l) w r

abbrev pub Follows : Doing → Level → List ℕ → Level → Type 0
Follows begun l w r = Marked l w r
Follows (front b) l w r = Fronted b l w r
Follows (opened s o) l w r = Opens s o l w r
Follows (banged s p) l w r = Banged s p l w r
Follows (commenting s) l w r = Commented false s l w r
Follows (halting s) l w r = Halted s l w r
Follows (asked s) l w r = Asked s l w r
Follows (targeting s n) l w r = Targeted s n l w r
Follows (instructing s) l w r = Instructed false s l w r
Follows (asking s) l w r = Answering s l w r
Follows (wording x c left) l w r = (z : List ℕ) × (w ≡ c ∷ (left ++ z)) × Words x (passed (c ∷ left) l) z r
Follows (sectioning fs) l w r = Sections none fs l w r
Follows (bracketed fs) l w r = Bracketed fs l w r
Follows (twice fs) l w r = Twice fs l w r
Follows declaring l w r = Declaring l w r
Follows (heading ks) l w r = Heading ks l w r
Follows (headed ks) l w r = Headed ks l w r
Follows (numbering q ks) l w r = Numbering q ks l w r
Follows (numbered q ks) l w r = Numbered q ks l w r
Follows (coding q ks) l w r = Quoted (of_key encoding_key ks) q l w r
Follows (coded q ks v p) l w r = Coded q ks v p l w r
Follows (replying q ks) l w r = Quoted (of_key standalone_key ks) q l w r
Follows (named o) l w r = Named o l w r
Follows (equalled o) l w r = Equals o l w r
Follows (naming fs t) l w r =
    (m : List ℕ) × (z : List ℕ) × AllAre is_name m × (w ≡ m ++ z) × Ends fs (record { name = t.name ++ m; raw = t.raw; outer = t.outer }) (passed m l) z r
Follows (spaced fs t) l w r = Closes fs t l w r ⊎ Attribute fs t l w r
Follows (attr_naming fs t a) l w r =
    (m : List ℕ) × (z : List ℕ) × AllAre is_name m × (w ≡ m ++ z) × Named (of_attr fs t (a ++ encode_utf8_all m)) (passed m l) z r
Follows (valuing fs t a q v b) l w r = Values fs t a q v b l w r
Follows (valued fs t) l w r = Ends fs t l w r
Follows (amped h p) l w r = Amped h p l w r
Follows (referring h p n) l w r = Referring h p n l w r
Follows (hashed h p) l w r = Hashed h p l w r
Follows (counting h p n) l w r = Counting h p n l w r
Follows (hexed h p) l w r = Hexed h p l w r
Follows (hexing h p n) l w r = Hexing h p n l w r
Follows (inside fs n) l w r = Rest fs n l w r
Follows (closing fs left) l w r = Closing fs left l w r

abbrev pub Then : Option State → List ℕ → Level → Type 0
Then None w r = ⊥
Then (Some s) w r = Follows s.doing s.level w r
