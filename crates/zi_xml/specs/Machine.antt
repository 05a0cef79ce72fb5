-- The states of a reader of documents, and what a character does. No definition of documents names it.
use Rattle.std.specs.Prelude.{ℕ, zero, suc, ◌+◌, ◌*◌, min, nat_le, Bool, true, false, not, List, [], ◌∷◌, ◌++◌, Option, Some, None, if◌then◌else◌, ◌==◌, length, codes, encode_utf8}
use Rattle.std.specs.Str.{bytes_eq}
use Rattle.zi_names.specs.declared.attributes.Binding.{Binding}
use Rattle.zi_names.specs.Names.{first_scope}
use Rattle.zi_xml.specs.Answers as machines
use Rattle.zi_xml.specs.Chars.{is_white, is_first, is_name, is_char, is_quote, is_valued, is_digit, is_hex, is_encoding_first, is_encoding, digit_value, hex_value, same_letters, entity}
use Rattle.zi_xml.specs.Syntax.{Key, version_key, encoding_key, standalone_key, brackets, is_said}
use Rattle.zi_xml.specs.Meaning.{Fault, encoding_kind, doctype_kind, depth_kind, Level, tick, add, heard, blame, blame_if, value_end, carried, meant, resolved, Tag, Frame, framed, judged, fresh, adopt, start}

-- Where a comment or an instruction stands: before the root, at the very start or not, or inside these elements, the
-- innermost first; inside none is behind the root.
pub data Spot : Type 0 where
  before : Bool → Spot
  among : List Frame → Spot

-- Where a reference stands: in text, or in a value: the elements, the tag, the attribute, the quote, and the value so far.
pub data Host : Type 0 where
  in_text : List Frame → Host
  in_value : List Frame → Tag → List ℕ → ℕ → List ℕ → Host

-- Whose value is to come: an attribute's of this name, or a setting's, with the settings that may come behind it.
pub data Owner : Type 0 where
  of_attr : List Frame → Tag → List ℕ → Owner
  of_key : Key → List Key → Owner

-- What a fixed text ends.
pub data Word : Type 0 where
  doctype_word : ℕ → Word
  section_word : List Frame → Word
  comment_word : Spot → Word
  over_word : Spot → Word
  key_word : Key → List Key → Word
  version_word : ℕ → List Key → Word
  reply_word : List Key → Word
  declared_word : Word
  void_word : List Frame → Tag → Word

-- What is being read. Names of attributes, targets, references and encodings are bytes in UTF-8; names of elements are characters.
pub data Doing : Type 0 where
  begun : Doing
  front : Bool → Doing
  opened : Spot → Level → Doing
  banged : Spot → ℕ → Doing
  commenting : Spot → Doing
  halting : Spot → Doing
  asked : Spot → Doing
  targeting : Spot → List ℕ → Doing
  instructing : Spot → Doing
  asking : Spot → Doing
  wording : Word → ℕ → List ℕ → Doing
  sectioning : List Frame → Doing
  bracketed : List Frame → Doing
  twice : List Frame → Doing
  declaring : Doing
  heading : List Key → Doing
  headed : List Key → Doing
  numbering : ℕ → List Key → Doing
  numbered : ℕ → List Key → Doing
  coding : ℕ → List Key → Doing
  coded : ℕ → List Key → List ℕ → ℕ → Doing
  replying : ℕ → List Key → Doing
  named : Owner → Doing
  equalled : Owner → Doing
  naming : List Frame → Tag → Doing
  spaced : List Frame → Tag → Doing
  attr_naming : List Frame → Tag → List ℕ → Doing
  valuing : List Frame → Tag → List ℕ → ℕ → List ℕ → Bool → Doing
  valued : List Frame → Tag → Doing
  amped : Host → ℕ → Doing
  referring : Host → ℕ → List ℕ → Doing
  hashed : Host → ℕ → Doing
  counting : Host → ℕ → ℕ → Doing
  hexed : Host → ℕ → Doing
  hexing : Host → ℕ → ℕ → Doing
  inside : List Frame → ℕ → Doing
  closing : List Frame → List ℕ → Doing

pub record State : Type 0 where
  pub doing : Doing
  pub level : Level

abbrev pub state : Doing → Level → State
state d l = record { doing = d; level = l }

abbrev pub to : Doing → Level → Option State
to d l = Some (state d l)

-- the declarations in force inside these elements
abbrev pub scope_of : List Frame → List Binding
scope_of [] = first_scope
scope_of (f ∷ fs) = f.scope

-- whether there is any
abbrev pub has : List Frame → Bool
has [] = false
has (f ∷ fs) = true

-- the name of the innermost
abbrev pub top_name : List Frame → List ℕ
top_name [] = []
top_name (f ∷ fs) = f.name

abbrev pub new_tag : Level → ℕ → Tag
new_tag o c = record { name = c ∷ []; raw = []; outer = o }

abbrev pub named_more : Tag → ℕ → Tag
named_more t c = record { name = t.name ++ c ∷ []; raw = t.raw; outer = t.outer }

abbrev pub with_attribute : Tag → List ℕ → List ℕ → Tag
with_attribute t a v = record { name = t.name; raw = t.raw ++ record { name = a; value = v } ∷ []; outer = t.outer }

-- behind a comment or an instruction
abbrev pub back_to : Spot → Doing
back_to (before b) = front false
back_to (among fs) = inside fs 0

abbrev pub initial : Key → ℕ
initial version_key = 118
initial encoding_key = 101
initial standalone_key = 115

abbrev pub second : Key → ℕ
second version_key = 101
second encoding_key = 110
second standalone_key = 116

abbrev pub others : Key → List ℕ
others version_key = codes "rsion"
others encoding_key = codes "coding"
others standalone_key = codes "andalone"

abbrev pub keyed : Key → List Key → Doing
keyed k ks = wording (key_word k ks) (second k) (others k)

abbrev pub choose : List Key → Level → ℕ → Option State
choose [] l c = None
choose (k ∷ ks) l c = if c == initial k then to (keyed k ks) (tick c l) else choose ks l c

-- a value in quotes begins
abbrev pub quoted : Owner → ℕ → Doing
quoted (of_attr fs t a) q = valuing fs t a q [] false
quoted (of_key version_key ks) q = wording (version_word q ks) 49 (46 ∷ [])
quoted (of_key encoding_key ks) q = coding q ks
quoted (of_key standalone_key ks) q = replying q ks

-- an empty tag is whole
abbrev pub emptied : List Frame → Tag → Level → Level
emptied fs t l = adopt (framed (scope_of fs) t) (fresh (judged (scope_of fs) t l))

abbrev pub after_word : Word → Level → State
after_word (doctype_word p) l = state (inside [] 0) (blame doctype_kind p l)
after_word (section_word fs) l = state (sectioning fs) l
after_word (comment_word s) l = state (commenting s) l
after_word (over_word s) l = state (back_to s) l
after_word (key_word k ks) l = state (named (of_key k ks)) l
after_word (version_word q ks) l = state (numbering q ks) l
after_word (reply_word ks) l = state (headed ks) l
after_word declared_word l = state (front false) l
after_word (void_word fs t) l = state (inside fs 0) (emptied fs t l)

abbrev pub worded : Word → List ℕ → Level → State
worded w [] l = after_word w l
worded w (x ∷ left) l = state (wording w x left) l

-- `<!` and `<?`
abbrev pub markup : Spot → Level → Level → ℕ → Option State
markup s o l c = if c == 33 then to (banged s o.at) (tick c l) else if c == 63 then to (asked s) (tick c l) else None

-- an element begins
abbrev pub enter : List Frame → Level → Level → ℕ → Option State
enter fs o l c = to (naming fs (new_tag o c)) (blame_if (nat_le 65 (suc (length fs))) depth_kind o.at (tick c l))

-- what may stand behind `<!` but a comment
abbrev pub bang_word : Spot → ℕ → Level → ℕ → Option State
bang_word (before b) p l c = if c == 68 then to (wording (doctype_word p) 79 (codes "CTYPE")) (tick c l) else None
bang_word (among fs) p l c = if has fs then (if c == 91 then to (wording (section_word fs) 67 (codes "DATA[")) (tick c l) else None) else None

abbrev pub is_xml : List ℕ → Bool
is_xml n = same_letters n (codes "xml")

-- white space behind a target
abbrev pub declare : Spot → List ℕ → Level → Option State
declare (before b) n l = if b then (if bytes_eq n (codes "xml") then to declaring l else None) else None
declare (among fs) n l = None

-- a tag goes on or ends
abbrev pub leave : List Frame → Tag → Level → ℕ → Option State
leave fs t l c =
    if is_white c then to (spaced fs t) (tick c l)
    else if c == 47 then to (wording (void_word fs t) 62 []) (tick c l)
    else if c == 62 then to (inside (framed (scope_of fs) t ∷ fs) 0) (fresh (judged (scope_of fs) t (tick c l)))
    else None

abbrev pub leave_name : Owner → Level → ℕ → Option State
leave_name o l c = if is_white c then to (named o) (tick c l) else if c == 61 then to (equalled o) (tick c l) else None

-- a reference to o is whole, whose `&` is at p
abbrev pub refer : Host → Option ℕ → ℕ → Level → State
refer (in_text fs) o p l = state (inside fs 0) (add (meant o) (resolved o p l))
refer (in_value fs t a q v) o p l = state (valuing fs t a q (v ++ meant o) false) (resolved o p l)

-- one digit more, the number being held below 2 to the power of 21: from 0x110000 on none can be carried
abbrev pub grown : ℕ → ℕ → ℕ → ℕ
grown base n d = min (n * base + d) 1114112

abbrev pub closed : List Frame → Level → State
closed [] l = state (inside [] 0) l
closed (f ∷ fs) l = state (inside fs 0) (adopt f l)

abbrev pub front_step : Bool → Level → ℕ → Option State
front_step b l c = if is_white c then to (front false) (tick c l) else if c == 60 then to (opened (before b) l) (tick c l) else None

abbrev pub declared_end : Doing
declared_end = wording declared_word 62 []

abbrev pub over : Spot → Doing
over s = wording (over_word s) 62 []

abbrev pub go : Doing → Level → ℕ → Option State
go begun l c = if c == 65279 then to (front true) (tick c l) else front_step true l c
go (front b) l c = front_step b l c
go (opened (before b) o) l c = if is_first c then enter [] o l c else markup (before b) o l c
go (opened (among fs) o) l c =
    if has fs then (if is_first c then enter fs o l c else if c == 47 then to (closing fs (top_name fs)) (tick c l) else markup (among fs) o l c)
    else markup (among fs) o l c
go (banged s p) l c = if c == 45 then to (wording (comment_word s) 45 []) (tick c l) else bang_word s p l c
go (commenting s) l c = if c == 45 then to (halting s) (tick c l) else if is_char c then to (commenting s) (tick c l) else None
go (halting s) l c = if c == 45 then to (over s) (tick c l) else if is_char c then to (commenting s) (tick c l) else None
go (asked s) l c = if is_first c then to (targeting s (encode_utf8 c)) (tick c l) else None
go (targeting s n) l c =
    if is_name c then to (targeting s (n ++ encode_utf8 c)) (tick c l)
    else if c == 63 then (if is_xml n then None else to (over s) (tick c l))
    else if is_white c then (if is_xml n then declare s n (tick c l) else to (instructing s) (tick c l))
    else None
go (instructing s) l c = if c == 63 then to (asking s) (tick c l) else if is_char c then to (instructing s) (tick c l) else None
go (asking s) l c =
    if c == 62 then to (back_to s) (tick c l)
    else if c == 63 then to (asking s) (tick c l)
    else if is_char c then to (instructing s) (tick c l)
    else None
go (wording w x left) l c = if c == x then Some (worded w left (tick c l)) else None
go (sectioning fs) l c = if c == 93 then to (bracketed fs) (tick c l) else if is_char c then to (sectioning fs) (heard c l) else None
go (bracketed fs) l c =
    if c == 93 then to (twice fs) (tick c l)
    else if is_char c then to (sectioning fs) (heard c (add (93 ∷ []) l))
    else None
go (twice fs) l c =
    if c == 62 then to (inside fs 0) (tick c l)
    else if c == 93 then to (twice fs) (tick c (add (93 ∷ []) l))
    else if is_char c then to (sectioning fs) (heard c (add (93 ∷ []) (add (93 ∷ []) l)))
    else None
go declaring l c = if is_white c then to declaring (tick c l) else if c == 118 then to (keyed version_key (encoding_key ∷ standalone_key ∷ [])) (tick c l) else None
go (heading ks) l c = if is_white c then to (heading ks) (tick c l) else if c == 63 then to declared_end (tick c l) else choose ks l c
go (headed ks) l c = if is_white c then to (heading ks) (tick c l) else if c == 63 then to declared_end (tick c l) else None
go (numbering q ks) l c = if is_digit c then to (numbered q ks) (tick c l) else None
go (numbered q ks) l c = if c == q then to (headed ks) (tick c l) else if is_digit c then to (numbered q ks) (tick c l) else None
go (coding q ks) l c = if is_encoding_first c then to (coded q ks (encode_utf8 c) l.at) (tick c l) else None
go (coded q ks v p) l c =
    if c == q then to (headed ks) (blame_if (not (same_letters v (codes "UTF-8"))) encoding_kind p (tick c l))
    else if is_encoding c then to (coded q ks (v ++ encode_utf8 c) p) (tick c l)
    else None
go (replying q ks) l c =
    if c == 121 then to (wording (reply_word ks) 101 (115 ∷ q ∷ [])) (tick c l)
    else if c == 110 then to (wording (reply_word ks) 111 (q ∷ [])) (tick c l)
    else None
go (named o) l c = leave_name o l c
go (equalled o) l c =
    if is_white c then to (equalled o) (tick c l)
    else if is_quote c then to (quoted o c) (tick c l)
    else None
go (naming fs t) l c = if is_name c then to (naming fs (named_more t c)) (tick c l) else leave fs t l c
go (spaced fs t) l c = if is_first c then to (attr_naming fs t (encode_utf8 c)) (tick c l) else leave fs t l c
go (attr_naming fs t a) l c = if is_name c then to (attr_naming fs t (a ++ encode_utf8 c)) (tick c l) else leave_name (of_attr fs t a) l c
go (valuing fs t a q v returned) l c =
    if is_valued q c then to (valuing fs t a q (v ++ value_end returned c) (c == 13)) (tick c l)
    else if c == q then to (valued fs (with_attribute t a v)) (tick c l)
    else if c == 38 then to (amped (in_value fs t a q v) l.at) (tick c l)
    else None
go (valued fs t) l c = leave fs t l c
go (amped h p) l c =
    if is_first c then to (referring h p (encode_utf8 c)) (tick c l)
    else if c == 35 then to (hashed h p) (tick c l)
    else None
go (referring h p n) l c =
    if is_name c then to (referring h p (n ++ encode_utf8 c)) (tick c l)
    else if c == 59 then Some (refer h (entity n) p (tick c l))
    else None
go (hashed h p) l c =
    if is_digit c then to (counting h p (grown 10 0 (digit_value c))) (tick c l)
    else if c == 120 then to (hexed h p) (tick c l)
    else None
go (counting h p n) l c =
    if is_digit c then to (counting h p (grown 10 n (digit_value c))) (tick c l)
    else if c == 59 then Some (refer h (carried n) p (tick c l))
    else None
go (hexed h p) l c = if is_hex c then to (hexing h p (grown 16 0 (hex_value c))) (tick c l) else None
go (hexing h p n) l c =
    if is_hex c then to (hexing h p (grown 16 n (hex_value c))) (tick c l)
    else if c == 59 then Some (refer h (carried n) p (tick c l))
    else None
go (inside fs n) l c =
    if has fs
    then
    (if is_said n c then to (inside fs (brackets n c)) (heard c l)
    else if c == 60 then to (opened (among fs) l) (tick c l)
    else if c == 38 then to (amped (in_text fs) l.at) (tick c l)
    else None)
    else if is_white c then to (inside fs 0) (tick c l)
    else if c == 60 then to (opened (among fs) l) (tick c l)
    else None
go (closing fs []) l c = if c == 62 then Some (closed fs (tick c l)) else if is_white c then to (closing fs []) (tick c l) else None
go (closing fs (x ∷ left)) l c = if c == x then to (closing fs left) (tick c l) else None

abbrev pub step : State → ℕ → Option State
step s c = go s.doing s.level c

abbrev pub first_state : State
first_state = state begun start

-- what was read, in bytes
abbrev pub at_of : State → ℕ
at_of s = s.level.at

abbrev pub found_of : State → List Fault
found_of s = s.level.found

-- behind the root, where the document may end
abbrev pub done : Level → State
done l = state (inside [] 0) l

abbrev pub finish_in : Doing → Level → Option Level
finish_in (inside [] zero) l = Some l
finish_in (inside [] (suc n)) l = None
finish_in (inside (f ∷ fs) n) l = None
finish_in _ l = None

abbrev pub finish : State → Option Level
finish s = finish_in s.doing s.level

-- how many bytes two texts share at their front
abbrev pub common : List ℕ → List ℕ → ℕ
common [] ys = 0
common (x ∷ xs) [] = 0
common (x ∷ xs) (y ∷ ys) = if x == y then suc (common xs ys) else 0

-- the bytes of a character that may come, of which a refused one may share some; none where only ASCII may come. Where all
-- characters from U+0080 that XML can carry may come, U+FFFD is the nearest to those that it can't.
abbrev pub kin : Doing → List ℕ
kin begun = encode_utf8 65279
kin (front b) = []
kin (opened (before b) o) = encode_utf8 65533
kin (opened (among fs) o) = if has fs then encode_utf8 65533 else []
kin (banged s p) = []
kin (commenting s) = encode_utf8 65533
kin (halting s) = encode_utf8 65533
kin (asked s) = encode_utf8 65533
kin (targeting s n) = encode_utf8 65533
kin (instructing s) = encode_utf8 65533
kin (asking s) = encode_utf8 65533
kin (wording w x left) = encode_utf8 x
kin (sectioning fs) = encode_utf8 65533
kin (bracketed fs) = encode_utf8 65533
kin (twice fs) = encode_utf8 65533
kin declaring = []
kin (heading ks) = []
kin (headed ks) = []
kin (numbering q ks) = []
kin (numbered q ks) = encode_utf8 q
kin (coding q ks) = []
kin (coded q ks v p) = encode_utf8 q
kin (replying q ks) = []
kin (named o) = []
kin (equalled o) = []
kin (naming fs t) = encode_utf8 65533
kin (spaced fs t) = encode_utf8 65533
kin (attr_naming fs t a) = encode_utf8 65533
kin (valuing fs t a q v returned) = encode_utf8 65533
kin (valued fs t) = []
kin (amped h p) = encode_utf8 65533
kin (referring h p n) = encode_utf8 65533
kin (hashed h p) = []
kin (counting h p n) = []
kin (hexed h p) = []
kin (hexing h p n) = []
kin (inside fs n) = if has fs then encode_utf8 65533 else []
kin (closing fs []) = []
kin (closing fs (x ∷ left)) = encode_utf8 x

-- how many bytes of a refused character may still stand there
abbrev pub shared : State → ℕ → ℕ
shared s c = common (kin s.doing) (encode_utf8 c)

abbrev pub Answer : Type 0
Answer = machines.Answer State Level Fault step at_of found_of shared finish

-- the answer of the reader to what is left
abbrev pub answer : State → List ℕ → Answer
answer = machines.answer State Level Fault step at_of found_of shared finish
