-- Documents as parse trees over characters: what they are written as (XML 1.0, Fifth Edition, without a document type declaration).
-- Numbers in brackets are the productions of the standard.
use Rattle.std.specs.Prelude.{◌≡◌, ℕ, Bool, true, false, not, ◌==◌, ◌&&◌, List, [], ◌∷◌, ◌++◌, Option, Some, None, if◌then◌else◌, codes, encode_utf8_all}
use Rattle.zi_xml.specs.Chars.{is_char, is_white, is_first, is_name, is_plain, is_quote, is_valued, is_digit, is_hex, is_encoding_first, is_encoding, same_letters}

-- A character that stands for itself, or a reference ([66] to [68]).
pub data Bit : Type 0 where
  letter : ℕ → Bit
  entity_of : List ℕ → Bit
  decimal : List ℕ → Bit
  hexadecimal : List ℕ → Bit

-- White space, a name, `=` with white space around it, and a value in quotes ([41], [25], [10]).
pub record Written : Type 0 where
  pub lead : ℕ
  pub more : List ℕ
  pub name : List ℕ
  pub before : List ℕ
  pub behind : List ℕ
  pub quote : ℕ
  pub value : List Bit

-- What stands between tags ([43], [39]): characters and references, CDATA sections, comments, processing
-- instructions, empty tags, and elements with content. Each but stop has what follows it last.
pub data Content : Type 0 where
  stop : Content
  bit : Bit → Content → Content
  section : List ℕ → Content → Content
  comment : List ℕ → Content → Content
  instruction : List ℕ → List ℕ → Content → Content
  void : List ℕ → List Written → List ℕ → Content → Content
  pair : List ℕ → List Written → List ℕ → Content → List ℕ → Content → Content

abbrev pub bit_text : Bit → List ℕ
bit_text (letter c) = c ∷ []
bit_text (entity_of n) = 38 ∷ (n ++ 59 ∷ [])
bit_text (decimal ds) = 38 ∷ 35 ∷ (ds ++ 59 ∷ [])
bit_text (hexadecimal ds) = 38 ∷ 35 ∷ 120 ∷ (ds ++ 59 ∷ [])

abbrev pub bits_text : List Bit → List ℕ
bits_text [] = []
bits_text (b ∷ bs) = bit_text b ++ bits_text bs

abbrev pub written_text : Written → List ℕ
written_text a = a.lead ∷ (a.more ++ (a.name ++ (a.before ++ 61 ∷ (a.behind ++ a.quote ∷ (bits_text a.value ++ a.quote ∷ [])))))

abbrev pub all_text : List Written → List ℕ
all_text [] = []
all_text (a ∷ ws) = written_text a ++ all_text ws

-- a tag behind its name ([40], [44])
abbrev pub tag_rest : List Written → List ℕ → List ℕ → List ℕ
tag_rest ws e close = all_text ws ++ (e ++ close)

-- [42] `</`, a name, white space, `>`
abbrev pub end_tag : List ℕ → List ℕ → List ℕ
end_tag n e = 60 ∷ 47 ∷ (n ++ (e ++ 62 ∷ []))

-- [18] to [21] `<![CDATA[`, characters, `]]>`
abbrev pub section_text : List ℕ → List ℕ
section_text cs = codes "<![CDATA[" ++ (cs ++ codes "]]>")

-- [15] `<!--`, characters, `-->`
abbrev pub comment_text : List ℕ → List ℕ
comment_text cs = codes "<!--" ++ (cs ++ codes "-->")

-- [16] `<?`, a target, characters, `?>`
abbrev pub instruction_text : List ℕ → List ℕ → List ℕ
instruction_text n cs = codes "<?" ++ (n ++ (cs ++ codes "?>"))

-- what content is written as: an element's text is an empty tag, or a start tag, content and an end tag of the same name
abbrev pub text : Content → List ℕ
text stop = []
text (bit b k) = bit_text b ++ text k
text (section cs k) = section_text cs ++ text k
text (comment cs k) = comment_text cs ++ text k
text (instruction n cs k) = instruction_text n cs ++ text k
text (void n ws e k) = 60 ∷ (n ++ (tag_rest ws e (47 ∷ 62 ∷ []) ++ text k))
text (pair n ws e i f k) = 60 ∷ (n ++ (tag_rest ws e (62 ∷ []) ++ (text i ++ (end_tag n f ++ text k))))

abbrev pub AllAre : (ℕ → Bool) → List ℕ → Type 0
AllAre p [] = Unit {0}
AllAre p (c ∷ cs) = (p c ≡ true) × AllAre p cs

-- [5] Name
abbrev pub IsName : List ℕ → Type 0
IsName [] = ⊥
IsName (c ∷ cs) = (is_first c ≡ true) × AllAre is_name cs

-- one or more such characters
abbrev pub SomeAre : (ℕ → Bool) → List ℕ → Type 0
SomeAre p [] = ⊥
SomeAre p (c ∷ cs) = (p c ≡ true) × AllAre p cs

abbrev pub IsBit : (ℕ → Bool) → Bit → Type 0
IsBit p (letter c) = p c ≡ true
IsBit p (entity_of n) = IsName n
IsBit p (decimal ds) = SomeAre is_digit ds
IsBit p (hexadecimal ds) = SomeAre is_hex ds

abbrev pub AreBits : (ℕ → Bool) → List Bit → Type 0
AreBits p [] = Unit {0}
AreBits p (b ∷ bs) = IsBit p b × AreBits p bs

pub record IsWritten (a : Written) : Type 0 where
  pub lead : is_white a.lead ≡ true
  pub more : AllAre is_white a.more
  pub name : IsName a.name
  pub before : AllAre is_white a.before
  pub behind : AllAre is_white a.behind
  pub quote : is_quote a.quote ≡ true
  pub value : AreBits (is_valued a.quote) a.value

abbrev pub AreWritten : List Written → Type 0
AreWritten [] = Unit {0}
AreWritten (a ∷ ws) = IsWritten a × AreWritten ws

-- how many `]` stand just before, up to two
abbrev pub brackets : ℕ → ℕ → ℕ
brackets n c = if c == 93 then (if n == 0 then 1 else 2) else 0

-- not the `>` of a `]]>`, where n brackets stand before
abbrev pub is_unclosed : ℕ → ℕ → Bool
is_unclosed n c = not (n == 2 && c == 62)

-- no `]]>`, where n brackets stand before
abbrev pub Unclosed : ℕ → List ℕ → Type 0
Unclosed n [] = Unit {0}
Unclosed n (c ∷ cs) = (is_unclosed n c ≡ true) × Unclosed (brackets n c) cs

-- [20] CData: no `]]>` in it
abbrev pub IsSection : List ℕ → Type 0
IsSection cs = AllAre is_char cs × Unclosed 0 cs

-- no `-` behind a `-`, and none at the end; dash: one stands before
abbrev pub Undashed : Bool → List ℕ → Type 0
Undashed dash [] = dash ≡ false
Undashed dash (c ∷ cs) = ((dash && c == 45) ≡ false) × Undashed (c == 45) cs

-- [15] Comment: no `--` in it, and no `-` at its end
abbrev pub IsComment : List ℕ → Type 0
IsComment cs = AllAre is_char cs × Undashed false cs

-- no `>` behind a `?`; asked: one stands before
abbrev pub Unanswered : Bool → List ℕ → Type 0
Unanswered asked [] = Unit {0}
Unanswered asked (c ∷ cs) = ((asked && c == 62) ≡ false) × Unanswered (c == 63) cs

-- nothing, or white space first
abbrev pub IsApart : List ℕ → Type 0
IsApart [] = Unit {0}
IsApart (c ∷ cs) = is_white c ≡ true

-- [16], [17] PI: a target that isn't `xml` in any case, white space before what follows it, and no `?>` in that
pub record IsInstruction (n cs : List ℕ) : Type 0 where
  pub target : IsName n
  pub other : same_letters (encode_utf8_all n) (codes "xml") ≡ false
  pub apart : IsApart cs
  pub chars : AllAre is_char cs
  pub unended : Unanswered false cs

-- a character of text behind n brackets: [14], no `]]>`
abbrev pub is_said : ℕ → ℕ → Bool
is_said n c = is_plain c && is_unclosed n c

abbrev pub brackets_after : ℕ → Bit → ℕ
brackets_after n (letter c) = brackets n c
brackets_after n (entity_of m) = 0
brackets_after n (decimal ds) = 0
brackets_after n (hexadecimal ds) = 0

-- The parts of content are of the right characters, where n brackets stand just before it.
abbrev pub IsContentAfter : ℕ → Content → Type 0
IsContentAfter n stop = Unit {0}
IsContentAfter n (bit b k) = IsBit (is_said n) b × IsContentAfter (brackets_after n b) k
IsContentAfter n (section cs k) = IsSection cs × IsContentAfter 0 k
IsContentAfter n (comment cs k) = IsComment cs × IsContentAfter 0 k
IsContentAfter n (instruction m cs k) = IsInstruction m cs × IsContentAfter 0 k
IsContentAfter n (void m ws e k) = IsName m × (AreWritten ws × (AllAre is_white e × IsContentAfter 0 k))
IsContentAfter n (pair m ws e i f k) = IsName m × (AreWritten ws × (AllAre is_white e × (IsContentAfter 0 i × (AllAre is_white f × IsContentAfter 0 k))))

-- [27] Misc, one piece before or behind the root: a white space, a comment, a processing instruction.
pub data Misc : Type 0 where
  white : ℕ → Misc
  remark : List ℕ → Misc
  order : List ℕ → List ℕ → Misc

abbrev pub misc_text : Misc → List ℕ
misc_text (white c) = c ∷ []
misc_text (remark cs) = comment_text cs
misc_text (order n cs) = instruction_text n cs

abbrev pub miscs_text : List Misc → List ℕ
miscs_text [] = []
miscs_text (m ∷ ms) = misc_text m ++ miscs_text ms

abbrev pub IsMisc : Misc → Type 0
IsMisc (white c) = is_white c ≡ true
IsMisc (remark cs) = IsComment cs
IsMisc (order n cs) = IsInstruction n cs

abbrev pub AreMisc : List Misc → Type 0
AreMisc [] = Unit {0}
AreMisc (m ∷ ms) = IsMisc m × AreMisc ms

-- What an XML declaration may set ([24], [80], [32]).
pub data Key : Type 0 where
  version_key : Key
  encoding_key : Key
  standalone_key : Key

abbrev pub key_text : Key → List ℕ
key_text version_key = codes "version"
key_text encoding_key = codes "encoding"
key_text standalone_key = codes "standalone"

-- White space, a keyword, `=` with white space around it, and a value in quotes ([24], [80], [32], [25]).
pub record Setting : Type 0 where
  pub lead : ℕ
  pub more : List ℕ
  pub before : List ℕ
  pub behind : List ℕ
  pub quote : ℕ
  pub value : List ℕ

-- up to the value
abbrev pub setting_front : Key → Setting → List ℕ
setting_front k s = s.lead ∷ (s.more ++ (key_text k ++ (s.before ++ 61 ∷ (s.behind ++ s.quote ∷ []))))

abbrev pub setting_text : Key → Setting → List ℕ
setting_text k s = setting_front k s ++ (s.value ++ s.quote ∷ [])

-- [26] VersionNum, [81] EncName, and `yes` or `no` ([32])
abbrev pub IsSet : Key → List ℕ → Type 0
IsSet version_key v = (ds : List ℕ) × (v ≡ codes "1." ++ ds) × SomeAre is_digit ds
IsSet encoding_key [] = ⊥
IsSet encoding_key (c ∷ cs) = (is_encoding_first c ≡ true) × AllAre is_encoding cs
IsSet standalone_key v = (yes_or_no : Bool) × (v ≡ (if yes_or_no then codes "yes" else codes "no"))

pub record IsSetting (k : Key) (s : Setting) : Type 0 where
  pub lead : is_white s.lead ≡ true
  pub more : AllAre is_white s.more
  pub before : AllAre is_white s.before
  pub behind : AllAre is_white s.behind
  pub quote : is_quote s.quote ≡ true
  pub value : IsSet k s.value

abbrev pub optional_text : Key → Option Setting → List ℕ
optional_text k None = []
optional_text k (Some s) = setting_text k s

abbrev pub IsOptional : Key → Option Setting → Type 0
IsOptional k None = Unit {0}
IsOptional k (Some s) = IsSetting k s

-- [23] XMLDecl
pub record Declaration : Type 0 where
  pub version : Setting
  pub encoding : Option Setting
  pub standalone : Option Setting
  pub last : List ℕ

abbrev pub declaration_text : Declaration → List ℕ
declaration_text d =
    codes "<?xml" ++ (setting_text version_key d.version ++ (optional_text encoding_key d.encoding ++ (optional_text standalone_key d.standalone ++ (d.last ++ codes "?>"))))

pub record IsDeclaration (d : Declaration) : Type 0 where
  pub version : IsSetting version_key d.version
  pub encoding : IsOptional encoding_key d.encoding
  pub standalone : IsOptional standalone_key d.standalone
  pub last : AllAre is_white d.last

-- One element, as an empty tag or with content, or in its place the first word of a document type declaration ([28]).
-- What follows that word isn't read: the declaration is refused where its word ends.
pub data Root : Type 0 where
  alone : List ℕ → List Written → List ℕ → Root
  whole : List ℕ → List Written → List ℕ → Content → List ℕ → Root
  doctype : Root

abbrev pub root_text : Root → List ℕ
root_text (alone n ws e) = text (void n ws e stop)
root_text (whole n ws e i f) = text (pair n ws e i f stop)
root_text doctype = codes "<!DOCTYPE"

abbrev pub IsRoot : Root → Type 0
IsRoot (alone n ws e) = IsContentAfter 0 (void n ws e stop)
IsRoot (whole n ws e i f) = IsContentAfter 0 (pair n ws e i f stop)
IsRoot doctype = Unit {0}

-- [1], [22] a byte order mark or none (4.3.3), a declaration or none, what may stand before the root, the root, and what may stand behind it
pub record Document : Type 0 where
  pub mark : Bool
  pub declaration : Option Declaration
  pub front : List Misc
  pub root : Root
  pub tail : List Misc

abbrev pub mark_text : Bool → List ℕ
mark_text true = 65279 ∷ []
mark_text false = []

abbrev pub declared_text : Option Declaration → List ℕ
declared_text None = []
declared_text (Some d) = declaration_text d

abbrev pub document_text : Document → List ℕ
document_text d = mark_text d.mark ++ (declared_text d.declaration ++ (miscs_text d.front ++ (root_text d.root ++ miscs_text d.tail)))

abbrev pub IsDeclared : Option Declaration → Type 0
IsDeclared None = Unit {0}
IsDeclared (Some d) = IsDeclaration d

pub record IsDocument (d : Document) : Type 0 where
  pub declaration : IsDeclared d.declaration
  pub front : AreMisc d.front
  pub root : IsRoot d.root
  pub tail : AreMisc d.tail
