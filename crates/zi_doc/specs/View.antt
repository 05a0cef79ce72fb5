-- What the fields of the reader stand for.
use Rattle.std.specs.Prelude.{◌≡◌, ℕ, ◌+◌, Bool, true, false, if◌then◌else◌, List, [], ◌∷◌, reverse, drop, length}
use Rattle.zi_names.specs.declared.attributes.Binding.{Binding}
use Rattle.zi_names.specs.Names.{first_scope}
use Rattle.zi_xml.specs.Syntax.{Key, version_key, encoding_key, standalone_key}
use Rattle.zi_xml.specs.Meaning.{Level, Tag, Frame}
use Rattle.zi_xml.specs.Machine
use Rattle.zi_xml.specs.Machine.{Spot, before, among, Host, in_text, in_value as to_value, Word as Wording, doctype_word, section_word, comment_word, over_word, key_word, version_word, reply_word, declared_word, void_word, Owner as Owning, of_attr, of_key, Doing, State, state, begun, front, opened, banged, commenting, halting, asked, targeting, instructing, asking, wording, sectioning, bracketed, twice, declaring, heading, headed, numbering, numbered, coding, coded, replying, named, equalled, naming, spaced, attr_naming, valuing, valued, amped, referring, hashed, counting, hexed, hexing, inside, closing, top_name}
use Rattle.zi_doc.specs.declared.state.Open.{Open}
use Rattle.zi_doc.specs.declared.state.Reader.{Reader}
use Rattle.zi_doc.specs.declared.state.Mode.{Mode}
use Rattle.zi_doc.specs.declared.state.Mode.TheVariants as modes
use Rattle.zi_doc.specs.declared.state.Word.{Word}
use Rattle.zi_doc.specs.declared.state.Word.TheVariants as words
use Rattle.zi_doc.specs.declared.state.Owner.{Owner}
use Rattle.zi_doc.specs.declared.state.Owner.TheVariants as owners

-- an open element, with the declarations in force inside it
abbrev pub frame_of : Open → List Binding → Frame
frame_of o scope = record {
  name = o.written.items;
  space = o.space;
  local = o.local;
  attrs = o.attrs;
  scope = scope;
  outer = record { before = o.before; letters = o.letters; returned = o.returned; found = []; at = o.place };
}

-- the innermost first
abbrev pub stacked : List Open → List (List Binding) → List Frame
stacked [] ss = []
stacked (o ∷ os) [] = frame_of o [] ∷ stacked os []
stacked (o ∷ os) (s ∷ ss) = frame_of o s ∷ stacked os ss

-- the scopes of these elements
abbrev pub scopes_of : List Frame → List (List Binding)
scopes_of [] = first_scope ∷ []
scopes_of (f ∷ fs) = f.scope ∷ scopes_of fs

abbrev pub stack : Reader → List Frame
stack r = stacked (reverse r.opens.items) r.scopes

abbrev pub level : Reader → ℕ → Level
level r at = record { before = r.before; letters = r.letters; returned = r.returned; found = []; at = at }

-- what was known just before the last `<`
abbrev pub outer : Reader → Level
outer r = record { before = r.before; letters = r.letters; returned = r.outer_returned; found = []; at = r.place }

abbrev pub tag : Reader → Tag
tag r = record { name = r.written.items; raw = r.raw; outer = outer r }

abbrev pub spot : Reader → Spot
spot r = if r.rooted then among (stack r) else before r.first

abbrev pub host : Reader → Host
host r = if r.in_value then to_value (stack r) (tag r) r.attr r.quote r.value else in_text (stack r)

abbrev pub key_of : Owner → Key
key_of owners.Attr = version_key
key_of owners.Version = version_key
key_of owners.Encoding = encoding_key
key_of owners.Standalone = standalone_key

-- the settings that may come behind one
abbrev pub later : Owner → List Key
later owners.Attr = []
later owners.Version = encoding_key ∷ standalone_key ∷ []
later owners.Encoding = standalone_key ∷ []
later owners.Standalone = []

abbrev pub owner_in : Owner → Reader → Owning
owner_in owners.Attr r = of_attr (stack r) (tag r) r.attr
owner_in owners.Version r = of_key version_key (later owners.Version)
owner_in owners.Encoding r = of_key encoding_key (later owners.Encoding)
owner_in owners.Standalone r = of_key standalone_key (later owners.Standalone)

abbrev pub word_in : Word → Reader → Wording
word_in words.Doctype r = doctype_word r.place
word_in words.Section r = section_word (stack r)
word_in words.Comment r = comment_word (spot r)
word_in words.Over r = over_word (spot r)
word_in words.Key r = key_word (key_of r.owner) (later r.owner)
word_in words.Version r = version_word r.quote (later r.owner)
word_in words.Reply r = reply_word (later r.owner)
word_in words.Declared r = declared_word
word_in words.Void r = void_word (stack r) (tag r)

abbrev pub doing_in : Mode → Reader → Doing
doing_in modes.Begun r = begun
doing_in modes.Front r = front r.first
doing_in modes.Opened r = opened (spot r) (outer r)
doing_in modes.Banged r = banged (spot r) r.place
doing_in modes.Comment r = commenting (spot r)
doing_in modes.CommentDash r = halting (spot r)
doing_in modes.Asked r = asked (spot r)
doing_in modes.Target r = targeting (spot r) r.target
doing_in modes.Instruction r = instructing (spot r)
doing_in modes.InstructionAsk r = asking (spot r)
doing_in modes.Wording r = wording (word_in r.word r) r.next (drop r.matched r.left.items)
doing_in modes.Section r = sectioning (stack r)
doing_in modes.SectionBracket r = bracketed (stack r)
doing_in modes.SectionBrackets r = twice (stack r)
doing_in modes.Declaring r = declaring
doing_in modes.Heading r = heading (later r.owner)
doing_in modes.Headed r = headed (later r.owner)
doing_in modes.Numbering r = numbering r.quote (later r.owner)
doing_in modes.Numbered r = numbered r.quote (later r.owner)
doing_in modes.Coding r = coding r.quote (later r.owner)
doing_in modes.Coded r = coded r.quote (later r.owner) r.target r.coding_at
doing_in modes.Replying r = replying r.quote (later r.owner)
doing_in modes.Named r = named (owner_in r.owner r)
doing_in modes.Equalled r = equalled (owner_in r.owner r)
doing_in modes.Naming r = naming (stack r) (tag r)
doing_in modes.Spaced r = spaced (stack r) (tag r)
doing_in modes.AttrNaming r = attr_naming (stack r) (tag r) r.attr
doing_in modes.Valuing r = valuing (stack r) (tag r) r.attr r.quote r.value r.value_returned
doing_in modes.Valued r = valued (stack r) (tag r)
doing_in modes.Amped r = amped (host r) r.refer_at
doing_in modes.Referring r = referring (host r) r.refer_at r.refer
doing_in modes.Hashed r = hashed (host r) r.refer_at
doing_in modes.Counting r = counting (host r) r.refer_at r.number
doing_in modes.Hexed r = hexed (host r) r.refer_at
doing_in modes.Hexing r = hexing (host r) r.refer_at r.number
doing_in modes.Inside r = inside (stack r) r.brackets
doing_in modes.Closing r = closing (stack r) (drop r.matched (top_name (stack r)))

-- the state of a reader that has read so many bytes
abbrev pub state_of : Reader → ℕ → State
state_of r at = state (doing_in r.mode r) (level r at)

-- before the root nothing is open; what stands there alone is read there alone
abbrev pub BareOwner : Owner → Bool → Type 0
BareOwner owners.Attr rooted = Unit {0}
BareOwner _ rooted = rooted ≡ false

abbrev pub IsSetting : Owner → Type 0
IsSetting owners.Attr = ⊥
IsSetting _ = Unit {0}

abbrev pub BareWord : Word → Owner → Bool → Type 0
BareWord words.Key o rooted = (rooted ≡ false) × IsSetting o
BareWord words.Version o rooted = rooted ≡ false
BareWord words.Reply o rooted = rooted ≡ false
BareWord words.Declared o rooted = rooted ≡ false
BareWord _ o rooted = Unit {0}

abbrev pub Bare : Mode → Reader → Type 0
Bare modes.Begun r = r.rooted ≡ false
Bare modes.Front r = r.rooted ≡ false
Bare modes.Declaring r = r.rooted ≡ false
Bare modes.Heading r = r.rooted ≡ false
Bare modes.Headed r = r.rooted ≡ false
Bare modes.Numbering r = r.rooted ≡ false
Bare modes.Numbered r = r.rooted ≡ false
Bare modes.Coding r = r.rooted ≡ false
Bare modes.Coded r = r.rooted ≡ false
Bare modes.Replying r = r.rooted ≡ false
Bare modes.Named r = BareOwner r.owner r.rooted
Bare modes.Equalled r = BareOwner r.owner r.rooted
Bare modes.Wording r = BareWord r.word r.owner r.rooted
Bare _ r = Unit {0}

-- the scopes are those of the open elements, and before the root there is none
abbrev pub IsKept : Reader → Type 0
IsKept r = (r.scopes ≡ scopes_of (stack r)) × (r.rooted ≡ false → stack r ≡ [])

abbrev pub IsSound : Reader → Type 0
IsSound r = IsKept r × Bare r.mode r
