-- What a call does to the reader.
use Rattle.std.specs.Prelude.{◌≡◌, ℕ, ◌+◌, List, [], ◌∷◌, Option, Some, None, Result, Ok, Err, true, false, encode_utf8, encode_utf8_all}
use Rattle.zi_names.specs.Names.{scope_in, has_bad_prefix, has_repeated}
use Rattle.zi_names.specs.Scopes.{innermost, Opens}
use Rattle.zi_names.specs.declared.entered.Started.{Started}
use Rattle.zi_xml.specs.Chars.{width}
use Rattle.zi_xml.specs.Meaning.{Level, Fault, Kind, encoding_kind, doctype_kind, entity_kind, prefix_kind, repeated_kind, depth_kind}
use Rattle.zi_xml.specs.Machine.{Doing, State, go, found_of, common, kin}
use Rattle.zi_doc.specs.declared.state.Reader.{Reader}
use Rattle.zi_doc.specs.declared.fault.DocFault.{DocFault}
use Rattle.zi_doc.specs.declared.fault.DocFault.TheVariants as faults
use Rattle.zi_doc.specs.declared.fault.DocKind.{DocKind}
use Rattle.zi_doc.specs.declared.fault.DocKind.TheVariants as kinds
use Rattle.zi_doc.specs.View.{state_of, level, IsSound}

-- a fault of this kind and place is the first one found
abbrev pub Finds : List Fault → Kind → ℕ → Type 0
Finds [] k p = ⊥
Finds (f ∷ fs) k p = (f.kind ≡ k) × (f.place ≡ p)

-- the faults begin with one of this kind and place
abbrev pub Shown : List Fault → DocKind → ℕ → Type 0
Shown fs kinds.NotUtf8 p = ⊥
Shown fs kinds.Encoding p = Finds fs encoding_kind p
Shown fs kinds.Doctype p = Finds fs doctype_kind p
Shown fs kinds.Syntax p = ⊥
Shown fs kinds.Entity p = Finds fs entity_kind p
Shown fs kinds.Prefix p = Finds fs prefix_kind p
Shown fs kinds.Repeated p = Finds fs repeated_kind p
Shown fs kinds.Depth p = Finds fs depth_kind p

abbrev pub IsSyntax : DocKind → Type 0
IsSyntax kinds.Syntax = Unit {0}
IsSyntax _ = ⊥

-- A call went to this state, at being the place behind the character.
abbrev pub Lands : State → ℕ → Result (Unit {0}) DocFault → Reader → Type 0
Lands s at (Ok _) r = (s ≡ state_of r at) × IsSound r
Lands s at (Err faults.Memory) r = Unit {0}
Lands s at (Err (faults.Bad k p)) r = Shown s.level.found k p

-- A call refused the character at the place stop.
abbrev pub Refuses : ℕ → Result (Unit {0}) DocFault → Type 0
Refuses stop (Ok _) = ⊥
Refuses stop (Err faults.Memory) = Unit {0}
Refuses stop (Err (faults.Bad k p)) = IsSyntax k × (p ≡ stop)

-- A call did what a step to o says.
abbrev pub Moves : Option State → ℕ → ℕ → Result (Unit {0}) DocFault → Reader → Type 0
Moves (Some s) stop at result r = Lands s at result r
Moves None stop at result r = Refuses stop result

-- A call took the character c behind so many bytes.
abbrev pub Takes : Doing → Reader → ℕ → ℕ → Result (Unit {0}) DocFault → Reader → Type 0
Takes d old at c result new = Moves (go d (level old at) c) (at + common (kin d) (encode_utf8 c)) (at + width c) result new

-- the bytes of a character that may come where one is refused, or none
abbrev pub near_bytes : Option ℕ → List ℕ
near_bytes None = []
near_bytes (Some c) = encode_utf8 c

-- The names of the tag were resolved, and its attributes taken.
abbrev pub Starts : Reader → Result Started DocFault → Reader → Type 0
Starts old (Ok t) new = (new ≡ record old { scopes = new.scopes; raw = [] }) × Opens (encode_utf8_all old.written.items) old.raw old.scopes new.scopes t
Starts old (Err faults.Memory) new = Unit {0}
Starts old (Err (faults.Bad kinds.Prefix p)) new = (p ≡ old.place) × (has_bad_prefix (encode_utf8_all old.written.items) old.raw (scope_in old.raw (innermost old.scopes)) ≡ true)
Starts old (Err (faults.Bad kinds.Repeated p)) new =
    (p ≡ old.place) × ((has_bad_prefix (encode_utf8_all old.written.items) old.raw (scope_in old.raw (innermost old.scopes)) ≡ false) × (has_repeated old.raw (scope_in old.raw (innermost old.scopes)) ≡ true))
Starts old (Err (faults.Bad _ p)) new = ⊥
