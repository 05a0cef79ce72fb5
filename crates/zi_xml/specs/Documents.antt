-- The tree that bytes spell, or their fault.
use Rattle.std.specs.Prelude.{◌≡◌, ℕ, List, [], ◌∷◌}
use Rattle.zi_elements.specs.declared.element.Element.{Element}
use Rattle.zi_elements.specs.declared.element.Node.TheVariants.{Child}
use Rattle.zi_xml.specs.Places as places
use Rattle.zi_xml.specs.Syntax.{Document, IsDocument, document_text}
use Rattle.zi_xml.specs.Meaning.{Fault, Level, document_told}

-- These characters are a document, faults other than of syntax left aside, and it says this.
pub record SaysChars (cs : List ℕ) (r : Level) : Type 0 where
  pub document : Document
  pub right : IsDocument document
  pub written : cs ≡ document_text document
  pub told : r ≡ document_told document

abbrev pub faults_of : Level → List Fault
faults_of l = l.found

abbrev pub end_of : Fault → ℕ
end_of f = f.ends

-- These bytes are a document in UTF-8, faults other than of syntax left aside, and it says this.
abbrev pub Says : List ℕ → Level → Type 0
Says = places.Says Level SaysChars

-- The bytes are a document without a fault, and its root is this tree.
abbrev pub Spells : List ℕ → Element → Type 0
Spells w t = (r : Level) × Says w r × (r.found ≡ []) × (r.before ≡ Child t ∷ [])

-- Every document that begins as the input does, up to where the fault is shown, has this fault first.
abbrev pub Shows : List ℕ → Fault → Type 0
Shows = places.Shows Level Fault faults_of end_of Says

-- Some document begins with the first k bytes, none goes on as the input does, and no fault is shown within them.
abbrev pub Stops : List ℕ → ℕ → Type 0
Stops = places.Stops Level Fault faults_of end_of Says
