-- When the answer of the reader is right.
use Rattle.std.specs.Prelude.{◌≡◌, ℕ, true, List, [], encode_utf8_all}
use Rattle.std.proofs.Common.{inl, inr}
use Rattle.std.proofs.Math.Utf8.{scalars}
use Rattle.zi_xml.specs.Meaning.{Level}
use Rattle.zi_xml.specs.Documents.{SaysChars, Says, Shows, Stops}
use Rattle.zi_xml.specs.Machine.{Answer, answer, first_state}

-- the characters say this without a fault, they show this fault first, or they stop there
abbrev pub Right : List ℕ → Answer → Type 0
Right cs (inl r) = SaysChars cs r × (r.found ≡ [])
Right cs (inr (inl f)) = Shows (encode_utf8_all cs) f
Right cs (inr (inr k)) = Stops (encode_utf8_all cs) k

-- the reader's answer to any characters is right
abbrev pub IsRight : Type 0
IsRight = (cs : List ℕ) → scalars cs ≡ true → Right cs (answer first_state cs)

-- no bytes say two things
abbrev pub IsOne : Type 0
IsOne = (w : List ℕ) (r s : Level) → Says w r → Says w s → r ≡ s
