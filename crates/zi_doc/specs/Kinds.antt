-- The numbers of the kinds of faults.
use Rattle.std.specs.Prelude.{ℕ}
use Rattle.zi_doc.specs.declared.fault.DocKind.{DocKind}
use Rattle.zi_doc.specs.declared.fault.DocKind.TheVariants.{NotUtf8, Encoding, Doctype, Syntax, Entity, Prefix, Repeated, Depth}

-- the order in which they are listed, from 1
abbrev pub number_of : DocKind → ℕ
number_of NotUtf8 = 1
number_of Encoding = 2
number_of Doctype = 3
number_of Syntax = 4
number_of Entity = 5
number_of Prefix = 6
number_of Repeated = 7
number_of Depth = 8
