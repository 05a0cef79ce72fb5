use Rattle.std.proofs.Common.{◌≡◌, drop}
use Rattle.zi_xml.specs.Chars.{same_letters}
use Rattle.zi_doc.proofs.texts.same_letters.Given as goal

abbrev pub invariant-loop-i : goal.invariant-loop-i
invariant-loop-i l = same_letters l.a l.b ≡ same_letters (drop l.i l.a) (drop l.i l.b)
