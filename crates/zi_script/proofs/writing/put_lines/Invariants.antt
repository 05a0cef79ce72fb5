-- The lines of the variables before a place were added.
use Rattle.std.proofs.Common.{◌≡◌, ◌++◌, take, string_bytes}
use Rattle.zi_script.specs.Script.{lines}
use Rattle.zi_script.proofs.writing.put_lines.Given as goal

abbrev pub invariant-loop-i : goal.invariant-loop-i
invariant-loop-i l = string_bytes l.out ≡ string_bytes l.fn.out ++ lines l.old (take l.i l.new)
