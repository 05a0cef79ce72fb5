-- None of the variables before a place is such.
use Rattle.std.proofs.Common.{◌≡◌, ◌≤◌, length, take, find, None}
use Rattle.zi_script.specs.Script.{is_unsettable}
use Rattle.zi_script.proofs.naming.unsettable.Given as goal

abbrev pub invariant-loop-i : goal.invariant-loop-i
invariant-loop-i l = find (is_unsettable l.old) (take l.i l.new) ≡ None
