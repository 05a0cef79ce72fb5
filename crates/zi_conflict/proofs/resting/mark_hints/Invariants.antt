use Rattle.std.proofs.Common.{take}
use Rattle.zi_conflict.specs.Resting.{AreMarked}
use Rattle.zi_conflict.proofs.resting.mark_hints.Given as goal

abbrev pub invariant-loop-hint : goal.invariant-loop-hint
invariant-loop-hint l = AreMarked l.limit (take l.hint-index l.hints) l.initial.marks.items l.marks.items
