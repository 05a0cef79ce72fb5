-- How far a purger comes by a step.
use Rattle.std.specs.Prelude.{◌≡◌, ◌+◌, ◌-◌, ◌*◌, ◌<◌, ℕ, Bool, true, false, length}
use Rattle.zi_purge.specs.Machine.{Phase, Moving, Sealing, Clearing, Closing, Ended, Stopped, Done, Crowded, Fault}
use Rattle.zi_purge.specs.Stepping.{Standing, named}
use Rattle.zi_purge.specs.declared.step.PurgeStep.{PurgeStep}
use Rattle.zi_purge.specs.declared.step.PurgeStep.TheVariants.{More, Done as SaysDone, Crowded as SaysCrowded, Fault as SaysFault, Memory as SaysMemory, Over}

-- no call is to come
abbrev pub has_ended : Phase → Bool
has_ended (Ended a) = true
has_ended Stopped = true
has_ended p = false

-- From this phase on a purger of so many names makes at most so many calls, those that were refused for want of memory aside: for
-- each name 10,000 renames, a call that settles the top and one that removes the entry, and one call last.
abbrev pub left_from : ℕ → Phase → ℕ
left_from all (Moving k n) = (all - (k + 1)) * 10002 + (10000 - n) + 3
left_from all (Sealing k n) = (all - (k + 1)) * 10002 + 3
left_from all (Clearing k n) = (all - (k + 1)) * 10002 + 2
left_from all Closing = 1
left_from all (Ended a) = 0
left_from all Stopped = 0

abbrev pub calls_left : Standing → ℕ
calls_left x = left_from (length x.names) x.phase

-- How far a purger comes by a step, by its answer.
abbrev pub Advances : Standing → PurgeStep → Standing → Type 0
-- other calls are to come, and fewer than before
Advances old More new = (has_ended new.phase ≡ false) × (calls_left new < calls_left old)
Advances old SaysDone new = new.phase ≡ Ended Done
Advances old (SaysCrowded tried) new = (tried ≡ 10000) × (new.phase ≡ Ended Crowded)
-- the number is that of the temporary name that the call named
Advances old (SaysFault tmp) new = (tmp ≡ named old.phase) × (new.phase ≡ Ended Fault)
-- the step may be tried again
Advances old SaysMemory new = new ≡ old
Advances old Over new = (has_ended old.phase ≡ true) × (new ≡ old)
