use Rattle.std.proofs.Common.{◌≡◌, ◌++◌, map, take}
use Rattle.zi_feed.proofs.along.add_lent.Given as goal

abbrev pub invariant-loop-command : goal.invariant-loop-command
invariant-loop-command l = map (λ r. r.now) l.lent.items ≡ map (λ r. r.now) l.initial.lent.items ++ take l.command-index l.commands
