use Rattle.std.proofs.Common.{◌≡◌, take, false}
use Rattle.std.specs.List.{list_any}
use Rattle.zi_facts.specs.Lines.{is_named}
use Rattle.zi_facts.proofs.looking.has_command.Given as goal

abbrev pub invariant-loop-n : goal.invariant-loop-n
invariant-loop-n l = list_any (is_named l.name) (take l.n l.k.imp.commands) ≡ false
