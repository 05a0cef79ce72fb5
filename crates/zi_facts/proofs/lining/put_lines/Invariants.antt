use Rattle.std.proofs.Common.{◌≡◌, ◌++◌, take, flat_map}
use Rattle.zi_facts.specs.Telling.{universe_of}
use Rattle.zi_facts.specs.Lines.{line_text}
use Rattle.zi_facts.proofs.lining.put_lines.Given as goal

abbrev pub invariant-loop-line : goal.invariant-loop-line
invariant-loop-line l = l.out ≡ l.initial.out ++ flat_map (line_text (universe_of l.on)) (take l.line-index l.lines)
