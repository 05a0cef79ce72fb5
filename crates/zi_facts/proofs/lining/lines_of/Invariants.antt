use Rattle.std.proofs.Common.{◌≡◌, map, take, []}
use Rattle.zi_facts.specs.Facts.{as_told}
use Rattle.zi_facts.specs.Telling.{universe_of}
use Rattle.zi_facts.specs.Lines.{lines_of}
use Rattle.zi_facts.proofs.lining.lines_of.Given as goal

abbrev pub invariant-loop-fact : goal.invariant-loop-fact
invariant-loop-fact l = l.lines.items ≡ lines_of (universe_of l.on) l.req [] (map as_told (take l.fact-index l.facts))
