use Rattle.std.proofs.Common.{◌≡◌, ◌++◌, map, take, flat_map}
use Rattle.zi_facts.specs.Facts.{as_told}
use Rattle.zi_facts.specs.Telling.{universe_of}
use Rattle.zi_facts.specs.Lines.{root_text}
use Rattle.zi_facts.proofs.lining.put_roots.Given as goal

abbrev pub invariant-loop-fact : goal.invariant-loop-fact
invariant-loop-fact l = l.out ≡ l.initial.out ++ flat_map (root_text (universe_of l.on) l.req) (map as_told (take l.fact-index l.facts))
