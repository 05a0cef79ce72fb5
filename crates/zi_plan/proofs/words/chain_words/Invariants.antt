use Rattle.std.proofs.Common.{◌≤◌, drop, length, map, [], Ok}
use Rattle.zi_outside.specs.Vars.{value_of}
use Rattle.zi_bind.specs.Answers.{Adds}
use Rattle.zi_plan.specs.Launches.{chain_words, spoken_all}
use Rattle.zi_plan.specs.Steps.{link_seen}
use Rattle.zi_plan.proofs.words.chain_words.Given as goal

abbrev pub invariant-loop-left : goal.invariant-loop-left
invariant-loop-left l = record {
  in_range : l.left ≤ length l.links;
  put : Adds (spoken_all (value_of l.vars) (chain_words (map link_seen (drop l.left l.links)))) [] (Ok tt) l.out;
}

abbrev pub decreases-loop-left : goal.decreases-loop-left
decreases-loop-left l = l.left
