use Rattle.std.proofs.Common.{◌∙◌}
use Rattle.zi_sat.specs.Trail.{known_from}
use Rattle.zi_reach.proofs.RuleLaws.{within_parts, value_same}
use Rattle.zi_reach.proofs.rule.value_of.Goals as goal

pub value-requires-clause-low : goal.value-requires-clause-low
value-requires-clause-low c = (within_parts c.args.t.now.variables c.args.x c.requires).0

pub value-requires-clause-high : goal.value-requires-clause-high
value-requires-clause-high c = (within_parts c.args.t.now.variables c.args.x c.requires).1

pub returns : goal.returns
returns c = c.value.ensures ∙ value_same (known_from c.args.t.now.entries c.args.x)
