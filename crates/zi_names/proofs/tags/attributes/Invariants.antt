use Rattle.std.proofs.Common.{◌≡◌}
use Rattle.zi_names.specs.Names.{attributes_of}
use Rattle.zi_names.proofs.tags.attributes.Given as goal

abbrev pub invariant-loop-attribute : goal.invariant-loop-attribute
invariant-loop-attribute l = l.attributes ≡ attributes_of l.yielded l.scope
