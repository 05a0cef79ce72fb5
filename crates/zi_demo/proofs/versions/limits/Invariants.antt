use Rattle.std.proofs.Common.{map, take}
use Rattle.zi_docout.specs.Elements.{Adds}
use Rattle.zi_demo.specs.Feeds.{restricts_elem}
use Rattle.zi_demo.proofs.versions.limits.Given as goal

abbrev pub invariant-loop-name : goal.invariant-loop-name
invariant-loop-name l = Adds l.initial.inside l.inside (map (restricts_elem l.range) (map (λ x. x.now) (take l.name-index l.others)))
