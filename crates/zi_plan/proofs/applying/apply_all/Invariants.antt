use Rattle.std.proofs.Common.{◌≡◌, map, drop}
use Rattle.zi_plan.specs.Launches.{in_shims, bound_in, binding_fault}
use Rattle.zi_plan.specs.Steps.{bound_seen}
use Rattle.zi_plan.proofs.applying.apply_all.Given as goal

abbrev pub invariant-loop-bound : goal.invariant-loop-bound
invariant-loop-bound l = record {
  vars : bound_in (in_shims (map bound_seen l.bounds) l.initial.rest) l.initial.vars ≡ bound_in (in_shims (drop l.bound-index (map bound_seen l.bounds)) l.rest) l.vars;
  clean : binding_fault (map bound_seen l.bounds) ≡ binding_fault (drop l.bound-index (map bound_seen l.bounds));
}
