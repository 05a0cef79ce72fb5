use Rattle.std.proofs.Common.{◌≡◌, ◌-◌, ℕ, drop, length, subst, arith}
use Rattle.zi_universe.specs.Lookups.{FindsLimits}
use Rattle.zi_universe.proofs.LookupLemmas.{limits_start, limits_more}
use Rattle.zi_universe.proofs.wanted.limits_of.Goals as goal

pub loop-left-init : goal.loop-left-init
loop-left-init c = record {
  in_range = omega arith;
  found = limits_start c.args.limits.now (length c.args.limits.now) c.new-by_interface.result.entries (omega arith) c.new-by_interface.ensures.empty;
}

pub loop-left-preserved : goal.loop-left-preserved
loop-left-preserved c = record {
  in_range = omega arith;
  found = limits_more c.args.limits.now (c.loop-left.left - 1) c.loop-left.left c.index-limits-left.result c.loop-left.by_interface.entries c.add_limit.new.limits.entries
      (omega arith) (omega arith) c.index-limits-left.is c.loop-left.invariant.found c.in_ok-add_limit.ensures;
}

pub returns : goal.returns
returns c =
    let P : ℕ → Type 0 = λ n. FindsLimits (drop n c.args.limits.now) c.loop-left.by_interface.entries in
    let all : c.loop-left.left ≡ 0 = omega (arith, c.loop-left-test.false) in
    subst P all c.loop-left.invariant.found
