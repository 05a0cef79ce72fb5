use Rattle.std.proofs.Common.{◌≡◌, ◌-◌, ℕ, drop, length, subst, arith}
use Rattle.zi_universe.specs.Lookups.{FindsStabilities}
use Rattle.zi_universe.proofs.LookupLemmas.{stabilities_start, stabilities_more}
use Rattle.zi_universe.proofs.wanted.stabilities_of.Goals as goal

pub loop-left-init : goal.loop-left-init
loop-left-init c = record {
  in_range = omega arith;
  found = stabilities_start c.args.overrides.now (length c.args.overrides.now) c.new-stabilities.result.entries (omega arith) c.new-stabilities.ensures.empty;
}

pub loop-left-preserved : goal.loop-left-preserved
loop-left-preserved c = record {
  in_range = omega arith;
  found = stabilities_more c.args.overrides.now (c.loop-left.left - 1) c.loop-left.left c.index-overrides-left.result (record { interface = c.as_str-interface.result; id = c.as_str-id.result })
      c.loop-left.stabilities.entries c.insert.new.self.entries (omega arith) (omega arith) c.index-overrides-left.is c.as_str-interface.ensures c.as_str-id.ensures
      c.loop-left.invariant.found c.in_ok-insert.ensures.updates.0;
}

pub returns : goal.returns
returns c =
    let P : ℕ → Type 0 = λ n. FindsStabilities (drop n c.args.overrides.now) c.loop-left.stabilities.entries in
    let all : c.loop-left.left ≡ 0 = omega (arith, c.loop-left-test.false) in
    subst P all c.loop-left.invariant.found
