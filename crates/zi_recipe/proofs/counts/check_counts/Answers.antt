use Rattle.std.proofs.Common.{Bor, List, ◌<◌, length, refl, ap, sym, subst, arith}
use Rattle.std.proofs.lemmas.Result.{err_from_is_err_and}
use Rattle.zi_tree.specs.Dir.{Dir}
use Rattle.zi_recipe.specs.Levels.{trees, CountsLevel, StopsCounting}
use Rattle.zi_recipe.specs.Limits.{Passes}
use Rattle.zi_recipe.proofs.LevelLemmas.{first_level, first_counted, first_deep, some_lent, none_lent, counted_level, deeper, still_bounded, falls, too_many, all_counted, within, passes_depth}
use Rattle.zi_recipe.proofs.counts.check_counts.Goals as goal

pub loop-alloc-init : goal.loop-alloc-init
loop-alloc-init c =
    let is = first_level c.push.new.self.items c.new-level.result.items c.args.tree c.new-level.ensures.items c.in_ok-push.ensures.items in
    record {
      counted = first_counted c.args.tree.now (trees c.push.new.self.items) is;
      deep = first_deep c.args.tree.now (trees c.push.new.self.items) is;
      few = omega arith;
      bounded = let one = ap length is in omega arith;
    }

pub count_level-requires : goal.count_level-requires
count_level-requires c = c.loop-alloc.invariant.few

pub loop-alloc-preserved : goal.loop-alloc-preserved
loop-alloc-preserved c =
    let l = c.loop-alloc in
    let ts = l.level.items in
    let next = trees c.in_ok-next.next.items in
    let n = c.count_level.new.nodes in
    let whole = c.args.tree.now in
    let counts = subst (λ (ls : List (Bor Dir)). CountsLevel (trees ls) l.nodes next n) c.as_slice.ensures.value c.in_ok-next.ensures in
    let some : 0 < length ts = omega (arith, l.level.ok.0) in
    let is = some_lent ts (length ts) refl some in
    record {
      counted = counted_level whole (trees ts) next l.nodes n l.levels counts l.invariant.counted;
      deep = deeper whole (trees ts) next l.nodes n l.levels counts is.0 is.1 is.2 l.invariant.deep;
      few = counts.few;
      bounded = still_bounded whole (trees ts) next l.nodes n l.levels counts is.0 is.1 is.2 l.invariant.bounded;
    }

pub loop-alloc-smaller : goal.loop-alloc-smaller
loop-alloc-smaller c =
    let l = c.loop-alloc in
    let ts = l.level.items in
    let next = trees c.in_ok-next.next.items in
    let n = c.count_level.new.nodes in
    let counts = subst (λ (ls : List (Bor Dir)). CountsLevel (trees ls) l.nodes next n) c.as_slice.ensures.value c.in_ok-next.ensures in
    let some : 0 < length ts = omega (arith, l.level.ok.0) in
    let is = some_lent ts (length ts) refl some in
    falls c.args.tree.now (trees ts) next l.nodes n l.levels counts is.0 is.1 is.2

pub returns-in_err-next : goal.returns-in_err-next
returns-in_err-next c =
    let l = c.loop-alloc in
    let q = err_from_is_err_and c.from_residual-in_err-next.result c.from_residual-in_err-next.ensures.1 in
    rw (q.1, q.2)
    (too_many c.args.tree.now (trees l.level.items) l.nodes c.in_err-next.field-0.0 l.invariant.counted
    (subst (λ (ls : List (Bor Dir)). StopsCounting (trees ls) l.nodes c.in_err-next.field-0.0) c.as_slice.ensures.value c.in_err-next.ensures))

pub returns-then-levels : goal.returns-then-levels
returns-then-levels c =
    let l = c.loop-alloc in
    let none = none_lent l.level.items (length l.level.items) refl (omega (arith, l.level.ok.0)) in
    let all = all_counted c.args.tree.now (trees l.level.items) l.nodes l.levels none l.invariant.counted l.invariant.deep l.invariant.few in
    subst (Passes c.args.tree.now) (sym c.too_large.ensures) (passes_depth c.args.tree.now all.0 (omega (arith, all.1)), refl)

pub returns : goal.returns
returns c =
    let l = c.loop-alloc in
    let none = none_lent l.level.items (length l.level.items) refl (omega (arith, l.level.ok.0)) in
    let all = all_counted c.args.tree.now (trees l.level.items) l.nodes l.levels none l.invariant.counted l.invariant.deep l.invariant.few in
    within c.args.tree.now all.0 (omega (arith, all.1))
