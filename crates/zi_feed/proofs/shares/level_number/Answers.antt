use Rattle.std.proofs.Common.{ap, sym, ◌∙◌, Some, take, arith}
use Rattle.zi_feed.proofs.ShareLaws.{grows_not, grows_by, all_around, levels_more, new_deps}
use Rattle.zi_feed.proofs.shares.level_number.Goals as goal

pub returns-then-count-around-clause-grows : goal.returns-then-count-around-clause-grows
returns-then-count-around-clause-grows c = grows_not c.args.levels.now

pub returns-then-count-around-clause-levels : goal.returns-then-count-around-clause-levels
returns-then-count-around-clause-levels c = c.requires.levels

pub returns-then-count-around-clause-at : goal.returns-then-count-around-clause-at
returns-then-count-around-clause-at c = all_around c.args.levels.now c.args.outer c.args.around c.args.deps.now (omega (arith, c.if-count-around.true, c.len-count.ensures)) c.requires.outer

pub returns-clause-grows : goal.returns-clause-grows
returns-clause-grows c = grows_by c.args.levels.now c.push.new.self _ c.in_ok-push.ensures.ok

pub returns-clause-levels : goal.returns-clause-levels
returns-clause-levels c =
    levels_more c.args.levels.now c.push.new.self _ c.in_ok-push.ensures.ok c.requires.levels (c.requires.outer ∙ ap (λ q. Some (take c.args.around q)) (sym c.in_ok-all.ensures))

pub returns-clause-at : goal.returns-clause-at
returns-clause-at c = new_deps c.args.levels.now c.push.new.self _ _ c.in_ok-push.ensures.ok c.len-new.ensures ∙ ap (λ q. Some q) c.in_ok-all.ensures
