use Rattle.std.proofs.Common.{◌<◌, sym, ◌∙◌, arith}
use Rattle.zi_universe.proofs.LevelLemmas.{outer_level, outer_less, own_named, own_keys, all_named, all_keys}
use Rattle.zi_universe.proofs.naming.+add_level.Goals as goal

pub returns-then-contains-clause-names : goal.returns-then-contains-clause-names
returns-then-contains-clause-names t c = λ ds e. sym (c.requires.named c.args.key (sym c.contains.ensures ∙ c.if-contains.true) ds e)

pub returns-then-contains-clause-named : goal.returns-then-contains-clause-named
returns-then-contains-clause-named t c = c.requires.named

pub level_at-level-requires : goal.level_at-level-requires
level_at-level-requires t c = c.requires.there

pub returns-then-level-eq0-clause-names : goal.returns-then-level-eq0-clause-names
returns-then-level-eq0-clause-names t c =
    own_named c.args.feeds.now c.args.key c.level_at-level.result.now c.requires.there c.level_at-level.ensures _ _ c.if-level-eq0.true c.in_ok-add_last.ensures.names

pub returns-then-level-eq0-clause-named : goal.returns-then-level-eq0-clause-named
returns-then-level-eq0-clause-named t c =
    own_keys c.args.feeds.now c.args.key c.level_at-level.result.now c.requires.there c.level_at-level.ensures _ _ _ _ c.if-level-eq0.true c.in_ok-add_last.ensures.names c.in_ok-add_last.ensures.named c.requires.named

pub returns-clause-names : goal.returns-clause-names
returns-clause-names t c =
    all_named c.args.feeds.now c.args.key c.level_at-level.result.now c.requires.there c.level_at-level.ensures _ _ _ c.if-level-eq0.false c.in_ok-add_level.ensures.names c.in_ok-add_last-2.ensures.names

pub returns-clause-named : goal.returns-clause-named
returns-clause-named t c =
    all_keys c.args.feeds.now c.args.key c.level_at-level.result.now c.requires.there c.level_at-level.ensures _ _ _ _ _ c.if-level-eq0.false c.in_ok-add_level.ensures.names c.in_ok-add_last-2.ensures.names
    c.in_ok-add_last-2.ensures.named c.in_ok-add_level.ensures.named

pub add_level-requires : goal.add_level-requires
add_level-requires t c =
    let l = c.level_at-level.result.now in
    let lt : l.outer < c.args.key.number = outer_less c.args.feeds.now c.args.key l c.requires.there c.level_at-level.ensures c.if-level-eq0.false in
    (omega arith, (outer_level c.args.feeds.now c.args.key l c.requires.there c.level_at-level.ensures c.if-level-eq0.false, c.requires.named))
