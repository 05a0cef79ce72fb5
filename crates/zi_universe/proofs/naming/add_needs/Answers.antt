use Rattle.std.proofs.Common.{sym, ap}
use Rattle.zi_universe.specs.Naming.{joined}
use Rattle.zi_universe.specs.Candidates.{asked}
use Rattle.zi_universe.proofs.KeyLemmas.{deps_there, level_there}
use Rattle.zi_universe.proofs.naming.add_needs.Goals as goal

pub returns-then-is_empty-clause-names : goal.returns-then-is_empty-clause-names
returns-then-is_empty-clause-names c = ap (λ q. joined c.args.names.now.keys (asked q)) (sym (c.is_empty.ensures.0 c.if-is_empty.true))

pub add_level-requires-clause-there : goal.add_level-requires-clause-there
add_level-requires-clause-there c = level_there c.args.feeds.now c.args.one.now c.requires.numbered

pub returns-clause-names : goal.returns-clause-names
returns-clause-names c =
    let n = c.requires.numbered in
    let imp = c.args.one.now.candidate.imp in
    c.in_ok-add_level.ensures.names imp.deps (deps_there c.args.feeds.now (record { feed = c.args.one.now.feed; number = c.args.one.now.level }) n.shares imp.deps n.there n.level)
