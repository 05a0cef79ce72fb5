use Rattle.zi_walk.proofs.FirmLaws.{decided_longer}
use Rattle.zi_walk.proofs.kept.take_up.Goals as goal

pub returns-in_ok-begin-clause-low : goal.returns-in_ok-begin-clause-low
returns-in_ok-begin-clause-low c =
    decided_longer c.args.kept.now.low c.args.kept.now.taken.items c.args.t.now.entries c.requires.behind c.are_new.ensures.undecided c.requires.kept.low

pub returns-else-is_empty-clause-low : goal.returns-else-is_empty-clause-low
returns-else-is_empty-clause-low c =
    decided_longer c.args.kept.now.low c.args.kept.now.taken.items c.args.t.now.entries c.requires.behind c.are_new.ensures.undecided c.requires.kept.low
