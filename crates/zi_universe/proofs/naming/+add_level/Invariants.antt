use Rattle.zi_universe.proofs.naming.+add_level.Given as goal

abbrev pub decreases-add_level : goal.decreases-add_level
decreases-add_level l = l.key.number
