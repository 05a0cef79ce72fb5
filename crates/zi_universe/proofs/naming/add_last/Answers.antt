use Rattle.zi_universe.proofs.naming.add_last.Goals as goal

pub returns-clause-names : goal.returns-clause-names
returns-clause-names c = c.in_ok-add_own.ensures

pub returns-clause-named : goal.returns-clause-named
returns-clause-named c = c.in_ok-insert.ensures.updates.0
