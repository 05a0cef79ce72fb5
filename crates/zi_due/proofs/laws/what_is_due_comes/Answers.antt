use Rattle.zi_due.proofs.laws.what_is_due_comes.Goals as goal

pub returns-clause-texts : goal.returns-clause-texts
returns-clause-texts c = record { request = c.one_request.ensures; table = c.table_is_one.ensures; line = c.bad_line_is_one.ensures; sels = c.one_reading.ensures }

pub returns-clause-loadings : goal.returns-clause-loadings
returns-clause-loadings c = record { universe = c.one_universe.ensures; excludes = c.universe_excludes.ensures; refusal = c.one_refusal.ensures }

pub returns-clause-launches : goal.returns-clause-launches
returns-clause-launches c = record { plan = c.one_plan.ensures; shims = c.one_shims.ensures }
