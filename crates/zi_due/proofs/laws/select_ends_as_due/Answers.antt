use Rattle.zi_due.proofs.ChoosingEnds.{select_ends}
use Rattle.zi_due.proofs.laws.select_ends_as_due.Goals as goal

pub returns : goal.returns
returns c = select_ends (record { one = c.one_universe.ensures; excludes = c.universe_excludes.ensures; once = c.one_refusal.ensures })
