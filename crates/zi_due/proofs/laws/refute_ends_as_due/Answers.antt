use Rattle.zi_due.proofs.CheckingEnds.{refute_ends}
use Rattle.zi_due.proofs.laws.refute_ends_as_due.Goals as goal

pub returns : goal.returns
returns c = refute_ends (record { one = c.one_universe.ensures; excludes = c.universe_excludes.ensures; once = c.one_refusal.ensures }) c.a_text_has_one_certificate.ensures
