use Rattle.zi_due.proofs.CheckingEnds.{check_ends}
use Rattle.zi_due.proofs.CommandEnds.{select_command, refute_command, check_command}
use Rattle.zi_due.proofs.laws.check_ends_as_due.Goals as goal

pub returns : goal.returns
returns c =
    check_ends (record { one = c.one_universe.ensures; excludes = c.universe_excludes.ensures; once = c.one_refusal.ensures }) c.a_text_has_one_certificate.ensures c.one_reading.ensures
