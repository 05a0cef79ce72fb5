use Rattle.zi_certificate.proofs.Certified.{refuted_is_none}
use Rattle.zi_certificate.proofs.laws.refuted_is_none.Goals as goal

pub returns : goal.returns
returns c = refuted_is_none
