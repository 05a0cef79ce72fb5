use Rattle.zi_certificate.proofs.Certified.{certified_is_best}
use Rattle.zi_certificate.proofs.laws.certified_is_best.Goals as goal

pub returns : goal.returns
returns c = certified_is_best
