use Rattle.zi_proof.proofs.OneLaws.{a_text_has_one_certificate}
use Rattle.zi_proof.proofs.laws.a_text_has_one_certificate.Goals as goal

pub returns : goal.returns
returns c = a_text_has_one_certificate
