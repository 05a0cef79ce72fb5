use Rattle.std.proofs.Common.{◌++◌, ap, ◌∙◌}
use Rattle.zi_proof.specs.ProofText.{certificate_text}
use Rattle.zi_choosing.proofs.SelectLemmas.{text_printed}
use Rattle.zi_choosing.proofs.selecting.put_certificate.Goals as goal

pub returns-in-Ok : goal.returns-in-Ok
returns-in-Ok g c =
    let text = certificate_text c.args.certificate.now in
    text_printed text c.as_slice.result.now (g.O.Sink.seen c.args.out.now) (g.O.Sink.seen c.put_text.new.out) c.put_text.result
    (c.as_slice.ensures.value ∙ (c.in-Ok.ensures.ok ∙ ap (λ v. v ++ text) c.new-lines.ensures.items)) c.put_text.ensures
