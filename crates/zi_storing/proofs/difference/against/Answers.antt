use Rattle.zi_storing.proofs.StoreLemmas.{against_text, against_none}
use Rattle.zi_storing.proofs.difference.against.Goals as goal

pub returns-in-Ok-Some-clause-differs : goal.returns-in-Ok-Some-clause-differs
returns-in-Ok-Some-clause-differs g c =
    λ s h e d own. against_text _ _ _ _ _ _ _ (cc (c.in-Ok-Some.is, c.in-Ok-Some.field-0-is)) (c.computed.ensures.text s h e d) own (rw c.as_slice.ensures at c.compared.ensures)

pub returns-in-Ok-None-clause-differs : goal.returns-in-Ok-None-clause-differs
returns-in-Ok-None-clause-differs g c = λ s h e d own. against_none _ _ _ (cc (c.in-Ok-None.is, c.in-Ok-None.field-0-is)) (c.computed.ensures.text s h e d)
