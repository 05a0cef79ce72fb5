use Rattle.zi_elements.specs.Forest.{element_view}
use Rattle.zi_docout.specs.Canonical.{document}
use Rattle.zi_docout.proofs.WalkLemmas.{first_none, first_some}
use Rattle.zi_docout.proofs.writer.write.Goals as goal

pub returns-in-Err-clause-first : goal.returns-in-Err-clause-first
returns-in-Err-clause-first c =
    let v = element_view c.args.root.now in first_some v (document v) c.new-text.result.items c.put_document.new.text.items c.in-Err.fault c.in-Err.ensures

pub returns-in-Ok-extend_from_slice-clause-first : goal.returns-in-Ok-extend_from_slice-clause-first
returns-in-Ok-extend_from_slice-clause-first c = first_none (element_view c.args.root.now) c.in-Ok.field-0 c.in-Ok.ensures.0
