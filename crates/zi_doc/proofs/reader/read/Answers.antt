use Rattle.zi_doc.proofs.Law.{only, faulty}
use Rattle.zi_doc.proofs.reader.read.Goals as goal

pub returns-clause-only : goal.returns-clause-only
returns-clause-only c = only c.args.bytes.now _ (c.one_answer.ensures c.args.bytes.now) c.read_document.ensures.found c.read_document.ensures.fault

pub returns-clause-faulty : goal.returns-clause-faulty
returns-clause-faulty c = faulty c.args.bytes.now _ (c.one_answer.ensures c.args.bytes.now) c.read_document.ensures.found c.read_document.ensures.fault
