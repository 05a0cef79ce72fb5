use Rattle.zi_sels.proofs.ReadingLaws.{only, faulty}
use Rattle.zi_sels.proofs.reading.read.Goals as goal

pub returns-clause-only : goal.returns-clause-only
returns-clause-only c = only c.args.bytes.now _ (c.one_reading.ensures c.args.bytes.now) c.read_bytes.ensures.found c.read_bytes.ensures.fault

pub returns-clause-faulty : goal.returns-clause-faulty
returns-clause-faulty c = faulty c.args.bytes.now _ (c.one_reading.ensures c.args.bytes.now) c.read_bytes.ensures.found c.read_bytes.ensures.fault
