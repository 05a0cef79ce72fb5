use Rattle.zi_sels.specs.Written.{digests_elems}
use Rattle.zi_sels.proofs.WritingLemmas.{nothing_added, no_digests}
use Rattle.zi_sels.proofs.digests.put_digests.Goals as goal

pub returns-then-is_empty : goal.returns-then-is_empty
returns-then-is_empty c =
    nothing_added c.args.children.now (digests_elems c.args.names.now) (no_digests c.args.names.now (c.is_empty.ensures.0 c.if-is_empty.true))
