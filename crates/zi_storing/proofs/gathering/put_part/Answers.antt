use Rattle.zi_session.proofs.BeginLemmas.{no_child}
use Rattle.zi_storing.proofs.GatheringLemmas.{plain_of}
use Rattle.zi_storing.proofs.gathering.put_part.Goals as goal

pub unreachable-requires : goal.unreachable-requires
unreachable-requires c =
    no_child c.as_str.result.now c.args.part.name c.root-root.result c.in_ok-path.field-0 c.as_str.ensures (plain_of c.args.part.name c.requires) c.in_ok-path.ensures c.in_default.is
