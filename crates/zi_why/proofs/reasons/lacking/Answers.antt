use Rattle.std.proofs.Common.{map}
use Rattle.std.specs.List.{flat_map}
use Rattle.zi_why.specs.Known.{as_owned}
use Rattle.zi_why.specs.Reasons.{lacks, of_root, named_of}
use Rattle.zi_why.proofs.SuitLaws.{or_found, or_next}
use Rattle.zi_why.proofs.reasons.lacking.Goals as goal

pub returns-in-Some : goal.returns-in-Some
returns-in-Some c =
    or_found (lacks c.args.p.now.is.now) (of_root c.args.on.now.req.now c.args.p.now.interface) (flat_map named_of (map as_owned c.args.bearing.now)) c.lacked_at_root.result c.in-Some.name c.lacked_at_root.ensures c.in-Some.is

pub returns : goal.returns
returns c =
    or_next (lacks c.args.p.now.is.now) (of_root c.args.on.now.req.now c.args.p.now.interface) (flat_map named_of (map as_owned c.args.bearing.now)) c.lacked_at_root.result c.lacked_below.result c.lacked_at_root.ensures c.in_default.is c.lacked_below.ensures
