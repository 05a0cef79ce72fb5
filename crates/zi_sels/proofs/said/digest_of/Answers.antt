use Rattle.zi_parts.proofs.DigestLaws.{parsed}
use Rattle.zi_sels.proofs.said.digest_of.Goals as goal

pub returns : goal.returns
returns c = parsed c.parse.result c.args.text.now c.parse.ensures.spelled c.parse.ensures.digest c.parse.ensures.refused
