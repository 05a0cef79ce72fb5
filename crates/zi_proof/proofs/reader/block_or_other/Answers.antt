use Rattle.std.proofs.Common.{sym, ◌∙◌}
use Rattle.zi_proof.proofs.LineLaws.{says_block}
use Rattle.zi_proof.proofs.reader.block_or_other.Goals as goal

pub returns-in-Some : goal.returns-in-Some
returns-in-Some c = says_block c.args.line.now _ c.in-Some.b c.requires (sym c.in_ok-read_block.ensures ∙ c.in-Some.is)
