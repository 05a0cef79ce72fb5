use Rattle.std.proofs.Common.{sym, ◌∙◌}
use Rattle.zi_proof.proofs.LineLaws.{says_lemma}
use Rattle.zi_proof.proofs.reader.lemma_or_other.Goals as goal

pub returns-in-Some : goal.returns-in-Some
returns-in-Some c = says_lemma c.args.line.now _ c.in-Some.m c.requires (sym c.in_ok-read_lemma.ensures ∙ c.in-Some.is)
