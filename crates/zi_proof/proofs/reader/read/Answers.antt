use Rattle.std.proofs.Common.{sym, ◌∙◌, ap}
use Rattle.std.proofs.lemmas.Bool.{false≢true}
use Rattle.zi_proof.proofs.LineLaws.{bad_start, bad_header}
use Rattle.zi_proof.specs.ProofText.{but_last}
use Rattle.zi_proof.proofs.reader.read.Goals as goal

pub returns-in_default : goal.returns-in_default
returns-in_default c = bad_start c.args.bytes.now (ap but_last (sym c.new-lines.ensures) ∙ c.in_default.ensures)

pub returns-then-not-is_header : goal.returns-then-not-is_header
returns-then-not-is_header c =
    bad_header c.args.bytes.now c.in-Some.first.now c.next_line.new.lines (sym c.new-lines.ensures ∙ c.in-Some.ensures.0) c.in-Some.ensures.1 (λ e. false≢true (c.if-not-is_header.ensures.1 e))
