use Rattle.std.proofs.Common.{eq-eqb}
use Rattle.zi_doc.proofs.state.Reader.instruction_ask.Goals as goal

pub returns-then-c-eq62 : goal.returns-then-c-eq62
returns-then-c-eq62 c = rw (eq-eqb c.args.c 62 c.if-c-eq62.true) (c.back.ensures c.args.at c.args.c)
