use Rattle.std.proofs.Common.{◌∙◌}
use Rattle.zi_choosing.proofs.KnownLemmas.{one_alone}
use Rattle.zi_choosing.proofs.known.lone.Goals as goal

pub returns-then-each-eq1 : goal.returns-then-each-eq1
returns-then-each-eq1 c = c.as_slice.ensures ∙ c.index-each-0.is ∙ one_alone c.args.each.now _ c.if-each-eq1.true
