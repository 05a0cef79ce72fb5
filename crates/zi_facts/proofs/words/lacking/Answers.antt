use Rattle.std.proofs.Common.{◌∙◌, ◌++◌, ap}
use Rattle.zi_build.specs.Clauses.{keep}
use Rattle.zi_facts.specs.Lines.{lacking_number}
use Rattle.zi_facts.proofs.LineLaws.{kept_more}
use Rattle.zi_facts.proofs.words.lacking.Goals as goal

pub loop-e-preserved : goal.loop-e-preserved
loop-e-preserved c =
    kept_more (lacking_number c.args.dep.now c.args.name.now) c.loop-e.numbers c.keep_number.new.numbers c.args.all.now c.loop-e.e c.index-all-e.result c.loop-e-test.true c.index-all-e.is c.loop-e.invariant (c.in_ok-keep_number.ensures ∙ ap (λ b. c.loop-e.numbers ++ keep b c.loop-e.e) c.is_lacking.ensures)
