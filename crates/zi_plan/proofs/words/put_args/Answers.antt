use Rattle.std.proofs.Common.{subst, Ok, Err}
use Rattle.zi_outside.specs.Vars.{value_of}
use Rattle.zi_bind.specs.Answers.{Adds}
use Rattle.zi_bind.specs.Expansion.{expanded}
use Rattle.zi_bind.proofs.EachLaws.{each_start, each_step, each_stop, each_end}
use Rattle.zi_plan.proofs.WordLaws.{spoken_args}
use Rattle.zi_plan.proofs.words.put_args.Goals as goal

pub loop-word-init : goal.loop-word-init
loop-word-init c = each_start (expanded (value_of c.args.vars.now)) c.args.words.now c.args.out.now

pub returns-in-Err : goal.returns-in-Err
returns-in-Err c =
    subst (λ e. Adds e c.args.out.now (Err c.in-Err.fault) c.put_word.new.out) (spoken_args (value_of c.args.vars.now) c.args.words.now)
    (each_stop (expanded (value_of c.args.vars.now)) c.args.words.now c.loop-word.word-index c.args.out.now c.loop-word.out c.put_word.new.out c.word-item.result c.in-Err.fault c.loop-word-test.true c.word-item.is c.loop-word.invariant c.in-Err.ensures)

pub loop-word-preserved : goal.loop-word-preserved
loop-word-preserved c =
    each_step (expanded (value_of c.args.vars.now)) c.args.words.now c.loop-word.word-index c.args.out.now c.loop-word.out c.put_word.new.out c.word-item.result c.loop-word-test.true c.word-item.is c.loop-word.invariant c.in-Ok.ensures

pub returns : goal.returns
returns c =
    subst (λ e. Adds e c.args.out.now (Ok tt) c.loop-word.out) (spoken_args (value_of c.args.vars.now) c.args.words.now)
    (each_end (expanded (value_of c.args.vars.now)) c.args.words.now c.loop-word.word-index c.args.out.now c.loop-word.out c.loop-word-test.false c.loop-word.invariant)
