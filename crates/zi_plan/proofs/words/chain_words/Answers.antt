use Rattle.std.proofs.Common.{◌-◌, [], arith}
use Rattle.zi_outside.specs.Vars.{value_of}
use Rattle.zi_plan.proofs.WordLaws.{chain_more, chain_stop, answers_stop}
use Rattle.zi_plan.proofs.words.chain_words.Goals as goal

pub loop-left-preserved : goal.loop-left-preserved
loop-left-preserved c = record {
  in_range = omega arith;
  put = chain_more (value_of c.args.vars.now) c.args.links.now c.loop-left.left (c.loop-left.left - 1) c.index-links-left.result [] c.loop-left.out c.put_link.new.out (omega arith) (omega arith)
      c.index-links-left.is c.loop-left.invariant.put c.in-Ok.ensures;
}

pub returns-in-Err : goal.returns-in-Err
returns-in-Err c =
    answers_stop _ c.in-Err.fault c.put_link.new.out
    (chain_stop (value_of c.args.vars.now) c.args.links.now c.loop-left.left (c.loop-left.left - 1) c.index-links-left.result [] c.loop-left.out c.put_link.new.out (omega arith) (omega arith)
    c.index-links-left.is c.in-Err.fault c.loop-left.invariant.put c.in-Err.ensures)
