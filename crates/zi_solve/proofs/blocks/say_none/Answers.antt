use Rattle.std.proofs.Common.{◌∙◌, length, refl}
use Rattle.zi_choice.specs.Vars.{candidates_of}
use Rattle.zi_solve.specs.Making.{universe_of}
use Rattle.zi_solve.proofs.AddLaws.{said_none, said_more, said_all}
use Rattle.zi_solve.proofs.blocks.say_none.Goals as goal

pub loop-c-init : goal.loop-c-init
loop-c-init c = record {
  before = said_none (universe_of c.args.on.now) c.args.i c.args.made.now.before.items (candidates_of (universe_of c.args.on.now) c.args.i);
  blocks = refl;
}

pub loop-c-preserved : goal.loop-c-preserved
loop-c-preserved c = record {
  before = said_more (universe_of c.args.on.now) c.args.i c.args.made.now.before.items c.loop-c.made.before.items c.say_lit.new.made.before.items c.loop-c.c (length c.candidates.result.now) c.candidates.result.now c.lit.result c.candidates.ensures.is c.loop-c-test.true refl c.loop-c.invariant.before c.lit.ensures c.in_ok-say_lit.ensures.before;
  blocks = c.say_lit.ensures.blocks ∙ c.loop-c.invariant.blocks;
}

pub returns : goal.returns
returns c = record {
  blocks = c.loop-c.invariant.blocks;
  before = said_all (universe_of c.args.on.now) c.args.i c.args.made.now.before.items c.loop-c.made.before.items c.loop-c.c (length c.candidates.result.now) c.candidates.result.now c.candidates.ensures.is c.loop-c-test.false refl c.loop-c.invariant.before;
}
