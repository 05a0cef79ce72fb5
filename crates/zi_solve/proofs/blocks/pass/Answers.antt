use Rattle.std.proofs.Common.{◌∙◌, arith, refl}
use Rattle.zi_choice.specs.Traces.{as_place}
use Rattle.zi_solve.proofs.AddLaws.{pass_adds, pass_not, pass_given, popped}
use Rattle.zi_solve.proofs.blocks.pass.Goals as goal

pub returns-then-not-is_passed : goal.returns-then-not-is_passed
returns-then-not-is_passed c = record {
  same = refl;
  before = refl;
  added = pass_not c.args.on.now c.args.n c.args.made.now.before.items (as_place c.args.p.now) c.args.c c.is_passed.result c.args.made.now.blocks c.is_passed.ensures c.if-not-is_passed.true;
}

pub add_block-requires-clause-asked : goal.add_block-requires-clause-asked
add_block-requires-clause-asked c =
    pass_given c.args.on.now c.args.n c.args.made.now.before.items (as_place c.args.p.now) c.args.c c.is_passed.result c.lit-so.result c.push.new.self.items c.is_passed.ensures c.if-not-is_passed.false c.lit-so.ensures c.in_ok-push.ensures.items c.requires.given

pub returns : goal.returns
returns c =
    let ok = c.add_block.new.made.before.ok in
    record {
      same = c.add_block.ensures.same;
      before = popped c.args.made.now.before.items c.add_block.new.made.before.items c.pop.new.self.items c.lit-so.result c.add_block.new.made.before.len (c.add_block.ensures.before ∙ c.in_ok-push.ensures.items) (omega (arith, ok)) c.pop.ensures.rest;
      added = pass_adds c.args.on.now c.args.n c.args.made.now.before.items (as_place c.args.p.now) c.args.c c.is_passed.result c.lit-so.result c.push.new.self.items c.args.made.now.blocks c.add_block.new.made.blocks c.is_passed.ensures c.if-not-is_passed.false c.lit-so.ensures c.in_ok-push.ensures.items c.in_ok-add_block.ensures.added;
    }
