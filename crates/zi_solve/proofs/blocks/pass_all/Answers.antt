use Rattle.std.proofs.Common.{◌∙◌, length, ap, refl}
use Rattle.zi_choice.specs.Vars.{candidates_of}
use Rattle.zi_choice.specs.Traces.{as_place}
use Rattle.zi_certificate.specs.Certificates.{asked_one}
use Rattle.zi_solve.specs.Making.{universe_of}
use Rattle.zi_solve.proofs.AddLaws.{adds_start, adds_all, adds_next, given_one}
use Rattle.zi_solve.proofs.blocks.pass_all.Goals as goal

pub loop-c-init : goal.loop-c-init
loop-c-init c = record {
  added = adds_start c.args.on.now (asked_one (universe_of c.args.on.now) c.args.n c.args.made.now.before.items (as_place c.args.p.now)) (candidates_of (universe_of c.args.on.now) c.args.p.now.interface) c.args.made.now.blocks;
  before = refl;
  same = refl;
}

pub loop-c-preserved : goal.loop-c-preserved
loop-c-preserved c = record {
  added = adds_next c.args.on.now c.args.n c.args.made.now.before.items c.loop-c.made.before.items (as_place c.args.p.now) c.loop-c.c (length c.candidates.result.now) c.candidates.result.now c.args.made.now.blocks c.loop-c.made.blocks c.pass.new.made.blocks c.candidates.ensures.is c.loop-c.invariant.before c.loop-c-test.true refl c.loop-c.invariant.added c.in_ok-pass.ensures.added;
  before = c.in_ok-pass.ensures.before ∙ c.loop-c.invariant.before;
  same = c.pass.ensures.same ∙ c.loop-c.invariant.same;
}

pub pass-requires-clause-given : goal.pass-requires-clause-given
pass-requires-clause-given c =
    given_one c.args.on.now c.args.n c.args.made.now.before.items c.loop-c.made.before.items (as_place c.args.p.now) c.loop-c.c (length c.candidates.result.now) c.candidates.result.now c.candidates.ensures.is c.loop-c.invariant.before c.loop-c-test.true refl c.requires.given

pub returns : goal.returns
returns c = record {
  same = c.loop-c.invariant.same;
  before = c.loop-c.invariant.before;
  added = adds_all c.args.on.now (asked_one (universe_of c.args.on.now) c.args.n c.args.made.now.before.items (as_place c.args.p.now)) (candidates_of (universe_of c.args.on.now) c.args.p.now.interface) c.loop-c.c (length c.candidates.result.now) c.args.made.now.blocks c.loop-c.made.blocks c.loop-c-test.false (ap length c.candidates.ensures.is) c.loop-c.invariant.added;
}
