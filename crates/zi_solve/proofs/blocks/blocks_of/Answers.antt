use Rattle.std.proofs.Common.{◌∙◌, None, get_or, refl}
use Rattle.zi_choice.specs.declared.traced.Place.{Place}
use Rattle.zi_solve.proofs.AddLaws.{places_start, place_here, place_given, places_said, places_end}
use Rattle.zi_solve.proofs.blocks.blocks_of.Goals as goal

pub loop-k-init : goal.loop-k-init
loop-k-init c = record {
  left = places_start c.args.on.now c.args.places.now c.new-2.result.items c.new.result c.new-2.ensures.items c.new.ensures c.requires.given;
  same = refl;
}

pub pass_all-requires-clause-given : goal.pass_all-requires-clause-given
pass_all-requires-clause-given c =
    let d : Place = record { interface = 0; pick = None } in
    place_given c.args.on.now c.args.places.now c.loop-k.k c.loop-k.made.before.items (get_or c.args.places.now c.loop-k.k d) c.loop-k.made.blocks c.loop-k.invariant.left c.loop-k-test.true (place_here c.args.places.now c.loop-k.k d c.loop-k-test.true)

pub loop-k-preserved : goal.loop-k-preserved
loop-k-preserved c =
    let d : Place = record { interface = 0; pick = None } in
    record {
      left = places_said c.args.on.now c.args.places.now c.loop-k.k c.loop-k.made.before.items c.pass_all.new.made.before.items c.say.new.made.before.items (get_or c.args.places.now c.loop-k.k d) c.loop-k.made.blocks c.pass_all.new.made.blocks c.say.new.made.blocks c.say.ensures.blocks c.loop-k.invariant.left c.loop-k-test.true (place_here c.args.places.now c.loop-k.k d c.loop-k-test.true) c.in_ok-pass_all.ensures.added c.in_ok-pass_all.ensures.before c.in_ok-say.ensures.before;
      same = c.pass_all.ensures.same ∙ c.loop-k.invariant.same;
    }

pub returns : goal.returns
returns c =
    places_end c.args.on.now c.args.places.now c.loop-k.k c.loop-k.made.before.items c.loop-k.made.blocks c.loop-k.invariant.left c.loop-k-test.false
