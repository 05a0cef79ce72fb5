use Rattle.zi_solve.proofs.ChosenLaws.{room_for, knows, follow, within_on, few_on, given_on, certified}
use Rattle.zi_solve.proofs.solving.chosen_of.Goals as goal

pub so_far-requires : goal.so_far-requires
so_far-requires c = record {
  room = room_for c.args.u.now c.in_ok-numbering.numbering c.args.req.now c.args.f.now c.args.t.now.variables c.requires.built.is c.in_ok-numbering.ensures c.requires.room;
}

pub blocks_of-requires-clause-may : goal.blocks_of-requires-clause-may
blocks_of-requires-clause-may c =
    let log_follows = follow c.args.u.now c.args.req.now c.args.f.now c.args.log.now c.args.t.now.entries c.requires.built.is c.requires.found in
    record {
      formed = c.requires.built.formed;
      follow = log_follows;
      knows = knows c.args.f.now c.args.log.now c.in_ok-marks.marks c.requires.built.formed log_follows c.in_ok-marks.ensures;
      room = c.requires.room;
    }

pub blocks_of-requires-clause-few : goal.blocks_of-requires-clause-few
blocks_of-requires-clause-few c =
    few_on c.args.u.now c.args.req.now c.args.f.now c.args.log.now c.args.t.now.entries c.requires.built.is c.requires.found c.in_ok-numbering.numbering c.in_ok-names.names c.in_ok-picks.picks c.as_slice.result.now c.as_slice-2.result.now c.in_ok-kept.kept c.in_ok-traced.traced c.as_slice-places.result.now c.in_ok-numbering.ensures c.in_ok-names.ensures c.in_ok-picks.ensures c.as_slice.ensures c.in_ok-traced.ensures c.as_slice-places.ensures c.as_slice-2.ensures c.in_ok-kept.ensures c.interfaces-interfaces.ensures.whole

pub blocks_of-requires-clause-within : goal.blocks_of-requires-clause-within
blocks_of-requires-clause-within c =
    within_on c.args.u.now c.args.req.now c.args.f.now c.args.log.now c.args.t.now.entries c.requires.built.is c.requires.found c.in_ok-numbering.numbering c.in_ok-names.names c.in_ok-picks.picks c.as_slice.result.now c.as_slice-2.result.now c.in_ok-kept.kept c.in_ok-traced.traced c.as_slice-places.result.now c.in_ok-numbering.ensures c.in_ok-names.ensures c.in_ok-picks.ensures c.as_slice.ensures c.in_ok-traced.ensures c.as_slice-places.ensures c.as_slice-2.ensures c.in_ok-kept.ensures

pub blocks_of-requires-clause-given : goal.blocks_of-requires-clause-given
blocks_of-requires-clause-given c =
    given_on c.args.u.now c.args.req.now c.args.f.now c.args.log.now c.args.t.now.entries c.requires.built.is c.requires.found c.in_ok-numbering.numbering c.in_ok-names.names c.in_ok-picks.picks c.as_slice.result.now c.as_slice-2.result.now c.in_ok-kept.kept c.in_ok-traced.traced c.as_slice-places.result.now c.in_ok-numbering.ensures c.in_ok-names.ensures c.in_ok-picks.ensures c.as_slice.ensures c.in_ok-traced.ensures c.as_slice-places.ensures c.as_slice-2.ensures c.in_ok-kept.ensures

pub returns : goal.returns
returns c =
    certified c.args.u.now c.args.req.now c.args.f.now c.args.log.now c.args.t.now.entries c.requires.built.is c.requires.found c.in_ok-numbering.numbering c.in_ok-names.names c.in_ok-picks.picks c.as_slice.result.now c.as_slice-2.result.now c.in_ok-kept.kept c.in_ok-traced.traced c.as_slice-places.result.now c.in_ok-numbering.ensures c.in_ok-names.ensures c.in_ok-picks.ensures c.as_slice.ensures c.in_ok-traced.ensures c.as_slice-places.ensures c.as_slice-2.ensures c.in_ok-kept.ensures _ c.in_ok-blocks.ensures
