use Rattle.std.proofs.Common.{refl}
use Rattle.zi_sat.specs.Trail.{known_from}
use Rattle.zi_walk.proofs.OpenLaws.{picks_some, picks_none}
use Rattle.zi_walk.proofs.kept.pick_anew.Goals as goal

pub returns-in-Some : goal.returns-in-Some
returns-in-Some c = record {
  is = picks_some c.args.on.now.names.now c.args.on.now.requirement.now c.args.t.now.variables (known_from c.args.t.now.entries) c.args.on.now.numbering.now c.args.on.now.names.now c.in_ok-picks.picks c.as_slice.result.now c.in_ok-traced.traced c.as_slice-2.result.now c.requires.numbered refl c.in_ok-picks.ensures c.as_slice.ensures c.in_ok-traced.ensures c.as_slice-2.ensures c.in-Some.l c.in-Some.ensures.is;
  undecided = c.in-Some.ensures.undecided;
  none = tt;
}

pub returns : goal.returns
returns c = record {
  is = picks_none c.args.on.now.names.now c.args.on.now.requirement.now c.args.t.now.variables (known_from c.args.t.now.entries) c.args.on.now.numbering.now c.args.on.now.names.now c.in_ok-picks.picks c.as_slice.result.now c.in_ok-traced.traced c.as_slice-2.result.now c.requires.numbered refl c.in_ok-picks.ensures c.as_slice.ensures c.in_ok-traced.ensures c.as_slice-2.ensures c.least_open.result c.in-None.ensures.is c.least_open.ensures.is;
  undecided = c.least_open.ensures.undecided;
  none = c.least_open.ensures.none;
}
