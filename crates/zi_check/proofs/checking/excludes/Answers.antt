use Rattle.std.proofs.Common.{◌∙◌, sym, ap, map}
use Rattle.zi_choice.specs.Traces.{as_place, as_walk}
use Rattle.zi_check.proofs.ExcludeLaws.{not_followed, excluded, all_within}
use Rattle.zi_check.proofs.checking.excludes.Goals as goal

pub returns-then-not-follow : goal.returns-then-not-follow
returns-then-not-follow c =
    not_followed c.args.u.now c.args.req.now c.args.c.now.picks c.args.certificate.now c.args.f.now c.follow.result c.requires.built.is c.follow.ensures.value c.if-not-follow.true

pub pass_places-requires-clause-right : goal.pass_places-requires-clause-right
pass_places-requires-clause-right c = record {
  formed = c.requires.built.formed;
  follow = sym c.follow.ensures.value ∙ c.if-not-follow.false;
  made = c.follow.ensures.len ∙ c.in_ok-marks.ensures;
}

pub pass_places-requires-clause-within : goal.pass_places-requires-clause-within
pass_places-requires-clause-within c =
    all_within c.args.u.now c.in_ok-numbering.numbering c.args.req.now c.args.c.now.picks c.args.t.now c.as_slice-2.result.now c.in_ok-numbering.ensures c.as_slice-2.ensures c.requires.valid.fits c.requires.walks

pub returns : goal.returns
returns c =
    excluded c.args.u.now c.in_ok-numbering.numbering c.args.req.now c.args.c.now.picks c.args.certificate.now c.args.f.now (as_walk c.args.t.now) (map as_place c.as_slice-2.result.now) c.as_slice.result.now c.in_ok-is_right.is_right c.requires.built.is c.in_ok-numbering.ensures (ap (map as_place) c.as_slice-2.ensures) c.as_slice.ensures (sym c.follow.ensures.value ∙ c.if-not-follow.false) c.requires.walks c.in_ok-is_right.ensures
