use Rattle.std.proofs.Common.{refl, sym, ap, ◌∙◌}
use Rattle.std.specs.Prelude.{find}
use Rattle.std.proofs.lemmas.List.Folds.{flat_map-map}
use Rattle.zi_choice.proofs.TaskLaws.{slice_some, lent_none, lent_some}
use Rattle.zi_why.specs.Known.{as_owned}
use Rattle.zi_why.specs.Reasons.{lacks, named_of}
use Rattle.zi_why.proofs.FindLaws.{flat_here, flat_later, flat_none}
use Rattle.zi_why.proofs.reasons.lacked_below.Goals as goal

pub loop-o-init : goal.loop-o-init
loop-o-init c = refl

pub returns-in-Some : goal.returns-in-Some
returns-in-Some c =
    flat_here (lacks c.args.p.now.is.now) (λ o. named_of (as_owned o)) c.args.bearing.now c.loop-o.o-index c.o-item.result c.in-Some.name.now (slice_some c.args.bearing.now c.loop-o.o-index c.o-item.result c.loop-o-test.true c.o-item.is) c.loop-o.invariant
    (ap (find (lacks c.args.p.now.is.now)) (sym c.named_by.ensures) ∙ lent_some c.first_lacked.result c.in-Some.name _ c.first_lacked.ensures c.in-Some.is)
    ∙ ap (find (lacks c.args.p.now.is.now)) (sym (flat_map-map named_of as_owned c.args.bearing.now))

pub loop-o-preserved : goal.loop-o-preserved
loop-o-preserved c =
    flat_later (lacks c.args.p.now.is.now) (λ o. named_of (as_owned o)) c.args.bearing.now c.loop-o.o-index c.o-item.result (slice_some c.args.bearing.now c.loop-o.o-index c.o-item.result c.loop-o-test.true c.o-item.is) c.loop-o.invariant
    (ap (find (lacks c.args.p.now.is.now)) (sym c.named_by.ensures) ∙ lent_none c.first_lacked.result _ c.first_lacked.ensures c.in_default.is)

pub returns : goal.returns
returns c =
    flat_none (lacks c.args.p.now.is.now) (λ o. named_of (as_owned o)) c.args.bearing.now c.loop-o.o-index c.loop-o-test.false c.loop-o.invariant
    ∙ ap (find (lacks c.args.p.now.is.now)) (sym (flat_map-map named_of as_owned c.args.bearing.now))
