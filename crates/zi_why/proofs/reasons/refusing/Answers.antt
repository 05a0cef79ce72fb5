use Rattle.std.proofs.Common.{refl, sym, ap, ◌∙◌, not}
use Rattle.std.specs.Prelude.{option_map}
use Rattle.zi_choice.proofs.TaskLaws.{slice_some}
use Rattle.zi_why.specs.Known.{as_owned, owner_of}
use Rattle.zi_why.specs.Reasons.{refuses}
use Rattle.zi_why.proofs.FindLaws.{found_here, found_later, found_none, find_map}
use Rattle.zi_why.proofs.reasons.refusing.Goals as goal

pub loop-owned-init : goal.loop-owned-init
loop-owned-init c = refl

pub returns-then-not-is_admitted : goal.returns-then-not-is_admitted
returns-then-not-is_admitted c =
    ap (λ o. option_map owner_of (option_map as_owned o))
    (found_here (λ o. refuses c.args.k.now (as_owned o)) c.args.bearing.now c.loop-owned.owned-index c.owned-item.result (slice_some c.args.bearing.now c.loop-owned.owned-index c.owned-item.result c.loop-owned-test.true c.owned-item.is) c.loop-owned.invariant (ap not (sym c.is_admitted.ensures ∙ c.if-not-is_admitted.true)))
    ∙ ap (option_map owner_of) (sym (find_map (refuses c.args.k.now) as_owned c.args.bearing.now))

pub loop-owned-preserved : goal.loop-owned-preserved
loop-owned-preserved c =
    found_later (λ o. refuses c.args.k.now (as_owned o)) c.args.bearing.now c.loop-owned.owned-index c.owned-item.result (slice_some c.args.bearing.now c.loop-owned.owned-index c.owned-item.result c.loop-owned-test.true c.owned-item.is) c.loop-owned.invariant (ap not (sym c.is_admitted.ensures ∙ c.if-not-is_admitted.false))

pub returns : goal.returns
returns c =
    ap (λ o. option_map owner_of (option_map as_owned o)) (found_none (λ o. refuses c.args.k.now (as_owned o)) c.args.bearing.now c.loop-owned.owned-index c.loop-owned-test.false c.loop-owned.invariant)
    ∙ ap (option_map owner_of) (sym (find_map (refuses c.args.k.now) as_owned c.args.bearing.now))
