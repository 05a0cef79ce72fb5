use Rattle.std.proofs.Common.{map, ap, ◌∙◌}
use Rattle.std.proofs.lemmas.Result.{err_from_is_err_and}
use Rattle.zi_plan.specs.Placed.{exposed}
use Rattle.zi_plan.specs.Launches.{in_shims, shims_exposed}
use Rattle.zi_plan.specs.Steps.{link_seen, bound_seen}
use Rattle.zi_plan.proofs.PlanLaws.{last_refused, binding_refused, words_refused, all_launched}
use Rattle.zi_plan.proofs.planning.launch_of.Goals as goal

pub returns-in_err-check_last : goal.returns-in_err-check_last
returns-in_err-check_last c =
    let p = err_from_is_err_and c.from_residual.result c.from_residual.ensures.1 in
    rw (p.1, p.2) (last_refused c.args.table.now c.args.shims.now c.args.vars.now c.args.user.now (map link_seen c.args.links.now) c.in_err-check_last.field-0.0 c.in_err-check_last.ensures)

pub returns-in_err-apply_all : goal.returns-in_err-apply_all
returns-in_err-apply_all c =
    let p = err_from_is_err_and c.from_residual-in_err-apply_all.result c.from_residual-in_err-apply_all.ensures.1 in
    rw (p.1, p.2)
    (binding_refused c.args.table.now c.args.shims.now c.args.vars.now c.args.user.now (map link_seen c.args.links.now) c.in_ok-check_last.ensures c.in_err-apply_all.field-0.0
    (rw (c.as_slice.ensures.value, c.in_ok-bounds.ensures) at c.in_err-apply_all.ensures))

pub returns-in_err-words : goal.returns-in_err-words
returns-in_err-words c =
    let p = err_from_is_err_and c.from_residual-in_err-words.result c.from_residual-in_err-words.ensures.1 in
    let applied = rw (c.as_slice.ensures.value, c.in_ok-bounds.ensures, c.in_ok-vars.ensures) at c.in_ok-apply_all.ensures in
    rw (p.1, p.2)
    (words_refused c.args.table.now c.args.shims.now c.args.vars.now c.args.user.now (map link_seen c.args.links.now) c.in_ok-check_last.ensures applied.0 c.apply_all.new.vars applied.1
    c.in_err-words.field-0.0 c.in_err-words.ensures)

pub returns : goal.returns
returns c =
    let applied = rw (c.as_slice.ensures.value, c.in_ok-bounds.ensures, c.in_ok-vars.ensures) at c.in_ok-apply_all.ensures in
    all_launched c.args.table.now c.args.shims.now c.args.vars.now c.args.user.now (map link_seen c.args.links.now) c.in_ok-check_last.ensures applied.0 c.apply_all.new.vars applied.1
    c.in_ok-words.words c.in_ok-dirs.dirs c.in_ok-shims.shims c.in_ok-words.ensures (c.in_ok-dirs.ensures ∙ ap exposed c.all.ensures)
    (c.in_ok-shims.ensures ∙ ap (λ bs. shims_exposed (in_shims bs c.args.shims.now)) (ap (map bound_seen) c.as_slice-2.ensures.value ∙ c.in_ok-bounds.ensures))
