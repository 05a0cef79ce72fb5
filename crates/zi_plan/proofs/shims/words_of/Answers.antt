use Rattle.std.proofs.Common.{map, ◌∙◌}
use Rattle.std.proofs.lemmas.Result.{err_from_is_err_and}
use Rattle.zi_outside.specs.Vars.{value_of}
use Rattle.zi_plan.specs.Steps.{wanted_seen, link_seen}
use Rattle.zi_plan.proofs.CallLaws.{words_unled, words_pathless, words_said}
use Rattle.zi_plan.proofs.shims.words_of.Goals as goal

pub returns-in-Err : goal.returns-in-Err
returns-in-Err c = words_unled c.args.table.now (value_of c.args.vars.now) (wanted_seen c.args.from) c.in-Err.fault c.in-Err.ensures

pub returns-in_err-check_last : goal.returns-in_err-check_last
returns-in_err-check_last c =
    let p = err_from_is_err_and c.from_residual.result c.from_residual.ensures.1 in
    rw (p.1, p.2)
    (words_pathless c.args.table.now (value_of c.args.vars.now) (wanted_seen c.args.from) (map link_seen c.in-Ok.links.items) c.in-Ok.ensures c.in_err-check_last.field-0.0
    (rw c.as_slice-links.ensures.value at c.in_err-check_last.ensures))

pub returns : goal.returns
returns c =
    words_said c.args.table.now (value_of c.args.vars.now) (wanted_seen c.args.from) (map link_seen c.in-Ok.links.items) c.in-Ok.ensures (rw c.as_slice-links.ensures.value at c.in_ok-check_last.ensures)
    c.as_slice.result.now (c.as_slice.ensures ∙ c.new-none.ensures) c.words.result (rw c.as_slice-links.ensures.value at c.words.ensures)
