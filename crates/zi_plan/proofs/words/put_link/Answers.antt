use Rattle.zi_outside.specs.Vars.{value_of}
use Rattle.std.proofs.lemmas.Result.{err_from_is_err_and}
use Rattle.zi_plan.specs.Steps.{link_seen}
use Rattle.zi_plan.proofs.WordLaws.{link_all, link_stop}
use Rattle.zi_plan.proofs.words.put_link.Goals as goal

pub returns-in_err-put_runner_args : goal.returns-in_err-put_runner_args
returns-in_err-put_runner_args c =
    let p = err_from_is_err_and c.from_residual.result c.from_residual.ensures.1 in
    rw (p.1, p.2) (link_stop (value_of c.args.vars.now) (link_seen c.args.link.now) c.args.out.now c.put_runner_args.new.out c.put_runner_args.new.out c.in_err-put_runner_args.field-0.0 c.in_err-put_runner_args.ensures)

pub returns : goal.returns
returns c =
    link_all (value_of c.args.vars.now) (link_seen c.args.link.now) c.args.out.now c.put_runner_args.new.out c.put_path.new.out c.put_args.new.out c.put_args.result
    c.in_ok-put_runner_args.ensures c.in_ok-put_path.ensures (rw c.as_slice.ensures at c.put_args.ensures)
