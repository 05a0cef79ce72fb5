use Rattle.std.proofs.Common.{Some, sym, ap, ◌-◌, ◌∙◌, arith}
use Rattle.zi_edge.proofs.CommandLemmas.{more_set}
use Rattle.zi_edge.proofs.child_spawner.set_vars.Goals as goal

pub loop-left-preserved : goal.loop-left-preserved
loop-left-preserved c = (
  omega (arith, c.loop-left.invariant.0),
  more_set c.args.command.now c.loop-left.command c.set_var.new.command c.args.vars.now c.loop-left.left (c.loop-left.left - 1) c.as_str-name.result.now c.as_str-value.result.now
      (omega (arith, c.loop-left-test.true)) (c.name_at.ensures ∙ ap Some (sym c.as_str-name.ensures)) (c.value_at.ensures ∙ ap Some (sym c.as_str-value.ensures)) c.loop-left.invariant.1
      c.in_ok-set_var.ensures.set c.in_ok-set_var.ensures.others c.in_ok-set_var.ensures.call c.in_ok-set_var.ensures.kept c.in_ok-set_var.ensures.dir,
)
