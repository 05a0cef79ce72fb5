use Rattle.std.proofs.Common.{length, ap, arith}
use Rattle.zi_sels.proofs.choosing.selected.Goals as goal

pub overflow_add-i : goal.overflow_add-i
overflow_add-i c = omega (arith, c.interfaces-interfaces.ensures.whole.few_interfaces, ap length c.interfaces-interfaces.ensures.interfaces, c.loop-interface.invariant.number)
