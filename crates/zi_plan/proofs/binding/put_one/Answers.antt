use Rattle.std.proofs.Common.{sym, map}
use Rattle.std.proofs.lemmas.List.{append-nil}
use Rattle.zi_plan.specs.Steps.{bound_seen}
use Rattle.zi_plan.proofs.binding.put_one.Goals as goal

pub returns-in-Some : goal.returns-in-Some
returns-in-Some c = rw (← c.in-Some.ensures) c.add.ensures

pub returns-in-None : goal.returns-in-None
returns-in-None c = rw (← c.in-None.ensures) (sym (append-nil (map bound_seen c.args.out.now.items)))
