use Rattle.std.proofs.Common.{map, take}
use Rattle.zi_sels.specs.Written.{arg_elem}
use Rattle.zi_docout.specs.Elements.{Adds}
use Rattle.zi_sels.proofs.commands.put_args.Given as goal

abbrev pub invariant-loop-arg : goal.invariant-loop-arg
invariant-loop-arg l = Adds l.initial.children l.children (map arg_elem (take l.arg-index l.args))
