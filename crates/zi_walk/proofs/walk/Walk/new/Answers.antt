use Rattle.std.proofs.Common.{◌∙◌, sym}
use Rattle.zi_walk.proofs.walk.Walk.new.Goals as goal

pub invariant_of-result : goal.invariant_of-result
invariant_of-result c = (c.in_ok-numbering.ensures ∙ sym c.in_ok-names.ensures, c.new.ensures.is c.in_ok-names.names c.args.req.now)
