use Rattle.std.proofs.Common.{length, ◌<◌, sym, arith}
use Rattle.std.proofs.lemmas.Option.{get_or_from_slice_get}
use Rattle.zi_parts.specs.declared.types.Dep.{Dep}
use Rattle.zi_facts.specs.Facts.{owner_var, told_need}
use Rattle.zi_facts.proofs.TellLaws.{tells_flat}
use Rattle.zi_facts.specs.Telling.{universe_of, Tells}
use Rattle.zi_facts.proofs.telling.tell_inherited.Goals as goal

pub loop-n-preserved : goal.loop-n-preserved
loop-n-preserved c =
    let there : c.loop-n.n < length c.args.deps.now = omega arith in
    let d : Dep = c.at.result.now in
    tells_flat c.args.facts.now.items c.loop-n.facts.items c.tell_need.new.facts.items (told_need (universe_of c.args.on.now) (owner_var c.args.owner)) c.args.deps.now c.loop-n.n d there (sym (get_or_from_slice_get c.args.deps.now c.loop-n.n d d c.at.ensures)) c.loop-n.invariant c.in_ok-tell_need.ensures
