use Rattle.std.proofs.Common.{◌∙◌, sym}
use Rattle.zi_facts.specs.Facts.{owner_var, told_admission, told_need}
use Rattle.zi_facts.proofs.TellLaws.{tells_as, need_nowhere}
use Rattle.zi_facts.specs.Telling.{universe_of, Tells}
use Rattle.zi_facts.proofs.telling.tell_need.Goals as goal

pub returns-in_default : goal.returns-in_default
returns-in_default c =
    tells_as c.args.facts.now.items c.tell_admission.new.facts.items (told_admission (universe_of c.args.on.now) (owner_var c.args.owner) c.args.dep.now c.args.dep.now.kind) (told_need (universe_of c.args.on.now) (owner_var c.args.owner) c.args.dep.now)
    (need_nowhere (universe_of c.args.on.now) (owner_var c.args.owner) c.args.dep.now (sym c.number-j.ensures.is ∙ c.in_default.is)) c.in_ok-tell_admission.ensures
