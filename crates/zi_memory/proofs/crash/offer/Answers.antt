use Rattle.std.proofs.Common.{Some, sym, ◌∙◌, ap}
use Rattle.zi_memory.specs.Comers.{at, is_later}
use Rattle.zi_memory.proofs.ComingLemmas.{at_new, offered_as, not_offered}
use Rattle.zi_memory.proofs.crash.offer.Goals as goal

pub returns-then-is_later : goal.returns-then-is_later
returns-then-is_later c = λ n.
    not_offered c.args.name n c.args.comer (at c.args.comers.now) (ap (λ o. is_later o c.args.comer) (sym c.get.ensures.value) ∙ sym c.is_later.ensures ∙ c.if-is_later.true)

pub returns : goal.returns
returns c = λ n.
    at_new c.args.comers.now c.insert.new.self c.args.name (Some c.args.comer) c.in_ok-insert.ensures.updates n
    ∙ offered_as c.args.name n c.args.comer (at c.args.comers.now) (ap (λ o. is_later o c.args.comer) (sym c.get.ensures.value) ∙ sym c.is_later.ensures ∙ c.if-is_later.false)
