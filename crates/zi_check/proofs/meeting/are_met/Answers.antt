use Rattle.std.proofs.Common.{rules, tests}
use Rattle.std.proofs.lemmas.Iterator.{cases_from_all, YieldsList-from_slice}
use Rattle.zi_parts.specs.declared.types.Dep.{Dep}
use Rattle.zi_choice.specs.Valid.{IsMet}
use Rattle.zi_check.specs.Parts.{universe_of, picks_of}
use Rattle.zi_check.proofs.MeetLaws.{tells_all}
use Rattle.zi_check.proofs.meeting.are_met.Goals as goal

pub returns : goal.returns
returns c =
    tells_all (λ (d : Dep). IsMet (universe_of c.args.on.now) (picks_of c.args.on.now) d) c.all.result c.args.deps.now
    (cases_from_all _ _ _ (λ (d : Dep). IsMet (universe_of c.args.on.now) (picks_of c.args.on.now) d) (λ x. (λ (d : Dep). IsMet (universe_of c.args.on.now) (picks_of c.args.on.now) d) x → ⊥) c.all.ensures.ran (YieldsList-from_slice c.args.deps.now cc) (λ x q k. search (rules, tests)) (λ x q k. search (rules, tests)))
