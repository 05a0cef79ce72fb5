use Rattle.std.proofs.Common.{rules, tests}
use Rattle.std.proofs.lemmas.Iterator.{cases_from_all, YieldsList-from_slice}
use Rattle.zi_choice.specs.Traces.{as_use}
use Rattle.zi_choice.specs.declared.traced.Used.{Used}
use Rattle.zi_check.specs.Parts.{IsUseMet}
use Rattle.zi_check.proofs.MeetLaws.{tells_all}
use Rattle.zi_check.proofs.meeting.are_uses_met.Goals as goal

pub returns : goal.returns
returns c =
    tells_all (λ (x : Used). IsUseMet c.args.on.now (as_use x)) c.all.result c.args.used.now
    (cases_from_all _ _ _ (λ (x : Used). IsUseMet c.args.on.now (as_use x)) (λ x. (λ (x : Used). IsUseMet c.args.on.now (as_use x)) x → ⊥) c.all.ensures.ran (YieldsList-from_slice c.args.used.now cc) (λ x q k. search (rules, tests)) (λ x q k. search (rules, tests)))
