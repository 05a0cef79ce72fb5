use Rattle.std.proofs.Common.{◌≡◌, ◌∙◌, sym, subst, true, ap, map, Some}
use Rattle.zi_sat.proofs.SettleLaws.{ready_decided}
use Rattle.zi_proof.specs.Accepted.{citable, lemma_clause}
use Rattle.zi_sat.specs.Moves.{Lawful}
use Rattle.zi_sat.specs.Trail.{all_silent, known_from}
use Rattle.zi_proof.specs.Known.{nothing}
use Rattle.zi_sat.specs.Fresh.{Hushed}
use Rattle.zi_sat.proofs.FreshLaws.{hushed_added, hushed_decide}
use Rattle.zi_sat.proofs.MoveLaws.{lawful_added, lawful_decide}
use Rattle.zi_sat.proofs.CiteLaws.{silent_front}
use Rattle.zi_sat.proofs.BehindLaws.{behind_more}
use Rattle.zi_sat.proofs.decider.advance.Goals as goal

pub returns-in_err-hint-clause-lawful : goal.returns-in_err-hint-clause-lawful
returns-in_err-hint-clause-lawful g c =
    lawful_added _ c.args.f.now.constraints (g.D.Decider.chooses c.args.d.now c.args.f.now.variables) c.loop-hint.t.entries c.settle.new.t.entries c.loop-hint.invariant.4 c.settle.ensures.added

pub returns-in-Some-clause-lawful : goal.returns-in-Some-clause-lawful
returns-in-Some-clause-lawful g c =
    lawful_added _ c.args.f.now.constraints (g.D.Decider.chooses c.args.d.now c.args.f.now.variables) c.loop-hint.t.entries c.settle.new.t.entries c.loop-hint.invariant.4 c.settle.ensures.added

pub returns-in_err-pick-clause-lawful : goal.returns-in_err-pick-clause-lawful
returns-in_err-pick-clause-lawful g c =
    lawful_added _ c.args.f.now.constraints (g.D.Decider.chooses c.args.d.now c.args.f.now.variables) c.loop-hint.t.entries c.settle.new.t.entries c.loop-hint.invariant.4 c.settle.ensures.added

pub returns-in-None-clause-lawful : goal.returns-in-None-clause-lawful
returns-in-None-clause-lawful g c =
    lawful_added _ c.args.f.now.constraints (g.D.Decider.chooses c.args.d.now c.args.f.now.variables) c.loop-hint.t.entries c.settle.new.t.entries c.loop-hint.invariant.4 c.settle.ensures.added

pub returns-in_err-push-in-Some-2-clause-lawful : goal.returns-in_err-push-in-Some-2-clause-lawful
returns-in_err-push-in-Some-2-clause-lawful g c =
    subst (Lawful (citable c.args.f.now.constraints c.args.lemmas.now) c.args.f.now.constraints (g.D.Decider.chooses c.args.d.now c.args.f.now.variables)) (sym c.in_err-push-in-Some-2.ensures.entries) (lawful_added _ c.args.f.now.constraints (g.D.Decider.chooses c.args.d.now c.args.f.now.variables) c.loop-hint.t.entries c.settle.new.t.entries c.loop-hint.invariant.4 c.settle.ensures.added)

pub returns-in_err-hint-clause-hushed : goal.returns-in_err-hint-clause-hushed
returns-in_err-hint-clause-hushed g c =
    hushed_added (citable c.args.f.now.constraints c.args.lemmas.now) (citable c.args.f.now.constraints c.args.lemmas.now) c.loop-hint.t.entries c.settle.new.t.entries c.loop-hint.invariant.5 c.settle.ensures.added

pub returns-in-Some-clause-hushed : goal.returns-in-Some-clause-hushed
returns-in-Some-clause-hushed g c =
    hushed_added (citable c.args.f.now.constraints c.args.lemmas.now) (citable c.args.f.now.constraints c.args.lemmas.now) c.loop-hint.t.entries c.settle.new.t.entries c.loop-hint.invariant.5 c.settle.ensures.added

pub returns-in_err-pick-clause-hushed : goal.returns-in_err-pick-clause-hushed
returns-in_err-pick-clause-hushed g c =
    hushed_added (citable c.args.f.now.constraints c.args.lemmas.now) (citable c.args.f.now.constraints c.args.lemmas.now) c.loop-hint.t.entries c.settle.new.t.entries c.loop-hint.invariant.5 c.settle.ensures.added

pub returns-in-None-clause-hushed : goal.returns-in-None-clause-hushed
returns-in-None-clause-hushed g c =
    hushed_added (citable c.args.f.now.constraints c.args.lemmas.now) (citable c.args.f.now.constraints c.args.lemmas.now) c.loop-hint.t.entries c.settle.new.t.entries c.loop-hint.invariant.5 c.settle.ensures.added

pub returns-in_err-push-in-Some-2-clause-hushed : goal.returns-in_err-push-in-Some-2-clause-hushed
returns-in_err-push-in-Some-2-clause-hushed g c =
    subst (Hushed (citable c.args.f.now.constraints c.args.lemmas.now) nothing) (sym c.in_err-push-in-Some-2.ensures.entries) (hushed_added (citable c.args.f.now.constraints c.args.lemmas.now) (citable c.args.f.now.constraints c.args.lemmas.now) c.loop-hint.t.entries c.settle.new.t.entries c.loop-hint.invariant.5 c.settle.ensures.added)

pub pick-requires-clause-behind : goal.pick-requires-clause-behind
pick-requires-clause-behind g c =
    behind_more _ c.loop-hint.t.entries c.settle.new.t.entries _ c.loop-hint.invariant.7 c.settle.ensures.added.1

pub returns-in-Some-clause-behind : goal.returns-in-Some-clause-behind
returns-in-Some-clause-behind g c =
    behind_more _ c.loop-hint.t.entries c.settle.new.t.entries _ c.loop-hint.invariant.7 c.settle.ensures.added.1

pub loop-hint-preserved : goal.loop-hint-preserved
loop-hint-preserved g c =
    let i = c.loop-hint.invariant in
    let before = lawful_added (citable c.args.f.now.constraints c.args.lemmas.now) c.args.f.now.constraints (g.D.Decider.chooses c.args.d.now c.args.f.now.variables) c.loop-hint.t.entries c.settle.new.t.entries i.4 c.settle.ensures.added in
    let quiet : all_silent (known_from c.settle.new.t.entries) c.args.f.now.constraints ≡ true = silent_front (known_from c.settle.new.t.entries) c.args.f.now.constraints (map lemma_clause c.args.lemmas.now) (rw c.in_default.is at c.in_ok-hint.ensures.end) in
    let k = known_from c.settle.new.t.entries in
    let picked : g.D.Decider.chooses c.args.d.now c.args.f.now.variables k ≡ Some c.in-Some-2.l = ap (λ h. h c.args.f.now.variables k) (sym i.2) ∙ (ap (λ m. g.D.Decider.chooses c.loop-hint.d m k) (sym (c.settle.ensures.variables ∙ (i.0 ∙ c.requires.same))) ∙ (sym c.in_ok-pick.ensures.answer ∙ c.in-Some-2.is)) in
    (c.push.ensures.variables ∙ (c.settle.ensures.variables ∙ i.0), c.are_new-in-Some-2.ensures.few, c.pick.ensures.rule ∙ i.2, c.pick.ensures.same ∙ i.3, lawful_decide (citable c.args.f.now.constraints c.args.lemmas.now) c.args.f.now.constraints (g.D.Decider.chooses c.args.d.now c.args.f.now.variables) c.settle.new.t.entries c.push.new.self.entries c.in-Some-2.l before c.in_ok-push-in-Some-2.ensures.entries picked quiet, hushed_decide (citable c.args.f.now.constraints c.args.lemmas.now) c.settle.new.t.entries c.push.new.self.entries c.in-Some-2.l (hushed_added (citable c.args.f.now.constraints c.args.lemmas.now) (citable c.args.f.now.constraints c.args.lemmas.now) c.loop-hint.t.entries c.settle.new.t.entries i.5 c.settle.ensures.added) c.in_ok-push-in-Some-2.ensures.entries (rw c.in_default.is at c.in_ok-hint.ensures.end), ready_decided c.settle.new.w c.args.f.now c.args.lemmas.now c.settle.new.t.entries c.push.new.self.entries c.in-Some-2.l c.in_ok-push-in-Some-2.ensures.entries c.are_new-in-Some-2.ensures.undecided (rw c.in_default.is at c.in_ok-hint.ensures.seen) (rw c.in_default.is at c.in_ok-hint.ensures.ready), behind_more _ c.settle.new.t.entries c.push.new.self.entries _ c.in_ok-pick.ensures.behind c.in_ok-push-in-Some-2.ensures.entries)
