use Rattle.std.proofs.Common.{Some, ap, sym, ◌∙◌}
use Rattle.zi_elements.specs.Forest.{element_view}
use Rattle.zi_sels.specs.Read.{selection_of}
use Rattle.zi_sels.specs.Refused.{selection_fault}
use Rattle.zi_sels.proofs.SelectionLaws.{unclear_fault, fault_is, value_when, answers_bad}
use Rattle.zi_sels.proofs.selecting.selection_of.Goals as goal

pub returns-then-branch : goal.returns-then-branch
returns-then-branch c =
    answers_bad (selection_fault (element_view c.args.e.now)) (selection_of (element_view c.args.e.now)) c.bad.result c.fault_at.result c.bad.ensures
    (unclear_fault (element_view c.args.e.now) (sym c.in_ok-is_unclear.ensures ∙ c.if-branch.true) ∙ ap Some (sym c.fault_at.ensures))

pub returns-in-Some : goal.returns-in-Some
returns-in-Some c =
    answers_bad (selection_fault (element_view c.args.e.now)) (selection_of (element_view c.args.e.now)) c.bad-in-Some.result c.in-Some.fault c.bad-in-Some.ensures
    (sym (fault_is (element_view c.args.e.now) _ _ _ _ _ (sym c.in_ok-is_unclear.ensures ∙ c.if-branch.false) c.in_ok-own.ensures c.in_ok-second_command.ensures c.lesser_of-fault.ensures c.in_ok-parts.ensures) ∙ c.in-Some.is)

pub returns-in_ok-with_parts-in-None : goal.returns-in_ok-with_parts-in-None
returns-in_ok-with_parts-in-None c = (
  sym (fault_is (element_view c.args.e.now) _ _ _ _ _ (sym c.in_ok-is_unclear.ensures ∙ c.if-branch.false) c.in_ok-own.ensures c.in_ok-second_command.ensures c.lesser_of-fault.ensures c.in_ok-parts.ensures) ∙ c.in-None.is,
  c.in_ok-with_parts-in-None.ensures ∙ value_when (element_view c.args.e.now) _ _ _ c.in_ok-parts.ensures c.in-None.is,
)
