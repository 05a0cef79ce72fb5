use Rattle.std.proofs.Common.{inr, map, ap, sym, ◌∙◌}
use Rattle.std.proofs.lemmas.Result.{err_from_is_err_and}
use Rattle.zi_elements.specs.Forest.{element_view}
use Rattle.zi_sels.specs.declared.types.Selection.{Selection}
use Rattle.zi_sels.specs.Refused.{closed_fault}
use Rattle.zi_sels.proofs.TreeLaws.{other_root, wrong_part, first_is, items_are, wrong_whole, rest_is, value_of}
use Rattle.zi_sels.proofs.reading.read_root.Goals as goal

pub returns-then-not-is_selections : goal.returns-then-not-is_selections
returns-then-not-is_selections c = inr (other_root (element_view c.args.root.now) (sym c.is_selections.ensures ∙ c.if-not-is_selections.true))

pub returns-in-Some : goal.returns-in-Some
returns-in-Some c =
    inr (wrong_part (element_view c.args.root.now) _ c.in-Some.fault (sym c.is_selections.ensures ∙ c.if-not-is_selections.false)
    (first_is (element_view c.args.root.now) _ _ c.in_ok-fault.ensures c.in_ok-items.ensures.first) c.in-Some.is)

pub returns-in_err-check_closed : goal.returns-in_err-check_closed
returns-in_err-check_closed c =
    let q = err_from_is_err_and c.from_residual-in_err-check_closed.result c.from_residual-in_err-check_closed.ensures.1 in
    rw (q.1, q.2)
    (wrong_whole (element_view c.args.root.now) _ c.in_ok-items.items (map (λ (x : Selection). x.interface) c.as_slice.result.now) c.in_err-check_closed.field-0.0
    (sym c.is_selections.ensures ∙ c.if-not-is_selections.false)
    (first_is (element_view c.args.root.now) _ _ c.in_ok-fault.ensures c.in_ok-items.ensures.first) c.in_default.is
    (items_are (element_view c.args.root.now) _ _ c.in_ok-items.items c.in_ok-items.ensures c.in_default.is)
    (ap (map (λ (x : Selection). x.interface)) c.as_slice.ensures) c.in_err-check_closed.ensures)

pub returns : goal.returns
returns c =
    let root = element_view c.args.root.now in
    let items = items_are root _ _ c.in_ok-items.items c.in_ok-items.ensures c.in_default.is in (
      rest_is root _ c.in_ok-items.items _ (sym c.is_selections.ensures ∙ c.if-not-is_selections.false)
          (first_is root _ _ c.in_ok-fault.ensures c.in_ok-items.ensures.first) c.in_default.is items
          (ap (λ v. closed_fault v root) (sym (ap (map (λ (x : Selection). x.interface)) c.as_slice.ensures)) ∙ c.in_ok-check_closed.ensures),
      value_of root _ _ _ (c.in_ok-interface.ensures ∙ c.value.ensures) c.in_ok-command.ensures items,
    )
