use Rattle.std.proofs.Common.{Some, inr, map, ap, sym, ◌∙◌}
use Rattle.std.specs.Prelude.{option_copied}
use Rattle.zi_elements.specs.Forest.{element_view}
use Rattle.zi_reading.specs.Words.{first, is_among}
use Rattle.zi_sels.specs.declared.types.Selection.{Selection}
use Rattle.zi_sels.specs.Refused.{asking, unmet}
use Rattle.zi_sels.proofs.TreeLaws.{is_twice, is_rootless, is_unclosed, is_closed}
use Rattle.zi_sels.proofs.reading.check_closed.Goals as goal

pub returns-in-Some : goal.returns-in-Some
returns-in-Some c =
    inr (is_twice (map (λ (x : Selection). x.interface) c.args.items.now) (element_view c.args.root.now) c.in_ok-interface-2.interface
    (sym c.in_ok-interface.ensures ∙ (ap option_copied c.in-Some.is ∙ ap Some (sym c.in_ok-interface-2.ensures))))

pub returns-then-not-has : goal.returns-then-not-has
returns-then-not-has c =
    inr (is_rootless (map (λ (x : Selection). x.interface) c.args.items.now) (element_view c.args.root.now)
    (sym c.in_ok-interface.ensures ∙ ap option_copied c.in_default.is)
    (sym (c.has.ensures ∙ (ap (λ v. is_among v c.value.result.now) c.in_ok-selected.ensures
    ∙ ap (is_among (map (λ (x : Selection). x.interface) c.args.items.now)) c.value.ensures)) ∙ c.if-not-has.true))

pub returns-in-Some-2 : goal.returns-in-Some-2
returns-in-Some-2 c =
    inr (is_unclosed (map (λ (x : Selection). x.interface) c.args.items.now) (element_view c.args.root.now) c.in_ok-interface-4.interface
    (sym c.in_ok-interface.ensures ∙ ap option_copied c.in_default.is)
    (sym (c.has.ensures ∙ (ap (λ v. is_among v c.value.result.now) c.in_ok-selected.ensures
    ∙ ap (is_among (map (λ (x : Selection). x.interface) c.args.items.now)) c.value.ensures)) ∙ c.if-not-has.false)
    (sym (ap (λ v. first (unmet v (asking (element_view c.args.root.now)))) c.in_ok-selected.ensures)
    ∙ (sym c.in_ok-interface-3.ensures ∙ (ap option_copied c.in-Some-2.is ∙ ap Some (sym c.in_ok-interface-4.ensures)))))

pub returns : goal.returns
returns c =
    is_closed (map (λ (x : Selection). x.interface) c.args.items.now) (element_view c.args.root.now)
    (sym c.in_ok-interface.ensures ∙ ap option_copied c.in_default.is)
    (sym (c.has.ensures ∙ (ap (λ v. is_among v c.value.result.now) c.in_ok-selected.ensures
    ∙ ap (is_among (map (λ (x : Selection). x.interface) c.args.items.now)) c.value.ensures)) ∙ c.if-not-has.false)
    (sym (ap (λ v. first (unmet v (asking (element_view c.args.root.now)))) c.in_ok-selected.ensures)
    ∙ (sym c.in_ok-interface-3.ensures ∙ ap option_copied c.in_default-2.is))
