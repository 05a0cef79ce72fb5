use Rattle.std.proofs.Common.{sym, ◌∙◌}
use Rattle.zi_elements.specs.Forest.{element_view}
use Rattle.zi_reading.specs.Views.{views}
use Rattle.zi_sels.proofs.SelectionLaws.{digests_none, digests_given}
use Rattle.zi_sels.proofs.selecting.digests_in.Goals as goal

pub returns-then-is_package : goal.returns-then-is_package
returns-then-is_package c = digests_none (element_view c.args.e.now) _ _ (sym c.is_package.ensures ∙ c.if-is_package.true) c.new.ensures

pub returns : goal.returns
returns c =
    digests_given (element_view c.args.e.now) (views c.args.inside.now) c.in_ok-said.said _ c.value.result.now _ _ c.in_order_of_use.result (sym c.is_package.ensures ∙ c.if-is_package.false) c.requires
    c.in_ok-said.ensures c.value.ensures c.as_slice.ensures c.in_order_of_use.ensures
