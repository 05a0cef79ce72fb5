use Rattle.std.proofs.Common.{sym, ◌∙◌}
use Rattle.zi_elements.specs.Forest.{element_view}
use Rattle.zi_sels.proofs.TreeLaws.{root_wrong, root_right}
use Rattle.zi_sels.proofs.reading.root_fault.Goals as goal

pub returns-then-branch : goal.returns-then-branch
returns-then-branch c = root_wrong (element_view c.args.root.now) c.fault_at.result (sym c.in_ok-is_unclear.ensures ∙ c.if-branch.true) c.fault_at.ensures

pub returns-else-branch : goal.returns-else-branch
returns-else-branch c = root_right (element_view c.args.root.now) (sym c.in_ok-is_unclear.ensures ∙ c.if-branch.false)
