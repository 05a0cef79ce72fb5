use Rattle.std.proofs.Common.{◌++◌, ap, sym, ◌∙◌, append-nil}
use Rattle.zi_elements.specs.Forest.{element_view}
use Rattle.zi_reading.specs.Views.{views}
use Rattle.zi_sels.proofs.NoteLaws.{clear_passed, clear_pushed}
use Rattle.zi_sels.proofs.own.take_clear.Goals as goal

pub returns-then-not-branch : goal.returns-then-not-branch
returns-then-not-branch c =
    sym (ap (λ v. views c.args.found.now.items ++ v) (clear_passed (element_view c.args.e.now) _ c.in_ok-is_clear_command.ensures c.if-not-branch.true)
    ∙ append-nil (views c.args.found.now.items))

pub returns : goal.returns
returns c = clear_pushed c.args.found.now.items c.push.new.self.items c.args.e _ c.in_ok-is_clear_command.ensures c.if-not-branch.false c.in_ok-push.ensures.items
