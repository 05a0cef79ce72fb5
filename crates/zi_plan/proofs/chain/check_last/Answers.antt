use Rattle.std.proofs.Common.{sym, ◌∙◌}
use Rattle.zi_plan.specs.Steps.{link_seen}
use Rattle.zi_plan.proofs.ChainLaws.{last_is, path_there, path_lacking}
use Rattle.zi_plan.proofs.chain.check_last.Goals as goal

pub returns-then-is_some : goal.returns-then-is_some
returns-then-is_some c =
    last_is c.args.links.now c.in-Some.link.now (sym c.in-Some.ensures.value)
    ∙ path_there (link_seen c.in-Some.link.now) c.in-Some.link.now.command.now.path (sym c.if-is_some.ensures)

pub returns : goal.returns
returns c =
    last_is c.args.links.now c.in-Some.link.now (sym c.in-Some.ensures.value)
    ∙ path_lacking (link_seen c.in-Some.link.now) c.in-Some.link.now.command.now.path c.in_ok-from_str.field-0 c.in_ok-copy.field-0 c.in_ok-from_str.ensures c.in_ok-copy.ensures (sym c.if-is_some.ensures)
