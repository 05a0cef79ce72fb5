use Rattle.std.proofs.Common.{◌≡◌, ◌∙◌, sym, ap, Bool, true, false}
use Rattle.zi_facts.specs.Lines.{is_named}
use Rattle.zi_facts.proofs.LineLaws.{any_next, any_here}
use Rattle.zi_facts.proofs.looking.has_command.Goals as goal

pub returns-then-is_named : goal.returns-then-is_named
returns-then-is_named c =
    sym (any_here (is_named c.args.name.now) c.args.k.now.imp.commands c.loop-n.n c.at.result.now c.at.ensures (sym (c.is_named.ensures ∙ ap (is_named c.args.name.now) c.as_ref.ensures) ∙ c.if-is_named.true))

pub loop-n-preserved : goal.loop-n-preserved
loop-n-preserved c =
    any_next (is_named c.args.name.now) c.args.k.now.imp.commands c.loop-n.n c.at.result.now c.at.ensures c.loop-n.invariant (sym (c.is_named.ensures ∙ ap (is_named c.args.name.now) c.as_ref.ensures) ∙ c.if-is_named.false)
