use Rattle.std.proofs.Common.{sym, ap, ◌∙◌}
use Rattle.zi_policy.specs.Platform.{listed}
use Rattle.zi_showing.specs.Text.{is_stored}
use Rattle.zi_showing.proofs.PieceLaws.{find_here, find_on}
use Rattle.zi_showing.proofs.lines.find_stored.Goals as goal

pub returns-then-contains : goal.returns-then-contains
returns-then-contains c =
    find_here (is_stored c.args.names.now.keys) c.args.digests.now c.loop-digest.digest-index _ c.loop-digest-test.true
    (sym (ap (λ n. listed n c.args.names.now.keys) c.in_ok-name.ensures) ∙ (sym c.contains.ensures ∙ c.if-contains.true)) c.loop-digest.invariant

pub loop-digest-preserved : goal.loop-digest-preserved
loop-digest-preserved c =
    find_on (is_stored c.args.names.now.keys) c.args.digests.now c.loop-digest.digest-index _ c.loop-digest-test.true
    (sym (ap (λ n. listed n c.args.names.now.keys) c.in_ok-name.ensures) ∙ (sym c.contains.ensures ∙ c.if-contains.false)) c.loop-digest.invariant
