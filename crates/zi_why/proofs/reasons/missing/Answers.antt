use Rattle.std.proofs.Common.{◌≤◌, refl, sym, subst, ◌∙◌}
use Rattle.zi_why.specs.Known.{universe_of}
use Rattle.zi_why.specs.Reasons.{is_beyond}
use Rattle.zi_why.proofs.FindLaws.{found_here, found_later, found_none}
use Rattle.zi_why.proofs.reasons.missing.Goals as goal

pub loop-n-init : goal.loop-n-init
loop-n-init c = refl

pub returns-then-is_beyond : goal.returns-then-is_beyond
returns-then-is_beyond c = found_here (is_beyond (universe_of c.args.on.now)) c.args.k.now.imp.deps c.loop-n.n c.at-dep.result.now c.at-dep.ensures c.loop-n.invariant (sym c.is_beyond.ensures ∙ c.if-is_beyond.true)

pub loop-n-preserved : goal.loop-n-preserved
loop-n-preserved c = found_later (is_beyond (universe_of c.args.on.now)) c.args.k.now.imp.deps c.loop-n.n c.at-dep.result.now c.at-dep.ensures c.loop-n.invariant (sym c.is_beyond.ensures ∙ c.if-is_beyond.false)

pub returns : goal.returns
returns c = found_none (is_beyond (universe_of c.args.on.now)) c.args.k.now.imp.deps c.loop-n.n (subst (λ m. m ≤ c.loop-n.n) c.len-n-end.ensures c.loop-n-test.false) c.loop-n.invariant
