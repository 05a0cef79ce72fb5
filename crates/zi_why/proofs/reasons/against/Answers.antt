use Rattle.std.proofs.Common.{◌≤◌, refl, sym, subst, ◌∙◌}
use Rattle.zi_why.specs.Known.{universe_of, picks_of, before}
use Rattle.zi_why.specs.Reasons.{is_against}
use Rattle.zi_why.proofs.FindLaws.{found_here, found_later, found_none}
use Rattle.zi_why.proofs.reasons.against.Goals as goal

pub loop-n-init : goal.loop-n-init
loop-n-init c = refl

pub returns-then-is_against : goal.returns-then-is_against
returns-then-is_against c = found_here (is_against (universe_of c.args.on.now) (picks_of c.args.on.now) (before c.args.on.now c.args.at) c.args.p.now.interface c.args.p.now.is.now) c.args.p.now.is.now.imp.deps c.loop-n.n c.at-dep.result.now c.at-dep.ensures c.loop-n.invariant (sym c.is_against.ensures ∙ c.if-is_against.true)

pub loop-n-preserved : goal.loop-n-preserved
loop-n-preserved c = found_later (is_against (universe_of c.args.on.now) (picks_of c.args.on.now) (before c.args.on.now c.args.at) c.args.p.now.interface c.args.p.now.is.now) c.args.p.now.is.now.imp.deps c.loop-n.n c.at-dep.result.now c.at-dep.ensures c.loop-n.invariant (sym c.is_against.ensures ∙ c.if-is_against.false)

pub returns : goal.returns
returns c = found_none (is_against (universe_of c.args.on.now) (picks_of c.args.on.now) (before c.args.on.now c.args.at) c.args.p.now.interface c.args.p.now.is.now) c.args.p.now.is.now.imp.deps c.loop-n.n (subst (λ m. m ≤ c.loop-n.n) c.len-n-end.ensures c.loop-n-test.false) c.loop-n.invariant
