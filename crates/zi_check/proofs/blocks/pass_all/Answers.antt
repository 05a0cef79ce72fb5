use Rattle.std.proofs.Common.{◌∙◌, length, ap, sym, subst, refl}
use Rattle.zi_choice.specs.Vars.{candidates_of}
use Rattle.zi_choice.specs.Traces.{as_place}
use Rattle.zi_certificate.specs.Certificates.{asked_one}
use Rattle.zi_check.specs.Taking.{interfaces_of, Took, asked_at}
use Rattle.zi_check.proofs.TakeLaws.{each_starts, each_then, each_not, each_ends}
use Rattle.zi_check.proofs.blocks.pass_all.Goals as goal

pub loop-c-init : goal.loop-c-init
loop-c-init c = record { alike = each_starts c.args.on.now (asked_one (interfaces_of c.args.on.now) c.args.n c.args.before.now.items (as_place c.args.p.now)) (candidates_of (interfaces_of c.args.on.now) c.args.p.now.interface) c.args.next.now; before = refl; same = refl }

pub loop-c-preserved : goal.loop-c-preserved
loop-c-preserved c = record {
  alike = each_then c.args.on.now (asked_one (interfaces_of c.args.on.now) c.args.n c.args.before.now.items (as_place c.args.p.now)) (candidates_of (interfaces_of c.args.on.now) c.args.p.now.interface) c.args.next.now c.loop-c.c c.loop-c.next c.pass.new.next (length c.candidates.result.now) (asked_at (interfaces_of c.args.on.now) c.args.n c.loop-c.before.items (as_place c.args.p.now) c.loop-c.c)
      (λ k. ap (λ b. asked_at (interfaces_of c.args.on.now) c.args.n b (as_place c.args.p.now) c.loop-c.c) (sym c.loop-c.invariant.before)) c.loop-c.invariant.alike c.loop-c-test.true (ap length c.candidates.ensures.is)
      (subst (λ b. Took c.args.on.now (asked_at (interfaces_of c.args.on.now) c.args.n c.loop-c.before.items (as_place c.args.p.now) c.loop-c.c) c.loop-c.next b c.pass.new.next) c.if-not-branch.false c.in_ok-pass.ensures.took);
  before = c.in_ok-pass.ensures.before ∙ c.loop-c.invariant.before;
  same = c.pass.ensures.same ∙ c.loop-c.invariant.same;
}

pub returns-then-not-branch : goal.returns-then-not-branch
returns-then-not-branch c = record {
  took = each_not c.args.on.now (asked_one (interfaces_of c.args.on.now) c.args.n c.args.before.now.items (as_place c.args.p.now)) (candidates_of (interfaces_of c.args.on.now) c.args.p.now.interface) c.args.next.now c.loop-c.c c.loop-c.next c.pass.new.next (length c.candidates.result.now) (asked_at (interfaces_of c.args.on.now) c.args.n c.loop-c.before.items (as_place c.args.p.now) c.loop-c.c)
      (λ k. ap (λ b. asked_at (interfaces_of c.args.on.now) c.args.n b (as_place c.args.p.now) c.loop-c.c) (sym c.loop-c.invariant.before)) c.loop-c.invariant.alike c.loop-c-test.true (ap length c.candidates.ensures.is)
      (subst (λ b. Took c.args.on.now (asked_at (interfaces_of c.args.on.now) c.args.n c.loop-c.before.items (as_place c.args.p.now) c.loop-c.c) c.loop-c.next b c.pass.new.next) c.if-not-branch.true c.in_ok-pass.ensures.took);
  before = c.in_ok-pass.ensures.before ∙ c.loop-c.invariant.before;
  same = c.pass.ensures.same ∙ c.loop-c.invariant.same;
}

pub returns : goal.returns
returns c = record {
  took = each_ends c.args.on.now (asked_one (interfaces_of c.args.on.now) c.args.n c.args.before.now.items (as_place c.args.p.now)) (candidates_of (interfaces_of c.args.on.now) c.args.p.now.interface) c.args.next.now c.loop-c.c c.loop-c.next (length c.candidates.result.now) c.loop-c.invariant.alike c.loop-c-test.false (ap length c.candidates.ensures.is);
  before = c.loop-c.invariant.before;
  same = c.loop-c.invariant.same;
}
