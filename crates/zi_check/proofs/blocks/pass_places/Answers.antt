use Rattle.std.proofs.Common.{◌+◌, ◌∙◌, subst, refl}
use Rattle.std.proofs.lemmas.Bool.{false≢true}
use Rattle.zi_choice.specs.Vars.{candidates_of}
use Rattle.zi_choice.specs.Traces.{as_place}
use Rattle.zi_build.specs.Clauses.{each}
use Rattle.zi_certificate.specs.Certificates.{asked_one}
use Rattle.zi_check.specs.Taking.{interfaces_of, blocks_of, Took}
use Rattle.zi_check.proofs.TakeLaws.{here, is_here, places_start, places_then, places_not, places_end, none_when}
use Rattle.zi_check.proofs.blocks.pass_places.Goals as goal

pub loop-k-init : goal.loop-k-init
loop-k-init c = record { alike = places_start c.args.on.now c.args.places.now c.args.before.now.items c.requires.empty; same = refl }

pub loop-k-preserved : goal.loop-k-preserved
loop-k-preserved c = record {
  alike = places_then c.args.on.now c.args.places.now c.loop-k.k c.loop-k.before.items c.pass_all.new.before.items c.say.new.before.items (here c.args.places.now c.loop-k.k) c.loop-k.next c.pass_all.new.next c.loop-k.invariant.alike c.loop-k-test.true (is_here c.args.places.now c.loop-k.k c.loop-k-test.true)
      (subst (λ b. Took c.args.on.now (each 0 (asked_one (interfaces_of c.args.on.now) (c.loop-k.k + 1) c.loop-k.before.items (as_place (here c.args.places.now c.loop-k.k))) (candidates_of (interfaces_of c.args.on.now) (here c.args.places.now c.loop-k.k).interface)) c.loop-k.next b c.pass_all.new.next) c.if-not-branch.false c.in_ok-pass_all.ensures.took) c.in_ok-pass_all.ensures.before c.in_ok-say.ensures;
  same = c.pass_all.ensures.same ∙ c.loop-k.invariant.same;
}

pub returns-then-not-branch : goal.returns-then-not-branch
returns-then-not-branch c = (
  λ t. absurd (false≢true t),
  λ g. absurd (places_not c.args.on.now c.args.places.now c.loop-k.k c.loop-k.before.items (here c.args.places.now c.loop-k.k) c.loop-k.next c.pass_all.new.next c.loop-k.invariant.alike c.loop-k-test.true (is_here c.args.places.now c.loop-k.k c.loop-k-test.true)
      (subst (λ b. Took c.args.on.now (each 0 (asked_one (interfaces_of c.args.on.now) (c.loop-k.k + 1) c.loop-k.before.items (as_place (here c.args.places.now c.loop-k.k))) (candidates_of (interfaces_of c.args.on.now) (here c.args.places.now c.loop-k.k).interface)) c.loop-k.next b c.pass_all.new.next) c.if-not-branch.true c.in_ok-pass_all.ensures.took) g),
)

pub returns : goal.returns
returns c =
    let e = places_end c.args.on.now c.args.places.now c.loop-k.k c.loop-k.before.items c.loop-k.next c.loop-k.invariant.alike c.loop-k-test.false in
    let w = none_when _ c.get.result (blocks_of c.args.on.now) c.loop-k.next c.is_none.result c.get.ensures.lookup.3 c.is_none.ensures in
    (λ t. e.0 (w.0 t), λ b. w.1 (e.1 b))
