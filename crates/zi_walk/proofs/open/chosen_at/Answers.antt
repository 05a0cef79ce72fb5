use Rattle.std.proofs.Common.{length, sym, ap, ◌∙◌}
use Rattle.zi_sat.specs.Trail.{known_from}
use Rattle.zi_choice.specs.Vars.{candidates_of}
use Rattle.zi_walk.specs.Rule.{is_chosen}
use Rattle.zi_walk.proofs.OpenLaws.{first_starts, first_found, first_passed, first_ends}
use Rattle.zi_walk.proofs.open.chosen_at.Goals as goal

pub loop-c-init : goal.loop-c-init
loop-c-init c = first_starts (is_chosen c.args.n.now (known_from c.args.t.now.entries) c.args.i) (candidates_of c.args.n.now c.args.i)

pub returns-then-is_chosen : goal.returns-then-is_chosen
returns-then-is_chosen c =
    first_found (is_chosen c.args.n.now (known_from c.args.t.now.entries) c.args.i) (candidates_of c.args.n.now c.args.i) c.loop-c.c (length c.candidates.result.now) c.loop-c.invariant c.loop-c-test.true (ap length c.candidates.ensures.is) (sym c.is_chosen.ensures ∙ c.if-is_chosen.true)

pub loop-c-preserved : goal.loop-c-preserved
loop-c-preserved c =
    first_passed (is_chosen c.args.n.now (known_from c.args.t.now.entries) c.args.i) (candidates_of c.args.n.now c.args.i) c.loop-c.c (length c.candidates.result.now) c.loop-c.invariant c.loop-c-test.true (ap length c.candidates.ensures.is) (sym c.is_chosen.ensures ∙ c.if-is_chosen.false)

pub returns : goal.returns
returns c =
    first_ends (is_chosen c.args.n.now (known_from c.args.t.now.entries) c.args.i) (candidates_of c.args.n.now c.args.i) c.loop-c.c (length c.candidates.result.now) c.loop-c.invariant c.loop-c-test.false (ap length c.candidates.ensures.is)
