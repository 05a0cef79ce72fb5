use Rattle.std.proofs.Common.{◌≡◌, ◌∙◌, ◌<◌, ◌≤◌, ◌+◌, length, length-append, get_or, take, sym, ap, subst, arith, Some, inr, true}
use Rattle.zi_formula.specs.Truth.{opposite}
use Rattle.zi_proof.specs.Accepted.{citable}
use Rattle.zi_proof.specs.Known.{put, is_false}
use Rattle.zi_sat.specs.Trail.{known_from}
use Rattle.zi_sat.specs.Marking.{Inside}
use Rattle.zi_sat.specs.Guard.{AllGuard, ShortSet}
use Rattle.zi_sat.proofs.MoveLaws.{added_all}
use Rattle.zi_sat.specs.Moves.{entries_of}
use Rattle.zi_sat.proofs.FreshLaws.{false_opposite}
use Rattle.zi_sat.proofs.ReachLaws.{in_at, front_inside}
use Rattle.zi_sat.proofs.VisitLaws.{added_inside, opposite_twice}
use Rattle.zi_sat.proofs.CalmLaws.{calm_added}
use Rattle.zi_sat.proofs.SettleLaws.{shorts_more, ready_added, entry_true, next_guard, ready_silent}
use Rattle.zi_sat.proofs.watches.settle.Goals as goal

pub loop-w-init : goal.loop-w-init
loop-w-init c =
    (c.look_shorts.ensures.variables, c.look_shorts.ensures.added, ready_added c.args.w.now c.args.f.now c.args.lemmas.now c.args.t.now.entries c.look_shorts.new.t.entries c.look_shorts.ensures.added c.are_new-2.ensures.undecided c.requires.ready, rw c.in_default.is at c.in_ok-hint.ensures.short, c.are_new-2.ensures.undecided, c.are_new-2.ensures.within)

pub visit-requires-clause-high : goal.visit-requires-clause-high
visit-requires-clause-high c =
    let low : c.loop-w.w.seen < length c.loop-w.t.entries = omega (arith, c.loop-w-test.true, c.len.ensures) in
    let v = in_at c.loop-w.t.variables c.loop-w.t.entries c.loop-w.w.seen c.entry.result c.loop-w.invariant.5 low c.entry.ensures in
    omega (arith, v, ap (λ l. l.variable) c.opposite-l.ensures, c.loop-w.invariant.0, c.requires.same)

pub visit-requires-clause-off : goal.visit-requires-clause-off
visit-requires-clause-off c =
    let low : c.loop-w.w.seen < length c.loop-w.t.entries = omega (arith, c.loop-w-test.true, c.len.ensures) in
    let t = entry_true c.loop-w.t.entries c.loop-w.w.seen c.entry.result c.loop-w.invariant.4 low in
    subst (λ l. is_false (known_from c.loop-w.t.entries) l ≡ true) (sym c.opposite-l.ensures) (false_opposite (known_from c.loop-w.t.entries) c.entry.result.lit (subst (λ e. known_from c.loop-w.t.entries e.lit.variable ≡ Some e.lit.positive) (sym c.entry.ensures) t))

pub returns-in_err-hint-2-clause-added : goal.returns-in_err-hint-2-clause-added
returns-in_err-hint-2-clause-added c =
    added_all (citable c.args.f.now.constraints c.args.lemmas.now) c.args.t.now.entries c.loop-w.t.entries c.visit.new.t.entries c.loop-w.invariant.1 c.visit.ensures.added

pub returns-in-Some-2-clause-added : goal.returns-in-Some-2-clause-added
returns-in-Some-2-clause-added c =
    added_all (citable c.args.f.now.constraints c.args.lemmas.now) c.args.t.now.entries c.loop-w.t.entries c.visit.new.t.entries c.loop-w.invariant.1 c.visit.ensures.added

pub loop-w-preserved : goal.loop-w-preserved
loop-w-preserved c =
    let low : c.loop-w.w.seen < length c.loop-w.t.entries = omega (arith, c.loop-w-test.true, c.len.ensures) in
    let i = c.loop-w.invariant in
    let k = known_from c.loop-w.t.entries in
    let g = known_from c.visit.new.t.entries in
    let fresh = c.are_new-in-loop-w.ensures.undecided in
    let more : Inside (known_from c.loop-w.t.entries) (known_from c.visit.new.t.entries) = added_inside (citable c.args.f.now.constraints c.args.lemmas.now) c.loop-w.t.entries c.visit.new.t.entries c.visit.ensures.added fresh in
    let q = known_from (take c.loop-w.w.seen c.loop-w.t.entries) in
    let after : AllGuard (put (known_from (take c.loop-w.w.seen c.loop-w.t.entries)) (opposite c.opposite-l.result)) (known_from c.visit.new.t.entries) c.visit.new.w (citable c.args.f.now.constraints c.args.lemmas.now) = (rw c.in_default-2.is at c.in_ok-hint-2.ensures.guard) (known_from (take c.loop-w.w.seen c.loop-w.t.entries)) (front_inside c.loop-w.t.entries c.loop-w.w.seen i.4) i.2.2 in
    let lit : opposite c.opposite-l.result ≡ (get_or c.loop-w.t.entries c.loop-w.w.seen c.entry.result).lit = ap opposite c.opposite-l.ensures ∙ (opposite_twice c.entry.result.lit ∙ ap (λ e. e.lit) c.entry.ensures) in
    let next : AllGuard (put (known_from (take c.loop-w.w.seen c.loop-w.t.entries)) (get_or c.loop-w.t.entries c.loop-w.w.seen c.entry.result).lit) (known_from c.visit.new.t.entries) c.visit.new.w (citable c.args.f.now.constraints c.args.lemmas.now) = subst (λ l. AllGuard (put (known_from (take c.loop-w.w.seen c.loop-w.t.entries)) l) (known_from c.visit.new.t.entries) c.visit.new.w (citable c.args.f.now.constraints c.args.lemmas.now)) lit after in
    let longer : length c.loop-w.t.entries ≤ length c.visit.new.t.entries = omega (arith, ap length c.visit.ensures.added.1, length-append c.loop-w.t.entries (entries_of c.visit.ensures.added.0)) in
    let short : ShortSet (known_from c.visit.new.t.entries) (citable c.args.f.now.constraints c.args.lemmas.now) = shorts_more (known_from c.loop-w.t.entries) (known_from c.visit.new.t.entries) (citable c.args.f.now.constraints c.args.lemmas.now) more i.3 in
    (c.visit.ensures.variables ∙ i.0, added_all (citable c.args.f.now.constraints c.args.lemmas.now) c.args.t.now.entries c.loop-w.t.entries c.visit.new.t.entries i.1 c.visit.ensures.added, (((c.in_ok-hint-2.ensures.held, c.visit.ensures.pairs ∙ i.2.0.0.1, omega (arith, i.2.0.0.2, c.visit.ensures.len)), c.in_ok-hint-2.ensures.calm), omega (arith, low, longer, c.visit.ensures.seen), next_guard c.visit.new.w (citable c.args.f.now.constraints c.args.lemmas.now) c.loop-w.t.entries c.visit.new.t.entries (entries_of c.visit.ensures.added.0) c.loop-w.w.seen (c.visit.new.w.seen + 1) c.entry.result (known_from c.visit.new.t.entries) c.visit.ensures.added.1 low (ap (λ n. n + 1) c.visit.ensures.seen) next, inr short), short, fresh, c.are_new-in-loop-w.ensures.within)

pub returns-clause-end : goal.returns-clause-end
returns-clause-end c =
    ready_silent c.loop-w.w c.args.f.now c.args.lemmas.now c.loop-w.t.entries c.requires.once c.loop-w.invariant.2 (omega (arith, c.loop-w-test.false, c.len.ensures)) c.loop-w.invariant.3

pub returns-in-Some-clause-kept : goal.returns-in-Some-clause-kept
returns-in-Some-clause-kept c =
    (c.requires.ready.0.0, calm_added c.args.w.now (citable c.args.f.now.constraints c.args.lemmas.now) (citable c.args.f.now.constraints c.args.lemmas.now) c.args.t.now.entries c.look_shorts.new.t.entries c.look_shorts.ensures.added c.requires.ready.0.1)

pub returns-in-Some-2-clause-kept : goal.returns-in-Some-2-clause-kept
returns-in-Some-2-clause-kept c =
    ((c.in_ok-hint-2.ensures.held, c.visit.ensures.pairs ∙ c.loop-w.invariant.2.0.0.1, omega (arith, c.loop-w.invariant.2.0.0.2, c.visit.ensures.len)), c.in_ok-hint-2.ensures.calm)

pub visit-requires-clause-calm : goal.visit-requires-clause-calm
visit-requires-clause-calm c = c.loop-w.invariant.2.0.1

pub look_shorts-requires-clause-held : goal.look_shorts-requires-clause-held
look_shorts-requires-clause-held c = c.requires.ready.0.0.0
