use Rattle.std.proofs.Common.{◌≡◌, ◌∙◌, ◌<◌, ◌≤◌, ◌+◌, ◌*◌, ◌-◌, ◌++◌, List, set, ◌∷◌, [], ℕ, length, get_or, take, subst, sym, refl, ap, arith, Some, not, true}
use Rattle.std.specs.List.{slice_get}
use Rattle.zi_formula.specs.declared.formula.Constraint.TheVariants.{Clause}
use Rattle.zi_proof.specs.Known.{Known, is_false}
use Rattle.zi_proof.specs.Accepted.{citable}
use Rattle.zi_sat.specs.Trail.{known_from}
use Rattle.zi_sat.specs.Marking.{Inside}
use Rattle.zi_sat.specs.Rows.{Has, row_at}
use Rattle.zi_sat.specs.Guard.{pair_at, row_of, Fits, Held, Guard, Visited, Each, AllGuard}
use Rattle.zi_sat.specs.declared.watch.Visit.TheVariants.{Stays, Moves, Clashes}
use Rattle.zi_sat.proofs.LessLaws.{says_within}
use Rattle.zi_sat.proofs.CiteLaws.{contradicts}
use Rattle.zi_sat.proofs.GuardLaws.{cited_next, row_low, citable_within}
use Rattle.zi_sat.proofs.MoveLaws.{added_all, added_none}
use Rattle.zi_sat.proofs.RowLaws.{front_all, front_none, front_next}
use Rattle.zi_sat.proofs.VisitLaws.{added_inside, inside_next, Partly, held_watches, fits_place, start_guard, end_guard, step_guard, stays_on, moves_on, moves_held, all_same, stays_same}
use Rattle.zi_sat.proofs.CalmLaws.{step_calm}
use Rattle.zi_sat.proofs.MovedLaws.{MovedRows, moved_rows, moved_place, moves_high}
use Rattle.zi_formula.specs.Form.{ConstraintWithin}
use Rattle.zi_proof.proofs.Cites.{within_at}
use Rattle.zi_sat.specs.declared.rows.Watcher.{Watcher}
use Rattle.zi_formula.specs.declared.formula.Constraint.{Constraint}
use Rattle.zi_sat.proofs.watches.visit.Goals as goal

pub loop-j-init : goal.loop-j-init
loop-j-init c =
    (refl, refl, refl, refl, added_none (citable c.args.f.now.constraints c.args.lemmas.now) c.args.t.now.entries, λ x b e. e, c.requires.held, λ q i g. start_guard (citable c.args.f.now.constraints c.args.lemmas.now) c.args.w.now.rows c.row-r.result (take c.len_of-j.result (row_at c.args.w.now.rows c.row-r.result)) (pair_at c.args.w.now.pairs) c.args.l q (known_from c.args.t.now.entries) c.row-r.ensures (front_all (row_at c.args.w.now.rows c.row-r.result) c.len_of-j.result c.len_of-j.ensures) c.requires.held.0 g, c.requires.calm, omega (arith, c.len_of-j.ensures), subst (λ r. r < length c.args.w.now.rows) (sym c.row-r.ensures) (row_low c.args.f.now.variables (length c.args.w.now.rows) c.args.l c.requires.high c.requires.rows))

pub at-e-requires-clause-place : goal.at-e-requires-clause-place
at-e-requires-clause-place c = omega (arith, c.loop-j-test.true, c.loop-j.invariant.9)

pub visit_one-requires-clause-off : goal.visit_one-requires-clause-off
visit_one-requires-clause-off c =
    says_within (known_from c.args.t.now.entries) (known_from c.loop-j.t.entries) c.args.l.variable (not c.args.l.positive) c.loop-j.invariant.5 c.requires.off

pub visit_one-requires-clause-fits : goal.visit_one-requires-clause-fits
visit_one-requires-clause-fits c =
    let low : c.loop-j.j - 1 < length (row_at c.loop-j.w.rows c.row-r.result) = omega (arith, c.loop-j-test.true, c.loop-j.invariant.9) in
    let fit : Fits (citable c.args.f.now.constraints c.args.lemmas.now) c.row-r.result c.at-e.result = subst (Fits (citable c.args.f.now.constraints c.args.lemmas.now) c.row-r.result) (sym (c.at-e.ensures c.at-e.result)) (c.loop-j.invariant.6.1 c.row-r.result (c.loop-j.j - 1) c.at-e.result low) in
    subst (λ r. Fits (citable c.args.f.now.constraints c.args.lemmas.now) r c.at-e.result) c.row-r.ensures fit

pub visit_one-requires-clause-pair : goal.visit_one-requires-clause-pair
visit_one-requires-clause-pair c =
    λ ls e. held_watches (Has c.loop-j.w.rows) c.at-e.result.place ls (pair_at c.loop-j.w.pairs c.at-e.result.place) (c.loop-j.invariant.6.0 c.at-e.result.place (Clause ls) e)

pub loop-j-preserved-in-Stays : goal.loop-j-preserved-in-Stays
loop-j-preserved-in-Stays c =
    let i = c.loop-j.invariant in
    let low : c.loop-j.j - 1 < length (row_at c.loop-j.w.rows c.row-r.result) = omega (arith, c.loop-j-test.true, c.loop-j.invariant.9) in
    let more : Inside (known_from c.loop-j.t.entries) (known_from c.visit_one.new.t.entries) = added_inside (citable c.args.f.now.constraints c.args.lemmas.now) c.loop-j.t.entries c.visit_one.new.t.entries c.visit_one.ensures.added c.are_new-in-loop-j.ensures.undecided in
    let inside : Inside (known_from c.args.t.now.entries) (known_from c.visit_one.new.t.entries) = inside_next (known_from c.args.t.now.entries) (known_from c.loop-j.t.entries) (known_from c.visit_one.new.t.entries) i.5 more in
    let off : is_false (known_from c.visit_one.new.t.entries) c.args.l ≡ true = says_within (known_from c.args.t.now.entries) (known_from c.visit_one.new.t.entries) c.args.l.variable (not c.args.l.positive) inside c.requires.off in
    let rest : take c.loop-j.j (row_at c.loop-j.w.rows c.row-r.result) ≡ take (c.loop-j.j - 1) (row_at c.loop-j.w.rows c.row-r.result) ++ c.at-e.result ∷ [] = front_next (row_at c.loop-j.w.rows c.row-r.result) c.loop-j.j c.at-e.result (omega (arith, c.loop-j-test.true)) i.9 c.at-e.ensures in
    let seen : (x : Constraint) → slice_get (citable c.args.f.now.constraints c.args.lemmas.now) c.at-e.result.place ≡ Some x → Visited x c.args.l (known_from c.visit_one.new.t.entries) ((pair_at c.loop-j.w.pairs) c.at-e.result.place) ((pair_at c.visit_one.new.pairs) c.at-e.result.place) Stays = λ x e. rw c.in-Stays.is at (c.in_ok-found.ensures.looks x e) in
    (c.visit_one.ensures.variables ∙ i.0, i.1, c.visit_one.ensures.pairs ∙ i.2, i.3, added_all (citable c.args.f.now.constraints c.args.lemmas.now) c.args.t.now.entries c.loop-j.t.entries c.visit_one.new.t.entries i.4 c.visit_one.ensures.added, inside, (all_same (citable c.args.f.now.constraints c.args.lemmas.now) c.at-e.result.place (pair_at c.loop-j.w.pairs) (pair_at c.visit_one.new.pairs) (Held (Has c.loop-j.w.rows)) c.visit_one.ensures.others (λ x e. stays_same x c.args.l (known_from c.visit_one.new.t.entries) ((pair_at c.loop-j.w.pairs) c.at-e.result.place) ((pair_at c.visit_one.new.pairs) c.at-e.result.place) (seen x e)) i.6.0, i.6.1), λ q a g. step_guard (citable c.args.f.now.constraints c.args.lemmas.now) (Has c.loop-j.w.rows) (take c.loop-j.j (row_at c.loop-j.w.rows c.row-r.result)) (take (c.loop-j.j - 1) (row_at c.loop-j.w.rows c.row-r.result)) c.at-e.result (pair_at c.loop-j.w.pairs) (pair_at c.visit_one.new.pairs) c.args.l Stays q (known_from c.loop-j.t.entries) (known_from c.visit_one.new.t.entries) stays_on rest c.visit_one.ensures.others (inside_next q (known_from c.args.t.now.entries) (known_from c.visit_one.new.t.entries) a inside) more off i.6.0 seen (i.7 q a g), step_calm (citable c.args.f.now.constraints c.args.lemmas.now) (citable c.args.f.now.constraints c.args.lemmas.now) c.loop-j.t.entries c.visit_one.new.t.entries c.at-e.result.place (pair_at c.loop-j.w.pairs) (pair_at c.visit_one.new.pairs) c.args.l Stays c.visit_one.ensures.others c.visit_one.ensures.added c.are_new-in-loop-j.ensures.undecided seen i.8, omega (arith, low), i.10)

pub loop-j-preserved : goal.loop-j-preserved
loop-j-preserved c =
    let i = c.loop-j.invariant in
    let low : c.loop-j.j - 1 < length (row_at c.loop-j.w.rows c.row-r.result) = omega (arith, c.loop-j-test.true, c.loop-j.invariant.9) in
    let more : Inside (known_from c.loop-j.t.entries) (known_from c.visit_one.new.t.entries) = added_inside (citable c.args.f.now.constraints c.args.lemmas.now) c.loop-j.t.entries c.visit_one.new.t.entries c.visit_one.ensures.added c.are_new-in-loop-j.ensures.undecided in
    let inside : Inside (known_from c.args.t.now.entries) (known_from c.visit_one.new.t.entries) = inside_next (known_from c.args.t.now.entries) (known_from c.loop-j.t.entries) (known_from c.visit_one.new.t.entries) i.5 more in
    let off : is_false (known_from c.visit_one.new.t.entries) c.args.l ≡ true = says_within (known_from c.args.t.now.entries) (known_from c.visit_one.new.t.entries) c.args.l.variable (not c.args.l.positive) inside c.requires.off in
    let rest : take c.loop-j.j (row_at c.loop-j.w.rows c.row-r.result) ≡ take (c.loop-j.j - 1) (row_at c.loop-j.w.rows c.row-r.result) ++ c.at-e.result ∷ [] = front_next (row_at c.loop-j.w.rows c.row-r.result) c.loop-j.j c.at-e.result (omega (arith, c.loop-j-test.true)) i.9 c.at-e.ensures in
    let seen : (x : Constraint) → slice_get (citable c.args.f.now.constraints c.args.lemmas.now) c.at-e.result.place ≡ Some x → Visited x c.args.l (known_from c.visit_one.new.t.entries) ((pair_at c.loop-j.w.pairs) c.at-e.result.place) ((pair_at c.visit_one.new.pairs) c.at-e.result.place) (Moves c.in-Moves.pair) = λ x e. rw c.in-Moves.is at (c.in_ok-found.ensures.looks x e) in
    let fit = c.loop-j.invariant.6.1 c.row-r.result (c.loop-j.j - 1) c.at-e.result low in
    let at : slice_get (citable c.args.f.now.constraints c.args.lemmas.now) c.at-e.result.place ≡ Some fit.0 = ap (λ w. slice_get (citable c.args.f.now.constraints c.args.lemmas.now) w.place) (c.at-e.ensures c.at-e.result) ∙ fit.1 in
    let wide : c.args.f.now.variables * 2 + 2 ≤ length c.loop-j.w.rows = omega (arith, c.requires.rows, i.1) in
    let within : ConstraintWithin c.args.f.now.variables fit.0 = within_at c.args.f.now.variables (citable c.args.f.now.constraints c.args.lemmas.now) c.at-e.result.place fit.0 (citable_within c.args.f.now.variables c.args.f.now.constraints c.args.lemmas.now c.requires.within c.requires.earlier) at in
    let high : row_of c.in-Moves.pair.first < length c.loop-j.w.rows = row_low c.args.f.now.variables (length c.loop-j.w.rows) c.in-Moves.pair.first (moves_high c.args.f.now.variables fit.0 c.args.l (known_from c.visit_one.new.t.entries) ((pair_at c.loop-j.w.pairs) c.at-e.result.place) ((pair_at c.visit_one.new.pairs) c.at-e.result.place) c.in-Moves.pair within (seen fit.0 at)) wide in
    let put : c.add.new.self ≡ set c.loop-j.w.rows (row_of c.in-Moves.pair.first) (row_at c.loop-j.w.rows (row_of c.in-Moves.pair.first) ++ record { place = c.at-e.result.place; block = c.in-Moves.pair.second } ∷ []) = subst (λ q. c.add.new.self ≡ set c.loop-j.w.rows q (row_at c.loop-j.w.rows q ++ record { place = c.at-e.result.place; block = c.in-Moves.pair.second } ∷ [])) c.row.ensures c.in_ok-add-in-Moves.ensures.ok in
    let r : MovedRows (citable c.args.f.now.constraints c.args.lemmas.now) c.loop-j.w.rows c.take_out.new.self c.args.l c.at-e.result.place c.row-r.result (c.loop-j.j - 1) (row_of c.in-Moves.pair.first) = moved_rows (citable c.args.f.now.constraints c.args.lemmas.now) c.loop-j.w.rows c.add.new.self c.take_out.new.self c.args.l c.row-r.result (c.loop-j.j - 1) c.at-e.result c.take_out.result (known_from c.visit_one.new.t.entries) ((pair_at c.loop-j.w.pairs) c.at-e.result.place) ((pair_at c.visit_one.new.pairs) c.at-e.result.place) c.in-Moves.pair fit.0 c.row-r.ensures high i.10 low c.at-e.ensures put c.take_out.ensures.rows at off (i.6.0 c.at-e.result.place fit.0 at) (seen fit.0 at) i.6.1 in
    let guard : (q : Known) → Inside q (known_from c.args.t.now.entries) → AllGuard q (known_from c.args.t.now.entries) c.args.w.now (citable c.args.f.now.constraints c.args.lemmas.now) → Each (citable c.args.f.now.constraints c.args.lemmas.now) (λ n x. Partly q (known_from c.visit_one.new.t.entries) c.args.l (take (c.loop-j.j - 1) (row_at c.loop-j.w.rows c.row-r.result)) n ((pair_at c.visit_one.new.pairs) n) x) = λ q a g. step_guard (citable c.args.f.now.constraints c.args.lemmas.now) (Has c.loop-j.w.rows) (take c.loop-j.j (row_at c.loop-j.w.rows c.row-r.result)) (take (c.loop-j.j - 1) (row_at c.loop-j.w.rows c.row-r.result)) c.at-e.result (pair_at c.loop-j.w.pairs) (pair_at c.visit_one.new.pairs) c.args.l (Moves c.in-Moves.pair) q (known_from c.loop-j.t.entries) (known_from c.visit_one.new.t.entries) (moves_on c.in-Moves.pair) rest c.visit_one.ensures.others (inside_next q (known_from c.args.t.now.entries) (known_from c.visit_one.new.t.entries) a inside) more off i.6.0 seen (i.7 q a g) in
    (c.visit_one.ensures.variables ∙ i.0, r.len ∙ i.1, c.visit_one.ensures.pairs ∙ i.2, i.3, added_all (citable c.args.f.now.constraints c.args.lemmas.now) c.args.t.now.entries c.loop-j.t.entries c.visit_one.new.t.entries i.4 c.visit_one.ensures.added, inside, (moves_held (citable c.args.f.now.constraints c.args.lemmas.now) c.loop-j.w.rows c.take_out.new.self c.at-e.result.place (pair_at c.loop-j.w.pairs) (pair_at c.visit_one.new.pairs) c.args.l (known_from c.visit_one.new.t.entries) c.in-Moves.pair r.leaves r.has c.visit_one.ensures.others seen i.6.0, r.fit), λ q a g. subst (λ ws. Each (citable c.args.f.now.constraints c.args.lemmas.now) (λ n x. Partly q (known_from c.visit_one.new.t.entries) c.args.l ws n ((pair_at c.visit_one.new.pairs) n) x)) (sym r.front) (guard q a g), step_calm (citable c.args.f.now.constraints c.args.lemmas.now) (citable c.args.f.now.constraints c.args.lemmas.now) c.loop-j.t.entries c.visit_one.new.t.entries c.at-e.result.place (pair_at c.loop-j.w.pairs) (pair_at c.visit_one.new.pairs) c.args.l (Moves c.in-Moves.pair) c.visit_one.ensures.others c.visit_one.ensures.added c.are_new-in-loop-j.ensures.undecided seen i.8, r.bound, omega (arith, r.len, i.10))

pub returns-in_err-found-clause-added : goal.returns-in_err-found-clause-added
returns-in_err-found-clause-added c =
    added_all (citable c.args.f.now.constraints c.args.lemmas.now) c.args.t.now.entries c.loop-j.t.entries c.visit_one.new.t.entries c.loop-j.invariant.4 c.visit_one.ensures.added

pub returns-in_err-add-in-Moves-clause-added : goal.returns-in_err-add-in-Moves-clause-added
returns-in_err-add-in-Moves-clause-added c =
    added_all (citable c.args.f.now.constraints c.args.lemmas.now) c.args.t.now.entries c.loop-j.t.entries c.visit_one.new.t.entries c.loop-j.invariant.4 c.visit_one.ensures.added

pub returns-in-Clashes-clause-added : goal.returns-in-Clashes-clause-added
returns-in-Clashes-clause-added c =
    added_all (citable c.args.f.now.constraints c.args.lemmas.now) c.args.t.now.entries c.loop-j.t.entries c.visit_one.new.t.entries c.loop-j.invariant.4 c.visit_one.ensures.added

pub returns-in-Clashes-clause-held : goal.returns-in-Clashes-clause-held
returns-in-Clashes-clause-held c =
    (all_same (citable c.args.f.now.constraints c.args.lemmas.now) c.at-e.result.place (pair_at c.loop-j.w.pairs) (pair_at c.visit_one.new.pairs) (Held (Has c.loop-j.w.rows)) c.visit_one.ensures.others (λ x e. (rw c.in-Clashes.is at (c.in_ok-found.ensures.looks x e)).1) c.loop-j.invariant.6.0, c.loop-j.invariant.6.1)

pub returns-in-Clashes-clause-calm : goal.returns-in-Clashes-clause-calm
returns-in-Clashes-clause-calm c =
    step_calm (citable c.args.f.now.constraints c.args.lemmas.now) (citable c.args.f.now.constraints c.args.lemmas.now) c.loop-j.t.entries c.visit_one.new.t.entries c.at-e.result.place (pair_at c.loop-j.w.pairs) (pair_at c.visit_one.new.pairs) c.args.l Clashes c.visit_one.ensures.others c.visit_one.ensures.added c.are_new-in-loop-j.ensures.undecided (λ x e. rw c.in-Clashes.is at (c.in_ok-found.ensures.looks x e)) c.loop-j.invariant.8

pub returns-in-Clashes-clause-clash : goal.returns-in-Clashes-clause-clash
returns-in-Clashes-clause-clash c =
    let low : c.loop-j.j - 1 < length (row_at c.loop-j.w.rows c.row-r.result) = omega (arith, c.loop-j-test.true, c.loop-j.invariant.9) in
    let fit = c.loop-j.invariant.6.1 c.row-r.result (c.loop-j.j - 1) c.at-e.result low in
    let at : slice_get (citable c.args.f.now.constraints c.args.lemmas.now) c.at-e.result.place ≡ Some fit.0 = ap (λ w. slice_get (citable c.args.f.now.constraints c.args.lemmas.now) w.place) (c.at-e.ensures c.at-e.result) ∙ fit.1 in
    contradicts (known_from c.visit_one.new.t.entries) _ fit.0 (cited_next (citable c.args.f.now.constraints c.args.lemmas.now) c.at-e.result.place fit.0 at) (rw c.in-Clashes.is at (c.in_ok-found.ensures.looks fit.0 at)).0

pub returns-clause-guard : goal.returns-clause-guard
returns-clause-guard c =
    λ q a g. end_guard (citable c.args.f.now.constraints c.args.lemmas.now) (take c.loop-j.j (row_at c.loop-j.w.rows c.row-r.result)) (pair_at c.loop-j.w.pairs) c.args.l q (known_from c.loop-j.t.entries) (front_none (row_at c.loop-j.w.rows c.row-r.result) c.loop-j.j (omega (arith, c.loop-j-test.false))) (c.loop-j.invariant.7 q a g)

pub add-requires : goal.add-requires
add-requires c =
    let i = c.loop-j.invariant in
    let low : c.loop-j.j - 1 < length (row_at c.loop-j.w.rows c.row-r.result) = omega (arith, c.loop-j-test.true, c.loop-j.invariant.9) in
    let more : Inside (known_from c.loop-j.t.entries) (known_from c.visit_one.new.t.entries) = added_inside (citable c.args.f.now.constraints c.args.lemmas.now) c.loop-j.t.entries c.visit_one.new.t.entries c.visit_one.ensures.added c.are_new-in-loop-j.ensures.undecided in
    let inside : Inside (known_from c.args.t.now.entries) (known_from c.visit_one.new.t.entries) = inside_next (known_from c.args.t.now.entries) (known_from c.loop-j.t.entries) (known_from c.visit_one.new.t.entries) i.5 more in
    let off : is_false (known_from c.visit_one.new.t.entries) c.args.l ≡ true = says_within (known_from c.args.t.now.entries) (known_from c.visit_one.new.t.entries) c.args.l.variable (not c.args.l.positive) inside c.requires.off in
    let seen : (x : Constraint) → slice_get (citable c.args.f.now.constraints c.args.lemmas.now) c.at-e.result.place ≡ Some x → Visited x c.args.l (known_from c.visit_one.new.t.entries) ((pair_at c.loop-j.w.pairs) c.at-e.result.place) ((pair_at c.visit_one.new.pairs) c.at-e.result.place) (Moves c.in-Moves.pair) = λ x e. rw c.in-Moves.is at (c.in_ok-found.ensures.looks x e) in
    let fit = c.loop-j.invariant.6.1 c.row-r.result (c.loop-j.j - 1) c.at-e.result low in
    let at : slice_get (citable c.args.f.now.constraints c.args.lemmas.now) c.at-e.result.place ≡ Some fit.0 = ap (λ w. slice_get (citable c.args.f.now.constraints c.args.lemmas.now) w.place) (c.at-e.ensures c.at-e.result) ∙ fit.1 in
    let wide : c.args.f.now.variables * 2 + 2 ≤ length c.loop-j.w.rows = omega (arith, c.requires.rows, i.1) in
    let within : ConstraintWithin c.args.f.now.variables fit.0 = within_at c.args.f.now.variables (citable c.args.f.now.constraints c.args.lemmas.now) c.at-e.result.place fit.0 (citable_within c.args.f.now.variables c.args.f.now.constraints c.args.lemmas.now c.requires.within c.requires.earlier) at in
    let high : row_of c.in-Moves.pair.first < length c.loop-j.w.rows = row_low c.args.f.now.variables (length c.loop-j.w.rows) c.in-Moves.pair.first (moves_high c.args.f.now.variables fit.0 c.args.l (known_from c.visit_one.new.t.entries) ((pair_at c.loop-j.w.pairs) c.at-e.result.place) ((pair_at c.visit_one.new.pairs) c.at-e.result.place) c.in-Moves.pair within (seen fit.0 at)) wide in
    subst (λ q. q < length c.loop-j.w.rows) (sym c.row.ensures) high

pub overflow_add-result : goal.overflow_add-result
overflow_add-result c =
    let low : c.loop-j.j - 1 < length (row_at c.loop-j.w.rows c.row-r.result) = omega (arith, c.loop-j-test.true, c.loop-j.invariant.9) in
    let fit : Fits (citable c.args.f.now.constraints c.args.lemmas.now) c.row-r.result c.at-e.result = subst (Fits (citable c.args.f.now.constraints c.args.lemmas.now) c.row-r.result) (sym (c.at-e.ensures c.at-e.result)) (c.loop-j.invariant.6.1 c.row-r.result (c.loop-j.j - 1) c.at-e.result low) in
    omega (arith, c.requires.few, fits_place c.args.f.now.constraints c.args.lemmas.now c.row-r.result c.at-e.result fit)

pub take_out-requires-clause-row : goal.take_out-requires-clause-row
take_out-requires-clause-row c = omega (arith, c.add.ensures.len, c.loop-j.invariant.10)

pub take_out-requires-clause-place : goal.take_out-requires-clause-place
take_out-requires-clause-place c =
    let i = c.loop-j.invariant in
    let low : c.loop-j.j - 1 < length (row_at c.loop-j.w.rows c.row-r.result) = omega (arith, c.loop-j-test.true, c.loop-j.invariant.9) in
    let more : Inside (known_from c.loop-j.t.entries) (known_from c.visit_one.new.t.entries) = added_inside (citable c.args.f.now.constraints c.args.lemmas.now) c.loop-j.t.entries c.visit_one.new.t.entries c.visit_one.ensures.added c.are_new-in-loop-j.ensures.undecided in
    let inside : Inside (known_from c.args.t.now.entries) (known_from c.visit_one.new.t.entries) = inside_next (known_from c.args.t.now.entries) (known_from c.loop-j.t.entries) (known_from c.visit_one.new.t.entries) i.5 more in
    let off : is_false (known_from c.visit_one.new.t.entries) c.args.l ≡ true = says_within (known_from c.args.t.now.entries) (known_from c.visit_one.new.t.entries) c.args.l.variable (not c.args.l.positive) inside c.requires.off in
    let seen : (x : Constraint) → slice_get (citable c.args.f.now.constraints c.args.lemmas.now) c.at-e.result.place ≡ Some x → Visited x c.args.l (known_from c.visit_one.new.t.entries) ((pair_at c.loop-j.w.pairs) c.at-e.result.place) ((pair_at c.visit_one.new.pairs) c.at-e.result.place) (Moves c.in-Moves.pair) = λ x e. rw c.in-Moves.is at (c.in_ok-found.ensures.looks x e) in
    let fit = c.loop-j.invariant.6.1 c.row-r.result (c.loop-j.j - 1) c.at-e.result low in
    let at : slice_get (citable c.args.f.now.constraints c.args.lemmas.now) c.at-e.result.place ≡ Some fit.0 = ap (λ w. slice_get (citable c.args.f.now.constraints c.args.lemmas.now) w.place) (c.at-e.ensures c.at-e.result) ∙ fit.1 in
    let put : c.add.new.self ≡ set c.loop-j.w.rows (row_of c.in-Moves.pair.first) (row_at c.loop-j.w.rows (row_of c.in-Moves.pair.first) ++ record { place = c.at-e.result.place; block = c.in-Moves.pair.second } ∷ []) = subst (λ q. c.add.new.self ≡ set c.loop-j.w.rows q (row_at c.loop-j.w.rows q ++ record { place = c.at-e.result.place; block = c.in-Moves.pair.second } ∷ [])) c.row.ensures c.in_ok-add-in-Moves.ensures.ok in
    moved_place c.loop-j.w.rows c.add.new.self c.args.l c.row-r.result (c.loop-j.j - 1) (record { place = c.at-e.result.place; block = c.in-Moves.pair.second }) (known_from c.visit_one.new.t.entries) ((pair_at c.loop-j.w.pairs) c.at-e.result.place) ((pair_at c.visit_one.new.pairs) c.at-e.result.place) c.in-Moves.pair fit.0 c.row-r.ensures put off (seen fit.0 at) low
