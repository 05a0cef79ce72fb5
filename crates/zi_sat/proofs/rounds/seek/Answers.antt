use Rattle.std.proofs.Common.{rules, arith, refl, true, ◌≡◌, ◌∙◌, ◌-◌, map, [], length, get_or, sym, ap, subst}
use Rattle.zi_formula.specs.Form.{OnceAll}
use Rattle.zi_proof.specs.Accepted.{citable}
use Rattle.zi_sat.specs.Moves.{Lawful, Added}
use Rattle.zi_sat.specs.Guard.{Adds, Fitting, Steady, Ready}
use Rattle.zi_sat.proofs.AddLaws.{once_citable, last_is, ready_start}
use Rattle.zi_sat.proofs.CutLaws.{steady_same, ready_again}
use Rattle.zi_sat.proofs.MoveLaws.{lawful_added}
use Rattle.zi_sat.proofs.FreshLaws.{hushed_added}
use Rattle.zi_sat.specs.Chain.{Spoke}
use Rattle.zi_sat.specs.Fresh.{Filled, Hushed}
use Rattle.zi_proof.specs.Known.{nothing}
use Rattle.zi_formula.specs.declared.formula.Constraint.TheVariants.{Clause}
use Rattle.zi_proof.specs.Accepted.{lemma_clause, lemmas_within}
use Rattle.zi_proof.proofs.Cites.{follows_within}
use Rattle.zi_sat.specs.Trail.{known_from}
use Rattle.zi_sat.proofs.CiteLaws.{silent_front}
use Rattle.zi_sat.proofs.BehindLaws.{behind_none, behind_more, longer_none, longer_more}
use Rattle.zi_sat.proofs.EndLaws.{all_model}
use Rattle.zi_sat.proofs.rounds.seek.Goals as goal

pub advance-requires-clause-earlier : goal.advance-requires-clause-earlier
advance-requires-clause-earlier g c =
    rw c.as_slice.ensures (follows_within c.args.f.now [] c.loop-marked.proof.lemmas c.loop-marked.invariant.4)

pub returns-in-None-clause-end : goal.returns-in-None-clause-end
returns-in-None-clause-end g c =
    let k = known_from c.advance.new.t.entries in
    let quiet = rw c.in-None.is at c.in_ok-advance.ensures.end in
    let decided = rw c.in-None.is at c.in_ok-advance.ensures.decided in
    (decided, all_model k c.args.f.now.variables c.args.f.now.constraints decided c.requires.within (silent_front k c.args.f.now.constraints (map lemma_clause c.as_slice.result.now) quiet))

pub advance-requires-clause-once : goal.advance-requires-clause-once
advance-requires-clause-once g c =
    subst (λ ms. OnceAll (citable c.args.f.now.constraints ms)) (sym c.as_slice.ensures) (once_citable c.args.f.now.constraints c.loop-marked.proof.lemmas c.requires.once c.loop-marked.invariant.7)

pub watch_last-requires-clause-within : goal.watch_last-requires-clause-within
watch_last-requires-clause-within g c =
    rw c.as_slice-in-loop-marked.ensures (follows_within c.args.f.now [] c.resolve.new.proof.lemmas c.resolve.ensures.log)

pub advance-requires-clause-ready : goal.advance-requires-clause-ready
advance-requires-clause-ready g c =
    subst (λ ms. Ready c.loop-marked.w c.args.f.now ms c.loop-marked.t.entries) (sym c.as_slice.ensures) c.loop-marked.invariant.10

pub loop-marked-init : goal.loop-marked-init
loop-marked-init g c =
    let fitting : Fitting c.in_ok-w.w c.args.f.now c.args.proof.now.lemmas = subst (Fitting c.in_ok-w.w c.args.f.now) c.as_slice-learned.ensures c.in_ok-w.ensures.fitting in
    (refl, refl, refl, c.requires.bound, c.requires.log, search rules, c.requires.lean, c.requires.filled, c.requires.fresh, search rules, ready_start c.in_ok-w.w c.args.f.now c.args.proof.now.lemmas c.args.t.now.entries c.requires.empty fitting c.in_ok-w.ensures.seen, search rules, behind_none _ c.args.t.now.entries c.requires.taken, longer_none c.args.proof.now.lemmas)

pub watch_all-requires-clause-earlier : goal.watch_all-requires-clause-earlier
watch_all-requires-clause-earlier g c =
    rw c.as_slice-learned.ensures (follows_within c.args.f.now [] c.args.proof.now.lemmas c.requires.log)

pub watch_all-requires-clause-filled : goal.watch_all-requires-clause-filled
watch_all-requires-clause-filled g c = subst Filled (sym c.as_slice-learned.ensures) c.requires.filled

pub watch_all-requires-clause-few : goal.watch_all-requires-clause-few
watch_all-requires-clause-few g c =
    omega (arith, ap length c.as_slice-learned.ensures, c.requires.bound, c.requires.few)

pub go_back-requires : goal.go_back-requires
go_back-requires g c =
    let grown = rw c.in_default.is at c.in_ok-found.ensures.grown in
    (c.advance.new.t.entries, grown.cut.place, c.in_ok-advance.ensures.behind, grown.cut.cut)

pub loop-marked-preserved : goal.loop-marked-preserved
loop-marked-preserved g c =
    let i = c.loop-marked.invariant in
    let cs = c.args.f.now.constraints in
    let ms = c.loop-marked.proof.lemmas in
    let ns = c.resolve.new.proof.lemmas in
    let fs = c.resolve.new.t.entries in
    let gs = c.say_last.new.t.entries in
    let rule = c.advance.ensures.rule ∙ i.1 in
    let grown = rw c.in_default.is at c.in_ok-found.ensures.grown in
    let last : (get_or c.as_slice-in-loop-marked.result.now (length c.as_slice-in-loop-marked.result.now - 1) grown.lemma).lits ≡ grown.lemma.lits = ap (λ ys. (get_or ys (length ys - 1) grown.lemma).lits) c.as_slice-in-loop-marked.ensures ∙ ap (λ m. m.lits) (last_is c.loop-marked.proof.lemmas c.resolve.new.proof.lemmas grown.lemma grown.added grown.lemma) in
    let last-2 : (get_or c.as_slice-in-loop-marked-2.result.now (length c.as_slice-in-loop-marked-2.result.now - 1) grown.lemma).lits ≡ grown.lemma.lits = ap (λ ys. (get_or ys (length ys - 1) grown.lemma).lits) c.as_slice-in-loop-marked-2.ensures ∙ ap (λ m. m.lits) (last_is c.loop-marked.proof.lemmas c.resolve.new.proof.lemmas grown.lemma grown.added grown.lemma) in
    let steady : Steady c.cut_to.new.w c.args.f.now c.loop-marked.proof.lemmas c.advance.new.t.entries = steady_same c.advance.new.w c.cut_to.new.w c.args.f.now c.as_slice.result.now c.loop-marked.proof.lemmas c.advance.new.t.entries c.cut_to.ensures.rows c.cut_to.ensures.pairs c.as_slice.ensures (rw c.in-Some.is at c.in_ok-advance.ensures.kept) in
    let hush : Hushed (citable c.args.f.now.constraints c.loop-marked.proof.lemmas) nothing c.advance.new.t.entries = subst (λ xs. Hushed (citable c.args.f.now.constraints xs) nothing c.advance.new.t.entries) c.as_slice.ensures c.advance.ensures.hushed in
    let adds : Adds c.cut_to.new.w c.watch_last.new.w (Clause grown.lemma.lits) = subst (λ x. Adds c.cut_to.new.w c.watch_last.new.w (Clause x)) last (c.in_ok-watch_last.ensures.adds grown.lemma) in
    let added : Added (citable c.args.f.now.constraints c.resolve.new.proof.lemmas) c.resolve.new.t.entries c.say_last.new.t.entries = subst (λ xs. Added (citable c.args.f.now.constraints xs) c.resolve.new.t.entries c.say_last.new.t.entries) c.as_slice-in-loop-marked-2.ensures c.say_last.ensures.added in
    let spoke : Spoke c.resolve.new.t.entries c.say_last.new.t.entries grown.lemma.lits = subst (Spoke c.resolve.new.t.entries c.say_last.new.t.entries) last-2 (c.in_ok-say_last.ensures.spoke grown.lemma) in
    let lawful : Lawful (citable c.args.f.now.constraints c.resolve.new.proof.lemmas) c.args.f.now.constraints (g.D.Decider.chooses c.args.d.now c.args.f.now.variables) c.resolve.new.t.entries = subst (λ ch. Lawful (citable c.args.f.now.constraints c.resolve.new.proof.lemmas) c.args.f.now.constraints (ch c.args.f.now.variables) c.resolve.new.t.entries) rule c.resolve.ensures.lawful in
    (c.say_last.ensures.variables ∙ (c.resolve.ensures.variables ∙ (c.advance.ensures.variables ∙ i.0)), c.go_back.ensures.rule ∙ rule, c.go_back.ensures.same ∙ (c.advance.ensures.needed ∙ i.2), (rw c.in_default.is at c.in_ok-found.ensures.end).1, c.resolve.ensures.log, lawful_added (citable c.args.f.now.constraints c.resolve.new.proof.lemmas) c.args.f.now.constraints (g.D.Decider.chooses c.args.d.now c.args.f.now.variables) c.resolve.new.t.entries c.say_last.new.t.entries lawful added, c.resolve.ensures.lean, rw c.in_default.is at c.in_ok-found.ensures.filled, c.resolve.ensures.fresh, hushed_added (citable c.args.f.now.constraints c.resolve.new.proof.lemmas) (citable c.args.f.now.constraints c.resolve.new.proof.lemmas) c.resolve.new.t.entries c.say_last.new.t.entries (rw c.in_default.is at c.in_ok-found.ensures.hushed) added, ready_again c.cut_to.new.w c.watch_last.new.w c.args.f.now c.loop-marked.proof.lemmas c.resolve.new.proof.lemmas grown.lemma grown.lemma.lits c.advance.new.t.entries c.resolve.new.t.entries c.say_last.new.t.entries spoke.0 steady hush c.are_new.ensures.undecided grown.added refl grown.cut c.watch_last.ensures.len adds (c.watch_last.ensures.seen ∙ (c.cut_to.ensures.seen ∙ c.len.ensures)) added (spoke.1 grown.cut.speaks.front grown.cut.speaks.last grown.cut.speaks.lits), search rules, behind_more _ c.resolve.new.t.entries c.say_last.new.t.entries _ c.go_back.ensures.behind added.1, longer_more c.args.proof.now.lemmas ms ns i.13 c.resolve.ensures.longer)

pub say_last-requires-clause-within : goal.say_last-requires-clause-within
say_last-requires-clause-within g c =
    let n = c.resolve.ensures.variables ∙ (c.advance.ensures.variables ∙ (c.loop-marked.invariant.0 ∙ c.requires.same)) in
    subst (λ n. lemmas_within n c.as_slice-in-loop-marked-2.result.now ≡ true) (sym n) (rw c.as_slice-in-loop-marked-2.ensures (follows_within c.args.f.now [] c.resolve.new.proof.lemmas c.resolve.ensures.log))

pub returns-in_err-say_last-clause-lawful : goal.returns-in_err-say_last-clause-lawful
returns-in_err-say_last-clause-lawful g c =
    let rule = c.advance.ensures.rule ∙ c.loop-marked.invariant.1 in
    let lawful : Lawful (citable c.args.f.now.constraints c.resolve.new.proof.lemmas) c.args.f.now.constraints (g.D.Decider.chooses c.args.d.now c.args.f.now.variables) c.resolve.new.t.entries = subst (λ ch. Lawful (citable c.args.f.now.constraints c.resolve.new.proof.lemmas) c.args.f.now.constraints (ch c.args.f.now.variables) c.resolve.new.t.entries) rule c.resolve.ensures.lawful in
    let added : Added (citable c.args.f.now.constraints c.resolve.new.proof.lemmas) c.resolve.new.t.entries c.say_last.new.t.entries = subst (λ xs. Added (citable c.args.f.now.constraints xs) c.resolve.new.t.entries c.say_last.new.t.entries) c.as_slice-in-loop-marked-2.ensures c.say_last.ensures.added in
    lawful_added (citable c.args.f.now.constraints c.resolve.new.proof.lemmas) c.args.f.now.constraints (g.D.Decider.chooses c.args.d.now c.args.f.now.variables) c.resolve.new.t.entries c.say_last.new.t.entries lawful added
