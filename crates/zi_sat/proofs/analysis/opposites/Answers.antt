use Rattle.std.proofs.Common.{◌∙◌, ◌++◌, ◌∷◌, [], ap, not, true, false, arith, add-one}
use Rattle.zi_formula.specs.Truth.{opposite}
use Rattle.zi_proof.specs.Cells.{known_by}
use Rattle.zi_sat.proofs.EndLaws.{some_entry}
use Rattle.zi_sat.proofs.PlaceLaws.{gathered}
use Rattle.zi_sat.proofs.analysis.opposites.Goals as goal
use Rattle.zi_sat.proofs.analysis.opposites.Goals.{then-is_marked+in_ok-push, else-is_marked}

pub loop-place-preserved : goal.loop-place-preserved
loop-place-preserved c = elim c.if-is_marked.branch [
  | then-is_marked+in_ok-push w ↦
      let e = w.lits-is ∙ (w.in_ok-push.ensures.ok ∙ ap (λ l. c.loop-place.lits ++ l ∷ []) (w.opposite.ensures ∙ ap (λ x. opposite x.lit) w.entry.ensures)) in
      rw add-one (gathered (known_by c.args.marked.now) c.args.t.now.entries c.loop-place.place w.entry.result c.loop-place.lits c.if-is_marked.lits true (omega arith) (c.is_marked.ensures w.entry.result ∙ ap not w.if-is_marked.true) e ∙ c.loop-place.invariant)
  | else-is_marked w ↦
      rw add-one (gathered (known_by c.args.marked.now) c.args.t.now.entries c.loop-place.place some_entry c.loop-place.lits c.if-is_marked.lits false (omega arith) (c.is_marked.ensures some_entry ∙ ap not w.if-is_marked.false) w.lits-is ∙ c.loop-place.invariant)
]
