use Rattle.std.proofs.Common.{List, ◌++◌, ◌∙◌, ap, ℕ}
use Rattle.zi_memory.proofs.ReadingLemmas.{step_first, step_after}
use Rattle.zi_memory.proofs.reading.spelled_path.Goals as goal
use Rattle.zi_memory.proofs.reading.spelled_path.Goals.{then-i-gt0+in_ok-push_str, else-i-gt0}

pub loop-i-preserved : goal.loop-i-preserved
loop-i-preserved c =
    let made = c.in_ok-push_str-2.ensures.ok ∙ ap (λ (p : List ℕ). c.if-i-gt0.text ++ p) c.as_str.ensures in
    elim c.if-i-gt0.branch [
      | then-i-gt0+in_ok-push_str w ↦ step_after c.as_slice-part-items.result.now c.loop-i.i c.loop-i.text c.if-i-gt0.text c.push_str-in-loop-i.new.self c.part-item.result c.loop-i-test.true c.loop-i.invariant w.if-i-gt0.true
          (w.text-is ∙ w.in_ok-push_str.ensures.ok) c.part-item.is made
      | else-i-gt0 w ↦ step_first c.as_slice-part-items.result.now c.loop-i.i c.loop-i.text c.push_str-in-loop-i.new.self c.part-item.result c.loop-i-test.true c.loop-i.invariant w.if-i-gt0.false c.part-item.is
          (made ∙ ap (λ (t : List ℕ). t ++ c.part-item.result) w.text-is)
    ]
