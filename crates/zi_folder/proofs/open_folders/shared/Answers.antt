use Rattle.std.proofs.Common.{◌≡◌, rules, sym, ◌∙◌}
use Rattle.zi_folder.proofs.OpenedLemmas.{one_more_by}
use Rattle.zi_folder.proofs.open_folders.shared.Goals as goal

pub loop-number-preserved : goal.loop-number-preserved
loop-number-preserved c =
    let folder = c.index-folders-number.result in
    let found = c.in-Some.ensures.lookup in
    let same : c.in-Some.part.now ≡ folder.name = search rules in
    one_more_by (λ folder. folder.name) c.args.folders.now c.args.parts.now c.loop-number.number folder c.loop-number-test.true c.index-folders-number.is found.3.0 (sym (found.3.1 folder.name) ∙ same) c.loop-number.invariant
