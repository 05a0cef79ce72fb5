use Rattle.std.proofs.Common.{◌++◌, take, ap, sym, ◌∙◌, append_assoc}
use Rattle.zi_tree.specs.Paths.{items}
use Rattle.zi_recipe.specs.Levels.{folder_of, folders_among, trees}
use Rattle.zi_recipe.proofs.LevelLemmas.{more_folders}
use Rattle.zi_recipe.proofs.counts.add_folders.Goals as goal

pub loop-i-preserved : goal.loop-i-preserved
loop-i-preserved c =
    let is = items c.args.folder.now in
    let i = c.loop-i.i in
    let x = c.node_at.result.now in
    let old = trees c.args.into.now.items in
    c.in_ok-add_folder.ensures ∙ ap (λ l. l ++ folder_of x) c.loop-i.invariant ∙ append_assoc old (folders_among (take i is)) (folder_of x)
    ∙ ap (λ l. old ++ l) (sym (more_folders is i x c.node_at.ensures))
