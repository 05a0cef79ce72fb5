use Rattle.zi_fetching.proofs.FetchLaws.{tree_unmade, tree_unadded, tree_added}
use Rattle.zi_fetching.proofs.item.fetch_tree.Goals as goal

pub returns-in-Err : goal.returns-in-Err
returns-in-Err g c = tree_unmade _ _ _ _ _ c.in-Err.fault c.unmade.result c.in-Err.ensures.refuses c.unmade.ensures

pub returns-in-Ok-add_tree : goal.returns-in-Ok-add_tree
returns-in-Ok-add_tree g c = tree_added _ _ _ _ _ _ c.in-Ok.tree c.in-Ok-add_tree.field-0 c.in-Ok.ensures.makes c.in-Ok-add_tree.ensures

pub returns-in-Err-add_tree : goal.returns-in-Err-add_tree
returns-in-Err-add_tree g c = tree_unadded _ _ _ _ _ _ c.in-Ok.tree c.in-Err-add_tree.fault c.unadded.result c.in-Ok.ensures.makes c.in-Err-add_tree.ensures c.unadded.ensures
