use Rattle.std.proofs.Common.{◌++◌, ◌∷◌, sym, ◌∙◌, ap}
use Rattle.zi_tree.specs.Walk.{spot_of}
use Rattle.zi_tree.specs.Waiting.{all_in, folder_of, waiting_places}
use Rattle.zi_tree.proofs.WalkLemmas.{waiting_more}
use Rattle.zi_tree.proofs.walk.leave_folder.Goals as goal

pub returns-in_ok-push : goal.returns-in_ok-push
returns-in_ok-push c =
    let p = c.args.place in
    let ws = c.args.waiting.now.items in
    let path = c.in_ok-path-2.ensures ∙ c.in_ok-path.ensures in
    ap waiting_places c.in_ok-push.ensures.items ∙ waiting_more ws _ ∙ ap (λ q. spot_of p ∷ all_in q c.in-Folder.inside ++ waiting_places ws) path
    ∙ ap (λ x. folder_of x (spot_of p) ++ waiting_places ws) (sym c.in-Folder.is)
