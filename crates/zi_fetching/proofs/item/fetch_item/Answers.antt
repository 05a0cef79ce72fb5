use Rattle.std.proofs.Common.{sym, ◌∙◌}
use Rattle.std.proofs.lemmas.Result.{err_from_is_err_and}
use Rattle.zi_fetching.proofs.FetchLaws.{item_there, item_unsure, item_tried, has_way}
use Rattle.zi_fetching.proofs.item.fetch_item.Goals as goal

pub returns-in_err-there : goal.returns-in_err-there
returns-in_err-there g c =
    let q = err_from_is_err_and c.from_residual.result c.from_residual.ensures.1 in
    rw q.1 (item_unsure _ _ _ _ _ _ q.0 q.2)

pub returns-then-there : goal.returns-then-there
returns-then-there g c = item_there _ _ _ _ _ (sym c.in_ok-there.ensures ∙ c.if-there.true)

pub unreachable-requires : goal.unreachable-requires
unreachable-requires g c =
    has_way (record { universe = c.args.names.now; picks = c.args.picks.now }) c.args.stored.now c.args.item.now c.requires (sym c.in_ok-there.ensures ∙ c.if-there.false) c.in_default.ensures

pub returns-in_err-add : goal.returns-in_err-add
returns-in_err-add g c =
    let q = err_from_is_err_and c.from_residual-in_err-add.result c.from_residual-in_err-add.ensures.1 in
    rw q.1 (item_unsure _ _ _ _ _ _ q.0 q.2)

pub returns : goal.returns
returns g c =
    item_tried _ _ _ _ c.in-Some.method.now c.in-Some.name c.fetch_tree.result _ _ (sym c.in_ok-there.ensures ∙ c.if-there.false) c.in-Some.ensures c.in_ok-add.ensures.ok c.fetch_tree.ensures
