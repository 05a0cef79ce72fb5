use Rattle.std.proofs.Common.{take}
use Rattle.zi_fetching.proofs.FetchLaws.{IsSoFar}
use Rattle.zi_fetching.proofs.fetching.fetch_in_turn.Given as goal

abbrev pub invariant-loop-item : goal.invariant-loop-item
invariant-loop-item g l =
    IsSoFar l.chosen (take l.item-index l.items) (record { web = g.W.Web.seen l.fn.web; shelf = g.K.Shelf.seen l.fn.shelf }) l.stored
    (record { web = g.W.Web.seen l.web; shelf = g.K.Shelf.seen l.shelf })
