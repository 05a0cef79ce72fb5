use Rattle.std.proofs.Common.{ap, Err}
use Rattle.zi_adding.proofs.AddingLemmas.{mismatched}
use Rattle.zi_adding.proofs.adding.add_tree.Goals as goal

pub returns-in-Err-Mismatch : goal.returns-in-Err-Mismatch
returns-in-Err-Mismatch g c =
    mismatched c.args.name c.args.tree c.in-Err-Mismatch.found c.mismatch.result (g.K.Shelf.seen c.args.shelf.now)
    (c.in-Err-Mismatch.ensures.mismatch c.in-Err-Mismatch.found (ap (λ x. Err x) c.in-Err-Mismatch.field-0-is)) c.mismatch.ensures
