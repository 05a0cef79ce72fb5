use Rattle.std.proofs.Common.{◌≡◌, None, Some, true, false, slice_index_or}
use Rattle.zi_check.proofs.ValidLaws.{pick_at, tells_on_none, tells_on}
use Rattle.zi_check.proofs.validity.is_on.Goals as goal

pub returns-in-None : goal.returns-in-None
returns-in-None c =
    tells_on_none c.args.picks.now c.args.i (slice_index_or c.args.marks.now c.args.i false ≡ true) (pick_at c.args.picks.now c.args.i None c.requires.within c.in-None.is)

pub returns-in-Some : goal.returns-in-Some
returns-in-Some c =
    tells_on c.args.picks.now c.args.i c.in-Some.field-0 _ (slice_index_or c.args.marks.now c.args.i false ≡ true) (pick_at c.args.picks.now c.args.i (Some c.in-Some.field-0) c.requires.within c.in-Some.is) (λ t. t, λ t. t)
