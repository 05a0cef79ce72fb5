use Rattle.std.proofs.Common.{◌≡◌, ◌∙◌, get_or, ap, Some}
use Rattle.std.specs.Prelude.{slice_get}
use Rattle.zi_choice.proofs.TaskLaws.{slice_some}
use Rattle.zi_walk.specs.Kept.{stand_of}
use Rattle.zi_walk.proofs.StepLaws.{not_listed, is_picked, within_stops}
use Rattle.zi_walk.proofs.path.Path.picked.Goals as goal

pub returns-in_err-place : goal.returns-in_err-place
returns-in_err-place c s agrees listed = not_listed s (stand_of c.args.self.now) c.args.i c.in_err-place.ensures.found listed

pub returns : goal.returns
returns c s agrees listed =
    let y = stand_of c.args.self.now in
    let xs = c.args.self.now.stops.items in
    let n = c.in_ok-place.place in
    let x = c.in_ok-get.field-0.now in
    let is : x ≡ get_or xs n x = c.in_ok-get.ensures.lookup.1 ∙ ap (λ ys. get_or ys n x) c.deref.ensures.value in
    let at : slice_get xs n ≡ Some x = slice_some xs n x (within_stops y n c.args.i c.requires c.in_ok-place.ensures.index) is in
    is_picked s y n c.args.i x c.requires c.in_ok-place.ensures.index at agrees
