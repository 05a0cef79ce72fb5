use Rattle.std.proofs.Common.{map}
use Rattle.zi_showing.specs.Steps.{place_seen}
use Rattle.zi_showing.proofs.ShowLaws.{text_shown}
use Rattle.zi_showing.proofs.showing.text_of.Goals as goal

pub returns : goal.returns
returns c =
    text_shown c.args.sels.now c.args.digests.now c.in_ok-names.names.keys (map place_seen c.in_ok-places.places) c.in_ok-text.text.items c.in_ok-names.ensures c.in_ok-places.ensures
    (rw c.as_slice.ensures at c.in_ok-text.ensures)
