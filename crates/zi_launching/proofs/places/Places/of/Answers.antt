use Rattle.std.proofs.Common.{rules}
use Rattle.zi_launching.proofs.PlacesLaws.{few_places}
use Rattle.zi_launching.proofs.places.Places.of.Goals as goal

pub returns : goal.returns
returns c = few_places c.args.each.now c.new.result.entries (search rules) c.new.ensures.empty
