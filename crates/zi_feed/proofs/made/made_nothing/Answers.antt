use Rattle.std.proofs.Common.{◌∙◌, option_copied}
use Rattle.zi_reading.specs.Ways.{ways_of}
use Rattle.zi_feed.proofs.MadeLaws.{nothing_made}
use Rattle.zi_feed.proofs.made.made_nothing.Goals as goal

pub returns : goal.returns
returns c = nothing_made (ways_of c.args.ways) _ (c.in_ok-langs.ensures ∙ c.new-none.ensures)
