-- A get of the web is a get of feeds, with faults of its own.
use Rattle.std.specs.Prelude.{Result, Ok, Err}
use Rattle.zi_outside.specs.declared.feeds.Got.{Got}
use Rattle.zi_outside.specs.declared.feeds.FeedsFault.{FeedsFault}
use Rattle.zi_outside.specs.declared.feeds.FeedsFault.TheVariants as feeds
use Rattle.zi_outside.specs.declared.web.WebFault.{WebFault}
use Rattle.zi_outside.specs.declared.web.WebFault.TheVariants as web

abbrev pub as_get : Result Got WebFault → Result Got FeedsFault
as_get (Ok got) = Ok got
as_get (Err web.Failed) = Err feeds.Failed
as_get (Err web.Memory) = Err feeds.Memory
