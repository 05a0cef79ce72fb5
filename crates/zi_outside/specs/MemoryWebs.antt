-- What is seen of the webs in memory: what is seen of the feeds that they are.
use Rattle.zi_outside.specs.Views.{FeedsTold, Feeding}
use Rattle.zi_outside.specs.Memory.{feeds_told, feeds_seen, sure_told, sure_seen}
use Rattle.zi_outside.specs.declared.memory_web.MemoryWeb.{MemoryWeb}
use Rattle.zi_outside.specs.declared.sure_web.SureWeb.{SureWeb}

abbrev pub web_told : MemoryWeb → FeedsTold
web_told m = feeds_told m.feeds

abbrev pub web_seen : MemoryWeb → Feeding
web_seen m = feeds_seen m.feeds

abbrev pub sure_web_told : SureWeb → FeedsTold
sure_web_told m = sure_told m.feeds

abbrev pub sure_web_seen : SureWeb → Feeding
sure_web_seen m = sure_seen m.feeds
