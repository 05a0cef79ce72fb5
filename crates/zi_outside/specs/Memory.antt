-- What is seen of the objects in memory: they tell all.
use Rattle.std.specs.Prelude.{◌≡◌, ℕ, List, [], Some, None, if◌then◌else◌}
use Rattle.std.specs.Str.{bytes_eq}
use Rattle.std.specs.HashMap.{HashMap, get_by_text}
use Rattle.std.specs.declared.alloc.Global.{Global}
use Rattle.std.specs.declared.string.String.{String}
use Rattle.std.specs.declared.hash.FoldHasher.{FoldHasher}
use Rattle.std.specs.declared.hash.BuildHasherDefault.{BuildHasherDefault}
use Rattle.zi_outside.specs.Views.{Holding, FeedsTold, Feeding, Sinking}
use Rattle.zi_outside.specs.declared.memory_feeds.MemoryFeeds.{MemoryFeeds}
use Rattle.zi_outside.specs.declared.memory_sink.MemorySink.{MemorySink}
use Rattle.zi_outside.specs.declared.sure_feeds.SureFeeds.{SureFeeds}
use Rattle.zi_outside.specs.declared.sure_sink.SureSink.{SureSink}

-- no key holds anything
abbrev pub Nothing : Holding
Nothing key = None

-- what a map holds under each text
abbrev pub held_by : HashMap (String Global) (List ℕ) (BuildHasherDefault FoldHasher) → Holding
held_by m key = get_by_text m key

-- one key holds these bytes, and every other what it held
abbrev pub PutsUnder : Holding → List ℕ → List ℕ → Holding → Type 0
PutsUnder old key bytes new = (k : List ℕ) → new k ≡ (if bytes_eq key k then Some bytes else old k)

-- new feeds
abbrev pub no_feeds : Feeding
no_feeds = record { told = Some (record { holds = Nothing; asked = [] }); faults = 0; plan = [] }

abbrev pub feeds_told : MemoryFeeds → FeedsTold
feeds_told m = record { holds = held_by m.held; asked = m.asked.items }

abbrev pub feeds_seen : MemoryFeeds → Feeding
feeds_seen m = record { told = Some (feeds_told m); faults = m.failing.faults; plan = m.failing.plan }

abbrev pub sure_told : SureFeeds → FeedsTold
sure_told m = record { holds = held_by m.held; asked = m.asked.items }

abbrev pub sure_seen : SureFeeds → Feeding
sure_seen m = record { told = Some (sure_told m); faults = 0; plan = [] }

-- a new sink
abbrev pub no_bytes : Sinking
no_bytes = record { written = Some []; puts = Some 0; faults = 0; plan = [] }

abbrev pub sink_seen : MemorySink → Sinking
sink_seen s = record { written = Some s.bytes; puts = Some s.puts; faults = s.failing.faults; plan = s.failing.plan }

abbrev pub sure_sink_seen : SureSink → Sinking
sure_sink_seen s = record { written = Some s.bytes; puts = Some s.puts; faults = 0; plan = [] }
