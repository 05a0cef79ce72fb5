-- What is seen of the real objects: they tell nothing of what they hold or did, nobody plans a failure of them, and each has its count.
use Rattle.std.specs.Prelude.{ℕ, [], None}
use Rattle.zi_outside.specs.Views.{Feeding, Sinking}
use Rattle.zi_outside.specs.Launched.{Spawning}

-- feeds or a web
abbrev pub feeding_seen : ℕ → Feeding
feeding_seen faults = record { told = None; faults = faults; plan = [] }

abbrev pub spawner_seen : ℕ → Spawning
spawner_seen faults = record { ran = None; calls = None; faults = faults; plan = [] }

abbrev pub stream_seen : ℕ → Sinking
stream_seen faults = record { written = None; puts = None; faults = faults; plan = [] }
