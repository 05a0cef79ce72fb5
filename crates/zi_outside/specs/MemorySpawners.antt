-- What is seen of the spawners in memory: they tell all.
use Rattle.std.specs.Prelude.{ℕ, List, [], Some}
use Rattle.zi_outside.specs.Launched.{Ran, Spawning}
use Rattle.zi_outside.specs.declared.memory_spawner.MemorySpawner.{MemorySpawner}
use Rattle.zi_outside.specs.declared.sure_spawner.SureSpawner.{SureSpawner}

-- a new spawner
abbrev pub no_launches : Spawning
no_launches = record { ran = Some []; calls = Some 0; faults = 0; plan = [] }

abbrev pub launched : MemorySpawner → List Ran
launched m = m.log

-- the statuses that launches are answered, by their places
abbrev pub answering : MemorySpawner → List ℕ
answering m = m.statuses.items

abbrev pub spawner_seen : MemorySpawner → Spawning
spawner_seen m = record { ran = Some (launched m); calls = Some m.calls; faults = m.failing.faults; plan = m.failing.plan }

abbrev pub sure_launched : SureSpawner → List Ran
sure_launched m = m.log

abbrev pub sure_answering : SureSpawner → List ℕ
sure_answering m = m.statuses.items

abbrev pub sure_spawner_seen : SureSpawner → Spawning
sure_spawner_seen m = record { ran = Some (sure_launched m); calls = Some m.calls; faults = 0; plan = [] }
