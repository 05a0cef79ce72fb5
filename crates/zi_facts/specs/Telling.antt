-- What is told one fact after another.
use Rattle.std.specs.Prelude.{◌≡◌, List, ◌++◌, map}
use Rattle.zi_universe.specs.declared.types.Interface.{Interface}
use Rattle.zi_facts.specs.declared.fact.Fact.{Fact}
use Rattle.zi_facts.specs.declared.telling.Telling.{Telling}
use Rattle.zi_facts.specs.Facts.{Told, as_told}

abbrev pub universe_of : Telling → List Interface
universe_of on = on.names.now

-- these are behind those that were
abbrev pub Tells : List Fact → List Told → List Fact → Type 0
Tells old ts new = map as_told new ≡ map as_told old ++ ts
