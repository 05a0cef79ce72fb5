-- Commands that are used, as a walk that uses them.
use Rattle.std.specs.Prelude.{List, [], map}
use Rattle.zi_choice.specs.declared.traced.Used.{Used}
use Rattle.zi_choice.specs.Traces.{as_use}
use Rattle.zi_choice.specs.Walk.{Walk}

abbrev pub walk_with : List Used → Walk
walk_with used = record { places = []; used = map as_use used }
