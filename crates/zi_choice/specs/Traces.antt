-- What a walk as a value stands for.
use Rattle.std.specs.Prelude.{map}
use Rattle.zi_choice.specs.Walk.{Walk}
use Rattle.zi_choice.specs.Walk.{Place as APlace, Use as AUse}
use Rattle.zi_choice.specs.declared.traced.Place.{Place}
use Rattle.zi_choice.specs.declared.traced.Used.{Used}
use Rattle.zi_choice.specs.declared.traced.Traced.{Traced}

abbrev pub as_place : Place → APlace
as_place p = record { interface = p.interface; pick = p.pick }

abbrev pub as_use : Used → AUse
as_use x = record { interface = x.interface; command = x.command }

abbrev pub as_walk : Traced → Walk
as_walk t = record { places = map as_place t.places; used = map as_use t.used }
