-- What selections are made from: a universe, what is picked in it, and the commands that the walk uses.
use Rattle.std.specs.Prelude.{List}
use Rattle.zi_universe.specs.declared.types.Interface.{Interface}
use Rattle.zi_choice.specs.Choice.{Choice}
use Rattle.zi_choice.specs.Walk.{Walk}
use Rattle.zi_sels.specs.declared.choosing.Setting.{Setting}
use Rattle.zi_sels.specs.Using.{walk_with}

abbrev pub universe_of : Setting → List Interface
universe_of on = on.names.now

abbrev pub picks_of : Setting → Choice
picks_of on = on.picks.now

abbrev pub walk_of : Setting → Walk
walk_of on = walk_with on.used
