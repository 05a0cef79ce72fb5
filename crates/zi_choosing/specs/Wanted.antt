-- What a loading is asked for by the words.
use Rattle.std.specs.Prelude.{List, map}
use Rattle.zi_outside.specs.declared.var.Var.{Var}
use Rattle.zi_words.specs.declared.request.Ask.{Ask}
use Rattle.zi_words.specs.declared.request.Wanted.{Wanted}
use Rattle.zi_universe.specs.declared.types.Limit.{Limit}
use Rattle.zi_universe.specs.declared.types.Requirement.{Requirement}
use Rattle.zi_choosing.specs.declared.asked.Asked.{Asked}
use Rattle.zi_choosing.specs.Table.{table_in}

abbrev pub limit_of : Wanted → Limit
limit_of w = record { interface = w.interface; range = w.range }

-- the root, its command and the limits on versions, as the words have them
abbrev pub requirement_of : Ask → Requirement
requirement_of ask = record { interface = ask.root; command = ask.command; limits = map limit_of ask.limits }

-- what they ask for, over the packages in the table that the variables name
abbrev pub asked_in : List Var → Ask → Asked
asked_in vars ask = record { ask = ask; table = table_in vars }
