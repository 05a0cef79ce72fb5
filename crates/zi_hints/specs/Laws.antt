-- The options of the command line, as steps to the place behind them.
use Rattle.std.specs.Prelude.{List, [], ◌∷◌}
use Rattle.zi_words.specs.Forms.{Form, Address, Name, Anything, Range, Level, Network', Rating, Budget}
use Rattle.zi_usage.specs.declared.place.Argument.{Argument}
use Rattle.zi_usage.specs.declared.place.Argument.TheVariants as argument
use Rattle.zi_usage.specs.declared.place.Step.{Step}
use Rattle.zi_usage.specs.declared.place.Step.TheVariants as step

-- an address, by what comes behind it
abbrev pub interface_by : List Form → Argument
interface_by (Range ∷ fs) = argument.Limited
interface_by fs = argument.Rated

-- an argument of a form, where arguments of these forms come behind it
abbrev pub argument_by : Form → List Form → Argument
argument_by Address fs = interface_by fs
argument_by Name fs = argument.Name
argument_by Anything fs = argument.Id
argument_by Range fs = argument.Versions
argument_by Level fs = argument.Level
argument_by Network' fs = argument.Network
argument_by Rating fs = argument.Stability
argument_by Budget fs = argument.Lemmas

abbrev pub step_by : List Form → Step
step_by [] = step.Flag
step_by (f ∷ fs) = step.Takes (argument_by f fs)
