-- What is wrong, in words: faults of feeds, of selections and of launches.
use Rattle.std.specs.Prelude.{ℕ, List, ◌++◌, codes, Option, Some, None}
use Rattle.zi_bind.specs.declared.fault.BindFault.{BindFault}
use Rattle.zi_bind.specs.declared.fault.BindFault.TheVariants as bind
use Rattle.zi_plan.specs.declared.fault.PlanFault.{PlanFault}
use Rattle.zi_plan.specs.declared.fault.PlanFault.TheVariants as plan
use Rattle.zi_sels.specs.declared.fault.SelsFault.{SelsFault}
use Rattle.zi_sels.specs.declared.fault.SelsFault.TheVariants as sels
use Rattle.zi_universe.specs.declared.fault.BadFeed.{BadFeed}
use Rattle.zi_universe.specs.declared.fault.BadFeed.TheVariants as bad
use Rattle.zi_hints.specs.Faults.{of_document, of_feed}
use Rattle.zi_hints.specs.Spot.{spotted}

abbrev pub of_bad : List ℕ → BadFeed → Option (List ℕ)
of_bad document (bad.Doc kind place) = Some (spotted document place (of_document kind))
of_bad document (bad.Feed kind place) = Some (spotted document place (of_feed kind))

abbrev pub of_sels : List ℕ → SelsFault → Option (List ℕ)
of_sels document (sels.Doc kind place) = Some (spotted document place (of_document kind))
of_sels document sels.NotSelections = Some (codes "the root isn't selections in the namespace of feeds, or names no interface")
of_sels document sels.NoRoot = Some (codes "nothing is selected for the root's interface")
of_sels document (sels.Twice interface) = Some (codes "two selections are for " ++ interface ++ codes "")
of_sels document (sels.Feed kind place) = Some (spotted document place (of_feed kind))
of_sels document (sels.Unclosed interface) = Some (codes "nothing is selected for " ++ interface ++ codes ", which is needed")
of_sels document sels.Memory = None

abbrev pub of_bind : BindFault → Option (List ℕ)
of_bind (bind.Unset name) = Some (codes "an argument has the variable " ++ name ++ codes ", which isn't set")
of_bind (bind.BadDollar place) = Some (codes "a $ in an argument stands for nothing")
of_bind bind.Memory = None

-- what is selected for an interface, and a command of it
abbrev pub of_command : List ℕ → List ℕ → List ℕ → Option (List ℕ)
of_command interface what command = Some (codes "what is selected for " ++ interface ++ what ++ command ++ codes "'")

abbrev pub of_plan : PlanFault → Option (List ℕ)
of_plan (plan.NoSelection interface) = Some (codes "nothing is selected for the runner " ++ interface ++ codes "")
of_plan (plan.NoCommand interface command) = of_command interface (codes " has no command '") command
of_plan (plan.NoPath interface command) = of_command interface (codes " has no path in its command '") command
of_plan (plan.Loop interface command) = of_command interface (codes " leads back to its command '") command
of_plan (plan.Bind fault) = of_bind fault
of_plan (plan.Unbuilt element) = Some (codes "the element " ++ element ++ codes " isn't supported")
of_plan (plan.BadPath text) = Some (codes "the path '" ++ text ++ codes "' can't stand there")
of_plan (plan.NoFolder interface) = Some (codes "what is selected for " ++ interface ++ codes " has neither a path nor a digest")
of_plan plan.Memory = None
