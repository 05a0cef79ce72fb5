-- The outcomes of what isn't fetched.
use Rattle.zi_adding.specs.declared.adding.AddFault.{AddFault}
use Rattle.zi_adding.specs.declared.adding.AddFault.TheVariants as add
use Rattle.zi_recipe.specs.declared.fault.RecipeFault.{RecipeFault}
use Rattle.zi_recipe.specs.declared.fault.RecipeFault.TheVariants as recipe
use Rattle.zi_outcome.specs.declared.outcome.Outcome.{Outcome}
use Rattle.zi_outcome.specs.declared.outcome.Outcome.TheVariants.{FetchRead, NoRemote, WrongSize, Overlap, NoPath, TreeTooLarge, BadName, Mismatch, Crowded, StoreFault, Memory}

-- where no tree is made
abbrev pub unmade : RecipeFault → Outcome
unmade (recipe.FetchRead href) = FetchRead href
unmade (recipe.NoRemote href) = NoRemote href
unmade (recipe.WrongSize href said got) = WrongSize href said got
unmade (recipe.Overlap path) = Overlap path
unmade (recipe.NoPath path) = NoPath path
unmade (recipe.TooLarge what limit) = TreeTooLarge what limit
unmade recipe.Memory = Memory

-- where a tree isn't added
abbrev pub unadded : AddFault → Outcome
unadded (add.BadName path) = BadName path
unadded (add.Mismatch name found) = Mismatch name found
unadded (add.Crowded tried) = Crowded tried
unadded (add.Failed blamed) = StoreFault blamed
unadded add.Memory = Memory
