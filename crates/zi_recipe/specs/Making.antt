-- What the making of a tree answers, and what it asks for on the outside: the tree, or the first fault.
use Rattle.std.specs.Prelude.{◌≡◌, ◌<◌, ◌≤◌, ◌⊎◌, None}
use Rattle.zi_tree.specs.Dir.{Dir, Nothing}
use Rattle.zi_tree.specs.declared.change.TreeLimit.TheVariants.{Size}
use Rattle.zi_outside.specs.Views.{Feeding, holding}
use Rattle.zi_parts.specs.declared.types.Method.{Method}
use Rattle.zi_recipe.specs.declared.fault.RecipeFault.{RecipeFault}
use Rattle.zi_recipe.specs.declared.fault.RecipeFault.TheVariants as fault
use Rattle.zi_tree.specs.Limits.{size_limit}
use Rattle.zi_recipe.specs.Limits.{said_size, passed, Passes}
use Rattle.zi_recipe.specs.Steps.{DoesAll}
use Rattle.zi_recipe.specs.Asking.{addresses, AreAsked, StopsAt}

-- The tree that the steps make of the empty one, within the limits. Each address was asked for by its step, in the order of the
-- steps, and no call failed.
pub record Makes (m : Method) (old : Feeding) (t : Dir) (new : Feeding) : Type 0 where
  pub small : said_size m.steps ≤ size_limit
  pub steps : DoesAll (holding old) Nothing m.steps t
  pub within : passed t ≡ None
  pub asked : AreAsked (addresses m.steps) old new

-- The three ways in which no tree is made, in their order.

-- the sizes that the steps say pass the limit together; nothing is asked for
pub record SaysTooMuch (m : Method) (old : Feeding) (e : RecipeFault) (new : Feeding) : Type 0 where
  pub passes : size_limit < said_size m.steps
  pub is : e ≡ fault.TooLarge Size size_limit
  pub same : new ≡ old

-- the first step that isn't done
pub record StopsMaking (m : Method) (old : Feeding) (e : RecipeFault) (new : Feeding) : Type 0 where
  pub small : said_size m.steps ≤ size_limit
  pub stops : StopsAt m.steps old e new

-- all steps are done, and the tree passes a limit
pub record MakesTooMuch (m : Method) (old : Feeding) (e : RecipeFault) (new : Feeding) : Type 0 where
  pub small : said_size m.steps ≤ size_limit
  pub tree : Dir
  pub steps : DoesAll (holding old) Nothing m.steps tree
  pub passes : Passes tree e
  pub asked : AreAsked (addresses m.steps) old new

abbrev pub Refuses : Method → Feeding → RecipeFault → Feeding → Type 0
Refuses m old e new = SaysTooMuch m old e new ⊎ StopsMaking m old e new ⊎ MakesTooMuch m old e new
