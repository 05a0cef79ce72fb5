-- What steps ask for on the outside, by what is seen of the web before and after.
use Rattle.std.specs.Prelude.{◌≡◌, ◌⊎◌, ℕ, List, [], ◌∷◌, ◌++◌, take, slice_get, Some}
use Rattle.std.specs.List.{flat_map}
use Rattle.zi_tree.specs.Dir.{Dir, Nothing}
use Rattle.zi_text.specs.Count.{Rose}
use Rattle.zi_outside.specs.Views.{Feeding, holding}
use Rattle.zi_outside.specs.Outside.{Asks}
use Rattle.zi_parts.specs.declared.types.Step.{Step}
use Rattle.zi_parts.specs.declared.types.Step.TheVariants.{File, Rename, Remove}
use Rattle.zi_recipe.specs.declared.fault.RecipeFault.{RecipeFault}
use Rattle.zi_recipe.specs.declared.fault.RecipeFault.TheVariants as fault
use Rattle.zi_recipe.specs.Steps.{DoesAll, Fails}

-- the address that a step names
abbrev pub address : Step → List (List ℕ)
address (File href size dest exec) = href ∷ []
address (Rename source dest) = []
address (Remove path) = []

abbrev pub addresses : List Step → List (List ℕ)
addresses steps = flat_map address steps

-- these addresses were asked for, in their order, and no call failed
pub record AreAsked (hrefs : List (List ℕ)) (old new : Feeding) : Type 0 where
  pub asks : Asks hrefs old new
  pub faults : new.faults ≡ old.faults

-- Up to a fault these addresses were asked for, and behind them the last; where memory was refused, that one was asked for or
-- not. The count rose exactly where the call failed.
abbrev pub AsksAt : RecipeFault → (before last : List (List ℕ)) → Feeding → Feeding → Type 0
AsksAt (fault.FetchRead href) before last old new = Asks (before ++ last) old new × Rose old.faults new.faults
AsksAt fault.Memory before last old new = AreAsked before old new ⊎ AreAsked (before ++ last) old new
AsksAt e before last old new = AreAsked (before ++ last) old new

-- The steps before one of them are done, and it isn't; what is asked for is asked for by these.
pub record StopsAt (steps : List Step) (old : Feeding) (e : RecipeFault) (new : Feeding) : Type 0 where
  pub n : ℕ
  pub step : Step
  pub next : slice_get steps n ≡ Some step
  pub tree : Dir
  pub done : DoesAll (holding old) Nothing (take n steps) tree
  pub fails : Fails (holding old) tree step e
  pub asks : AsksAt e (addresses (take n steps)) (address step) old new
