-- Which selections are fetched, what they are made of, and what is tried to be added; packages of the operating system aren't, and must be installed.
use Rattle.std.specs.Prelude.{◌≡◌, ℕ, ◌⊎◌, true, false, List, [], ◌∷◌, ◌++◌, map, take, slice_get, filter_map, Option, Some, None, IsSome, IsSomeAnd, Result, Ok, Err, option_and_then, if◌then◌else◌}
use Rattle.zi_digest.specs.declared.DigestName.{DigestName}
use Rattle.zi_digest.specs.Name.{spelling}
use Rattle.zi_tree.specs.Dir.{Dir}
use Rattle.zi_outside.specs.Views.{Feeding}
use Rattle.zi_shelf.specs.Shelving.{Shelving}
use Rattle.zi_reading.specs.Words.{first}
use Rattle.zi_parts.specs.declared.types.Method.{Method}
use Rattle.zi_parts.specs.declared.types.Package.{Package}
use Rattle.zi_universe.specs.declared.types.Candidate.{Candidate}
use Rattle.zi_universe.specs.declared.types.Interface.{Interface}
use Rattle.zi_universe.specs.Naming.{with_one, joined}
use Rattle.zi_choice.specs.Choice.{Choice, chosen, number}
use Rattle.zi_sels.specs.declared.types.Selection.{Selection}
use Rattle.zi_recipe.specs.declared.fault.RecipeFault.{RecipeFault}
use Rattle.zi_recipe.specs.Making.{Makes, Refuses}
use Rattle.zi_adding.specs.declared.adding.AddFault.{AddFault}
use Rattle.zi_adding.specs.Trying.{Tried, IsDone, Adds}
use Rattle.zi_adding.specs.Answers.{Ends}
use Rattle.zi_outcome.specs.declared.outcome.Outcome.{Outcome}
use Rattle.zi_outcome.specs.declared.outcome.Outcome.TheVariants.{NotInstalled, Memory}
use Rattle.zi_choosing.specs.declared.chosen.Chosen.{Chosen}
use Rattle.zi_choosing.specs.Knowing.{all_names}
use Rattle.zi_fetching.specs.Known.{Names, names_of, is_there}
use Rattle.zi_fetching.specs.Outcomes.{unmade, unadded}

-- what the fetching is lent
pub record Lent : Type 1 where
  pub web : Feeding
  pub shelf : Shelving

-- a choice from a universe
pub record From : Type 0 where
  pub universe : List Interface
  pub picks : Choice

abbrev pub from_chosen : Chosen → From
from_chosen c = record { universe = c.universe; picks = c.choice.picks }

-- the candidate that is chosen for an interface
abbrev pub candidate_of : From → List ℕ → Option Candidate
candidate_of on interface = option_and_then (chosen on.universe on.picks) (number on.universe interface)

-- Packages of the operating system.

-- the package that it is
abbrev pub package_of : From → List ℕ → Option Package
package_of on interface = option_and_then (λ (c : Candidate). c.imp.«package») (candidate_of on interface)

-- what is selected is a package that is installed
abbrev pub IsInstalled : From → Selection → Type 0
IsInstalled on x = IsSomeAnd (package_of on x.interface) (λ p. p.installed ≡ true)

-- the name of a package, unless it is installed
abbrev pub lacking : Package → Option (List ℕ)
lacking p = if p.installed then None else Some p.name

-- what is selected is a package that isn't installed, of this name
abbrev pub uninstalled : From → Selection → Option (List ℕ)
uninstalled on x = option_and_then lacking (package_of on x.interface)

-- the first of them
abbrev pub first_uninstalled : From → List Selection → Option (List ℕ)
first_uninstalled on items = first (filter_map (uninstalled on) items)

-- One way to fetch it.

-- the first method of the candidate that is chosen for an interface
abbrev pub method_of : From → List ℕ → Option Method
method_of on interface = option_and_then (λ (c : Candidate). first c.imp.methods) (candidate_of on interface)

-- that is how what is selected is fetched, and the first of its digests is the name that it gets
pub record HasWay (on : From) (x : Selection) (method : Method) (name : DigestName) : Type 0 where
  pub way : method_of on x.interface ≡ Some method
  pub named : first x.digests ≡ Some name

-- it has no method, or no digest
abbrev pub HasNoWay : From → Selection → Type 0
HasNoWay on x = (method_of on x.interface ≡ None) ⊎ (first x.digests ≡ None)

-- what isn't there has a way to be fetched
pub record IsFetchable (on : From) (stored : Names) (x : Selection) : Type 0 where
  pub way : is_there stored x ≡ false → IsSome (method_of on x.interface)
  pub named : is_there stored x ≡ false → IsSome (first x.digests)

-- One selection.

-- It is fetched: its method makes a tree of what the web has, and that was added under its name, or the name was there.
pub record IsFetched (on : From) (x : Selection) (old : Feeding) (a : Tried) (new : Feeding) : Type 0 where
  pub method : Method
  pub way : HasWay on x method a.name
  pub makes : Makes method old a.tree new
  pub done : IsDone a

-- no tree is made of what the web has
pub record FailsToMake (method : Method) (old : Feeding) (outcome : Outcome) (new : Feeding) : Type 0 where
  pub fault : RecipeFault
  pub is : outcome ≡ unmade fault
  pub refuses : Refuses method old fault new

-- a tree is made, but it isn't added, and this was tried
pub record FailsToAdd (method : Method) (name : DigestName) (old : Feeding) (outcome : Outcome) (tried : List Tried) (new : Feeding) : Type 0 where
  pub tree : Dir
  pub makes : Makes method old tree new
  pub fault : AddFault
  pub is : outcome ≡ unadded fault
  pub ends : Ends name tree (Err fault) tried

abbrev pub FailsBy : Method → DigestName → Feeding → Outcome → List Tried → Feeding → Type 0
FailsBy method name old outcome tried new =
    (FailsToMake method old outcome new × (tried ≡ [])) ⊎ FailsToAdd method name old outcome tried new

-- it isn't fetched, and this was tried
pub record FailsToFetch (on : From) (x : Selection) (old : Feeding) (outcome : Outcome) (tried : List Tried) (new : Feeding) : Type 0 where
  pub method : Method
  pub name : DigestName
  pub way : HasWay on x method name
  pub fails : FailsBy method name old outcome tried new

-- All selections.

abbrev pub tried_names : List Tried → Names
tried_names tried = map (λ (a : Tried). spelling a.name) tried

-- the names in the stores that the choice was made over
abbrev pub names_in : Chosen → Names
names_in c = names_of (all_names c.known.each)

-- Selection by selection, in their order: what is there is passed over; what isn't is fetched, and its name is stored for all behind it.
abbrev pub FetchesInTurn : From → Names → List Selection → Feeding → List Tried → Feeding → Type 0
FetchesInTurn on stored [] old tried new = (tried ≡ []) × (new ≡ old)
FetchesInTurn on stored (x ∷ xs) old tried new =
    ((is_there stored x ≡ true) × FetchesInTurn on stored xs old tried new)
    ⊎ ((is_there stored x ≡ false)
    × ((a : Tried) × (rest : List Tried) × (mid : Feeding)
    × (tried ≡ a ∷ rest) × IsFetched on x old a mid × FetchesInTurn on (with_one stored (spelling a.name)) xs mid rest new))

-- each package that is selected is installed
abbrev pub AreInstalled : Chosen → Type 0
AreInstalled c = first_uninstalled (from_chosen c) c.sels.items ≡ None

-- all that is selected was fetched, and these are the names that are stored then
pub record Fetches (c : Chosen) (old : Feeding) (stored : Names) (tried : List Tried) (new : Feeding) : Type 0 where
  pub installed : AreInstalled c
  pub in_turn : FetchesInTurn (from_chosen c) (names_in c) c.sels.items old tried new
  pub names : stored ≡ joined (names_in c) (tried_names tried)

-- a package is selected that isn't installed, the first is told, and nothing was fetched
pub record LacksPackage (c : Chosen) (old : Feeding) (outcome : Outcome) (tried : List Tried) (new : Feeding) : Type 0 where
  pub name : List ℕ
  pub first_is : first_uninstalled (from_chosen c) c.sels.items ≡ Some name
  pub is : outcome ≡ NotInstalled name
  pub none : tried ≡ []
  pub unasked : new ≡ old

-- The selections before one were fetched; that one isn't there, and isn't fetched.
pub record StopsFetching (c : Chosen) (old : Feeding) (outcome : Outcome) (tried : List Tried) (new : Feeding) : Type 0 where
  pub installed : AreInstalled c
  pub place : ℕ
  pub item : Selection
  pub here : slice_get c.sels.items place ≡ Some item
  pub done : List Tried
  pub mid : Feeding
  pub in_turn : FetchesInTurn (from_chosen c) (names_in c) (take place c.sels.items) old done mid
  pub wanting : is_there (joined (names_in c) (tried_names done)) item ≡ false
  pub last : List Tried
  pub all : tried ≡ done ++ last
  pub fails : FailsToFetch (from_chosen c) item mid outcome last new

-- memory was refused before the next of them was fetched
pub record LacksMemory (c : Chosen) (old : Feeding) (outcome : Outcome) (tried : List Tried) (new : Feeding) : Type 0 where
  pub is : outcome ≡ Memory
  pub place : ℕ
  pub in_turn : FetchesInTurn (from_chosen c) (names_in c) (take place c.sels.items) old tried new

abbrev pub FetchesNot : Chosen → Feeding → Outcome → List Tried → Feeding → Type 0
FetchesNot c old outcome tried new =
    LacksPackage c old outcome tried new ⊎ (StopsFetching c old outcome tried new ⊎ LacksMemory c old outcome tried new)

abbrev pub FetchesTo : Chosen → Feeding → Result Names Outcome → List Tried → Feeding → Type 0
FetchesTo c old (Ok stored) tried new = Fetches c old stored tried new
FetchesTo c old (Err outcome) tried new = FetchesNot c old outcome tried new

-- This was tried, and that is all that was done to the shelf.
pub record FetchesAll (c : Chosen) (before : Lent) (result : Result Names Outcome) (after : Lent) : Type 0 where
  pub tried : List Tried
  pub fetches : FetchesTo c before.web result tried after.web
  pub adds : Adds tried before.shelf after.shelf

-- Parts of the work.

-- a tree is made by a method, and added under a name
abbrev pub FetchesBy : Method → DigestName → Feeding → Result (Unit {0}) Outcome → List Tried → Feeding → Type 0
FetchesBy method name old (Ok x) tried new =
    (a : Tried) × (tried ≡ a ∷ []) × (a.name ≡ name) × Makes method old a.tree new × IsDone a
FetchesBy method name old (Err outcome) tried new = FailsBy method name old outcome tried new

pub record FetchesTree (method : Method) (name : DigestName) (before : Lent) (result : Result (Unit {0}) Outcome) (after : Lent) : Type 0 where
  pub tried : List Tried
  pub fetches : FetchesBy method name before.web result tried after.web
  pub adds : Adds tried before.shelf after.shelf

-- one selection is passed over or fetched, or it isn't
abbrev pub FetchesOne : From → Names → Selection → Feeding → Result (Unit {0}) Outcome → List Tried → Names → Feeding → Type 0
FetchesOne on stored x old (Ok u) tried later new =
    ((is_there stored x ≡ true) × (tried ≡ []) × (later ≡ stored) × (new ≡ old))
    ⊎ ((is_there stored x ≡ false) × ((a : Tried) × (tried ≡ a ∷ []) × (later ≡ with_one stored (spelling a.name)) × IsFetched on x old a new))
FetchesOne on stored x old (Err outcome) tried later new =
    ((outcome ≡ Memory) × (tried ≡ []) × (new ≡ old)) ⊎ ((is_there stored x ≡ false) × FailsToFetch on x old outcome tried new)

pub record FetchesItem (on : From) (stored : Names) (x : Selection) (before : Lent) (result : Result (Unit {0}) Outcome) (later : Names) (after : Lent) : Type 0 where
  pub tried : List Tried
  pub fetches : FetchesOne on stored x before.web result tried later after.web
  pub adds : Adds tried before.shelf after.shelf
