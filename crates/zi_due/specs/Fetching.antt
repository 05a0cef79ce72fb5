-- What is due of what is chosen: a package isn't installed; or what isn't there is fetched, each by its way, and added; and then the document is
-- written, or the program is launched.
use Rattle.std.specs.Prelude.{◌≡◌, ℕ, List, map, Option, Some, None, Result, Ok, Err}
use Rattle.zi_digest.specs.declared.DigestName.{DigestName}
use Rattle.zi_digest.specs.Name.{spelling}
use Rattle.zi_outside.specs.Views.{Holding}
use Rattle.zi_outside.specs.declared.var.Var.{Var}
use Rattle.zi_shelf.specs.Told.{Told}
use Rattle.zi_parts.specs.declared.types.Method.{Method}
use Rattle.zi_universe.specs.Naming.{joined}
use Rattle.zi_sels.specs.declared.types.Selection.{Selection}
use Rattle.zi_recipe.specs.Made.{Trial, made}
use Rattle.zi_outcome.specs.declared.outcome.Outcome.{Outcome}
use Rattle.zi_outcome.specs.declared.outcome.Outcome.TheVariants.{Done, NotInstalled}
use Rattle.zi_choosing.specs.declared.chosen.Chosen.{Chosen}
use Rattle.zi_fetching.specs.Known.{Names, is_there}
use Rattle.zi_fetching.specs.Outcomes.{unmade}
use Rattle.zi_fetching.specs.Fetching.{From, from_chosen, first_uninstalled, HasWay, names_in}
use Rattle.zi_due.specs.Due.{End, Comes}
use Rattle.zi_due.specs.Held.{Held}
use Rattle.zi_due.specs.Turns.{Addition, AddsInTurn}
use Rattle.zi_due.specs.Launching.{EndsStart}

-- the tree that is made, and the name that it gets; or why none is made
abbrev pub given : DigestName → Trial → Result Addition Outcome
given name (Err fault) = Err (unmade fault)
given name (Ok tree) = Ok (record { name = name; tree = tree })

-- what is selected gives the tree that its way to fetch makes of what the web holds, under its first digest
abbrev pub GivesFetched : From → Holding → Selection → Result Addition Outcome → Type 0
GivesFetched on web x result = (method : Method) × (name : DigestName) × HasWay on x method name × (result ≡ given name (made web method))

-- of the first package that isn't installed; where there is none all is fetched, and then this is so of what was added
abbrev pub EndsFetching : Chosen → Holding → List Told → (List Addition → End → Type 0) → Option (List ℕ) → End → Type 0
EndsFetching c web stores Then (Some name) end = end ≡ Comes (NotInstalled name)
EndsFetching c web stores Then None end = AddsInTurn is_there (GivesFetched (from_chosen c) web) stores (names_in c) c.sels.items Then end

abbrev pub EndsFetched : Chosen → Holding → List Told → (List Addition → End → Type 0) → End → Type 0
EndsFetched c web stores Then end = EndsFetching c web stores Then (first_uninstalled (from_chosen c) c.sels.items) end

-- `download`: and then the document is written
abbrev pub EndsDocument : Held → Chosen → End → Type 0
EndsDocument held c end = EndsFetched c held.web held.stores (λ fetched e. e ≡ Comes Done) end

-- `run`: and then what is selected is launched, over the names that are stored by then
abbrev pub names_with : Chosen → List Addition → Names
names_with c fetched = joined (names_in c) (map (λ (a : Addition). spelling a.name) fetched)

abbrev pub EndsProgram : List Var → List (List ℕ) → Held → Chosen → End → Type 0
EndsProgram vars user held c end =
    EndsFetched c held.web held.stores
    (λ fetched e. EndsStart (record { sels = c.sels; each = c.known.each; stored = names_with c fetched; vars = vars; user = user }) held.roots held.stores fetched e) end
