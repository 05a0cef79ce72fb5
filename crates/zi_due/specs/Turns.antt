-- What is done one by one, each where the one before it came to its end, and what is due of it.
use Rattle.std.specs.Prelude.{◌≡◌, ◌≢◌, ◌⊎◌, Bool, true, false, List, [], ◌∷◌, Result, Ok, Err}
use Rattle.zi_digest.specs.declared.DigestName.{DigestName}
use Rattle.zi_digest.specs.Name.{spelling}
use Rattle.zi_tree.specs.Dir.{Dir}
use Rattle.zi_shelf.specs.Told.{Told}
use Rattle.zi_universe.specs.Naming.{with_one}
use Rattle.zi_fetching.specs.Known.{Names}
use Rattle.zi_outcome.specs.declared.outcome.Outcome.{Outcome}
use Rattle.zi_outcome.specs.declared.outcome.Outcome.TheVariants.{Done}
use Rattle.zi_due.specs.Due.{End, Comes}
use Rattle.zi_due.specs.Adding.{InFirst, EndsTree}

-- Each of these comes to Done, and then this is so of the end; or the first that comes to something else is told.
abbrev pub InTurn : {X : Type 0} → (X → Outcome → Type 0) → List X → (End → Type 0) → End → Type 0
InTurn Is [] Then end = Then end
InTurn Is (x ∷ xs) Then end = (Is x Done × InTurn Is xs Then end) ⊎ ((o : Outcome) × (o ≢ Done) × Is x o × (end ≡ Comes o))

-- a tree that is to be added, and the name that it gets
pub record Addition : Type 0 where
  pub name : DigestName
  pub tree : Dir

-- There is no such tree, and this is why; or it is added to the store that is written, and then this is so; or it isn't added, which is told.
abbrev pub AddsThen : List Told → Result Addition Outcome → (Addition → End → Type 0) → End → Type 0
AddsThen stores (Err why) Then end = end ≡ Comes why
AddsThen stores (Ok a) Then end =
    (InFirst (λ s o. EndsTree a.name s a.tree o) stores Done × Then a end)
    ⊎ ((o : Outcome) × (o ≢ Done) × InFirst (λ s o. EndsTree a.name s a.tree o) stores o × (end ≡ Comes o))

-- What is there is passed over; for each other a tree is added, and its name is stored for all behind it. Then this is so of the trees that
-- were added, and of the end.
abbrev pub AddsInTurn : {X : Type 0} → (Names → X → Bool) → (X → Result Addition Outcome → Type 0) → List Told → Names → List X → (List Addition → End → Type 0) → End → Type 0
AddsInTurn there Gives stores stored [] Then end = Then [] end
AddsInTurn there Gives stores stored (x ∷ xs) Then end =
    ((there stored x ≡ true) × AddsInTurn there Gives stores stored xs Then end)
    ⊎ ((there stored x ≡ false)
    × ((result : Result Addition Outcome) × Gives x result
    × AddsThen stores result (λ a e. AddsInTurn there Gives stores (with_one stored (spelling a.name)) xs (λ added f. Then (a ∷ added) f) e) end))
