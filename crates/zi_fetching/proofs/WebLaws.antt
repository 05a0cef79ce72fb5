-- A web that is fetched from holds what it held, and what is planned stays.
use Rattle.std.proofs.Common.{ℕ, inl, inr, List, [], ◌∷◌, Result, Ok, Err}
use Rattle.zi_tree.specs.Dir.{Dir}
use Rattle.zi_digest.specs.Name.{spelling}
use Rattle.zi_outside.specs.Views.{Feeding}
use Rattle.zi_universe.specs.Naming.{with_one}
use Rattle.zi_parts.specs.declared.types.Method.{Method}
use Rattle.zi_sels.specs.declared.types.Selection.{Selection}
use Rattle.zi_recipe.specs.declared.fault.RecipeFault.{RecipeFault}
use Rattle.zi_recipe.specs.declared.fault.RecipeFault.TheVariants as fault
use Rattle.zi_recipe.specs.Asking.{AsksAt}
use Rattle.zi_recipe.specs.Making.{Makes, Refuses}
use Rattle.zi_adding.specs.Trying.{Tried}
use Rattle.zi_outcome.specs.declared.outcome.Outcome.{Outcome}
use Rattle.zi_world.specs.Asking.{FeedsStay}
use Rattle.zi_world.proofs.AskingLemmas.{unasked_stay, asks_stay, stays_then}
use Rattle.zi_choosing.specs.declared.chosen.Chosen.{Chosen}
use Rattle.zi_fetching.specs.Known.{Names}
use Rattle.zi_fetching.specs.Fetching.{From, from_chosen, names_in, FailsBy, FailsToFetch, FetchesInTurn, FetchesNot, FetchesTo}

asked_at : (e : RecipeFault) (before last : List (List ℕ)) (old new : Feeding) → AsksAt e before last old new → FeedsStay old new
asked_at (fault.FetchRead href) before last old new a = asks_stay _ old new a.0
asked_at (fault.NoRemote href) before last old new a = asks_stay _ old new a.asks
asked_at (fault.WrongSize href said got) before last old new a = asks_stay _ old new a.asks
asked_at (fault.Overlap path) before last old new a = asks_stay _ old new a.asks
asked_at (fault.NoPath path) before last old new a = asks_stay _ old new a.asks
asked_at (fault.TooLarge what limit) before last old new a = asks_stay _ old new a.asks
asked_at fault.Memory before last old new (inl a) = asks_stay _ old new a.asks
asked_at fault.Memory before last old new (inr a) = asks_stay _ old new a.asks

makes_stay : (m : Method) (old : Feeding) (t : Dir) (new : Feeding) → Makes m old t new → FeedsStay old new
makes_stay m old t new a = asks_stay _ old new a.asked.asks

refuses_stay : (m : Method) (old : Feeding) (e : RecipeFault) (new : Feeding) → Refuses m old e new → FeedsStay old new
refuses_stay m old e new (inl a) = unasked_stay old new a.same
refuses_stay m old e new (inr (inl a)) = asked_at e _ _ old new a.stops.asks
refuses_stay m old e new (inr (inr a)) = asks_stay _ old new a.asked.asks

fails_stay : (on : From) (x : Selection) (old : Feeding) (outcome : Outcome) (tried : List Tried) (new : Feeding) → FailsToFetch on x old outcome tried new → FeedsStay old new
fails_stay on x old outcome tried new f = by f.fails
  where
    by : FailsBy f.method f.name old outcome tried new → FeedsStay old new
    by (inl (a, empty)) = refuses_stay f.method old a.fault new a.refuses
    by (inr a) = makes_stay f.method old a.tree new a.makes

turn_stays : (on : From) (xs : List Selection) (stored : Names) (old : Feeding) (tried : List Tried) (new : Feeding) → FetchesInTurn on stored xs old tried new → FeedsStay old new
turn_stays on [] stored old tried new (none, same) = unasked_stay old new same
turn_stays on (x ∷ xs) stored old tried new (inl (there, rest)) = turn_stays on xs stored old tried new rest
turn_stays on (x ∷ xs) stored old tried new (inr (wanting, (a, rest, mid, is, fetched, turn))) =
    stays_then old mid new (makes_stay fetched.method old a.tree mid fetched.makes) (turn_stays on xs (with_one stored (spelling a.name)) mid rest new turn)

not_stays : (c : Chosen) (old : Feeding) (outcome : Outcome) (tried : List Tried) (new : Feeding) → FetchesNot c old outcome tried new → FeedsStay old new
not_stays c old outcome tried new (inl s) = unasked_stay old new s.unasked
not_stays c old outcome tried new (inr (inl s)) =
    stays_then old s.mid new (turn_stays (from_chosen c) _ (names_in c) old s.done s.mid s.in_turn) (fails_stay (from_chosen c) s.item s.mid outcome s.last new s.fails)
not_stays c old outcome tried new (inr (inr s)) = turn_stays (from_chosen c) _ (names_in c) old tried new s.in_turn

pub web_stays : (c : Chosen) (old : Feeding) (result : Result Names Outcome) (tried : List Tried) (new : Feeding) → FetchesTo c old result tried new → FeedsStay old new
web_stays c old (Ok stored) tried new f = turn_stays (from_chosen c) c.sels.items (names_in c) old tried new f.in_turn
web_stays c old (Err outcome) tried new f = not_stays c old outcome tried new f
