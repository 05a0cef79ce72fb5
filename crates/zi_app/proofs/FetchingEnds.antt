-- What was written and whose calls failed, of a fetching and of `download`.
use Rattle.std.proofs.Common.{◌≡◌, ℕ, inl, inr, List, [], ◌∷◌, ◌++◌, Err, take, sym, subst, ◌∙◌}
use Rattle.zi_text.specs.Count.{Rose}
use Rattle.zi_outside.specs.Views.{Feeding}
use Rattle.zi_digest.specs.Name.{spelling}
use Rattle.zi_shelf.specs.Shelving.{Shelving}
use Rattle.zi_store.specs.Stores.{Each, IsCalm}
use Rattle.zi_universe.specs.Naming.{with_one}
use Rattle.zi_parts.specs.declared.types.Method.{Method}
use Rattle.zi_sels.specs.declared.types.Selection.{Selection}
use Rattle.zi_sels.specs.Written.{document}
use Rattle.zi_recipe.specs.declared.fault.RecipeFault.{RecipeFault}
use Rattle.zi_recipe.specs.declared.fault.RecipeFault.TheVariants as recipe
use Rattle.zi_recipe.specs.Asking.{AsksAt}
use Rattle.zi_recipe.specs.Making.{Refuses, MakesTooMuch}
use Rattle.zi_adding.specs.declared.adding.AddFault.{AddFault}
use Rattle.zi_adding.specs.declared.adding.AddFault.TheVariants as add
use Rattle.zi_adding.specs.Trying.{Tried, CostsAll}
use Rattle.zi_adding.proofs.HistoryLaws.{AreDone, calm_done}
use Rattle.zi_outcome.specs.declared.outcome.Outcome.{Outcome}
use Rattle.zi_outcome.specs.declared.outcome.Outcome.TheVariants.{Memory, NotInstalled}
use Rattle.zi_world.specs.Surroundings.{Surroundings, meets_of}
use Rattle.zi_choosing.specs.declared.asked.Asked.{Asked}
use Rattle.zi_choosing.specs.declared.chosen.Chosen.{Chosen}
use Rattle.zi_fetching.specs.Known.{Names}
use Rattle.zi_fetching.specs.Outcomes.{unmade, unadded}
use Rattle.zi_fetching.specs.Fetching.{From, from_chosen, names_in, FailsBy, FetchesInTurn, Fetches, StopsFetching, FetchesNot}
use Rattle.zi_fetching.specs.Download.{sources, HasChosen, Downloads, DownloadsTo, FetchesThen}
use Rattle.zi_fetching.proofs.FetchLaws.{turn_done}
use Rattle.zi_app.specs.Outcomes.{RoseOnFetchRead, FailsOnStoreFault}
use Rattle.zi_app.proofs.EndLemmas.{IsSpared, Feeds, Web, Stores, Spawner, Output, Ends, ends, same_count, feeds_still, stores_still, web_still, spawner_still, unwritten, prints}
use Rattle.zi_app.proofs.ChoosingEnds.{table_calm, found_not}
use Rattle.zi_app.proofs.StoringEnds.{AddCosts, none_costs, add_costs}

-- The web, while a tree is made.
abbrev WebCounts : RecipeFault → ℕ → ℕ → Type 0
WebCounts (recipe.FetchRead href) old new = Rose old new
WebCounts other old new = new ≡ old

asks_count : (e : RecipeFault) (before last : List (List ℕ)) (old new : Feeding) → AsksAt e before last old new → WebCounts e old.faults new.faults
asks_count (recipe.FetchRead href) before last old new a = a.1
asks_count recipe.Memory before last old new (inl a) = a.faults
asks_count recipe.Memory before last old new (inr a) = a.faults
asks_count other before last old new a = a.faults

too_much_counts : (m : Method) (old : Feeding) (e : RecipeFault) (new : Feeding) → MakesTooMuch m old e new → WebCounts e old.faults new.faults
too_much_counts m old (recipe.FetchRead href) new t = absurd t.passes
too_much_counts m old other new t = t.asked.faults

refuses_count : (m : Method) (old : Feeding) (e : RecipeFault) (new : Feeding) → Refuses m old e new → WebCounts e old.faults new.faults
refuses_count m old e new (inl s) = subst (λ x. WebCounts x old.faults new.faults) (sym s.is) (same_count old new s.same)
refuses_count m old e new (inr (inl s)) = asks_count e _ _ old new s.stops.asks
refuses_count m old e new (inr (inr t)) = too_much_counts m old e new t

-- what was fetched was made by calls that didn't fail
pub turn_calm : (on : From) (xs : List Selection) (stored : Names) (old : Feeding) (tried : List Tried) (new : Feeding) → FetchesInTurn on stored xs old tried new → new.faults ≡ old.faults
turn_calm on [] stored old tried new (none, same) = same_count old new same
turn_calm on (x ∷ xs) stored old tried new (inl (there, rest)) = turn_calm on xs stored old tried new rest
turn_calm on (x ∷ xs) stored old tried new (inr (wanting, (a, rest, mid, is, fetched, turn))) =
    turn_calm on xs (with_one stored (spelling a.name)) mid rest new turn ∙ fetched.makes.asked.faults

-- What a fetching comes to that stops: it blames the web or a store, and nothing else.
abbrev pub EndsFetching : Outcome → ℕ → ℕ → List Shelving → List Shelving → Type 0
EndsFetching o old new before after = RoseOnFetchRead o old new × FailsOnStoreFault o before after × IsSpared Feeds o × IsSpared Spawner o × IsSpared Output o

module _ (old new : ℕ) (shelf then : Shelving) (others those : List Shelving) (calm : Each IsCalm others those) where
  unmade_ends : (e : RecipeFault) → WebCounts e old new → IsCalm shelf then → EndsFetching (unmade e) old new (shelf ∷ others) (then ∷ those)
  unmade_ends (recipe.FetchRead href) w c = (w, (c, calm), tt, tt, tt)
  unmade_ends other w c = (w, (c, calm), tt, tt, tt)

  unadded_ends : (e : AddFault) → new ≡ old → AddCosts (Err e) shelf then → EndsFetching (unadded e) old new (shelf ∷ others) (then ∷ those)
  unadded_ends (add.Failed blamed) w c = (w, inl c, tt, tt, tt)
  unadded_ends other w c = (w, (c, calm), tt, tt, tt)

module _ (c : Chosen) (old : Feeding) (tried : List Tried) (new : Feeding) (shelf then : Shelving) (others those : List Shelving) (cost : CostsAll tried shelf then) (calm : Each IsCalm others those) where
  fetch_stops : (o : Outcome) → StopsFetching c old o tried new → EndsFetching o old.faults new.faults (shelf ∷ others) (then ∷ those)
  fetch_stops o s = by s.fails.fails
    where
      mid : s.mid.faults ≡ old.faults
      mid = turn_calm (from_chosen c) (take s.place c.sels.items) (names_in c) old s.done s.mid s.in_turn

      done : AreDone s.done
      done = turn_done (from_chosen c) (take s.place c.sels.items) (names_in c) old s.done s.mid s.in_turn

      so : CostsAll (s.done ++ s.last) shelf then
      so = subst (λ t. CostsAll t shelf then) s.all cost

      by : FailsBy s.fails.method s.fails.name s.mid o s.last new → EndsFetching o old.faults new.faults (shelf ∷ others) (then ∷ those)
      by (inl (f, none)) =
          subst (λ x. EndsFetching x old.faults new.faults (shelf ∷ others) (then ∷ those)) (sym f.is)
          (unmade_ends old.faults new.faults shelf then others those calm f.fault (subst (λ n. WebCounts f.fault n new.faults) mid (refuses_count s.fails.method s.mid f.fault new f.refuses))
          (none_costs s.done done shelf then s.last none so))
      by (inr f) =
          subst (λ x. EndsFetching x old.faults new.faults (shelf ∷ others) (then ∷ those)) (sym f.is)
          (unadded_ends old.faults new.faults shelf then others those calm f.fault (f.makes.asked.faults ∙ mid)
          (add_costs s.done done shelf then s.fails.name f.tree (Err f.fault) s.last f.ends so))

  -- the trees that were tried are all done
  all_calm : (xs : List Selection) (stored : Names) → FetchesInTurn (from_chosen c) stored xs old tried new → Each IsCalm (shelf ∷ others) (then ∷ those)
  all_calm xs stored t = (calm_done tried shelf then (turn_done (from_chosen c) xs stored old tried new t) cost, calm)

  pub fetches_not : (o : Outcome) → FetchesNot c old o tried new → EndsFetching o old.faults new.faults (shelf ∷ others) (then ∷ those)
  fetches_not o (inl l) =
      let none : IsCalm shelf then = calm_done [] shelf then tt (subst (λ t. CostsAll t shelf then) l.none cost) in
      subst (λ x. EndsFetching x old.faults new.faults (shelf ∷ others) (then ∷ those)) (sym l.is) (same_count old new l.unasked, (none, calm), tt, tt, tt)
  fetches_not o (inr (inl s)) = fetch_stops o s
  fetches_not o (inr (inr s)) =
      subst (λ x. EndsFetching x old.faults new.faults (shelf ∷ others) (then ∷ those)) (sym s.is)
      (turn_calm (from_chosen c) (take s.place c.sels.items) (names_in c) old tried new s.in_turn, all_calm (take s.place c.sels.items) (names_in c) s.in_turn, tt, tt, tt)

  pub fetched_calm : (stored : Names) → Fetches c old stored tried new → Each IsCalm (shelf ∷ others) (then ∷ those)
  fetched_calm stored f = all_calm c.sels.items (names_in c) f.in_turn

pub web_calm : (c : Chosen) (old : Feeding) (stored : Names) (tried : List Tried) (new : Feeding) → Fetches c old stored tried new → new.faults ≡ old.faults
web_calm c old stored tried new f = turn_calm (from_chosen c) c.sels.items (names_in c) old tried new f.in_turn

-- what was chosen was got by calls that didn't fail
pub chosen_calm : (asked : Asked) (stores : List Shelving) (before : Feeding) (c : Chosen) (after : Feeding) → HasChosen asked stores before c after → after.faults ≡ before.faults
chosen_calm asked stores before c after has = has.chosen.loaded.asked.faults ∙ table_calm asked.table before c.known.packages has.feeds has.table

pub download_ends : (asked : Asked) (o : Outcome) (before after : Surroundings) → Downloads asked (meets_of before) (meets_of after) o → after.spawner ≡ before.spawner → Ends o before after
download_ends asked o before after d started = by d.comes
  where
    by : DownloadsTo asked d.tried (meets_of before) (meets_of after) o → Ends o before after
    by (inl (found, none, e)) =
        let f = found_not asked (sources (meets_of before)) (sources (meets_of after)) o found in
        ends o before after f.0 f.1 (web_still o f.2 (same_count before.web after.web none.1)) (spawner_still o before.spawner after.spawner f.3 started) (unwritten o before.out after.out f.4 e)
    by (inr (c, chosen, cost, calm, inl (not, e))) =
        let f = fetches_not c before.web d.tried after.web before.shelf after.shelf before.others after.others cost calm o not in
        ends o before after (feeds_still o f.2 (chosen_calm asked _ before.feeds c after.feeds chosen)) f.1 f.0 (spawner_still o before.spawner after.spawner f.3 started) (unwritten o before.out after.out f.4 e)
    by (inr (c, chosen, cost, calm, inr f)) =
        let p = prints (document c.sels) before.out after.out o f.printed in
        let all = fetched_calm c before.web d.tried after.web before.shelf after.shelf before.others after.others cost calm f.stored f.fetched in
        ends o before after (feeds_still o p.1 (chosen_calm asked _ before.feeds c after.feeds chosen)) (stores_still o (before.shelf ∷ before.others) (after.shelf ∷ after.others) p.2 all) (web_still o p.3 (web_calm c before.web f.stored d.tried after.web f.fetched))
        (spawner_still o before.spawner after.spawner p.4 started) p.0
