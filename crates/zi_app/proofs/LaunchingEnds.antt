-- What was written and whose calls failed, of `run` and `launch`.
use Rattle.std.proofs.Common.{◌≡◌, ℕ, zero, suc, inl, inr, List, [], ◌∷◌, take, Err, sym, ap, subst}
use Rattle.zi_digest.specs.declared.DigestName.{DigestName}
use Rattle.zi_outside.specs.Views.{Feeding}
use Rattle.zi_outside.specs.Launched.{Spawning}
use Rattle.zi_outside.specs.declared.var.Var.{Var}
use Rattle.zi_shelf.specs.Shelving.{Shelving}
use Rattle.zi_store.specs.Stores.{Each, IsCalm, Fails}
use Rattle.zi_store.specs.declared.verdicts.Verdict.{Verdict}
use Rattle.zi_store.specs.declared.verdicts.Verdict.TheVariants as verdict
use Rattle.zi_plan.specs.declared.call.ShimCall.{ShimCall}
use Rattle.zi_adding.specs.declared.adding.AddFault.{AddFault}
use Rattle.zi_adding.specs.declared.adding.AddFault.TheVariants as add
use Rattle.zi_adding.specs.Trying.{Tried, CostsAll}
use Rattle.zi_adding.proofs.HistoryLaws.{calm_done}
use Rattle.zi_outcome.specs.declared.outcome.Outcome.{Outcome}
use Rattle.zi_outcome.specs.declared.outcome.Outcome.TheVariants.{FeedRead, FeedTooLong, NoFile, BadSels, StoreFault, SpawnFault, Memory, Child}
use Rattle.zi_opening.specs.Opening.{GetsNot}
use Rattle.zi_world.specs.Places.{InStore, place}
use Rattle.zi_world.specs.Surroundings.{Surroundings, meets_of}
use Rattle.zi_world.proofs.PlacesLemmas.{some_fails}
use Rattle.zi_world.proofs.StandLemmas.{in_store_by}
use Rattle.zi_choosing.specs.declared.asked.Asked.{Asked}
use Rattle.zi_fetching.specs.Download.{sources}
use Rattle.zi_fetching.specs.Outcomes.{unadded}
use Rattle.zi_launching.specs.Verifying.{Condemns, FailsToVerify, StopsVerifying}
use Rattle.zi_launching.specs.Shims.{dir_of, shim_digest, StopsAdding, CostsFirst}
use Rattle.zi_launching.proofs.AddLaws.{turn_done}
use Rattle.zi_launching.specs.Launching.{Task, Lent, launching, PreparesNot, Starts, LaunchesOver}
use Rattle.zi_launching.specs.Run.{RunsTo, RunsProgram}
use Rattle.zi_launching.specs.Opening.{stores_of, LaunchesTo, LaunchesFile}
use Rattle.zi_app.specs.Outcomes.{RoseOnFeedRead, RoseOnSpawnFault, FailsOnStoreFault}
use Rattle.zi_app.proofs.EndLemmas.{IsSpared, Feeds, Stores, Web, Spawner, Output, Ends, ends, same_count, feeds_still, stores_still, web_still, spawner_still, untouched_calm, unwritten, stopped}
use Rattle.zi_app.proofs.ChoosingEnds.{found_not}
use Rattle.zi_app.proofs.FetchingEnds.{fetches_not, chosen_calm, web_calm}
use Rattle.zi_app.proofs.StoringEnds.{AddCosts, add_costs}

-- An outcome that blames a store, or nothing.
abbrev IsOfStores : Outcome → Type 0
IsOfStores o = IsSpared Feeds o × IsSpared Web o × IsSpared Spawner o × IsSpared Output o

condemned : (d : DigestName) (v : Verdict) (o : Outcome) → Condemns d v o → IsOfStores o
condemned d verdict.Sound o w = absurd w
condemned d verdict.Missing o w = subst IsOfStores (sym w) (tt, tt, tt, tt)
condemned d (verdict.Damaged found) o w = subst IsOfStores (sym w) (tt, tt, tt, tt)
condemned d (verdict.BadName path) o w = subst IsOfStores (sym w) (tt, tt, tt, tt)
condemned d (verdict.TooLarge what limit) o w = subst IsOfStores (sym w) (tt, tt, tt, tt)

unsound_of : (d : DigestName) (o : Outcome) (before after : Shelving) → FailsToVerify d before o after → IsOfStores o
unsound_of d o before after (inl (v, w, calm, held)) = condemned d v o w
unsound_of d o before after (inr (inl (e, f))) = subst IsOfStores (sym e) (tt, tt, tt, tt)
unsound_of d o before after (inr (inr (e, calm))) = subst IsOfStores (sym e) (tt, tt, tt, tt)

-- what is told of a store whatever it is
in_store_so : (P : Shelving → Shelving → Type 0) (X : Type 0) → ((b a : Shelving) → P b a → X) → (i : ℕ) (before after : List Shelving) → InStore i before after P → X
in_store_so P X by i [] after p = absurd p
in_store_so P X by i (b ∷ bs) [] p = absurd p
in_store_so P X by zero (b ∷ bs) (a ∷ as_) p = by b a p
in_store_so P X by (suc i) (b ∷ bs) (a ∷ as_) p = in_store_so P X by i bs as_ p

-- the store failed where that is the outcome
blamed_fails : (d : DigestName) (name : List ℕ) (before after : Shelving) → FailsToVerify d before (StoreFault name) after → Fails before after
blamed_fails d name before after (inl (verdict.Sound, w, calm, held)) = absurd w
blamed_fails d name before after (inl (verdict.Missing, w, calm, held)) = absurd (cc w)
blamed_fails d name before after (inl (verdict.Damaged found, w, calm, held)) = absurd (cc w)
blamed_fails d name before after (inl (verdict.BadName path, w, calm, held)) = absurd (cc w)
blamed_fails d name before after (inl (verdict.TooLarge what limit, w, calm, held)) = absurd (cc w)
blamed_fails d name before after (inr (inl (e, f))) = f
blamed_fails d name before after (inr (inr (e, calm))) = absurd (cc e)

module _ (number : DigestName → ℕ) (names : List DigestName) (before after : List Shelving) where
  stops : (o : Outcome) → StopsVerifying number names before o after → FailsOnStoreFault o before after
  stops (StoreFault name) s =
      some_fails (number s.name) before after (in_store_by (λ b a. FailsToVerify s.name b (StoreFault name) a) Fails (λ b a f. blamed_fails s.name name b a f) (number s.name) before after s.fails)
  stops other s = elim s.calm [ inl calm ↦ calm | inr f ↦ absurd (cc f.0) ]

  stops_of : (o : Outcome) → StopsVerifying number names before o after → IsOfStores o
  stops_of o s = in_store_so (λ b a. FailsToVerify s.name b o a) (IsOfStores o) (λ b a f. unsound_of s.name o b a f) (number s.name) before after s.fails

-- Nothing is launched.
calm_stores : (o : Outcome) (x : Outcome) (before after : List Shelving) → o ≡ x → IsSpared Stores x → IsOfStores x → Each IsCalm before after → FailsOnStoreFault o before after × IsOfStores o
calm_stores o x before after e s spared calm = subst (λ y. FailsOnStoreFault y before after × IsOfStores y) (sym e) (stores_still x before after s calm, spared)

-- A shim isn't added.
unadded_of : (e : AddFault) (b a : Shelving) (bs as_ : List Shelving) → AddCosts (Err e) b a → Each IsCalm bs as_ → FailsOnStoreFault (unadded e) (b ∷ bs) (a ∷ as_) × IsOfStores (unadded e)
unadded_of (add.Failed blamed) b a bs as_ c calm = (inl c, (tt, tt, tt, tt))
unadded_of other b a bs as_ c calm = ((c, calm), (tt, tt, tt, tt))

adding_stops : (task : Task) (tried : List Tried) (calls : List ShimCall) (o : Outcome) (before after : List Shelving) → StopsAdding task.stored calls o tried → CostsFirst tried before after → FailsOnStoreFault o before after × IsOfStores o
adding_stops task tried calls o [] after s c = absurd c
adding_stops task tried calls o (b ∷ bs) [] s c = absurd c
adding_stops task tried calls o (b ∷ bs) (a ∷ as_) (inl f) (cost, calm) =
    let done = turn_done (take f.place calls) task.stored f.done f.in_turn in
    subst (λ x. FailsOnStoreFault x (b ∷ bs) (a ∷ as_) × IsOfStores x) (sym f.is)
    (unadded_of f.fault b a bs as_ (add_costs f.done done b a (shim_digest f.call) (dir_of f.call) (Err f.fault) f.last f.ends (subst (λ t. CostsAll t b a) f.all cost)) calm)
adding_stops task tried calls o (b ∷ bs) (a ∷ as_) (inr (e, (place, turn))) (cost, calm) =
    calm_stores o Memory (b ∷ bs) (a ∷ as_) e tt (tt, tt, tt, tt) (calm_done tried b a (turn_done (take place calls) task.stored tried turn) cost, calm)

prepares_not : (task : Task) (tried : List Tried) (o : Outcome) (before after : List Shelving) → PreparesNot task tried before o after → FailsOnStoreFault o before after × IsOfStores o
prepares_not task tried o before after (inl (none, inl (inl (d, m, e), calm))) = calm_stores o _ before after e tt (tt, tt, tt, tt) calm
prepares_not task tried o before after (inl (none, inl (inr e, calm))) = calm_stores o _ before after e tt (tt, tt, tt, tt) calm
prepares_not task tried o before after (inl (none, inr (inl (fault, e, plan), calm))) = calm_stores o _ before after e tt (tt, tt, tt, tt) calm
prepares_not task tried o before after (inl (none, inr (inr e, calm))) = calm_stores o _ before after e tt (tt, tt, tt, tt) calm
prepares_not task tried o before after (inr (inl u)) = adding_stops task tried u.calls o before after u.stops u.cost
prepares_not task tried o before after (inr (inr (inl u))) = (stops (place task.each) _ before after o u.stops, stops_of (place task.each) _ before after o u.stops)
prepares_not task tried o before after (inr (inr (inr u))) = calm_stores o Memory before after u.is tt (tt, tt, tt, tt) u.calm

-- What a launch comes to: it blames a store or the spawner, and nothing else.
abbrev EndsLaunch : Outcome → Lent → Lent → Type 0
EndsLaunch o before after =
    FailsOnStoreFault o before.stores after.stores × RoseOnSpawnFault o before.spawner.faults after.spawner.faults × IsSpared Feeds o × IsSpared Web o × IsSpared Output o

launched : (task : Task) (tried : List Tried) (o : Outcome) (before after : Lent) → LaunchesOver task tried before after o → EndsLaunch o before after
launched task tried o before after (inl (not, same)) = let p = prepares_not task tried o before.stores after.stores not in (p.0, spawner_still o before.spawner after.spawner p.1.2 same, p.1.0, p.1.1, p.1.3)
launched task tried o before after (inr (launch, ready, starts)) = started o starts
  where
    started : (x : Outcome) → Starts launch before.spawner after.spawner x → EndsLaunch x before after
    started (Child status) s = (ready.calm, s.0.faults, tt, tt, tt)
    started SpawnFault s = (ready.calm, s.0.failed, tt, tt, tt)
    started Memory s = (ready.calm, ap (λ (p : Spawning). p.faults) s, tt, tt, tt)
    started other s = absurd s

pub run_ends : (asked : Asked) (vars : List Var) (user : List (List ℕ)) (o : Outcome) (before after : Surroundings) → RunsProgram asked vars user before after o → Ends o before after
run_ends asked vars user o before after r = by r.comes
  where
    by : RunsTo asked vars user r.tried before after o → Ends o before after
    by (inl (found, none, started)) =
        let f = found_not asked (sources (meets_of before)) (sources (meets_of after)) o found in
        ends o before after f.0 f.1 (web_still o f.2 (same_count before.web after.web none.1)) (spawner_still o before.spawner after.spawner f.3 started) (unwritten o before.out after.out f.4 r.out)
    by (inr (c, chosen, inl s)) =
        let f = fetches_not c before.web r.tried after.web before.shelf after.shelf before.others after.others s.cost s.calm o s.fetches in
        ends o before after (feeds_still o f.2 (chosen_calm asked _ before.feeds c after.feeds chosen)) f.1 f.0 (spawner_still o before.spawner after.spawner f.3 s.nothing) (unwritten o before.out after.out f.4 r.out)
    by (inr (c, chosen, inr l)) =
        let f = launched _ _ o (launching before) (launching after) l.launches in
        ends o before after (feeds_still o f.2 (chosen_calm asked _ before.feeds c after.feeds chosen)) f.0 (web_still o f.3 (web_calm c before.web l.stored l.done after.web l.fetched)) f.1 (unwritten o before.out after.out f.4 r.out)

-- The document isn't got.
pub gets_not : (file : List ℕ) (o : Outcome) (before after : Feeding) → GetsNot file before o after
    → RoseOnFeedRead o before.faults after.faults × IsSpared Stores o × IsSpared Web o × IsSpared Spawner o × IsSpared Output o
gets_not file (FeedRead uri) before after g = (g.2, tt, tt, tt, tt)
gets_not file (NoFile name) before after g = (g.1.calm, tt, tt, tt, tt)
gets_not file (FeedTooLong uri limit) before after g = (g.1.calm, tt, tt, tt, tt)
gets_not file (BadSels fault) before after g = (g.1.asked.calm, tt, tt, tt, tt)
gets_not file Memory before after (inl e) = (same_count before after e, tt, tt, tt, tt)
gets_not file Memory before after (inr a) = (a.calm, tt, tt, tt, tt)
gets_not file other before after g = absurd g

pub launch_ends : (file : List ℕ) (vars : List Var) (user : List (List ℕ)) (o : Outcome) (before after : Surroundings) → LaunchesFile file vars user before after o → Ends o before after
launch_ends file vars user o before after l = by l.comes
  where
    web : after.web.faults ≡ before.web.faults
    web = same_count before.web after.web l.web

    by : LaunchesTo file vars user l.tried before after o → Ends o before after
    by (inl (fresh, gets, leaves)) =
        let g = gets_not file o before.feeds after.feeds gets in
        ends o before after g.0 (stores_still o (stores_of before) (stores_of after) g.1 (untouched_calm (stores_of before) (stores_of after) leaves.stores)) (web_still o g.2 web) (spawner_still o before.spawner after.spawner g.3 leaves.nothing) (unwritten o before.out after.out g.4 l.out)
    by (inr (sels, gets, inl (fresh, none, keeps, nothing))) =
        let s = stopped [] o (stores_of before) (stores_of after) none in
        ends o before after (feeds_still o s.1 gets.1.asked.calm) s.0 (web_still o s.2 web) (spawner_still o before.spawner after.spawner s.3 nothing) (unwritten o before.out after.out s.4 l.out)
    by (inr (sels, gets, inr (known, are, over))) =
        let f = launched _ _ o (launching before) (launching after) over in
        ends o before after (feeds_still o f.2 gets.1.asked.calm) f.0 (web_still o f.3 web) f.1 (unwritten o before.out after.out f.4 l.out)
