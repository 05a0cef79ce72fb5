-- What a run comes to, stage by stage.
use Rattle.std.proofs.Common.{◌≡◌, ℕ, inl, inr, List, [], ◌∷◌, ◌++◌, map, get_or, refl, true, ap, sym, ◌∙◌, subst, All, Result, Ok, Err}
use Rattle.zi_tree.specs.Dir.{Dir}
use Rattle.zi_outside.specs.Views.{Feeding, Sinking, holding}
use Rattle.zi_outside.specs.Launched.{Spawning}
use Rattle.zi_outside.specs.declared.launch.Launch.{Launch}
use Rattle.zi_outside.specs.declared.var.Var.{Var}
use Rattle.zi_shelf.specs.Shelved.{Shelved}
use Rattle.zi_shelf.specs.Shelving.{Shelving}
use Rattle.zi_universe.specs.Loading.{names_of}
use Rattle.zi_sels_laws.proofs.WholeLaws.{chosen_whole}
use Rattle.zi_sels_laws.proofs.TreeLaws.{chosen_no_trees}
use Rattle.zi_shim_laws.specs.Programs.{HavePrograms}
use Rattle.zi_sels.specs.declared.types.Selection.{Selection}
use Rattle.zi_plan.specs.declared.call.ShimCall.{ShimCall}
use Rattle.zi_plan.specs.Plans.{Plans}
use Rattle.zi_plan.specs.Shims.{ShimsOf, shims_of, empty_texts}
use Rattle.zi_plan.specs.declared.fault.PlanFault.{PlanFault}
use Rattle.zi_adding.specs.Trying.{Tried}
use Rattle.zi_adding.proofs.AddingLemmas.{adds_nothing}
use Rattle.zi_adding.proofs.HistoryLaws.{costs_from, uses_gain, names_only_read}
use Rattle.zi_outcome.specs.declared.outcome.Outcome.{Outcome}
use Rattle.zi_choosing.specs.Wanted.{requirement_of}
use Rattle.zi_choosing.specs.declared.asked.Asked.{Asked}
use Rattle.zi_choosing.specs.declared.chosen.Chosen.{Chosen}
use Rattle.zi_choosing.specs.Knowing.{all_names}
use Rattle.zi_choosing.specs.Finding.{FindsBest}
use Rattle.zi_fetching.specs.Known.{Names, is_there}
use Rattle.zi_fetching.specs.Fetching.{from_chosen, names_in, FetchesAll}
use Rattle.zi_fetching.proofs.FetchLaws.{turn_done}
use Rattle.zi_world.proofs.AskingLemmas.{feeds_same}
use Rattle.zi_fetching.proofs.WebLaws.{web_stays}
use Rattle.zi_fetching.proofs.DownloadLaws.{used, chosen_so, cost_so, calm_so, turn_there}
use Rattle.zi_store.specs.Stores.{Each, IsCalm}
use Rattle.zi_world.specs.Shelves.{HeldThen}
use Rattle.zi_world.specs.Places.{InStore, place}
use Rattle.zi_world.proofs.PlacesLemmas.{each_then}
use Rattle.zi_launching.proofs.LaunchLaws.{reads_then}
use Rattle.zi_launching.proofs.FolderLaws.{none_missing}
use Rattle.zi_launching.proofs.MissingLaws.{all_placed, never_missing}
use Rattle.zi_launching.proofs.LackLaws.{lacks_nothing}
use Rattle.zi_launching.proofs.NameLaws.{all_programs}
use Rattle.zi_launching.specs.Folders.{folder}
use Rattle.zi_launching.specs.Verifying.{IsSound}
use Rattle.zi_launching.specs.Shims.{shim_digest, IsShim, CostsFirst}
use Rattle.zi_launching.specs.Launching.{Task, tree_folder, folders_in, no_shims, IsPlan, IsCalled, HasFault, shim_folders, exposed_trees, IsExposed, IsReady, PreparesNot, LaunchesOver, LaunchesWith}
use Rattle.zi_launching.proofs.AddLaws.{adds_more, read_use}
use Rattle.zi_launching.proofs.LiftLaws.{Reaches, lift_held, in_lift, lift_calm, lift_stops, folders_stay, reaches, all_named, all_only_read}
use Rattle.zi_launching.specs.Run.{RunsProgram}

-- What the launching comes to, over stores that have come so from an earlier moment.
module _ (before mid after : List Shelving) (r : Each Reaches before mid) where
  lift_plan : (task : Task) (shims : List (List ℕ)) (result : Result Launch PlanFault) → IsPlan task mid shims result → IsPlan task before shims result
  lift_plan task shims result p = record {
    there = p.there;
    plan = subst (λ path_of. Plans task.sels task.vars task.user (map (folder path_of task.stored) task.sels.items) shims result) (folders_stay before mid after r task) p.plan;
  }

  first_plan : (task : Task) (result : Result Launch PlanFault) → IsPlan task mid (no_shims task mid) result → IsPlan task before (no_shims task before) result
  first_plan task result p = record {
    there = p.there;
    plan = subst (λ path_of. Plans task.sels task.vars task.user (map (folder path_of task.stored) task.sels.items) (empty_texts (shims_of task.sels (map (folder path_of task.stored) task.sels.items))) result)
        (folders_stay before mid after r task) p.plan;
  }

  lift_words : (task : Task) (result : Result (List ShimCall) PlanFault) → ShimsOf task.sels task.vars (folders_in task mid) result → ShimsOf task.sels task.vars (folders_in task before) result
  lift_words task result w = subst (λ path_of. ShimsOf task.sels task.vars (map (folder path_of task.stored) task.sels.items) result) (folders_stay before mid after r task) w

  lift_called : (task : Task) (calls : List ShimCall) → IsCalled task mid calls → IsCalled task before calls
  lift_called task calls c = record { launch = c.launch; planned = first_plan task (Ok c.launch) c.planned; words = lift_words task (Ok calls) c.words }

  lift_fault : (task : Task) (fault : PlanFault) → HasFault task mid fault → HasFault task before fault
  lift_fault task fault (inl p) = inl (first_plan task (Err fault) p)
  lift_fault task fault (inr ((launch, p), w)) = inr ((launch, first_plan task (Ok launch) p), lift_words task (Err fault) w)

  lift_cost : (tried : List Tried) → CostsFirst tried mid after → CostsFirst tried before after
  lift_cost tried c = by before mid after r c
    where
      by : (before mid after : List Shelving) → Each Reaches before mid → CostsFirst tried mid after → CostsFirst tried before after
      by before [] [] r c = absurd c
      by before [] (a ∷ as_) r c = absurd c
      by before (m ∷ ms) [] r c = absurd c
      by [] (m ∷ ms) (a ∷ as_) r c = absurd r
      by (b ∷ bs) (m ∷ ms) (a ∷ as_) r c = (costs_from tried b m a r.0.calm r.0.sure c.0, each_then Reaches IsCalm IsCalm (λ x y z h k. k ∙ h.calm) bs ms as_ r.1 c.1)

  lift_not : (task : Task) (tried : List Tried) (outcome : Outcome) → PreparesNot task tried mid outcome after → PreparesNot task tried before outcome after
  lift_not task tried outcome (inl (none, inl (lacks, calm))) = inl (none, inl (lacks, lift_calm before mid after r calm))
  lift_not task tried outcome (inl (none, inr (inl (fault, e, f), calm))) = inl (none, inr (inl (fault, e, lift_fault task fault f), lift_calm before mid after r calm))
  lift_not task tried outcome (inl (none, inr (inr e, calm))) = inl (none, inr (inr e, lift_calm before mid after r calm))
  lift_not task tried outcome (inr (inl u)) = inr (inl (record { calls = u.calls; called = lift_called task u.calls u.called; stops = u.stops; cost = lift_cost tried u.cost }))
  lift_not task tried outcome (inr (inr (inl u))) =
      inr (inr (inl (record { calls = u.calls; called = lift_called task u.calls u.called; added = u.added; stops = lift_stops before mid after r (place task.each) (exposed_trees task u.calls) outcome u.stops })))
  lift_not task tried outcome (inr (inr (inr u))) =
      inr (inr (inr (record { is = u.is; calls = u.calls; called = lift_called task u.calls u.called; added = u.added; calm = lift_calm before mid after r u.calm })))

  lift_in : (P : Shelved Dir → Type 0) (i : ℕ) → InStore i mid after (λ b a. HeldThen b a P) → InStore i before after (λ b a. HeldThen b a P)
  lift_in P i h = in_lift (λ b a. HeldThen b a P) (λ b a. HeldThen b a P) (λ b m a reach held. lift_held b m a P reach held) i before mid after r h

  lift_exposed : (task : Task) (x : Selection) → IsExposed task mid after x → IsExposed task before after x
  lift_exposed task x (inl h) = inl h
  lift_exposed task x (inr (inl h)) = inr (inl h)
  lift_exposed task x (inr (inr (d, tree, has, sound))) = inr (inr (d, tree, has, lift_in (λ s. IsSound s d) (place task.each d) sound))

  lift_folders : (task : Task) (calls : List ShimCall) → shim_folders task mid calls ≡ shim_folders task before calls
  lift_folders task calls = ap (λ path_of. map (λ call. path_of (shim_digest call)) calls) (folders_stay before mid after r task)

  lift_ready : (task : Task) (tried : List Tried) (launch : Launch) → IsReady task tried mid launch after → IsReady task tried before launch after
  lift_ready task tried launch y = record {
    calls = y.calls;
    called = lift_called task y.calls y.called;
    added = y.added;
    planned = lift_plan task (shim_folders task before y.calls) (Ok launch) (subst (λ ts. IsPlan task mid ts (Ok launch)) (lift_folders task y.calls) y.planned);
    calm = lift_calm before mid after r y.calm;
    sound = λ k d lt. lift_in (λ s. IsSound s (get_or (exposed_trees task y.calls) k d)) (place task.each (get_or (exposed_trees task y.calls) k d)) (y.sound k d lt);
    exposed = λ k d lt. lift_exposed task (get_or task.sels.items k d) (y.exposed k d lt);
    shims = λ k d lt. lift_in (λ s. IsShim tried s (get_or y.calls k d)) (place task.each (shim_digest (get_or y.calls k d))) (y.shims k d lt);
  }

  pub lift_over : (task : Task) (tried : List Tried) (old new : Spawning) (outcome : Outcome) → LaunchesOver task tried (record { stores = mid; spawner = old }) (record { stores = after; spawner = new }) outcome
      → LaunchesOver task tried (record { stores = before; spawner = old }) (record { stores = after; spawner = new }) outcome
  lift_over task tried old new outcome (inl (not, nothing)) = inl (lift_not task tried outcome not, nothing)
  lift_over task tried old new outcome (inr (launch, ready, starts)) = inr (launch, lift_ready task tried launch ready, starts)

-- Nothing was chosen.
pub unfound_run : (asked : Asked) (vars : List Var) (user : List (List ℕ)) (old new : Feeding) (shelf mid : Shelving) (others thens : List Shelving) (web : Feeding) (spawner : Spawning) (out : Sinking) (outcome : Outcome)
    → FindsBest asked (record { feeds = old; stores = shelf ∷ others }) (record { feeds = new; stores = mid ∷ thens }) (Err outcome)
    → RunsProgram asked vars user (record { feeds = old; shelf = shelf; others = others; web = web; spawner = spawner; out = out }) (record { feeds = new; shelf = mid; others = thens; web = web; spawner = spawner; out = out }) outcome
unfound_run asked vars user old new shelf mid others thens web spawner out outcome f =
    let u = used [] shelf mid mid f.stores.0 (adds_nothing mid) in
    record {
      feeds = f.feeds;
      web = feeds_same web;
      out = refl;
      tried = [];
      comes = inl (f.answer, (refl, refl), refl);
      shelf = u;
      stored = uses_gain [] shelf mid u;
      others = all_only_read others thens f.stores.1;
    }

module _ (asked : Asked) (vars : List Var) (user : List (List ℕ)) (fed new : Feeding) (shelf mid : Shelving) (others thens : List Shelving) (c : Chosen)
    (f : FindsBest asked (record { feeds = fed; stores = shelf ∷ others }) (record { feeds = new; stores = mid ∷ thens }) (Ok c)) where
  -- One of the selections wasn't fetched.
  pub unfetched_run : (web then : Feeding) (after : Shelving) (spawner : Spawning) (out : Sinking) (outcome : Outcome) → FetchesAll c (record { web = web; shelf = mid }) (Err outcome) (record { web = then; shelf = after })
      → RunsProgram asked vars user (record { feeds = fed; shelf = shelf; others = others; web = web; spawner = spawner; out = out }) (record { feeds = new; shelf = after; others = thens; web = then; spawner = spawner; out = out }) outcome
  unfetched_run web then after spawner out outcome g =
      let u = used g.tried shelf mid after f.stores.0 g.adds in
      record {
        feeds = f.feeds;
        web = web_stays c web (Err outcome) g.tried then g.fetches;
        out = refl;
        tried = g.tried;
        comes = inr (c, chosen_so asked fed new shelf mid others thens c f, inl (record { fetches = g.fetches; cost = cost_so asked fed new shelf mid others thens c f g.tried after g.adds; calm = calm_so asked fed new shelf mid others thens c f; nothing = refl }));
        shelf = u;
        stored = uses_gain g.tried shelf after u;
        others = all_only_read others thens f.stores.1;
      }

  -- All were fetched, and they are launched.
  pub fetched_run : (web then : Feeding) (now after : Shelving) (ends : List Shelving) (old next : Spawning) (out : Sinking) (stored : Names) (outcome : Outcome)
      → FetchesAll c (record { web = web; shelf = mid }) (Ok stored) (record { web = then; shelf = now }) → HavePrograms c.sels
      → LaunchesWith (record { sels = c.sels; each = c.known.each; stored = stored; vars = vars; user = user }) (record { stores = now ∷ thens; spawner = old }) (record { stores = after ∷ ends; spawner = next }) outcome
      → RunsProgram asked vars user (record { feeds = fed; shelf = shelf; others = others; web = web; spawner = old; out = out }) (record { feeds = new; shelf = after; others = ends; web = then; spawner = next; out = out }) outcome
  fetched_run web then now after ends old next out stored outcome g programs l =
      let turn = g.fetches.in_turn in
      let done = turn_done (from_chosen c) c.sels.items (names_in c) web g.tried then turn in
      let r : Each Reaches (shelf ∷ others) (now ∷ thens) = (reaches g.tried shelf mid now done f.answer.1.0.0.0 f.stores.0 g.adds, all_named others thens f.answer.1.0.0.1 f.stores.1) in
      let tried = g.tried ++ l.tried in
      let u = read_use tried shelf mid after (names_only_read shelf mid f.stores.0) (adds_more g.tried l.tried mid now after g.adds l.works.0) in
      let gains = uses_gain tried shelf after u in
      let read = reads_then others thens ends (all_only_read others thens f.stores.1) l.works.1 in
      let task : Task = record { sels = c.sels; each = c.known.each; stored = stored; vars = vars; user = user } in
      let over = lift_over (shelf ∷ others) (now ∷ thens) (after ∷ ends) r task l.tried old next outcome l.launches in
      let there = subst (λ n. All (λ x. is_there n x ≡ true) c.sels.items) (sym g.fetches.names) (turn_there (from_chosen c) c.sels.items (names_in c) web g.tried then turn) in
      let placed = all_placed (tree_folder task (shelf ∷ others)) stored c.sels.items there in
      let is = f.answer.2 in
      let whole = chosen_whole (holding f.answer.0) (requirement_of asked.ask) asked.ask.policy (names_of (all_names c.known.each) c.known.packages) c.universe c.choice.picks c.sels is.loaded.loads is.best.valid is.selected in
      let bare = chosen_no_trees (holding f.answer.0) (requirement_of asked.ask) asked.ask.policy (names_of (all_names c.known.each) c.known.packages) c.universe c.choice.picks c.sels is.loaded.loads is.best.valid is.selected in
      let missed = none_missing stored c.sels.items bare there in
      record {
        feeds = f.feeds;
        web = web_stays c web (Ok stored) g.tried then g.fetches;
        out = refl;
        tried = tried;
        comes = inr (
          c,
          chosen_so asked fed new shelf mid others thens c f,
          inr (record {
            stored = stored;
            done = g.tried;
            shims = l.tried;
            all = refl;
            fetched = g.fetches;
            there = missed;
            placed = placed;
            launches = over;
            found = never_missing c web then stored g.tried l.tried shelf after others ends f.answer.1.0.1 g.fetches gains u.stays read task old next outcome refl refl missed over;
            whole = lacks_nothing task l.tried (shelf ∷ others) (after ∷ ends) old next outcome whole (all_programs c.sels (folders_in task (shelf ∷ others)) programs) placed over;
          }),
        );
        shelf = u;
        stored = gains;
        others = read;
      }
