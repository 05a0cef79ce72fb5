-- Selections that are launched end as is due.
use Rattle.std.proofs.Common.{◌≡◌, ℕ, zero, suc, ◌⊎◌, inl, inr, List, [], ◌∷◌, ◌++◌, take, map, get_or, Option, Some, None, Result, Ok, Err, All, refl, sym, ap, subst, ◌∙◌, append_assoc}
use Rattle.std.proofs.lemmas.List.{append-nil}
use Rattle.std.proofs.lemmas.Option.{same_Some}
use Rattle.zi_text.specs.Count.{Rose}
use Rattle.zi_digest.specs.declared.DigestName.{DigestName}
use Rattle.zi_digest.specs.Name.{spelling}
use Rattle.zi_outside.specs.Launched.{Spawning}
use Rattle.zi_outside.specs.declared.launch.Launch.{Launch}
use Rattle.zi_tree.specs.Dir.{Dir}
use Rattle.zi_shelf.specs.Names.{Name}
use Rattle.zi_shelf.specs.Shelving.{Shelving}
use Rattle.zi_shelf.specs.Told.{Told, tree_at}
use Rattle.zi_store.specs.Keeping.{Keeps, is_reading}
use Rattle.zi_store.specs.Stores.{Each}
use Rattle.zi_universe.specs.Naming.{with_one}
use Rattle.zi_plan.specs.declared.fault.PlanFault.{PlanFault}
use Rattle.zi_plan.specs.declared.call.ShimCall.{ShimCall}
use Rattle.zi_plan.specs.Plans.{Plans}
use Rattle.zi_plan.specs.Shims.{shims_of, empty_texts}
use Rattle.zi_plan.specs.Laws.{PlanIsOne, ShimsAreOne}
use Rattle.zi_session.specs.declared.step.Step.TheVariants as step
use Rattle.zi_adding.specs.Trying.{Tried, one, CostsAll}
use Rattle.zi_adding.specs.Gains.{Uses}
use Rattle.zi_adding.proofs.HistoryLaws.{AreDone}
use Rattle.zi_outcome.specs.declared.outcome.Outcome.{Outcome}
use Rattle.zi_outcome.specs.declared.outcome.Outcome.TheVariants.{Done, MissingTree, Plan, SpawnFault, Memory, Child}
use Rattle.zi_world.specs.Places.{place, root_at, AreTold}
use Rattle.zi_world.specs.Shelves.{HeldThen}
use Rattle.zi_fetching.specs.Known.{Names}
use Rattle.zi_launching.specs.Folders.{stored_folder, folder, first_missing}
use Rattle.zi_launching.specs.Verifying.{IsSound, AreSound, SoundAt, FailsToVerify, StopsVerifying}
use Rattle.zi_launching.specs.Shims as shims
use Rattle.zi_launching.specs.Shims.{dir_of, shim_digest, FailsAdding, StopsAdding}
use Rattle.zi_launching.specs.Launching.{Task, folders_in, HasFault, IsCalled, exposed_trees, LacksTree, HasNoPlan, IsUnadded, PreparesNot, Starts, LaunchesOver}
use Rattle.zi_launching.proofs.AddLaws.{turn_done}
use Rattle.zi_launching.proofs.OwnLaws.{all_back}
use Rattle.zi_due.specs.Due as due
use Rattle.zi_due.specs.Due.{End, Comes, IsEnd}
use Rattle.zi_due.specs.Held.{HaveRoots, StandsStill}
use Rattle.zi_due.specs.Laws.{TakenFindsNone}
use Rattle.zi_due.specs.Trees.{or_next, EndsSound}
use Rattle.zi_due.specs.Turns.{Addition, InTurn, AddsInTurn}
use Rattle.zi_due.specs.Launching.{root_in, folders_by, PlansCalls, has_shim, GivesShim, tree_in, tree_behind, EndsExposed, EndsPlanned, EndsThere, EndsStart}
use Rattle.zi_due.proofs.PlaceLemmas.{stores_at, FailsDue, fails_due, sound_here}
use Rattle.zi_due.proofs.SessionLemmas.{adds_parts, done_parts, costs_fault, FailsTo, used_well, used_fails, used_tree}
use Rattle.zi_due.proofs.TurnLemmas.{IsWell, in_turn_all, in_turn_stops, addition, of_tried, adds_of, Goes, EndsTried, FailsWith, goes_all, goes_stops}

-- it ended so, or memory was refused
abbrev pub HasEndedSo : End → Outcome → Type 0
HasEndedSo end outcome = IsEnd end outcome ⊎ (outcome ≡ Memory)

pub comes_so : (end : End) (due outcome : Outcome) → end ≡ Comes due → outcome ≡ due → HasEndedSo end outcome
comes_so end due outcome e is = inl (subst (λ x. IsEnd x outcome) (sym e) is)

-- The folders are those by the paths of the stores.

root_same : (stores : List Shelving) (roots : List (List ℕ)) (i : ℕ) → HaveRoots stores roots → root_at stores i ≡ root_in roots i
root_same [] [] i h = refl
root_same [] (r ∷ rs) i h = absurd h
root_same (k ∷ ks) [] i h = absurd h
root_same (k ∷ ks) (r ∷ rs) zero h = h.0
root_same (k ∷ ks) (r ∷ rs) (suc i) h = root_same ks rs i h.1

folders_same : (task : Task) (stores : List Shelving) (roots : List (List ℕ)) → HaveRoots stores roots → folders_in task stores ≡ folders_by task roots
folders_same task stores roots h =
    ap (λ (path_of : DigestName → List ℕ). map (folder path_of task.stored) task.sels.items) (λ i d. stored_folder (root_same stores roots (place task.each d) h i) d)

-- A launch has one plan.

module _ (plans : PlanIsOne) (words : ShimsAreOne) (task : Task) (folders : List (Option (List ℕ))) where
  abbrev First : Result Launch PlanFault → Type 0
  First r = Plans task.sels task.vars task.user folders (empty_texts (shims_of task.sels folders)) r

  one_first : (r q : Result Launch PlanFault) → First r → First q → r ≡ q
  one_first r q a b = plans task.sels task.vars task.user folders (empty_texts (shims_of task.sels folders)) r q a b

  never_both : (launch : Launch) (fault : PlanFault) → First (Ok launch) → First (Err fault) → ⊥
  never_both launch fault a b = absurd (cc (one_first (Ok launch) (Err fault) a b))

  fault_same : (f g : PlanFault) → First (Err f) → First (Err g) → f ≡ g
  fault_same f g a b = let e = one_first (Err f) (Err g) a b in cc e

  calls_one : (r q : Result (List ShimCall) PlanFault) → PlansCalls task folders r → PlansCalls task folders q → r ≡ q
  calls_one (Ok c) (Ok d) a b = words task.sels task.vars folders (Ok c) (Ok d) a.1 b.1
  calls_one (Ok c) (Err g) a (inl p) = absurd (never_both a.0.0 g a.0.1 p)
  calls_one (Ok c) (Err g) a (inr p) = words task.sels task.vars folders (Ok c) (Err g) a.1 p.1
  calls_one (Err f) (Ok d) (inl p) b = absurd (never_both b.0.0 f b.0.1 p)
  calls_one (Err f) (Ok d) (inr p) b = words task.sels task.vars folders (Err f) (Ok d) p.1 b.1
  calls_one (Err f) (Err g) (inl p) (inl q) = ap Err (fault_same f g p q)
  calls_one (Err f) (Err g) (inl p) (inr q) = absurd (never_both q.0.0 f q.0.1 p)
  calls_one (Err f) (Err g) (inr p) (inl q) = absurd (never_both p.0.0 g p.0.1 q)
  calls_one (Err f) (Err g) (inr p) (inr q) = words task.sels task.vars folders (Err f) (Err g) p.1 q.1

-- Shims that were added.

given_same : (call : ShimCall) (a : Tried) → a.name ≡ shim_digest call → a.tree ≡ dir_of call → of_tried a ≡ addition (shim_digest call) (dir_of call)
given_same call a n t = ap (λ m. addition m a.tree) n ∙ ap (addition (shim_digest call)) t

goes_shims : (calls : List ShimCall) (stored : Names) (tried : List Tried) → shims.AddsInTurn stored calls tried → Goes has_shim GivesShim stored calls tried
goes_shims [] stored tried e = e
goes_shims (c ∷ cs) stored tried (inl (h, t)) = inl (h, goes_shims cs stored tried t)
goes_shims (c ∷ cs) stored tried (inr (h, (a, rest, is, o, t))) =
    inr (h, (a, rest, is, ap Ok (given_same c a o.name o.tree), goes_shims cs (with_one stored (spelling a.name)) rest t))

given_one : (call : ShimCall) (r q : Result Addition Outcome) → GivesShim call r → GivesShim call q → r ≡ q
given_one call r q a b = a ∙ sym b

-- The launch.

module _ (plans : PlanIsOne) (words : ShimsAreOne) (law : TakenFindsNone) (task : Task) (b a : Shelving) (bs as_ : List Shelving) (s : Told) (ss : List Told) (honest : b.honest) (told : b.told ≡ Some s)
    (tolds : AreTold bs ss) (roots : List (List ℕ)) (rooted : HaveRoots (b ∷ bs) roots) (fetched tried : List Tried) (done : AreDone fetched) (uses : Uses (fetched ++ tried) b a)
    (keep : Each (Keeps is_reading) bs as_) (still : Each StandsStill (b ∷ bs) (a ∷ as_)) (end : End) (h : EndsStart task roots (s ∷ ss) (adds_of fetched) end) where
  by_missing : (o : Option DigestName) → first_missing task.stored task.sels.items ≡ o → EndsThere task roots (s ∷ ss) (adds_of fetched) o end
  by_missing o e = subst (λ x. EndsThere task roots (s ∷ ss) (adds_of fetched) x end) e h

  planned : (result : Result (List ShimCall) PlanFault) → first_missing task.stored task.sels.items ≡ None → PlansCalls task (folders_in task (b ∷ bs)) result
      → EndsPlanned task (s ∷ ss) (adds_of fetched) result end
  planned result e p =
      let q = by_missing None e in
      let is : PlansCalls task (folders_by task roots) result = subst (λ fs. PlansCalls task fs result) (folders_same task (b ∷ bs) roots rooted) p in
      subst (λ r. EndsPlanned task (s ∷ ss) (adds_of fetched) r end) (calls_one plans words task (folders_by task roots) q.0 result q.1 is) q.2

  -- nothing is planned
  lacks_tree : (outcome : Outcome) → LacksTree task (b ∷ bs) outcome (a ∷ as_) → HasEndedSo end outcome
  lacks_tree outcome (inl (d, m, e), calm) = comes_so end (MissingTree (spelling d)) outcome (by_missing (Some d) m) e
  lacks_tree outcome (inr e, calm) = inr e

  fault_plans : (fault : PlanFault) → HasFault task (b ∷ bs) fault → (first_missing task.stored task.sels.items ≡ None) × PlansCalls task (folders_in task (b ∷ bs)) (Err fault)
  fault_plans fault (inl p) = (p.there, inl p.plan)
  fault_plans fault (inr ((launch, p), w)) = (p.there, inr ((launch, p.plan), w))

  has_no_plan : (outcome : Outcome) → HasNoPlan task (b ∷ bs) outcome (a ∷ as_) → HasEndedSo end outcome
  has_no_plan outcome (inl (fault, e, f), calm) =
      let q = fault_plans fault f in
      comes_so end (Plan fault) outcome (planned (Err fault) q.0 q.1) e
  has_no_plan outcome (inr e, calm) = inr e

  -- it is planned
  abbrev Behind : List ShimCall → List Addition → End → Type 0
  Behind calls shims e = InTurn (EndsExposed task (s ∷ ss) (adds_of fetched ++ shims)) (exposed_trees task calls) (λ f. f ≡ due.Starts) e

  called : (calls : List ShimCall) → IsCalled task (b ∷ bs) calls → AddsInTurn has_shim GivesShim (s ∷ ss) task.stored calls (Behind calls) end
  called calls c = planned (Ok calls) c.planned.there ((c.launch, c.planned.plan), c.words)

  -- a shim isn't added
  unadded : (outcome : Outcome) → IsUnadded task tried (b ∷ bs) outcome (a ∷ as_) → HasEndedSo end outcome
  unadded outcome u = by u.stops
    where
      fails : (f : FailsAdding task.stored u.calls outcome tried) → HasEndedSo end outcome
      fails f = of_due (used_fails b a s honest told (shim_digest f.call) (dir_of f.call) (fetched ++ f.done) f.last used all_done never f.fault outcome f.is f.ends)
        where
          used : Uses ((fetched ++ f.done) ++ f.last) b a
          used = subst (λ ts. Uses ts b a) (ap (λ ts. fetched ++ ts) f.all ∙ sym (append_assoc fetched f.done f.last)) uses

          all_done : AreDone (fetched ++ f.done)
          all_done = done_parts fetched f.done done (turn_done (take f.place u.calls) task.stored f.done f.in_turn)

          never : (tmp : Option ℕ) → f.last ≡ one (shim_digest f.call) (dir_of f.call) (step.Fault tmp) → ⊥
          never tmp e =
              still.0 (costs_fault f.done (shim_digest f.call) (dir_of f.call) tmp b a (subst (λ ts. CostsAll (f.done ++ ts) b a) e (subst (λ ts. CostsAll ts b a) f.all u.cost.0)))

          well : All (IsWell (EndsTried s)) f.done
          well = all_back (IsWell (EndsTried s)) fetched f.done (used_well b a s honest told law (fetched ++ f.done) f.last used all_done)

          of_due : FailsTo s (shim_digest f.call) (dir_of f.call) outcome → HasEndedSo end outcome
          of_due (inl m) = inr m
          of_due (inr only) =
              comes_so end outcome outcome
              (goes_stops has_shim GivesShim given_one s ss u.calls task.stored f.place f.call f.done outcome (Behind u.calls) end f.here
              (goes_shims (take f.place u.calls) task.stored f.done f.in_turn) f.wanting well
              (λ result g. subst (λ r. FailsWith s r outcome) (sym g) only) (called u.calls u.called)) refl

      by : StopsAdding task.stored u.calls outcome tried → HasEndedSo end outcome
      by (inl f) = fails f
      by (inr (e, placed)) = inr e

  -- all shims are added
  module _ (calls : List ShimCall) (is : IsCalled task (b ∷ bs) calls) (turn : shims.AddsInTurn task.stored calls tried) where
    all_done : AreDone (fetched ++ tried)
    all_done = done_parts fetched tried done (turn_done calls task.stored tried turn)

    all_added : Behind calls (adds_of tried) end
    all_added =
        goes_all has_shim GivesShim given_one s ss calls task.stored tried (Behind calls) end (goes_shims calls task.stored tried turn)
        (all_back (IsWell (EndsTried s)) fetched tried
        (used_well b a s honest told law (fetched ++ tried) [] (subst (λ ts. Uses ts b a) (sym (append-nil (fetched ++ tried))) uses) all_done))
        (called calls is)

    abbrev more : List Addition
    more = adds_of fetched ++ adds_of tried

    first : (n : Name) (t : Told) → a.told ≡ Some t → tree_at t n ≡ or_next (tree_at s n) (tree_in more n)
    first n t e =
        let u = used_tree (fetched ++ tried) b a s n honest told uses all_done in
        let same : u.0 ≡ t = same_Some u.0 t (sym u.1 ∙ e) in
        subst (λ (x : Told). tree_at x n ≡ or_next (tree_at s n) (tree_in more n)) same (subst (λ ms. tree_at u.0 n ≡ or_next (tree_at s n) (tree_in ms n)) (adds_parts fetched tried) u.2)

    abbrev tree_for : DigestName → Option Dir
    tree_for d = tree_behind (place task.each d) (s ∷ ss) more (spelling d)

    well_sound : (d : DigestName) → SoundAt (place task.each) (b ∷ bs) (a ∷ as_) d → IsWell (EndsExposed task (s ∷ ss) more) d
    well_sound d h =
        stores_at (spelling d) (place task.each d) b a bs as_ s ss more honest told tolds (first (spelling d)) keep still (λ x y. HeldThen x y (λ z. IsSound z d))
        ((o : Outcome) → EndsSound d (tree_for d) o → o ≡ Done) (sound_here d (tree_for d)) h

    all_sound : (ns : List DigestName) → AreSound (place task.each) (b ∷ bs) (a ∷ as_) ns → All (IsWell (EndsExposed task (s ∷ ss) more)) ns
    all_sound ns h = λ k d lt. well_sound (get_or ns k d) (h k d lt)

    unsound : (outcome : Outcome) → StopsVerifying (place task.each) (exposed_trees task calls) (b ∷ bs) outcome (a ∷ as_) → HasEndedSo end outcome
    unsound outcome v =
        by (stores_at (spelling v.name) (place task.each v.name) b a bs as_ s ss more honest told tolds (first (spelling v.name)) keep still (λ x y. FailsToVerify v.name x outcome y)
        (FailsDue v.name (tree_for v.name) outcome) (fails_due v.name (tree_for v.name) outcome) v.fails)
      where
        by : FailsDue v.name (tree_for v.name) outcome → HasEndedSo end outcome
        by (inl m) = inr m
        by (inr only) =
            comes_so end outcome outcome
            (in_turn_stops (EndsExposed task (s ∷ ss) more) (λ f. f ≡ due.Starts) (exposed_trees task calls) v.place v.name outcome end v.here (all_sound (take v.place (exposed_trees task calls)) v.sound) only all_added)
            refl

    started : AreSound (place task.each) (b ∷ bs) (a ∷ as_) (exposed_trees task calls) → end ≡ due.Starts
    started h = in_turn_all (EndsExposed task (s ∷ ss) more) (λ f. f ≡ due.Starts) (exposed_trees task calls) end (all_sound (exposed_trees task calls) h) all_added

  not_prepared : (outcome : Outcome) → PreparesNot task tried (b ∷ bs) outcome (a ∷ as_) → HasEndedSo end outcome
  not_prepared outcome (inl (none, inl l)) = lacks_tree outcome l
  not_prepared outcome (inl (none, inr p)) = has_no_plan outcome p
  not_prepared outcome (inr (inl u)) = unadded outcome u
  not_prepared outcome (inr (inr (inl u))) = unsound u.calls u.called u.added outcome u.stops
  not_prepared outcome (inr (inr (inr u))) = inr u.is

  start_ends : (launch : Launch) (old new : Spawning) (outcome : Outcome) → ¬ Rose old.faults new.faults → end ≡ due.Starts → Starts launch old new outcome → HasEndedSo end outcome
  start_ends launch old new (Child status) calm e l = inl (subst (λ x. IsEnd x (Child status)) (sym e) tt)
  start_ends launch old new SpawnFault calm e l = absurd (calm l.0.failed)
  start_ends launch old new Memory calm e l = inr refl
  start_ends launch old new other calm e l = absurd l

  pub over_ends : (old new : Spawning) (outcome : Outcome) → ¬ Rose old.faults new.faults
      → LaunchesOver task tried (record { stores = b ∷ bs; spawner = old }) (record { stores = a ∷ as_; spawner = new }) outcome → HasEndedSo end outcome
  over_ends old new outcome calm (inl (not, same)) = not_prepared outcome not
  over_ends old new outcome calm (inr (launch, ready, l)) = start_ends launch old new outcome calm (started ready.calls ready.called ready.added ready.sound) l
