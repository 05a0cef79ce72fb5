-- What the plan of a choice never fails by: each selection and each folder on its way is there, and so is each command.
use Rattle.std.proofs.Common.{◌≡◌, ℕ, inl, inr, ◌⊎◌, Bool, true, false, ◌||◌, cond, List, [], ◌∷◌, map, find, Option, Some, None, IsSome, option_map, refl, sym, ◌∙◌, ap, subst, All, Result, Ok, Err}
use Rattle.std.specs.Prelude.{IfSome, IsSomeAnd, bytes_eq, if◌then◌else◌}
use Rattle.std.specs.Option.{option_or, is_some}
use Rattle.std.proofs.lemmas.List.Elements.{All-head, All-tail}
use Rattle.std.proofs.lemmas.Option.{same_Some}
use Rattle.zi_outside.specs.Launched.{Spawning}
use Rattle.zi_outside.specs.Vars.{value_of}
use Rattle.zi_outside.specs.declared.var.Var.{Var}
use Rattle.zi_shelf.specs.Shelving.{Shelving}
use Rattle.zi_store.specs.declared.verdicts.Verdict.{Verdict}
use Rattle.zi_store.specs.declared.verdicts.Verdict.TheVariants as verdict
use Rattle.zi_digest.specs.declared.DigestName.{DigestName}
use Rattle.zi_parts.specs.declared.types.Runner.{Runner}
use Rattle.zi_parts.specs.declared.types.Command.{Command}
use Rattle.zi_bind.specs.declared.fault.ApplyFault.{ApplyFault}
use Rattle.zi_bind.specs.declared.fault.ApplyFault.TheVariants as apply
use Rattle.zi_bind.specs.declared.fault.BindFault.{BindFault}
use Rattle.zi_sels.specs.declared.types.Selection.{Selection}
use Rattle.zi_sels.specs.declared.types.Selections.{Selections}
use Rattle.zi_sels_laws.specs.Whole.{IsNamed, HasCommand, RunnerIsThere, CanBeRun, AreWhole}
use Rattle.zi_plan.specs.declared.fault.PlanFault.{PlanFault}
use Rattle.zi_plan.specs.declared.fault.PlanFault.TheVariants as fault
use Rattle.zi_plan.specs.Placed.{Placed, placed_in, all_placed, without_folder, placed_for}
use Rattle.zi_plan.specs.Chain.{Asked, Link, is_met, command_of, is_path_in, command_fault, path_fault, checked_link, link_in, link_of, link_for, asked_by, behind, Leads, stops, ends, goes_on, no_path, last_fault}
use Rattle.zi_plan.specs.Launches.{all_bindings, binding_fault, chain_words, spoken_all}
use Rattle.zi_plan.specs.declared.call.ShimCall.{ShimCall}
use Rattle.zi_plan.specs.Launches.{Bound}
use Rattle.zi_plan.specs.Shims.{asked_of, unless, SaysWords, Calls, ShimsBound, ShimsPlaced, ShimsOf, shims_of}
use Rattle.zi_bind.specs.Expansion.{Values}
use Rattle.zi_adding.specs.declared.adding.AddFault.{AddFault}
use Rattle.zi_adding.specs.declared.adding.AddFault.TheVariants as add
use Rattle.zi_adding.specs.Trying.{Tried}
use Rattle.zi_fetching.specs.Outcomes.{unadded}
use Rattle.zi_launching.specs.Shims.{StopsAdding}
use Rattle.zi_plan.specs.Plans.{fault_by, said, bound, launched, checked, of_chain, by_chain, PlansCommand, PlansPlaced, Plans}
use Rattle.zi_outcome.specs.declared.outcome.Outcome.{Outcome}
use Rattle.zi_outcome.specs.declared.outcome.Outcome.TheVariants.{Plan}
use Rattle.zi_fetching.specs.Known.{Names}
use Rattle.zi_world.specs.Places.{place}
use Rattle.zi_world.proofs.StandLemmas.{never_in_store}
use Rattle.zi_launching.specs.Folders.{folder}
use Rattle.zi_launching.specs.Verifying.{Condemns, FailsToVerify}
use Rattle.zi_launching.specs.Launching.{Task, tree_folder, folders_in, no_shims, HasFault, PreparesNot, LaunchesOver, Starts}
use Rattle.zi_launching.specs.Run.{IsNoLack, LacksNothing}
use Rattle.zi_launching.proofs.NameLaws.{HasProgram}
use Rattle.zi_choice.proofs.Base.{if_some_at}

-- a fault that isn't of something that is missing
abbrev NoneLacks : PlanFault → Type 0
NoneLacks (fault.NoSelection interface) = ⊥
NoneLacks (fault.NoCommand interface command) = ⊥
NoneLacks (fault.NoFolder interface) = ⊥
NoneLacks _ = Unit {0}

no_lack : (command : Option (List ℕ)) (reason : PlanFault) → NoneLacks reason → IsNoLack command reason
no_lack command (fault.NoSelection interface) h = h
no_lack command (fault.NoCommand interface name) h = absurd h
no_lack command (fault.NoFolder interface) h = h
no_lack command (fault.NoPath interface name) h = tt
no_lack command (fault.Loop interface name) h = tt
no_lack command (fault.Bind reason) h = tt
no_lack command (fault.Unbuilt element) h = tt
no_lack command (fault.BadPath text) h = tt
no_lack command fault.Memory h = tt

err_same : {X : Type 0} (x y : PlanFault) → ◌≡◌ {A = Result X PlanFault} (Err x) (Err y) → x ≡ y
err_same x y e = cc

-- what is found of a list in which all are so is so
found_so : {X : Type 0} (P : X → Type 0) (test : X → Bool) (xs : List X) (x : X) → All P xs → find test xs ≡ Some x → P x
found_so P test [] x h e = absurd (cc e)
found_so P test (y ∷ xs) x h e = by (test y) e (found_so P test xs x (All-tail P y xs h))
  where
    by : (b : Bool) → cond b (Some y) (find test xs) ≡ Some x → (find test xs ≡ Some x → P x) → P x
    by true e go = subst P (same_Some y x e) (All-head P y xs h)
    by false e go = go e

behind_err : (link : Link) (answer : Result (List Link) PlanFault) (reason : PlanFault) → behind link answer ≡ Err reason → answer ≡ Err reason
behind_err link (Ok links) reason e = absurd (cc e)
behind_err link (Err f) reason e = ap (λ r. Err r) (err_same f reason e)

-- the selections in their folders
module _ (items : List Selection) (folders : List (Option (List ℕ))) (placed : without_folder items folders ≡ None) where
  rest_placed : (b : Bool) (x : Selection) (xs : List Selection) (fs : List (Option (List ℕ))) → (if b then without_folder xs fs else Some x.interface) ≡ None → without_folder xs fs ≡ None
  rest_placed true x xs fs w = w
  rest_placed false x xs fs w = absurd (cc w)

  placed_has : (P : Selection → Type 0) (i : List ℕ) (xs : List Selection) (fs : List (Option (List ℕ))) → without_folder xs fs ≡ None → IsSomeAnd (find (λ (x : Selection). bytes_eq x.interface i) xs) P
      → IsSomeAnd (placed_for (all_placed xs fs) i) (λ p. P p.selection)
  placed_has P i [] fs w h = absurd h
  placed_has P i (x ∷ xs) [] w h = absurd (cc w)
  placed_has P i (x ∷ xs) (f ∷ fs) w h = by (bytes_eq x.interface i) h (placed_has P i xs fs (rest_placed (is_some x.«package» || is_some f) x xs fs w))
    where
      by : (b : Bool) → IsSomeAnd (cond b (Some x) (find (λ (x : Selection). bytes_eq x.interface i) xs)) P
          → (IsSomeAnd (find (λ (x : Selection). bytes_eq x.interface i) xs) P → IsSomeAnd (placed_for (all_placed xs fs) i) (λ p. P p.selection))
          → IsSomeAnd (cond b (Some (placed_in x f)) (placed_for (all_placed xs fs) i)) (λ p. P p.selection)
      by true h go = h
      by false h go = go h

  selection_found : (i : List ℕ) (xs : List Selection) (fs : List (Option (List ℕ))) (p : Placed) → without_folder xs fs ≡ None → placed_for (all_placed xs fs) i ≡ Some p
      → find (λ (x : Selection). bytes_eq x.interface i) xs ≡ Some p.selection
  selection_found i [] fs p w e = absurd (cc e)
  selection_found i (x ∷ xs) [] p w e = absurd (cc w)
  selection_found i (x ∷ xs) (f ∷ fs) p w e = by (bytes_eq x.interface i) e (selection_found i xs fs p (rest_placed (is_some x.«package» || is_some f) x xs fs w))
    where
      by : (b : Bool) → cond b (Some (placed_in x f)) (placed_for (all_placed xs fs) i) ≡ Some p
          → (placed_for (all_placed xs fs) i ≡ Some p → find (λ (x : Selection). bytes_eq x.interface i) xs ≡ Some p.selection)
          → cond b (Some x) (find (λ (x : Selection). bytes_eq x.interface i) xs) ≡ Some p.selection
      by true e go = ap (λ (q : Placed). Some q.selection) (same_Some (placed_in x f) p e)
      by false e go = go e

  abbrev ps : List Placed
  ps = all_placed items folders

  -- a command that is asked for is there
  abbrev IsThere : Asked → Type 0
  IsThere asked = IsSomeAnd (placed_for ps asked.interface) (λ p. IsNamed asked.command p.selection.commands)

  is_there : (asked : Asked) → HasCommand items asked.interface asked.command → IsThere asked
  is_there asked h = placed_has (λ x. IsNamed asked.command x.commands) asked.interface items folders placed h

  -- what a link is made of
  record IsLinked (asked : Asked) (link : Link) : Type 0 where
    place : Placed
    found : placed_for ps asked.interface ≡ Some place
    named : command_of place.selection.commands asked.command ≡ Some link.command

  link_is : (met : List Asked) (asked : Asked) (link : Link) → link_for ps met asked ≡ Ok link → IsLinked asked link
  link_is met asked link e = by (is_met met asked) (placed_for ps asked.interface) refl e
    where
      of_fault : (p : Placed) (k : Command) (o : Option PlanFault) → placed_for ps asked.interface ≡ Some p → command_of p.selection.commands asked.command ≡ Some k → checked_link asked p k o ≡ Ok link → IsLinked asked link
      of_fault p k None at named e =
          let same : ◌≡◌ {A = Link} (record { interface = asked.interface; folder = p.folder; command = k }) link = cc in
          record { place = p; found = at; named = named ∙ ap (λ (l : Link). Some l.command) same }
      of_fault p k (Some reason) at named e = absurd (cc e)

      of_command : (p : Placed) (o : Option Command) → placed_for ps asked.interface ≡ Some p → command_of p.selection.commands asked.command ≡ o → link_in asked p o ≡ Ok link → IsLinked asked link
      of_command p None at named e = absurd (cc e)
      of_command p (Some k) at named e = of_fault p k (command_fault p.folder k) at named e

      by : (b : Bool) (o : Option Placed) → placed_for ps asked.interface ≡ o → (if b then Err (fault.Loop asked.interface asked.command) else link_of asked o) ≡ Ok link → IsLinked asked link
      by true o at e = absurd (cc e)
      by false None at e = absurd (cc e)
      by false (Some p) at e = of_command p (command_of p.selection.commands asked.command) at refl e

  path_lacks : (folder o : Option (List ℕ)) (f : PlanFault) → path_fault folder o ≡ Some f → NoneLacks f
  path_lacks folder None f e = absurd (cc e)
  path_lacks folder (Some text) f e = by (is_path_in folder text) e
    where
      by : (b : Bool) → (if b then None else Some (fault.BadPath text)) ≡ Some f → NoneLacks f
      by true e = absurd (cc e)
      by false e = subst NoneLacks (same_Some (fault.BadPath text) f e) tt

  command_lacks : (folder : Option (List ℕ)) (k : Command) (f : PlanFault) → command_fault folder k ≡ Some f → NoneLacks f
  command_lacks folder k f e = by k.unbuilt e
    where
      by : (o : Option (List ℕ)) → option_or (option_map (λ element. fault.Unbuilt element) o) (path_fault folder k.path) ≡ Some f → NoneLacks f
      by None e = path_lacks folder k.path f e
      by (Some element) e = subst NoneLacks (same_Some (fault.Unbuilt element) f e) tt

  link_lacks : (met : List Asked) (asked : Asked) (reason : PlanFault) → IsThere asked → link_for ps met asked ≡ Err reason → NoneLacks reason
  link_lacks met asked reason there e = by (is_met met asked) (placed_for ps asked.interface) there e
    where
      of_fault : (p : Placed) (k : Command) (o : Option PlanFault) → command_fault p.folder k ≡ o → checked_link asked p k o ≡ Err reason → NoneLacks reason
      of_fault p k None at e = absurd (cc e)
      of_fault p k (Some f) at e = command_lacks p.folder k reason (at ∙ ap (λ r. Some r) (err_same f reason e))

      of_command : (p : Placed) (o : Option Command) → IsSome o → link_in asked p o ≡ Err reason → NoneLacks reason
      of_command p None h e = absurd (cc h)
      of_command p (Some k) h e = of_fault p k (command_fault p.folder k) refl e

      by : (b : Bool) (o : Option Placed) → IsSomeAnd o (λ p. IsNamed asked.command p.selection.commands) → (if b then Err (fault.Loop asked.interface asked.command) else link_of asked o) ≡ Err reason → NoneLacks reason
      by true o h e = subst NoneLacks (err_same (fault.Loop asked.interface asked.command) reason e) tt
      by false None h e = absurd h
      by false (Some p) h e = of_command p (command_of p.selection.commands asked.command) h e

  module _ (runs : All (λ (x : Selection). All (CanBeRun items) x.commands) items) where
    next_there : (asked : Asked) (link : Link) (runner : Runner) → IsLinked asked link → link.command.runner ≡ Some runner → IsThere (asked_by runner)
    next_there asked link runner l e =
        let found = selection_found asked.interface items folders l.place placed l.found in
        let all = found_so (λ (x : Selection). All (CanBeRun items) x.commands) (λ x. bytes_eq x.interface asked.interface) items l.place.selection runs found in
        let one = found_so (CanBeRun items) (λ k. bytes_eq k.name asked.command) l.place.selection.commands link.command all l.named in
        is_there (asked_by runner) (if_some_at (RunnerIsThere items) link.command.runner runner e one)

    leads_lack : {met : List Asked} {asked : Asked} {chain : Result (List Link) PlanFault} → Leads ps met asked chain → IsThere asked → (reason : PlanFault) → chain ≡ Err reason → NoneLacks reason
    leads_lack {met} {asked} (stops {reason = r} e) there reason same = subst NoneLacks (err_same r reason same) (link_lacks met asked r there e)
    leads_lack (ends link e none) there reason same = absurd (cc same)
    leads_lack {met} {asked} (goes_on {answer = answer} link runner e next rest) there reason same =
        leads_lack rest (next_there asked link runner (link_is met asked link e) next) reason (behind_err link answer reason same)

-- Behind the chain.

last_lacks : (links : List Link) (reason : PlanFault) → last_fault links ≡ Some reason → NoneLacks reason
last_lacks [] reason e = absurd (cc e)
last_lacks (link ∷ []) reason e = by link.command.path e
  where
    by : (o : Option (List ℕ)) → no_path link o ≡ Some reason → NoneLacks reason
    by None e = subst NoneLacks (same_Some (fault.NoPath link.interface link.command.name) reason e) tt
    by (Some path) e = absurd (cc e)
last_lacks (link ∷ next ∷ links) reason e = last_lacks (next ∷ links) reason e

binding_lacks : (f : ApplyFault) → NoneLacks (fault_by f)
binding_lacks (apply.Unbuilt element) = tt
binding_lacks (apply.BadPath text) = tt
binding_lacks apply.Memory = tt

said_lacks : (user : List (List ℕ)) (r : Result (List (List ℕ)) BindFault) (reason : PlanFault) → said user r ≡ Err reason → NoneLacks reason
said_lacks user (Ok words) reason e = absurd (cc e)
said_lacks user (Err why) reason e = subst NoneLacks (err_same (fault.Bind why) reason e) tt

chain_lacks : (ps : List Placed) (shims : List (List ℕ)) (vars : List Var) (user : List (List ℕ)) (links : List Link) (reason : PlanFault) → of_chain ps shims vars user links ≡ Err reason → NoneLacks reason
chain_lacks ps shims vars user links reason e = by (last_fault links) (binding_fault (all_bindings ps)) refl e
  where
    after : List Var
    after = bound ps shims vars

    by_words : (r : Result (List (List ℕ)) PlanFault) → r ≡ said user (spoken_all (value_of after) (chain_words links)) → launched ps shims after r ≡ Err reason → NoneLacks reason
    by_words (Ok words) is e = absurd (cc e)
    by_words (Err why) is e = said_lacks user (spoken_all (value_of after) (chain_words links)) reason (sym is ∙ ap (λ f. Err f) (err_same why reason e))

    by : (a : Option PlanFault) (b : Option ApplyFault) → last_fault links ≡ a → checked ps shims after user links (option_or a (option_map fault_by b)) ≡ Err reason → NoneLacks reason
    by (Some f) b at e = last_lacks links reason (at ∙ ap (λ r. Some r) (err_same f reason e))
    by None (Some f) at e = subst NoneLacks (err_same (fault_by f) reason e) (binding_lacks f)
    by None None at e = by_words (said user (spoken_all (value_of after) (chain_words links))) refl e

-- The plan of selections that lack no command, each in a folder, fails by nothing that is missing, but where no command is asked for.
plan_lacks : (sels : Selections) (vars : List Var) (user : List (List ℕ)) (folders : List (Option (List ℕ))) (shims : List (List ℕ)) (reason : PlanFault) → AreWhole sels → without_folder sels.items folders ≡ None
    → Plans sels vars user folders shims (Err reason) → IsNoLack sels.command reason
plan_lacks sels vars user folders shims reason whole placed plans =
    by sels.command refl whole.root (subst (λ o. PlansPlaced sels vars user ps shims o (Err reason)) placed plans)
  where
    ps : List Placed
    ps = all_placed sels.items folders

    by_chain_of : (asked : Asked) (chain : Result (List Link) PlanFault) → IsThere sels.items folders placed asked → Leads ps [] asked chain → Err reason ≡ by_chain ps shims vars user chain → NoneLacks reason
    by_chain_of asked (Ok links) there leads e = chain_lacks ps shims vars user links reason (sym e)
    by_chain_of asked (Err f) there leads e = leads_lack sels.items folders placed whole.runners leads there reason (ap (λ r. Err r) (err_same f reason (sym e)))

    by : (o : Option (List ℕ)) → sels.command ≡ o → IfSome o (HasCommand sels.items sels.interface) → PlansCommand ps shims vars user sels.interface o (Err reason) → IsNoLack sels.command reason
    by None e h plan = subst (IsNoLack sels.command) (sym (err_same reason (fault.NoCommand sels.interface []) plan)) e
    by (Some name) e h (chain, leads, is) =
        let asked : Asked = record { interface = sels.interface; command = name } in
        no_lack sels.command reason (by_chain_of asked chain (is_there sels.items folders placed asked h) leads is)

folders_there : (path_of : DigestName → List ℕ) (stored : Names) (items : List Selection) → All (λ x. IsSome x.«package» ⊎ IsSome (folder path_of stored x)) items → without_folder items (map (folder path_of stored) items) ≡ None
folders_there path_of stored [] h = refl
folders_there path_of stored (x ∷ items) h =
    by (is_some x.«package» || is_some (folder path_of stored x)) (either x.«package» (folder path_of stored x) (All-head (λ x. IsSome x.«package» ⊎ IsSome (folder path_of stored x)) x items h))
    (folders_there path_of stored items (All-tail (λ x. IsSome x.«package» ⊎ IsSome (folder path_of stored x)) x items h))
  where
    either : (o p : Option (List ℕ)) → IsSome o ⊎ IsSome p → (is_some o || is_some p) ≡ true
    either (Some x) p h = refl
    either None (Some x) h = refl
    either None None (inl h) = absurd (cc h)
    either None None (inr h) = absurd (cc h)

    by : (b : Bool) → b ≡ true → without_folder items (map (folder path_of stored) items) ≡ None → (if b then without_folder items (map (folder path_of stored) items) else Some x.interface) ≡ None
    by true e rest = rest
    by false e rest = absurd (cc e)

-- no verdict on a tree is a fault of the plan
verdict_plans : (d : DigestName) (v : Verdict) (outcome : Outcome) (reason : PlanFault) → outcome ≡ Plan reason → Condemns d v outcome → ⊥
verdict_plans d verdict.Sound outcome reason is why = why
verdict_plans d verdict.Missing outcome reason is why = absurd cc
verdict_plans d (verdict.Damaged other) outcome reason is why = absurd cc
verdict_plans d (verdict.BadName path) outcome reason is why = absurd cc
verdict_plans d (verdict.TooLarge what limit) outcome reason is why = absurd cc

fails_plans : (d : DigestName) (before after : Shelving) (outcome : Outcome) (reason : PlanFault) → outcome ≡ Plan reason → FailsToVerify d before outcome after → ⊥
fails_plans d before after outcome reason is (inl (v, why, calm, held)) = verdict_plans d v outcome reason is why
fails_plans d before after outcome reason is (inr (inl (e, failed))) = absurd cc
fails_plans d before after outcome reason is (inr (inr (e, calm))) = absurd cc

no_adding : (fault : AddFault) (reason : PlanFault) → unadded fault ≡ Plan reason → ⊥
no_adding (add.BadName path) reason e = cc
no_adding (add.Mismatch name found) reason e = cc
no_adding (add.Crowded tried) reason e = cc
no_adding (add.Failed blamed) reason e = cc
no_adding add.Memory reason e = cc

-- The words of shims whose commands are there fail by nothing that is missing.
module _ (sels : Selections) (folders : List (Option (List ℕ))) (placed : without_folder sels.items folders ≡ None) (whole : AreWhole sels) where
  abbrev in_folders : List Placed
  in_folders = all_placed sels.items folders

  words_lack : (values : Values) (asked : Asked) (reason : PlanFault) → HasCommand sels.items asked.interface asked.command → SaysWords in_folders values asked (Err reason) → NoneLacks reason
  words_lack values asked reason h (Err f, leads, is) = leads_lack sels.items folders placed whole.runners leads (is_there sels.items folders placed asked h) reason (ap (λ r. Err r) (err_same f reason (sym is)))
  words_lack values asked reason h (Ok links, leads, is) = by (last_fault links) refl (sym is)
    where
      by : (o : Option PlanFault) → last_fault links ≡ o → unless o (said [] (spoken_all values (chain_words links))) ≡ Err reason → NoneLacks reason
      by (Some f) at e = last_lacks links reason (at ∙ ap (λ r. Some r) (err_same f reason e))
      by None at e = said_lacks [] (spoken_all values (chain_words links)) reason e

  calls_lack : (values : Values) (bs : List Bound) (reason : PlanFault) (result : Result (List ShimCall) PlanFault) → result ≡ Err reason → All (HasProgram sels.items) bs → Calls in_folders values bs result → NoneLacks reason
  calls_lack values [] reason result e h c = absurd (cc (sym e ∙ c))
  calls_lack values (b ∷ bs) reason result e h (inl (f, w, is)) =
      words_lack values (asked_of b) reason (All-head (HasProgram sels.items) b bs h) (subst (λ x. SaysWords in_folders values (asked_of b) (Err x)) (err_same f reason (sym is ∙ e)) w)
  calls_lack values (b ∷ bs) reason result e h (inr (words, Ok rest, w, c, is)) = absurd (cc (sym e ∙ is))
  calls_lack values (b ∷ bs) reason result e h (inr (words, Err f, w, c, is)) =
      calls_lack values bs reason (Err f) (ap (λ r. Err r) (err_same f reason (sym is ∙ e))) (All-tail (HasProgram sels.items) b bs h) c

  shims_lack : (vars : List Var) (reason : PlanFault) → All (HasProgram sels.items) (shims_of sels folders) → ShimsOf sels vars folders (Err reason) → NoneLacks reason
  shims_lack vars reason h w = by (binding_fault (all_bindings in_folders)) refl (subst (λ o. ShimsPlaced in_folders vars o (Err reason)) placed w)
    where
      by : (o : Option ApplyFault) → binding_fault (all_bindings in_folders) ≡ o → ShimsBound in_folders vars o (Err reason) → NoneLacks reason
      by (Some f) at e = subst NoneLacks (err_same (fault_by f) reason (sym e)) (binding_lacks f)
      by None at c = calls_lack (value_of (bound in_folders [] vars)) (shims_of sels folders) reason (Err reason) refl h c

pub lacks_nothing : (task : Task) (tried : List Tried) (before after : List Shelving) (p q : Spawning) (outcome : Outcome) → AreWhole task.sels
    → All (HasProgram task.sels.items) (shims_of task.sels (folders_in task before)) → All (λ x. IsSome x.«package» ⊎ IsSome (folder (tree_folder task before) task.stored x)) task.sels.items
    → LaunchesOver task tried (record { stores = before; spawner = p }) (record { stores = after; spawner = q }) outcome → LacksNothing task.sels.command outcome
lacks_nothing task tried before after p q outcome whole programs placed (inr (launch, ready, starts)) = λ reason is. absurd (subst (λ o. Starts launch p q o) is starts)
lacks_nothing task tried before after p q outcome whole programs placed (inl (not, same)) = λ reason is. by reason is not
  where
    there : without_folder task.sels.items (folders_in task before) ≡ None
    there = folders_there (tree_folder task before) task.stored task.sels.items placed

    of_fault : (f : PlanFault) → HasFault task before f → IsNoLack task.sels.command f
    of_fault f (inl plan) = plan_lacks task.sels task.vars task.user (folders_in task before) (no_shims task before) f whole there plan.plan
    of_fault f (inr (plan, words)) = no_lack task.sels.command f (shims_lack task.sels (folders_in task before) there whole task.vars f programs words)

    of_adding : (calls : List ShimCall) (reason : PlanFault) → outcome ≡ Plan reason → StopsAdding task.stored calls outcome tried → ⊥
    of_adding calls reason is (inl f) = no_adding f.fault reason (sym f.is ∙ is)
    of_adding calls reason is (inr (e, rest)) = cc (sym e ∙ is)

    by : (reason : PlanFault) → outcome ≡ Plan reason → PreparesNot task tried before outcome after → IsNoLack task.sels.command reason
    by reason is (inl (none, inl (inl (d, m, e), calm))) = absurd cc
    by reason is (inl (none, inl (inr e, calm))) = absurd cc
    by reason is (inl (none, inr (inl (f, e, has), calm))) =
        let same_fault : f ≡ reason = cc in
        subst (IsNoLack task.sels.command) same_fault (of_fault f has)
    by reason is (inl (none, inr (inr e, calm))) = absurd cc
    by reason is (inr (inl u)) = absurd (of_adding u.calls reason is u.stops)
    by reason is (inr (inr (inl u))) =
        absurd (never_in_store (λ b a. FailsToVerify u.stops.name b outcome a) (λ b a f. fails_plans u.stops.name b a outcome reason is f) (place task.each u.stops.name) before after u.stops.fails)
    by reason is (inr (inr (inr u))) = let e = u.is in absurd cc
