-- The launch is made ready, or it isn't.
use Rattle.std.proofs.Common.{◌≡◌, ℕ, suc, inl, inr, ◌⊎◌, Bool, true, false, ◌||◌, cond, if◌then◌else◌, List, [], ◌∷◌, length, map, find, Option, Some, None, IsSome, option_map, refl, sym, ◌∙◌, ap, subst, arith, All, Contains, Result, Ok, Err}
use Rattle.std.specs.Prelude.{MatchResult}
use Rattle.std.specs.List.{cons_option}
use Rattle.std.proofs.lemmas.List.Elements.{All-nil, All-cons}
use Rattle.zi_digest.specs.declared.DigestName.{DigestName}
use Rattle.zi_outside.specs.declared.launch.Launch.{Launch}
use Rattle.zi_outside.specs.declared.var.Var.{Var}
use Rattle.zi_shelf.specs.Shelving.{Shelving}
use Rattle.zi_sels.specs.declared.types.Selection.{Selection}
use Rattle.zi_sels.specs.declared.types.Selections.{Selections}
use Rattle.zi_plan.specs.declared.fault.PlanFault.{PlanFault}
use Rattle.zi_plan.specs.declared.call.ShimCall.{ShimCall}
use Rattle.zi_plan.specs.Placed.{all_placed, without_folder}
use Rattle.zi_plan.specs.declared.fault.PlanFault.TheVariants as plan
use Rattle.zi_plan.specs.Plans.{Tells, Plans, PlansPlaced}
use Rattle.zi_plan.specs.Shims.{ShimsOf, shims_of, empty_texts}
use Rattle.zi_plan.specs.Laws.{plan_fault_in}
use Rattle.zi_plan.proofs.LeadsLaws.{plans_once}
use Rattle.zi_plan.proofs.CallLaws.{calls_counted}
use Rattle.zi_plan.proofs.FaultLaws.{no_fault_changes}
use Rattle.zi_adding.specs.Trying.{Tried, Adds}
use Rattle.zi_adding.proofs.AddingLemmas.{adds_nothing}
use Rattle.zi_adding.proofs.HistoryLaws.{calm_done}
use Rattle.zi_outcome.specs.declared.outcome.Outcome.{Outcome}
use Rattle.zi_outcome.specs.declared.outcome.Outcome.TheVariants.{Plan, Memory}
use Rattle.zi_fetching.specs.Known.{is_known}
use Rattle.zi_launching.specs.Folders.{stored_of, tree_of, trees_of, stored_at, folder_by, folder, FindsFolders}
use Rattle.zi_launching.specs.Verifying.{SoundAt, AreSound, VerifiesAll}
use Rattle.zi_launching.specs.Shims.{unplanned, shim_digest, AddsInTurn, StopsAdding, WorksOn}
use Rattle.zi_launching.specs.Launching.{Task, tree_folder, folders_in, no_shims, IsPlan, IsCalled, shim_folders, exposed_trees, IsExposed, HasCalls, HasNoCalls, PlansNot, PreparesWith}
use Rattle.zi_launching.proofs.AddLaws.{turn_done, adds_read}
use Rattle.zi_launching.proofs.LiftLaws.{Reaches, reaches_added, all_same, lift_calm, lift_sound, lift_stops, folders_stay, folders_read}
use Rattle.zi_launching.proofs.OwnLaws.{all_front, all_back, all_shims}
use Rattle.zi_store.specs.Keeping.{Keeps, is_reading}
use Rattle.zi_store.specs.Stores.{Each, IsCalm}
use Rattle.zi_store.proofs.KeepingLemmas.{keeps_none}
use Rattle.zi_store.proofs.StoresLemmas.{calm_same, each_same}
use Rattle.zi_world.specs.Places.{place}
use Rattle.std.specs.Option.{is_some}
use Rattle.std.proofs.lemmas.List.{length-map}

-- what is found in a list is in it
find_contains : (p : DigestName → Bool) (ds : List DigestName) (d : DigestName) → find p ds ≡ Some d → Contains ds d
find_contains p [] d e = absurd cc
find_contains p (x ∷ xs) d e = by (p x) e (find_contains p xs d)
  where
    by : (b : Bool) → cond b (Some x) (find p xs) ≡ Some d → (find p xs ≡ Some d → Contains xs d) → Contains (x ∷ xs) d
    by true e go = (0, omega arith, cc)
    by false e go = let r = go e in (suc r.0, omega (arith, r.1), r.2)

-- What is exposed.
own_folder : (task : Task) (before after : List Shelving) (path_of : DigestName → List ℕ) (x : Selection) → IsSome (folder path_of task.stored x) → ((d : DigestName) → tree_of task.stored x ≡ Some d → SoundAt (place task.each) before after d)
    → IsSome x.local ⊎ ((d : DigestName) × (tree_of task.stored x ≡ Some d) × Contains x.digests d × SoundAt (place task.each) before after d)
own_folder task before after path_of x has sound = by x.local refl has
  where
    of_tree : (o : Option DigestName) → x.local ≡ None → find (is_known task.stored) x.digests ≡ o → IsSome (option_map path_of o)
        → IsSome x.local ⊎ ((d : DigestName) × (tree_of task.stored x ≡ Some d) × Contains x.digests d × SoundAt (place task.each) before after d)
    of_tree None e f h = absurd cc
    of_tree (Some d) e f h = let t = ap (stored_of task.stored x.digests) e ∙ f in inr (d, t, find_contains (is_known task.stored) x.digests d f, sound d t)

    by : (o : Option (List ℕ)) → x.local ≡ o → IsSome (folder_by path_of (tree_of task.stored x) o)
        → IsSome x.local ⊎ ((d : DigestName) × (tree_of task.stored x ≡ Some d) × Contains x.digests d × SoundAt (place task.each) before after d)
    by (Some path) e h = inl (subst (λ p. IsSome p) (sym e) refl)
    by None e h =
        of_tree (find (is_known task.stored) x.digests) e refl
        (subst (λ t. IsSome (option_map path_of t)) (ap (stored_of task.stored x.digests) e) h)

some_is : {X : Type 0} (o : Option X) → is_some o ≡ true → IsSome o
some_is None e = absurd (cc e)
some_is (Some x) e = refl

exposed_one : (task : Task) (before after : List Shelving) (path_of : DigestName → List ℕ) (x : Selection) → (is_some x.«package» || is_some (folder path_of task.stored x)) ≡ true
    → ((d : DigestName) → tree_of task.stored x ≡ Some d → SoundAt (place task.each) before after d) → IsExposed task before after x
exposed_one task before after path_of x has sound = by (is_some x.«package») refl has
  where
    by : (b : Bool) → is_some x.«package» ≡ b → (b || is_some (folder path_of task.stored x)) ≡ true → IsExposed task before after x
    by true e h = inl (some_is x.«package» e)
    by false e h = inr (own_folder task before after path_of x (some_is (folder path_of task.stored x) h) sound)

sound_of : (number : DigestName → ℕ) (before after : List Shelving) (o : Option DigestName) (rest : List DigestName) → AreSound number before after (cons_option o rest)
    → ((d : DigestName) → o ≡ Some d → SoundAt number before after d) × AreSound number before after rest
sound_of number before after None rest a = (λ d e. absurd cc, a)
sound_of number before after (Some x) rest a = (λ d e. let q : x ≡ d = cc in subst (SoundAt number before after) q (a 0 x (omega arith)), λ k d lt. a (suc k) d (omega (arith, lt)))

exposed_all : (task : Task) (before after : List Shelving) (path_of : DigestName → List ℕ) (items : List Selection) → without_folder items (map (folder path_of task.stored) items) ≡ None
    → AreSound (place task.each) before after (trees_of task.stored items) → All (IsExposed task before after) items
exposed_all task before after path_of [] e a = All-nil (IsExposed task before after)
exposed_all task before after path_of (x ∷ xs) e a =
    let parts = sound_of (place task.each) before after (tree_of task.stored x) (trees_of task.stored xs) a in
    by (is_some x.«package» || is_some (folder path_of task.stored x)) refl e (λ h. exposed_all task before after path_of xs h parts.1) parts.0
  where
    by : (b : Bool) → (is_some x.«package» || is_some (folder path_of task.stored x)) ≡ b → (if b then without_folder xs (map (folder path_of task.stored) xs) else Some x.interface) ≡ None
        → (without_folder xs (map (folder path_of task.stored) xs) ≡ None → All (IsExposed task before after) xs) → ((d : DigestName) → tree_of task.stored x ≡ Some d → SoundAt (place task.each) before after d)
        → All (IsExposed task before after) (x ∷ xs)
    by false q e go sound = absurd (cc e)
    by true q e go sound = All-cons (IsExposed task before after) x xs (exposed_one task before after path_of x q sound) (go e)

-- a plan that is a launch has a folder for each
all_have : (sels : Selections) (vars : List Var) (user : List (List ℕ)) (folders : List (Option (List ℕ))) (shims : List (List ℕ)) (launch : Launch) → Plans sels vars user folders shims (Ok launch)
    → without_folder sels.items folders ≡ None
all_have sels vars user folders shims launch p = by (without_folder sels.items folders) p
  where
    by : (o : Option (List ℕ)) → PlansPlaced sels vars user (all_placed sels.items folders) shims o (Ok launch) → o ≡ None
    by None p = refl
    by (Some interface) p = absurd cc

-- Why there is no plan, or no words of the shims.
told_fault : {X : Type 0} (P : Result X PlanFault → Type 0) (fault : PlanFault) → Tells P (Err fault) → ((f : PlanFault) × (unplanned fault ≡ Plan f) × P (Err f)) ⊎ (unplanned fault ≡ Memory)
told_fault P plan.Memory t = inr refl
told_fault P fault t = inl (fault, refl, t)

module _ (sels : Selections) (vars : List Var) (user : List (List ℕ)) (folders : List (Option (List ℕ))) (fault : PlanFault) (outcome : Outcome) (is : outcome ≡ unplanned fault) where
  pub planned_not : (shims : List (List ℕ)) → Tells (Plans sels vars user folders shims) (Err fault) → PlansNot sels vars user folders shims outcome
  planned_not shims t = by (told_fault (Plans sels vars user folders shims) fault t)
    where
      by : ((f : PlanFault) × (unplanned fault ≡ Plan f) × Plans sels vars user folders shims (Err f)) ⊎ (unplanned fault ≡ Memory) → PlansNot sels vars user folders shims outcome
      by (inl (f, e, p)) = inl (f, is ∙ e, p)
      by (inr e) = inr (is ∙ e)

  pub no_plan : Tells (Plans sels vars user folders (empty_texts (shims_of sels folders))) (Err fault) → HasNoCalls sels vars user folders outcome
  no_plan t = by (planned_not (empty_texts (shims_of sels folders)) t)
    where
      by : PlansNot sels vars user folders (empty_texts (shims_of sels folders)) outcome → HasNoCalls sels vars user folders outcome
      by (inl (f, e, p)) = inl (f, e, inl p)
      by (inr e) = inr e

  pub no_words : (launch : Launch) → Plans sels vars user folders (empty_texts (shims_of sels folders)) (Ok launch) → Tells (ShimsOf sels vars folders) (Err fault) → HasNoCalls sels vars user folders outcome
  no_words launch p t = by (told_fault (ShimsOf sels vars folders) fault t)
    where
      by : ((f : PlanFault) × (unplanned fault ≡ Plan f) × ShimsOf sels vars folders (Err f)) ⊎ (unplanned fault ≡ Memory) → HasNoCalls sels vars user folders outcome
      by (inl (f, e, w)) = inl (f, is ∙ e, inr ((launch, p), w))
      by (inr e) = inr (is ∙ e)

-- What was done to the stores.
pub works_none : (b : Shelving) (bs : List Shelving) → WorksOn [] (b ∷ bs) (b ∷ bs)
works_none b bs = (adds_read [] b b b (adds_nothing b) (keeps_none is_reading b), each_same (Keeps is_reading) (keeps_none is_reading) bs)

pub works_added : (tried : List Tried) (b now : Shelving) (bs : List Shelving) → Adds tried b now → WorksOn tried (b ∷ bs) (now ∷ bs)
works_added tried b now bs adds = (adds_read tried b now now adds (keeps_none is_reading now), each_same (Keeps is_reading) (keeps_none is_reading) bs)

pub works_read : (tried : List Tried) (b now a : Shelving) (bs as_ : List Shelving) → Adds tried b now → Each (Keeps is_reading) (now ∷ bs) (a ∷ as_) → WorksOn tried (b ∷ bs) (a ∷ as_)
works_read tried b now a bs as_ adds k = (adds_read tried b now a adds k.0, k.1)

map_twice : {X Y Z : Type 0} (f : Y → Z) (g : X → Y) (xs : List X) → map f (map g xs) ≡ map (λ x. f (g x)) xs
map_twice f g [] = refl
map_twice f g (x ∷ xs) = ap (λ ys. f (g x) ∷ ys) (map_twice f g xs)

-- Before the shims.
pub roomless : (task : Task) (b : Shelving) (bs : List Shelving) (outcome : Outcome) → outcome ≡ Memory → PreparesWith task (b ∷ bs) (Err outcome) (b ∷ bs)
roomless task b bs outcome e = record { tried = []; prepares = inl (refl, inr (inr e, calm_same (b ∷ bs))); works = works_none b bs }

module _ (task : Task) (b : Shelving) (bs : List Shelving) (number : DigestName → ℕ) (places : number ≡ place task.each) where
  abbrev stores : List Shelving
  stores = b ∷ bs

  found_there : (result : Result (List (Option (List ℕ))) Outcome) → FindsFolders (stored_at stores number) task.stored task.sels.items result → FindsFolders (tree_folder task stores) task.stored task.sels.items result
  found_there result f = subst (λ n. FindsFolders (stored_at stores n) task.stored task.sels.items result) places f

  pub treeless : (outcome : Outcome) → FindsFolders (stored_at stores number) task.stored task.sels.items (Err outcome) → PreparesWith task stores (Err outcome) stores
  treeless outcome f = record { tried = []; prepares = inl (refl, inl (f, calm_same stores)); works = works_none b bs }

  module _ (folders : List (Option (List ℕ))) (f : FindsFolders (stored_at stores number) task.stored task.sels.items (Ok folders)) where
    same_folders : folders ≡ folders_in task stores
    same_folders = (found_there (Ok folders) f).1

    plan_is : (shims : List (List ℕ)) (result : Result Launch PlanFault) → Plans task.sels task.vars task.user folders shims result → IsPlan task stores shims result
    plan_is shims result p = record { there = (found_there (Ok folders) f).0; plan = subst (λ fs. Plans task.sels task.vars task.user fs shims result) same_folders p }

    first_is : (result : Result Launch PlanFault) → Plans task.sels task.vars task.user folders (empty_texts (shims_of task.sels folders)) result → IsPlan task stores (no_shims task stores) result
    first_is result p = record { there = (found_there (Ok folders) f).0; plan = subst (λ fs. Plans task.sels task.vars task.user fs (empty_texts (shims_of task.sels fs)) result) same_folders p }

    words_are : (result : Result (List ShimCall) PlanFault) → ShimsOf task.sels task.vars folders result → ShimsOf task.sels task.vars (folders_in task stores) result
    words_are result w = subst (λ fs. ShimsOf task.sels task.vars fs result) same_folders w

    pub planless : (outcome : Outcome) → HasNoCalls task.sels task.vars task.user folders outcome → PreparesWith task stores (Err outcome) stores
    planless outcome (inl (fault, e, inl p)) = record { tried = []; prepares = inl (refl, inr (inl (fault, e, inl (first_is (Err fault) p)), calm_same stores)); works = works_none b bs }
    planless outcome (inl (fault, e, inr ((launch, p), w))) =
        record { tried = []; prepares = inl (refl, inr (inl (fault, e, inr ((launch, first_is (Ok launch) p), words_are (Err fault) w)), calm_same stores)); works = works_none b bs }
    planless outcome (inr e) = roomless task b bs outcome e

    -- Behind the words of the shims.
    module _ (calls : List ShimCall) (h : HasCalls task.sels task.vars task.user folders calls) where
      is_called : IsCalled task stores calls
      is_called = record { launch = h.0.0; planned = first_is (Ok h.0.0) h.0.1; words = words_are (Ok calls) h.1 }

      pub shimless : (tried : List Tried) (now : Shelving) (outcome : Outcome) → StopsAdding task.stored calls outcome tried → Adds tried b now → PreparesWith task stores (Err outcome) (now ∷ bs)
      shimless tried now outcome stops adds = record {
        tried = tried;
        prepares = inr (inl (record { calls = calls; called = is_called; stops = stops; cost = (adds.cost, calm_same bs) }));
        works = works_added tried b now bs adds;
      }

      module _ (tried : List Tried) (now : Shelving) (turn : AddsInTurn task.stored calls tried) (adds : Adds tried b now) where
        reached : Each Reaches stores (now ∷ bs)
        reached = (reaches_added tried b now (turn_done calls task.stored tried turn) adds, all_same bs)

        -- memory was refused before the trees are read
        pub short_before : (outcome : Outcome) → outcome ≡ Memory → PreparesWith task stores (Err outcome) (now ∷ bs)
        short_before outcome e = record {
          tried = tried;
          prepares = inr (inr (inr (record { is = e; calls = calls; called = is_called; added = turn; calm = (calm_done tried b now (turn_done calls task.stored tried turn) adds.cost, calm_same bs) })));
          works = works_added tried b now bs adds;
        }

        module _ (a : Shelving) (as_ : List Shelving) (keeps : Each (Keeps is_reading) (now ∷ bs) (a ∷ as_)) (trees : List DigestName) (all : trees ≡ exposed_trees task calls) where
          pub unsound : (outcome : Outcome) → VerifiesAll number trees (now ∷ bs) (Err outcome) (a ∷ as_) → PreparesWith task stores (Err outcome) (a ∷ as_)
          unsound outcome v = record {
            tried = tried;
            prepares = inr (inr (inl (record {
              calls = calls;
              called = is_called;
              added = turn;
              stops = lift_stops stores (now ∷ bs) (a ∷ as_) reached (place task.each) (exposed_trees task calls) outcome
                  (subst (λ ts. VerifiesAll (place task.each) ts (now ∷ bs) (Err outcome) (a ∷ as_)) all (subst (λ n. VerifiesAll n trees (now ∷ bs) (Err outcome) (a ∷ as_)) places v));
            })));
            works = works_read tried b now a bs as_ adds keeps;
          }

          module _ (v : VerifiesAll number trees (now ∷ bs) (Ok tt) (a ∷ as_)) where
            calm_all : Each IsCalm stores (a ∷ as_)
            calm_all = lift_calm stores (now ∷ bs) (a ∷ as_) reached v.0

            -- memory was refused behind the trees
            pub short_behind : (outcome : Outcome) → outcome ≡ Memory → PreparesWith task stores (Err outcome) (a ∷ as_)
            short_behind outcome e = record {
              tried = tried;
              prepares = inr (inr (inr (record { is = e; calls = calls; called = is_called; added = turn; calm = calm_all })));
              works = works_read tried b now a bs as_ adds keeps;
            }

            are_sound : AreSound (place task.each) stores (a ∷ as_) (exposed_trees task calls)
            are_sound =
                lift_sound stores (now ∷ bs) (a ∷ as_) reached (place task.each) (exposed_trees task calls)
                (subst (λ ts. AreSound (place task.each) (now ∷ bs) (a ∷ as_) ts) all (subst (λ n. AreSound n (now ∷ bs) (a ∷ as_) trees) places v.1))

            -- as many folders of shims as there are calls, so the fault of the first plan is that of the second
            pub second_plan : (texts : List (List ℕ)) → length texts ≡ length calls → (outcome : Outcome) → PlansNot task.sels task.vars task.user folders texts outcome → outcome ≡ Memory
            second_plan texts many outcome (inr e) = e
            second_plan texts many outcome (inl (fault, e, p)) =
                let same = no_fault_changes task.sels task.vars task.user folders (empty_texts (shims_of task.sels folders)) texts
                (length-map (shims_of task.sels folders) _ ∙ sym (calls_counted task.sels task.vars folders calls h.1) ∙ sym many) (Ok h.0.0) h.0.1 in
                let is = plans_once task.sels task.vars task.user folders texts same.0 (Err fault) same.1 p in
                absurd (no_fault fault (sym (ap plan_fault_in is) ∙ same.2))
              where
                no_fault : (fault : PlanFault) → Some fault ≡ None → ⊥
                no_fault fault e = cc

            pub ready : ((d : DigestName) → is_known task.stored d ≡ false → place task.each d ≡ 0) → (texts : List (List ℕ)) → texts ≡ shim_folders task stores calls → (launch : Launch)
                → Plans task.sels task.vars task.user folders texts (Ok launch) → PreparesWith task stores (Ok launch) (a ∷ as_)
            ready fresh texts t launch p = record {
              tried = tried;
              prepares = record {
                calls = calls;
                called = is_called;
                added = turn;
                planned = subst (λ ts. IsPlan task stores ts (Ok launch)) t (plan_is texts (Ok launch) p);
                calm = calm_all;
                sound = are_sound;
                exposed = exposed_all task stores (a ∷ as_) (tree_folder task stores) task.sels.items
                    (all_have task.sels task.vars task.user (folders_in task stores) texts launch (plan_is texts (Ok launch) p).plan)
                    (all_front (λ d. SoundAt (place task.each) stores (a ∷ as_) d) (trees_of task.stored task.sels.items) (map shim_digest calls) are_sound);
                shims = all_shims (place task.each) task.stored calls tried b now a bs as_ fresh turn adds keeps.0
                    (all_back (λ d. SoundAt (place task.each) stores (a ∷ as_) d) (trees_of task.stored task.sels.items) (map shim_digest calls) are_sound);
              };
              works = works_read tried b now a bs as_ adds keeps;
            }

            -- the folders of the shims, as they are looked up behind the reading
            texts_are : (texts : List (List ℕ)) (names : List DigestName) → names ≡ map shim_digest calls → texts ≡ map (stored_at (a ∷ as_) number) names → texts ≡ shim_folders task stores calls
            texts_are texts names e t =
                t
                ∙ ap (map (stored_at (a ∷ as_) number)) e
                ∙ ap (λ n. map (stored_at (a ∷ as_) n) (map shim_digest calls)) places
                ∙ ap (λ path_of. map path_of (map shim_digest calls)) (folders_read task (now ∷ bs) (a ∷ as_) keeps ∙ folders_stay stores (now ∷ bs) (a ∷ as_) reached task)
                ∙ map_twice (tree_folder task stores) shim_digest calls

            pub planned_then : ((d : DigestName) → is_known task.stored d ≡ false → place task.each d ≡ 0) → (texts : List (List ℕ)) (names : List DigestName) → names ≡ map shim_digest calls
                → texts ≡ map (stored_at (a ∷ as_) number) names → (result : Result Launch Outcome)
                → MatchResult result (λ launch. Plans task.sels task.vars task.user folders texts (Ok launch)) (PlansNot task.sels task.vars task.user folders texts) → PreparesWith task stores result (a ∷ as_)
            planned_then fresh texts names e t (Ok launch) p = ready fresh texts (texts_are texts names e t) launch p
            planned_then fresh texts names e t (Err outcome) p =
                short_behind outcome (second_plan texts (ap length (texts_are texts names e t) ∙ length-map calls (λ call. tree_folder task stores (shim_digest call))) outcome p)
