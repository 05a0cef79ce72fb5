-- What a run never comes to: all that is selected has a folder, and over an honest shelf no tree is missing.
use Rattle.std.proofs.Common.{◌≡◌, ℕ, suc, zero, inl, inr, ◌⊎◌, ◌++◌, map, Bool, true, false, ◌||◌, cond, List, [], ◌∷◌, find, filter_map, get_or, Option, Some, None, IsSome, is_some, option_map, refl, sym, ◌∙◌, ap, subst, All, slice_get, Ok}
use Rattle.std.specs.List.{list_any, cons_option}
use Rattle.zi_digest.specs.declared.DigestName.{DigestName}
use Rattle.zi_digest.specs.Name.{spelling}
use Rattle.zi_outside.specs.Views.{Feeding}
use Rattle.zi_outside.specs.Launched.{Spawning}
use Rattle.zi_shelf.specs.Shelving.{Shelving, Stays}
use Rattle.zi_shelf.specs.Told.{Told}
use Rattle.zi_store.specs.declared.verdicts.Verdict.{Verdict}
use Rattle.zi_store.specs.declared.verdicts.Verdict.TheVariants as verdict
use Rattle.zi_store.specs.Verdicts.{Verifies}
use Rattle.zi_sels.specs.declared.types.Selection.{Selection}
use Rattle.zi_adding.specs.Trying.{Tried}
use Rattle.zi_adding.specs.Gains.{GainsOnly}
use Rattle.zi_outcome.specs.declared.outcome.Outcome.{Outcome}
use Rattle.zi_outcome.specs.declared.outcome.Outcome.TheVariants.{MissingTree}
use Rattle.zi_store.specs.Keeping.{Keeps, is_reading}
use Rattle.zi_store.specs.Stores.{Each, HaveNames}
use Rattle.zi_world.specs.Places.{InStore, AreTold, place}
use Rattle.zi_world.proofs.StandLemmas.{HasAt, in_store_with, in_no_store}
use Rattle.zi_choosing.specs.declared.chosen.Chosen.{Chosen}
use Rattle.zi_fetching.specs.Known.{Names, is_known, is_there}
use Rattle.zi_fetching.specs.Fetching.{from_chosen, names_in, Fetches}
use Rattle.zi_fetching.specs.Fetching.{tried_names}
use Rattle.zi_fetching.specs.Outcomes.{unadded}
use Rattle.zi_fetching.proofs.FetchLaws.{turn_done}
use Rattle.zi_adding.specs.declared.adding.AddFault.{AddFault}
use Rattle.zi_adding.specs.declared.adding.AddFault.TheVariants as add
use Rattle.zi_adding.proofs.HistoryLaws.{AreDone}
use Rattle.zi_universe.specs.Naming.{with_one, joined}
use Rattle.zi_universe.proofs.NamingLemmas.{listed-joined_left, listed-with_one}
use Rattle.zi_plan.specs.declared.call.ShimCall.{ShimCall}
use Rattle.zi_launching.specs.Shims.{shim_digest, AddsInTurn, StopsAdding}
use Rattle.zi_launching.proofs.AddLaws.{names_then}
use Rattle.zi_launching.proofs.AddLaws.{turn_done as shims_done}
use Rattle.zi_fetching.proofs.DownloadLaws.{name_at}
use Rattle.zi_launching.specs.Folders.{stored_of, tree_of, trees_of, folder_by, folder, first_missing}
use Rattle.zi_launching.specs.Verifying.{Condemns, FailsToVerify}
use Rattle.zi_launching.specs.Launching.{Task, PreparesNot, LaunchesOver, Starts}
use Rattle.zi_launching.specs.Run.{NoneMissing}
use Rattle.zi_check.proofs.MeetLaws.{none_is}

-- What is there has a folder.
find_some : (p : DigestName → Bool) (ds : List DigestName) → list_any p ds ≡ true → IsSome (find p ds)
find_some p [] h = absurd cc
find_some p (d ∷ ds) h = by (p d) h (find_some p ds)
  where
    by : (b : Bool) → (b || list_any p ds) ≡ true → (list_any p ds ≡ true → IsSome (find p ds)) → IsSome (cond b (Some d) (find p ds))
    by true h go = refl
    by false h go = go h

mapped_some : {X Y : Type 0} (f : X → Y) (o : Option X) → IsSome o → IsSome (option_map f o)
mapped_some f (Some x) h = refl
mapped_some f None h = absurd cc

there_placed : (path_of : DigestName → List ℕ) (stored : Names) (x : Selection) → is_there stored x ≡ true → IsSome x.«package» ⊎ IsSome (folder path_of stored x)
there_placed path_of stored x h = by x.local refl x.«package» refl h
  where
    by : (o : Option (List ℕ)) → x.local ≡ o → (p : Option (List ℕ)) → x.«package» ≡ p → (is_some o || is_some p || list_any (is_known stored) x.digests) ≡ true → IsSome x.«package» ⊎ IsSome (folder path_of stored x)
    by (Some path) e p f h = inr (subst (λ p. IsSome p) (sym (ap (folder_by path_of (tree_of stored x)) e)) refl)
    by None e (Some name) f h = inl (subst (λ p. IsSome p) (sym f) refl)
    by None e None f h =
        inr (subst (λ p. IsSome p) (sym (ap (folder_by path_of (tree_of stored x)) e ∙ ap (option_map path_of) (ap (stored_of stored x.digests) e)))
        (mapped_some path_of (find (is_known stored) x.digests) (find_some (is_known stored) x.digests h)))

pub all_placed : (path_of : DigestName → List ℕ) (stored : Names) (items : List Selection) → All (λ x. is_there stored x ≡ true) items → All (λ x. IsSome x.«package» ⊎ IsSome (folder path_of stored x)) items
all_placed path_of stored items a = λ k d lt. there_placed path_of stored (get_or items k d) (a k d lt)

-- A tree that stands for one of them is known to be stored.
find_known : (p : DigestName → Bool) (ds : List DigestName) (d : DigestName) → find p ds ≡ Some d → p d ≡ true
find_known p [] d e = absurd cc
find_known p (x ∷ xs) d e = by (p x) refl e (find_known p xs d)
  where
    by : (b : Bool) → p x ≡ b → cond b (Some x) (find p xs) ≡ Some d → (find p xs ≡ Some d → p d ≡ true) → p d ≡ true
    by true q e go = let s : x ≡ d = cc in subst (λ y. p y ≡ true) s q
    by false q e go = go e

tree_known : (stored : Names) (x : Selection) (d : DigestName) → tree_of stored x ≡ Some d → is_known stored d ≡ true
tree_known stored x d h = by x.local refl
  where
    not_both : (o : Option DigestName) → o ≡ None → o ≡ Some d → ⊥
    not_both o p q = absurd cc

    by : (o : Option (List ℕ)) → x.local ≡ o → is_known stored d ≡ true
    by (Some path) e = absurd (not_both (tree_of stored x) (ap (stored_of stored x.digests) e) h)
    by None e = find_known (is_known stored) x.digests d (sym (ap (stored_of stored x.digests) e) ∙ h)

kept_from : {X Y : Type 0} (f : X → Option Y) (xs : List X) (i : ℕ) (y : Y) → slice_get (filter_map f xs) i ≡ Some y → (x : X) × (f x ≡ Some y)
kept_from f [] i y e = absurd cc
kept_from {X = X} {Y = Y} f (x ∷ xs) i y e = by (f x) refl i e (λ j h. kept_from f xs j y h)
  where
    by : (o : Option Y) → f x ≡ o → (j : ℕ) → slice_get (cons_option o (filter_map f xs)) j ≡ Some y → ((j : ℕ) → slice_get (filter_map f xs) j ≡ Some y → (z : X) × (f z ≡ Some y)) → (z : X) × (f z ≡ Some y)
    by None q j e go = go j e
    by (Some z) q zero e go = let s : z ≡ y = cc in (x, q ∙ ap (λ w. Some w) s)
    by (Some z) q (suc j) e go = go j e

-- And what is known to be stored stands at the end in the store of its place.
not_missing : (d : DigestName) (outcome : Outcome) (name : List ℕ) → outcome ≡ MissingTree name → (before after : Shelving) (s : Told) → before.honest → before.told ≡ Some s
    → HasAt (spelling d) before after × FailsToVerify d before outcome after → ⊥
not_missing d outcome name is before after s honest told (has, inl (v, why, calm, held)) = by v why (held s honest told)
  where
    by : (v : Verdict) → Condemns d v outcome → ((t : Told) × (after.told ≡ Some t) × Verifies d (Ok v) t.shelf) → ⊥
    by verdict.Sound why held = why
    by verdict.Missing why (t, e, none) =
        let r = has s honest told in
        let there = r.1 in
        let same : r.0 ≡ t = cc in
        none_is (t.shelf.tops (spelling d)) none (subst (λ (m : Told). IsSome (m.shelf.tops (spelling d))) same r.2)
    by (verdict.Damaged other) why held = absurd cc
    by (verdict.BadName path) why held = absurd cc
    by (verdict.TooLarge what limit) why held = absurd cc
not_missing d outcome name is before after s honest told (has, inr (inl (e, failed))) = absurd cc
not_missing d outcome name is before after s honest told (has, inr (inr (e, calm))) = absurd cc

-- The digests that are verified are known to be stored: those of the selections, and those of the shims behind them.
either_part : {X : Type 0} (xs ys : List X) (i : ℕ) (x : X) → slice_get (xs ++ ys) i ≡ Some x → ((j : ℕ) × (slice_get xs j ≡ Some x)) ⊎ ((j : ℕ) × (slice_get ys j ≡ Some x))
either_part [] ys i x e = inr (i, e)
either_part (y ∷ xs) ys zero x e = inl (0, e)
either_part (y ∷ xs) ys (suc i) x e = by (either_part xs ys i x e)
  where
    by : ((j : ℕ) × (slice_get xs j ≡ Some x)) ⊎ ((j : ℕ) × (slice_get ys j ≡ Some x)) → ((j : ℕ) × (slice_get (y ∷ xs) j ≡ Some x)) ⊎ ((j : ℕ) × (slice_get ys j ≡ Some x))
    by (inl (j, h)) = inl (suc j, h)
    by (inr (j, h)) = inr (j, h)

turn_known : (calls : List ShimCall) (stored : Names) (tried : List Tried) → AddsInTurn stored calls tried → (i : ℕ) (d : DigestName) → slice_get (map shim_digest calls) i ≡ Some d
    → is_known (joined stored (tried_names tried)) d ≡ true
turn_known [] stored tried none i d e = absurd cc
turn_known (call ∷ calls) stored tried (inl (there, rest)) zero d e =
    let same : shim_digest call ≡ d = cc in
    listed-joined_left (spelling d) stored (tried_names tried) (subst (λ x. is_known stored x ≡ true) same there)
turn_known (call ∷ calls) stored tried (inl (there, rest)) (suc i) d e = turn_known calls stored tried rest i d e
turn_known (call ∷ calls) stored tried (inr (wanting, (a, rest, is, one, turn))) zero d e =
    let same : shim_digest call ≡ d = cc in
    subst (λ ts. is_known (joined stored (tried_names ts)) d ≡ true) (sym is)
    (listed-joined_left (spelling d) (with_one stored (spelling a.name)) (tried_names rest)
    (subst (λ x. is_known (with_one stored (spelling a.name)) x ≡ true) (one.name ∙ same) (listed-with_one (spelling a.name) stored)))
turn_known (call ∷ calls) stored tried (inr (wanting, (a, rest, is, one, turn))) (suc i) d e =
    subst (λ ts. is_known (joined stored (tried_names ts)) d ≡ true) (sym is) (turn_known calls (with_one stored (spelling a.name)) rest turn i d e)

done_append : (xs ys : List Tried) → AreDone xs → AreDone ys → AreDone (xs ++ ys)
done_append [] ys h k = k
done_append (x ∷ xs) ys (d, h) k = (d, done_append xs ys h k)

module _ (c : Chosen) (old new : Feeding) (stored : Names) (done shims : List Tried) (shelf after : Shelving) (others thens : List Shelving) (names : HaveNames (shelf ∷ others) c.known.each)
    (f : Fetches c old stored done new) (g : GainsOnly (done ++ shims) shelf after) (stays : Stays shelf after) (kept : Each (Keeps is_reading) others thens) where
  module _ (all_done : AreDone shims) where
    known_at : (d : DigestName) → is_known (joined stored (tried_names shims)) d ≡ true → InStore (place c.known.each d) (shelf ∷ others) (after ∷ thens) (HasAt (spelling d))
    known_at d known =
        name_at c (done ++ shims) (done_append done shims (turn_done (from_chosen c) c.sels.items (names_in c) old done new f.in_turn) all_done) is_reading shelf after others thens names g stays kept (spelling d)
        (subst (λ n. is_known n d ≡ true) (ap (λ n. joined n (tried_names shims)) f.names ∙ names_then (names_in c) done shims) known)

    by_fails : (d : DigestName) (outcome : Outcome) (name : List ℕ) → outcome ≡ MissingTree name → (ss : List Told) → AreTold (shelf ∷ others) ss → is_known (joined stored (tried_names shims)) d ≡ true
        → InStore (place c.known.each d) (shelf ∷ others) (after ∷ thens) (λ b a. FailsToVerify d b outcome a) → ⊥
    by_fails d outcome name is ss told known fails =
        let both = in_store_with (HasAt (spelling d)) (λ b a. FailsToVerify d b outcome a) (λ b a. HasAt (spelling d) b a × FailsToVerify d b outcome a) (λ b a p q. (p, q)) (place c.known.each d) (shelf ∷ others) (after ∷ thens)
        (known_at d known) fails in
        in_no_store (λ b a. HasAt (spelling d) b a × FailsToVerify d b outcome a) (λ b a s honest e p. not_missing d outcome name is b a s honest e p) (place c.known.each d) (shelf ∷ others) (after ∷ thens) both ss told

  exposed_known : (items : List Selection) (calls : List ShimCall) → AddsInTurn stored calls shims → (i : ℕ) (d : DigestName) → slice_get (trees_of stored items ++ map shim_digest calls) i ≡ Some d
      → is_known (joined stored (tried_names shims)) d ≡ true
  exposed_known items calls turn i d e = by (either_part (trees_of stored items) (map shim_digest calls) i d e)
    where
      by : ((j : ℕ) × (slice_get (trees_of stored items) j ≡ Some d)) ⊎ ((j : ℕ) × (slice_get (map shim_digest calls) j ≡ Some d)) → is_known (joined stored (tried_names shims)) d ≡ true
      by (inl (j, h)) = let x = kept_from (tree_of stored) items j d h in listed-joined_left (spelling d) stored (tried_names shims) (tree_known stored x.0 d x.1)
      by (inr (j, h)) = turn_known calls stored shims turn j d h

  no_adding : (fault : AddFault) (outcome : Outcome) (name : List ℕ) → outcome ≡ MissingTree name → outcome ≡ unadded fault → ⊥
  no_adding (add.BadName path) outcome name is e = cc (sym e ∙ is)
  no_adding (add.Mismatch wanted found) outcome name is e = cc (sym e ∙ is)
  no_adding (add.Crowded number) outcome name is e = cc (sym e ∙ is)
  no_adding (add.Failed blamed) outcome name is e = cc (sym e ∙ is)
  no_adding add.Memory outcome name is e = cc (sym e ∙ is)

  no_stop : (calls : List ShimCall) (outcome : Outcome) (name : List ℕ) → outcome ≡ MissingTree name → StopsAdding stored calls outcome shims → ⊥
  no_stop calls outcome name is (inl stops) = no_adding stops.fault outcome name is stops.is
  no_stop calls outcome name is (inr (e, rest)) = cc (sym e ∙ is)

  pub never_missing : (task : Task) (p q : Spawning) (outcome : Outcome) → task.stored ≡ stored → task.each ≡ c.known.each → first_missing task.stored task.sels.items ≡ None
      → LaunchesOver task shims (record { stores = shelf ∷ others; spawner = p }) (record { stores = after ∷ thens; spawner = q }) outcome → NoneMissing (shelf ∷ others) outcome
  never_missing task p q outcome known same_each there (inr (launch, ready, starts)) = λ ss told name is. subst (λ o. Starts launch p q o) is starts
  never_missing task p q outcome known same_each there (inl (not, same)) = λ ss told name is. by ss told name is not
    where
      by : (ss : List Told) → AreTold (shelf ∷ others) ss → (name : List ℕ) → outcome ≡ MissingTree name → PreparesNot task shims (shelf ∷ others) outcome (after ∷ thens) → ⊥
      by ss told name is (inl (none, inl (inl (d, m, e), calm))) = absurd cc
      by ss told name is (inl (none, inl (inr e, calm))) = absurd cc
      by ss told name is (inl (none, inr (inl (fault, e, plan), calm))) = absurd cc
      by ss told name is (inl (none, inr (inr e, calm))) = absurd cc
      by ss told name is (inr (inl u)) = no_stop u.calls outcome name is (subst (λ n. StopsAdding n u.calls outcome shims) known u.stops)
      by ss told name is (inr (inr (inl u))) =
          let turn = subst (λ n. AddsInTurn n u.calls shims) known u.added in
          by_fails (shims_done u.calls stored shims turn) u.stops.name outcome name is ss told
          (exposed_known task.sels.items u.calls turn u.stops.place u.stops.name (subst (λ n. slice_get (trees_of n task.sels.items ++ map shim_digest u.calls) u.stops.place ≡ Some u.stops.name) known u.stops.here))
          (subst (λ e. InStore (place e u.stops.name) (shelf ∷ others) (after ∷ thens) (λ b a. FailsToVerify u.stops.name b outcome a)) same_each u.stops.fails)
      by ss told name is (inr (inr (inr u))) = let e = u.is in absurd cc
