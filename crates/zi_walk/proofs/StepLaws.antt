-- What a step of a walk's tasks does, where its choice agrees with what was followed.
use Rattle.std.proofs.Common.{drop, ◌≤◌, ◌≡◌, ◌==◌, ◌<◌, ◌+◌, inl, inr, ℕ, zero, suc, Bool, true, false, not, List, [], ◌∷◌, ◌++◌, length, map, get_or, Option, Some, None, Bor, refl, sym, ap, ◌∙◌, subst, arith, length-append, append_assoc, if◌then◌else◌, eqb-true}
use Rattle.std.specs.Prelude.{slice_get, position, option_and_then}
use Rattle.std.specs.List.{flat_map, list_any}
use Rattle.std.proofs.lemmas.List.{drop_all, append-nil, length-map, get_or-map}
use Rattle.std.proofs.lemmas.Option.{slice_get_past, slice_get_within, get_or_from_slice_get, same_Some}
use Rattle.std.proofs.lemmas.List.Quantifiers.{position-Some}
use Rattle.std.proofs.Math.Seq.{drop-cons, get_or-append_seam}
use Rattle.std.proofs.lemmas.Bool.{not-true, not-false}
use Rattle.zi_parts.specs.declared.types.Dep.{Dep}
use Rattle.zi_parts.specs.declared.types.Command.{Command}
use Rattle.zi_parts.specs.declared.types.Runner.{Runner}
use Rattle.zi_universe.specs.declared.types.Candidate.{Candidate}
use Rattle.zi_universe.specs.declared.types.Interface.{Interface}
use Rattle.zi_choice.specs.Choice.{Choice, pick, candidate_at, chosen, command_at, command_of, command_place, deps_of, needs_of, with_runner}
use Rattle.zi_choice.specs.Walk.{Walk, Visits, Needs, NeedsEach, Follows, is_listed, leads_to}
use Rattle.zi_choice.specs.Tasks.{place_at}
use Rattle.zi_choice.specs.Traces.{as_use}
use Rattle.zi_choice.proofs.WalkLaws.{true_false}
use Rattle.zi_choice.proofs.GrowLaws.{grow_need, stays_listed, visit_lists}
use Rattle.zi_choice.proofs.TaskLaws.{Came, Stayed, CameUse, StayedUse, came, stayed, came_use, stayed_use, keys_new, keys_old, same_use, a_used, less_place, less_use, listed_is, no_command, command_there}
use Rattle.zi_walk.specs.declared.tasks.Task.{Task}
use Rattle.zi_walk.specs.declared.tasks.Task.TheVariants.{Follow, FollowOne, Need}
use Rattle.zi_choice.specs.declared.traced.Used.{Used}
use Rattle.zi_walk.specs.declared.path.Stop.{Stop}
use Rattle.zi_walk.specs.Lists.{list_at, IsAdded}
use Rattle.zi_walk.specs.Kept.{Stand, Does, Runs, Agrees, Awaits, GoesOn, IsReady, Grown, Longer, Steps, Stays, FollowsFirst, NeedsFirst, command_in, waiting, walk_to, left_of, size, sizes}
use Rattle.zi_walk.proofs.InverseLaws.{visit_same, visit_goes, need_lacking, need_used, need_goes, each_split, follow_same, follow_split, follow_leads}
use Rattle.zi_feed.specs.IdLaws.{by_bool, none_some}

-- How a walk goes on.

pub go_on : (u : List Interface) (s : Choice) (z : Stand) (w : Walk) → waiting z ≡ None → Runs u s (left_of z) (walk_to s z) w → GoesOn u s z w
go_on u s z w e r = (walk_to s z, subst (λ o. Awaits u s o (walk_to s z) (walk_to s z)) (sym e) refl, r)

pub wait_on : (u : List Interface) (s : Choice) (z : Stand) (i : ℕ) (b w : Walk) → waiting z ≡ Some i → Follows u s (deps_of (chosen u s i)) (walk_to s z) b → Runs u s (left_of z) b w → GoesOn u s z w
wait_on u s z i b w e f r = (b, subst (λ o. Awaits u s o (walk_to s z) b) (sym e) f, r)

pub each_stop : (z : Stand) → IsReady z → length z.stops ≡ length z.order
each_stop z ready = sym (length-map z.stops (λ (x : Stop). x.interface)) ∙ ap length ready.followed

pub none_waits : (z : Stand) → IsReady z → waiting z ≡ None
none_waits z ready = let n = each_stop z ready in slice_get_past z.order (length z.stops) (omega (arith, n))

-- where nothing is done
pub stays : (u : List Interface) (D : Choice → Walk → Walk → Type 0) (y : Stand) → IsReady y → ((s : Choice) (b : Walk) → Agrees s y.stops → D s (walk_to s y) b → walk_to s y ≡ b) → Steps u D y y false
stays u D y ready same s b w agrees d r =
    (go_on u s y w (none_waits y ready) (subst (λ a. Runs u s (left_of y) a w) (sym (same s b agrees d)) r), λ e. true_false e refl)

pub not_longer : {A : Type 0} (xs : List A) → Longer xs xs
not_longer xs = ([], sym (append-nil xs))

pub longer_still : {A : Type 0} (xs ys zs : List A) → Longer xs ys → Longer ys zs → Longer xs zs
longer_still xs ys zs h k = (h.0 ++ k.0, k.1 ∙ ap (λ xs. xs ++ k.0) h.1 ∙ append_assoc xs h.0 k.0)

pub not_grown : (y : Stand) → IsReady y → Grown y y
not_grown y ready = record { comes = inl refl; stops = refl; used = not_longer y.used; lists = not_longer y.lists; inside = ready.inside }

-- Tasks that are added.

abbrev pub with_lists : Stand → List (List Task) → ℕ → Stand
with_lists y lists left = record { order = y.order; stops = y.stops; used = y.used; lists = lists; left = left }

pub added_list : {ls lists : List (List Task)} {n left : ℕ} {t : Task} → IsAdded ls n t lists left → list_at lists left ≡ t ∷ list_at ls n
added_list {ls} {lists} {n} {left} {t} h = ap (list_at lists) h.number ∙ ap (λ ks. list_at ks (length ls)) h.lists ∙ get_or-append_seam ls (t ∷ list_at ls n) [] []

pub added_inside : {ls lists : List (List Task)} {n left : ℕ} {t : Task} → IsAdded ls n t lists left → left < length lists
added_inside {ls} {lists} {n} {left} {t} h =
    let more : length lists ≡ length ls + 1 = ap length h.lists ∙ length-append ls ((t ∷ list_at ls n) ∷ []) in
    let last = h.number in
    omega (arith, more, last)

pub added_longer : {ls lists : List (List Task)} {n left : ℕ} {t : Task} → IsAdded ls n t lists left → Longer ls lists
added_longer {ls} {lists} {n} {left} {t} h = ((t ∷ list_at ls n) ∷ [], h.lists)

pub added_runs : {ls lists : List (List Task)} {n left : ℕ} {t : Task} → IsAdded ls n t lists left → (u : List Interface) (s : Choice) (a b w : Walk) → Does u s t a b → Runs u s (list_at ls n) b w → Runs u s (list_at lists left) a w
added_runs h u s a b w d r = subst (λ ts. Runs u s ts a w) (sym (added_list h)) (b, d, r)

pub added_sizes : {ls lists : List (List Task)} {n left : ℕ} {t : Task} → IsAdded ls n t lists left → sizes (list_at lists left) ≡ size t + sizes (list_at ls n)
added_sizes h = ap sizes (added_list h)

-- a task was added before what is left
abbrev pub AddsFirst : Stand → Task → List (List Task) → ℕ → Type 0
AddsFirst y t lists left = IsAdded y.lists y.left t lists left

pub added_ready : (y : Stand) {t : Task} {lists : List (List Task)} {left : ℕ} → AddsFirst y t lists left → IsReady y → IsReady (with_lists y lists left)
added_ready y h ready = record { inside = added_inside h; followed = ready.followed }

pub added_grown : (y z : Stand) {t : Task} {lists : List (List Task)} {left : ℕ} → AddsFirst y t lists left → Grown (with_lists y lists left) z → Grown y z
added_grown y z {t} {lists} {left} h g = record {
  comes = g.comes;
  stops = g.stops;
  used = g.used;
  lists = longer_still y.lists lists z.lists (added_longer h) g.lists;
  inside = g.inside;
}

-- The steps.

-- a dependency is followed: its interface is visited, and then its commands are needed
pub along_steps : (u : List Interface) (d : Dep) (i : ℕ) (names : Bor (List (List ℕ))) (y z : Stand) (lists : List (List Task)) (left : ℕ) (new : Bool) → leads_to u d ≡ Some i → names.now ≡ d.commands → AddsFirst y (Need i names) lists left → Steps u (λ s. Visits u s i) (with_lists y lists left) z new → Steps u (λ s. Follows u s (d ∷ [])) y z new
along_steps u d i names y z lists left new e n h steps s b w agrees f r =
    let g = follow_leads e f in
    steps s g.0 w agrees g.1 (added_runs h u s g.0 b w (visit_lists g.1, subst (λ ns. NeedsEach u s i ns g.0 b) (sym n) g.2) r)

-- the first dependency is followed, and then the others
pub follow_steps : (u : List Interface) (ds : List Dep) (d : Dep) (rest : Bor (List Dep)) (y z : Stand) (lists : List (List Task)) (left : ℕ) (new : Bool) → ds ≡ d ∷ rest.now → AddsFirst y (Follow rest) lists left → Steps u (λ s. Follows u s (d ∷ [])) (with_lists y lists left) z new → Steps u (λ s. Follows u s ds) y z new
follow_steps u ds d rest y z lists left new e h steps s b w agrees f r =
    let g = follow_split (d ∷ []) rest.now (subst (λ x. Follows u s x (walk_to s y) b) e f) in
    steps s g.0 w agrees g.1 (added_runs h u s g.0 b w g.2 r)

-- commands are needed of a listed interface
abbrev pub NeedsThere : List Interface → ℕ → List ℕ → Choice → Walk → Walk → Type 0
NeedsThere u i name s a b = (is_listed a i ≡ true) × Needs u s i name a b

abbrev pub NeedsEachThere : List Interface → ℕ → List (List ℕ) → Choice → Walk → Walk → Type 0
NeedsEachThere u i names s a b = (is_listed a i ≡ true) × NeedsEach u s i names a b

-- the first command is needed, and then the others
pub each_steps : (u : List Interface) (i : ℕ) (names : List (List ℕ)) (name : List ℕ) (rest : Bor (List (List ℕ))) (y z : Stand) (lists : List (List Task)) (left : ℕ) (new : Bool) → names ≡ name ∷ rest.now → AddsFirst y (Need i rest) lists left → Steps u (NeedsThere u i name) (with_lists y lists left) z new → Steps u (NeedsEachThere u i names) y z new
each_steps u i names name rest y z lists left new e h steps s b w agrees f r =
    let g = each_split (subst (λ x. NeedsEach u s i x (walk_to s y) b) e f.1) in
    steps s g.0 w agrees (f.0, g.1) (added_runs h u s g.0 b w (stays_listed i (grow_need g.1) f.0, g.2) r)

-- an interface is visited
abbrev pub with_order : Stand → List ℕ → Stand
with_order y ks = record { order = ks; stops = y.stops; used = y.used; lists = y.lists; left = y.left }

-- it is inserted where it isn't listed
pub record IsInserted (i : ℕ) (ks js : List ℕ) (new : Bool) : Type 0 where
  pub added : new ≡ not (list_any (λ k. i == k) ks)
  pub keys : js ≡ (if list_any (λ k. i == k) ks then ks else ks ++ i ∷ [])

pub inserted_new : (i : ℕ) (ks js : List ℕ) (new : Bool) → IsInserted i ks js new → new ≡ true → js ≡ ks ++ i ∷ []
inserted_new i ks js new h e = keys_new (list_any (λ k. i == k) ks) ks js i h.keys (not-true (list_any (λ k. i == k) ks) (sym h.added ∙ e))

pub inserted_old : (i : ℕ) (ks js : List ℕ) (new : Bool) → IsInserted i ks js new → new ≡ false → js ≡ ks
inserted_old i ks js new h e = keys_old (list_any (λ k. i == k) ks) ks js i h.keys (not-false (list_any (λ k. i == k) ks) (sym h.added ∙ e))

slice_behind : {A : Type 0} (xs : List A) (x : A) (n : ℕ) → n ≡ length xs → slice_get (xs ++ x ∷ []) n ≡ Some x
slice_behind [] x n e = ap (slice_get (x ∷ [])) e
slice_behind (y ∷ xs) x zero e = absurd (omega (arith, e))
slice_behind (y ∷ xs) x (suc n) e = slice_behind xs x n (omega (arith, e))

pub visit_steps : (u : List Interface) (i : ℕ) (y : Stand) (js : List ℕ) (new : Bool) → IsReady y → i < length u → IsInserted i y.order js new → Steps u (λ s. Visits u s i) y (with_order y js) new
visit_steps u i y js new ready there h s b w agrees v r =
    by_bool new
    (λ e. let c : Came s i (map as_use y.used) y.order js = came s i (map as_use y.used) y.order js new h.added h.keys e in
    let waits : waiting (with_order y js) ≡ Some i = ap (λ ks. slice_get ks (length y.stops)) (inserted_new i y.order js new h e) ∙ slice_behind y.order i (length y.stops) (each_stop y ready) in (
      wait_on u s (with_order y js) i b w waits (subst (λ a. Follows u s (deps_of (chosen u s i)) a b) (sym c.walk) (visit_goes c.new v)) r,
      λ _. less_place u s i (walk_to s y) (walk_to s (with_order y js)) there c.new c.walk,
    ))
    (λ e. let c : Stayed s i (map as_use y.used) y.order js = stayed s i (map as_use y.used) y.order js new h.added h.keys e in
    let waits : waiting (with_order y js) ≡ None = ap (λ ks. slice_get ks (length y.stops)) (inserted_old i y.order js new h e) ∙ none_waits y ready in (
      go_on u s (with_order y js) w waits (subst (λ a. Runs u s (left_of y) a w) (sym (c.walk ∙ visit_same c.old v)) r),
      λ n. true_false n e,
    ))

pub visit_grown : (i : ℕ) (y : Stand) (js : List ℕ) (new : Bool) → IsReady y → IsInserted i y.order js new → Grown y (with_order y js)
visit_grown i y js new ready h = record {
  comes = by_bool new (λ e. inr (i, inserted_new i y.order js new h e)) (λ e. inl (inserted_old i y.order js new h e));
  stops = refl;
  used = not_longer y.used;
  lists = not_longer y.lists;
  inside = ready.inside;
}

pub visit_ready : (i : ℕ) (y : Stand) (js : List ℕ) (new : Bool) → IsReady y → IsInserted i y.order js new → new ≡ false → IsReady (with_order y js)
visit_ready i y js new ready h e = record { inside = ready.inside; followed = ready.followed ∙ sym (inserted_old i y.order js new h e) }

-- a command is needed
abbrev pub with_used : Stand → List Used → Stand
with_used y us = record { order = y.order; stops = y.stops; used = us; lists = y.lists; left = y.left }

pub record IsUsedNow (i : ℕ) (name : List ℕ) (ks js : List Used) (new : Bool) : Type 0 where
  pub added : new ≡ not (list_any (same_use i name) ks)
  pub keys : js ≡ (if list_any (same_use i name) ks then ks else ks ++ a_used i name ∷ [])

-- what it is at a place that agrees
abbrev pub IsCommand : List Interface → ℕ → List ℕ → Stand → Option Command → Type 0
IsCommand u i name y o = (s : Choice) → Agrees s y.stops → is_listed (walk_to s y) i ≡ true → command_at u s i name ≡ o

pub need_lacks_steps : (u : List Interface) (i : ℕ) (name : List ℕ) (y : Stand) → IsReady y → IsCommand u i name y None → Steps u (NeedsThere u i name) y y false
need_lacks_steps u i name y ready none = stays u (NeedsThere u i name) y ready (λ s b agrees d. need_lacking (none s agrees d.0) d.1)

pub used_same : (i : ℕ) (name : List ℕ) (ks js : List Used) → IsUsedNow i name ks js false → js ≡ ks
used_same i name ks js h = keys_old (list_any (same_use i name) ks) ks js (a_used i name) h.keys (not-false (list_any (same_use i name) ks) (sym h.added))

pub need_old_steps : (u : List Interface) (i : ℕ) (name : List ℕ) (y : Stand) (js : List Used) → IsReady y → IsUsedNow i name y.used js false → Steps u (NeedsThere u i name) y (with_used y js) false
need_old_steps u i name y js ready h s b w agrees d r =
    let c : StayedUse i name (map (place_at s) y.order) y.used js = stayed_use i name (map (place_at s) y.order) y.used js false h.added h.keys refl in
    (go_on u s (with_used y js) w (none_waits y ready) (subst (λ a. Runs u s (left_of y) a w) (sym (c.walk ∙ need_used c.old d.1)) r), λ e. true_false e refl)

pub need_new_steps : (u : List Interface) (i : ℕ) (name : List ℕ) (m : Command) (y : Stand) (js : List Used) (lists : List (List Task)) (left : ℕ) → IsReady y → IsCommand u i name y (Some m) → IsUsedNow i name y.used js true → NeedsFirst m (left_of y) (list_at lists left) → Steps u (NeedsThere u i name) y (with_lists (with_used y js) lists left) true
need_new_steps u i name m y js lists left ready is h leads s b w agrees d r =
    let c : CameUse i name (map (place_at s) y.order) y.used js = came_use i name (map (place_at s) y.order) y.used js true h.added h.keys refl in
    let z = with_lists (with_used y js) lists left in
    let e : command_at u s i name ≡ Some m = is s agrees d.0 in (
      go_on u s z w (none_waits y ready) (leads u s (walk_to s z) b w (subst (λ a. Follows u s (needs_of m) a b) (sym c.walk) (need_goes e c.new d.1)) r),
      λ _. less_use u s i name m (walk_to s y) (walk_to s z) e c.new c.walk,
    )

pub used_longer : (i : ℕ) (name : List ℕ) (ks js : List Used) (new : Bool) → IsUsedNow i name ks js new → Longer ks js
used_longer i name ks js new h =
    by_bool (list_any (same_use i name) ks)
    (λ e. subst (λ xs. Longer ks xs) (sym (keys_old (list_any (same_use i name) ks) ks js (a_used i name) h.keys e)) (not_longer ks))
    (λ e. (a_used i name ∷ [], keys_new (list_any (same_use i name) ks) ks js (a_used i name) h.keys e))

-- where nothing was new behind a task that was added
pub stays_added : (y z : Stand) (lists : List (List Task)) (left : ℕ) → Stays (with_lists y lists left) z → Stays y z
stays_added y z lists left h = record { used = h.used; ready = h.ready }

-- what is chosen at a place that is followed
agrees_at : (s : Choice) (xs : List Stop) (n : ℕ) (x : Stop) → Agrees s xs → slice_get xs n ≡ Some x → pick s x.interface ≡ x.pick
agrees_at s [] n x h e = absurd (none_some e)
agrees_at s (z ∷ xs) zero x h e = subst (λ (v : Stop). pick s v.interface ≡ v.pick) (same_Some _ _ e) h.0
agrees_at s (z ∷ xs) (suc n) x h e = agrees_at s xs n x h.1 e

its_interface : (y : Stand) (n i : ℕ) (x : Stop) → IsReady y → Some n ≡ position (λ k. i == k) y.order → slice_get y.stops n ≡ Some x → i ≡ x.interface
its_interface y n i x ready p e =
    let f = position-Some (λ k. i == k) y.order n i (sym p) in
    eqb-true i (get_or y.order n i) f.1 ∙ ap (λ ks. get_or ks n i) (sym ready.followed) ∙ get_or-map (λ (x : Stop). x.interface) y.stops n x i (slice_get_within y.stops n x e) ∙ ap (λ (x : Stop). x.interface) (get_or_from_slice_get y.stops n x x e)

pub is_picked : (s : Choice) (y : Stand) (n i : ℕ) (x : Stop) → IsReady y → Some n ≡ position (λ k. i == k) y.order → slice_get y.stops n ≡ Some x → Agrees s y.stops → pick s i ≡ x.pick
is_picked s y n i x ready p e agrees = ap (pick s) (its_interface y n i x ready p e) ∙ agrees_at s y.stops n x agrees e

pub within_stops : (y : Stand) (n i : ℕ) → IsReady y → Some n ≡ position (λ k. i == k) y.order → n < length y.stops
within_stops y n i ready p =
    let f = position-Some (λ k. i == k) y.order n i (sym p) in
    let l = f.0 in
    let m = each_stop y ready in
    omega (arith, l, m)

pub not_listed : {G : Type 0} (s : Choice) (y : Stand) (i : ℕ) → false ≡ list_any (λ k. i == k) y.order → is_listed (walk_to s y) i ≡ true → G
not_listed s y i n l = true_false l (sym (n ∙ listed_is s i y.order))

-- the command that is needed
pub picks_command : (u : List Interface) (i : ℕ) (name : List ℕ) (y : Stand) (o : Option ℕ) (m : Option Command) → ((s : Choice) → Agrees s y.stops → is_listed (walk_to s y) i ≡ true → pick s i ≡ o) → command_in u i name o ≡ m → IsCommand u i name y m
picks_command u i name y o m picks e s agrees l = ap (command_in u i name) (picks s agrees l) ∙ e

pub lacks_command : (u : List Interface) (i c : ℕ) (name : List ℕ) → None ≡ option_and_then (λ (k : Candidate). command_place k name) (candidate_at u i c) → command_in u i name (Some c) ≡ None
lacks_command u i c name e = at (candidate_at u i c) e
  where
    at : (o : Option Candidate) → None ≡ option_and_then (λ (k : Candidate). command_place k name) o → option_and_then (λ (k : Candidate). command_of k name) o ≡ None
    at None f = refl
    at (Some k) f = sym (no_command k name f)

pub has_command : (u : List Interface) (i c n : ℕ) (k : Candidate) (name : List ℕ) → Some n ≡ option_and_then (λ (k : Candidate). command_place k name) (candidate_at u i c) → candidate_at u i c ≡ Some k → slice_get k.imp.commands n ≡ command_in u i name (Some c)
has_command u i c n k name p e =
    command_there k name n (p ∙ ap (option_and_then (λ (k : Candidate). command_place k name)) e) ∙ ap (option_and_then (λ (k : Candidate). command_of k name)) (sym e)

-- pieces of dependencies are followed first, the last of which was added first
pub pieces_first : (ps : List (Bor (List Dep))) (n : ℕ) (ts : List Task) → length ps ≤ n → FollowsFirst (flat_map (λ q. q.now) (drop n ps)) ts ts
pieces_first ps n ts le u s a b w f r =
    subst (λ x. Runs u s ts x w) (sym (follow_same (subst (λ x. Follows u s (flat_map (λ q. q.now) x) a b) (drop_all n ps le) f))) r

pub piece_first : (ps : List (Bor (List Dep))) (i n : ℕ) (p : Bor (List Dep)) (old : List (List Task)) (first : ℕ) (lists : List (List Task)) (left : ℕ) (ts : List Task) → n ≡ i + 1 → i < length ps → p ≡ get_or ps i p
    → IsAdded old first (Follow p) lists left → FollowsFirst (flat_map (λ q. q.now) (drop n ps)) ts (list_at old first) → FollowsFirst (flat_map (λ q. q.now) (drop i ps)) ts (list_at lists left)
piece_first ps i n p old first lists left ts e lt is h later u s a b w f r =
    let m : suc i ≡ n = omega (arith, e) in
    let split : drop i ps ≡ p ∷ drop n ps = drop-cons ps i p lt ∙ ap (λ y. y ∷ drop (suc i) ps) (sym is) ∙ ap (λ j. p ∷ drop j ps) m in
    let g = follow_split p.now (flat_map (λ q. q.now) (drop n ps)) (subst (λ x. Follows u s (flat_map (λ q. q.now) x) a b) split f) in
    added_runs h u s a g.0 w g.1 (later u s g.0 b w g.2 r)

pub pieces_all : (ps : List (Bor (List Dep))) (n : ℕ) (ds : List Dep) (ts us : List Task) → n ≤ 0 → flat_map (λ q. q.now) ps ≡ ds → FollowsFirst (flat_map (λ q. q.now) (drop n ps)) ts us → FollowsFirst ds ts us
pieces_all ps n ds ts us le e h =
    let none : n ≡ 0 = omega (arith, le) in
    let P : List Dep → Type 0 = λ xs. FollowsFirst xs ts us in
    subst P (ap (λ k. flat_map (λ q. q.now) (drop k ps)) none ∙ e) h

-- what a command needs is done first
pub needs_first : (m : Command) (ls : List (List Task)) (n : ℕ) (ds : Bor (List Dep)) (lists : List (List Task)) (left : ℕ) → m.runner ≡ None → ds.now ≡ m.deps → IsAdded ls n (Follow ds) lists left → NeedsFirst m (list_at ls n) (list_at lists left)
needs_first m ls n ds lists left none d h u s a b w f r =
    added_runs h u s a b w (subst (λ x. Follows u s x a b) (sym d) (subst (λ o. Follows u s (with_runner m.deps o) a b) none f)) r

pub needs_runner_first : (m : Command) (q : Runner) (ls : List (List Task)) (n : ℕ) (o : Bor Dep) (ds : Bor (List Dep)) (lists : List (List Task)) (later : ℕ) (more : List (List Task)) (left : ℕ) → m.runner ≡ Some q → o.now ≡ q.dep → ds.now ≡ m.deps → IsAdded ls n (FollowOne o) lists later → IsAdded lists later (Follow ds) more left → NeedsFirst m (list_at ls n) (list_at more left)
needs_runner_first m q ls n o ds lists later more left some p d h k u s a b w f r =
    let g = follow_split m.deps (q.dep ∷ []) (subst (λ x. Follows u s (with_runner m.deps x) a b) some f) in
    added_runs k u s a g.0 w (subst (λ x. Follows u s x a g.0) (sym d) g.1) (added_runs h u s g.0 b w (subst (λ x. Follows u s (x ∷ []) g.0 b) (sym p) g.2) r)
