-- What several steps do, how a place is followed, and how a walk begins.
use Rattle.std.proofs.Common.{◌≡◌, ◌==◌, ◌≤◌, ◌<◌, ◌+◌, ◌-◌, ◌⊎◌, inl, ℕ, Bool, true, false, List, [], ◌∷◌, ◌++◌, length, map, take, Option, Some, None, Bor, refl, sym, ap, ◌∙◌, subst, arith, length-append, if◌then◌else◌}
use Rattle.std.specs.Prelude.{slice_get, option_and_then}
use Rattle.std.specs.List.{list_any}
use Rattle.std.proofs.lemmas.Option.{slice_get_past}
use Rattle.zi_universe.specs.declared.types.Candidate.{Candidate}
use Rattle.zi_universe.specs.declared.types.Interface.{Interface}
use Rattle.zi_universe.specs.declared.types.Requirement.{Requirement}
use Rattle.zi_choice.specs.Choice.{Choice, pick, candidate_at, chosen, deps_of}
use Rattle.zi_choice.specs.Walk.{Walk, Visits, NeedsEach, Follows, is_listed, nothing, wanted}
use Rattle.zi_choice.specs.Left.{to_come}
use Rattle.zi_choice.specs.Tasks.{place_at}
use Rattle.zi_choice.specs.Traces.{as_use}
use Rattle.zi_choice.proofs.WalkLaws.{true_false}
use Rattle.zi_choice.proofs.GrowLaws.{visit_lists}
use Rattle.zi_choice.proofs.TaskLaws.{a_walk}
use Rattle.zi_walk.specs.declared.tasks.Task.{Task}
use Rattle.zi_walk.specs.declared.tasks.Task.TheVariants.{Need}
use Rattle.zi_walk.specs.declared.path.Stop.{Stop}
use Rattle.zi_walk.specs.Lists.{list_at}
use Rattle.zi_walk.specs.Kept.{FollowsFirst, Stand, Does, Runs, Agrees, Awaits, GoesOn, IsReady, IsEmpty, PathIs, Grown, Longer, Steps, Moves, Stays, GoesAlong, stop_at, waiting, walk_to, left_of, interfaces_of, size, sizes}
use Rattle.zi_walk.proofs.InverseLaws.{each_same, follow_same}
use Rattle.zi_walk.proofs.StepLaws.{go_on, none_waits, not_longer, longer_still, with_lists, added_runs, AddsFirst, with_order, IsInserted, visit_steps}
use Rattle.zi_feed.specs.IdLaws.{none_some}

-- Several steps.

pub runs_on : (u : List Interface) (s : Choice) (z : Stand) (w : Walk) → waiting z ≡ None → GoesOn u s z w → Runs u s (left_of z) (walk_to s z) w
runs_on u s z w e g = subst (λ a. Runs u s (left_of z) a w) (sym (subst (λ o. Awaits u s o (walk_to s z) g.0) e g.1)) g.2

-- tasks were done, and nothing was new
pub record HasMoved (u : List Interface) (y z : Stand) : Type 0 where
  pub ready : IsReady z
  pub order : z.order ≡ y.order
  pub stops : z.stops ≡ y.stops
  pub used : z.used ≡ y.used
  pub lists : Longer y.lists z.lists
  pub moves : (s : Choice) (w : Walk) → Agrees s y.stops → Runs u s (left_of y) (walk_to s y) w → Runs u s (left_of z) (walk_to s z) w

pub not_moved : (u : List Interface) (y : Stand) → IsReady y → HasMoved u y y
not_moved u y ready = record { ready = ready; order = refl; stops = refl; used = refl; lists = not_longer y.lists; moves = λ s w agrees r. r }

pub walk_same : (s : Choice) (y z : Stand) → z.order ≡ y.order → z.used ≡ y.used → walk_to s z ≡ walk_to s y
walk_same s y z e f = ap (λ ks. a_walk (map (place_at s) ks) (map as_use z.used)) e ∙ ap (λ us. a_walk (map (place_at s) y.order) (map as_use us)) f

-- the first task of what is left is done
pub record HasFirst (z : Stand) (t : Task) (later : ℕ) : Type 0 where
  pub is : left_of z ≡ t ∷ list_at z.lists later
  pub there : later < length z.lists

pub later_ready : (z : Stand) (t : Task) (later : ℕ) → HasFirst z t later → IsReady z → IsReady (with_lists z z.lists later)
later_ready z t later f ready = record { inside = f.there; followed = ready.followed }

pub step_moves : (u : List Interface) (x y z : Stand) (t : Task) (later : ℕ) (new : Bool) → HasMoved u x y → HasFirst y t later → Steps u (λ s. Does u s t) (with_lists y y.lists later) z new → Moves u x z new
step_moves u x y z t later new moved f steps s w agrees r =
    let q : Runs u s (t ∷ list_at y.lists later) (walk_to s y) w = subst (λ ts. Runs u s ts (walk_to s y) w) f.is (moved.moves s w agrees r) in
    let g = steps s q.0 w (subst (Agrees s) (sym moved.stops) agrees) q.1 q.2 in
    (g.0, λ e. subst (λ a. to_come u s (walk_to s z) < to_come u s a) (walk_same s x y moved.order moved.used) (g.1 e))

pub step_grown : (u : List Interface) (x y z : Stand) (later : ℕ) → HasMoved u x y → Grown (with_lists y y.lists later) z → Grown x z
step_grown u x y z later moved g = record {
  comes = subst (λ ks. (z.order ≡ ks) ⊎ ((i : ℕ) × (z.order ≡ ks ++ i ∷ []))) moved.order g.comes;
  stops = g.stops ∙ moved.stops;
  used = subst (λ us. Longer us z.used) moved.used g.used;
  lists = longer_still x.lists y.lists z.lists moved.lists g.lists;
  inside = g.inside;
}

same_order : (y z : Stand) → IsReady y → IsReady z → z.stops ≡ y.stops → z.order ≡ y.order
same_order y z ready later e = sym later.followed ∙ ap interfaces_of e ∙ ready.followed

pub step_moved : (u : List Interface) (x y z : Stand) (t : Task) (later : ℕ) → HasMoved u x y → HasFirst y t later → Grown (with_lists y y.lists later) z → Steps u (λ s. Does u s t) (with_lists y y.lists later) z false → Stays (with_lists y y.lists later) z → HasMoved u x z
step_moved u x y z t later moved f g steps stay = record {
  ready = stay.ready;
  order = same_order y z moved.ready stay.ready g.stops ∙ moved.order;
  stops = g.stops ∙ moved.stops;
  used = stay.used ∙ moved.used;
  lists = longer_still x.lists y.lists z.lists moved.lists g.lists;
  moves = λ s w agrees r. runs_on u s z w (none_waits z stay.ready) (step_moves u x y z t later false moved f steps s w agrees r).0;
}

pub moved_grown : (u : List Interface) (y z : Stand) → HasMoved u y z → Grown y z
moved_grown u y z moved = record {
  comes = inl moved.order;
  stops = moved.stops;
  used = subst (λ us. Longer us z.used) moved.used (not_longer z.used);
  lists = moved.lists;
  inside = moved.ready.inside;
}

pub moved_moves : (u : List Interface) (y z : Stand) → HasMoved u y z → Moves u y z false
moved_moves u y z moved s w agrees r = (go_on u s z w (none_waits z moved.ready) (moved.moves s w agrees r), λ e. true_false e refl)

pub step_sizes : (y : Stand) (t : Task) (later : ℕ) → HasFirst y t later → sizes (left_of y) ≡ size t + sizes (list_at y.lists later)
step_sizes y t later f = ap sizes f.is

-- A place is followed.

abbrev pub with_stop : Stand → List Stop → Stand
with_stop y xs = record { order = y.order; stops = xs; used = y.used; lists = y.lists; left = y.left }

abbrev a_stop : ℕ → Option ℕ → ℕ → ℕ → ℕ → ℕ → Stop
a_stop i o known left tasks used = record { interface = i; pick = o; known = known; left = left; tasks = tasks; used = used }

pub with_last : (y : Stand) (xs : List Stop) (i known tasks used : ℕ) (o : Option ℕ) → xs ≡ y.stops ++ record { interface = i; pick = o; known = known; left = y.left; tasks = tasks; used = used } ∷ [] → length y.lists ≡ tasks + 1 → used ≡ length y.used → xs ≡ y.stops ++ stop_at y i o known ∷ []
with_last y xs i known tasks used o pushed e f =
    let n : tasks ≡ length y.lists - 1 = omega (arith, e) in
    pushed ∙ ap (λ m. y.stops ++ a_stop i o known y.left m used ∷ []) n ∙ ap (λ m. y.stops ++ a_stop i o known y.left (length y.lists - 1) m ∷ []) f

length_last : {A : Type 0} (xs ys : List A) (x : A) → ys ≡ xs ++ x ∷ [] → length ys ≡ length xs + 1
length_last xs ys x e = ap length e ∙ length-append xs (x ∷ [])

goes_along : (u : List Interface) (y z : Stand) (x : Stop) → waiting y ≡ Some x.interface → z.order ≡ y.order → z.used ≡ y.used → length y.order ≤ length z.stops → ((s : Choice) (a b w : Walk) → pick s x.interface ≡ x.pick → Follows u s (deps_of (chosen u s x.interface)) a b → Runs u s (left_of y) b w → Runs u s (left_of z) a w) → GoesAlong u y z x
goes_along u y z x waits order used last runs s w p g =
    let f : Follows u s (deps_of (chosen u s x.interface)) (walk_to s y) g.0 = subst (λ o. Awaits u s o (walk_to s y) g.0) waits g.1 in
    let none : waiting z ≡ None = ap (λ ks. slice_get ks (length z.stops)) order ∙ slice_get_past y.order (length z.stops) last in
    go_on u s z w none (runs s (walk_to s z) g.0 w p (subst (λ a. Follows u s (deps_of (chosen u s x.interface)) a g.0) (sym (walk_same s y z order used)) f) g.2)

pub follow_none : (u : List Interface) (y : Stand) (x : Stop) (xs : List Stop) → waiting y ≡ Some x.interface → length y.order ≤ length y.stops + 1 → xs ≡ y.stops ++ x ∷ [] → option_and_then (λ c. candidate_at u x.interface c) x.pick ≡ None → GoesAlong u y (with_stop y xs) x
follow_none u y x xs waits last e none =
    let n = length_last y.stops xs x e in
    goes_along u y (with_stop y xs) x waits refl refl (omega (arith, n, last))
    (λ s a b w p f r. let q : chosen u s x.interface ≡ None = ap (λ o. option_and_then (λ c. candidate_at u x.interface c) o) p ∙ none in
    subst (λ c. Runs u s (left_of y) c w) (sym (follow_same (subst (λ o. Follows u s (deps_of o) a b) q f))) r)

pub follow_some : (u : List Interface) (y : Stand) (x : Stop) (xs : List Stop) (k : Candidate) (lists : List (List Task)) (left : ℕ) → waiting y ≡ Some x.interface → length y.order ≤ length y.stops + 1 → xs ≡ y.stops ++ x ∷ [] → option_and_then (λ c. candidate_at u x.interface c) x.pick ≡ Some k → FollowsFirst k.imp.deps (left_of y) (list_at lists left) → GoesAlong u y (with_lists (with_stop y xs) lists left) x
follow_some u y x xs k lists left waits last e some h =
    let n = length_last y.stops xs x e in
    goes_along u y (with_lists (with_stop y xs) lists left) x waits refl refl (omega (arith, n, last))
    (λ s a b w p f r. let q : chosen u s x.interface ≡ Some k = ap (λ o. option_and_then (λ c. candidate_at u x.interface c) o) p ∙ some in
    h u s a b w (subst (λ o. Follows u s (deps_of o) a b) q f) r)

-- A walk begins at the root.

empty_stops : {G : Type 0} (xs : List Stop) (n : ℕ) (x : Stop) → xs ≡ [] → slice_get xs n ≡ Some x → G
empty_stops xs n x e f = absurd (none_some (sym (ap (λ ys. slice_get ys n) e) ∙ f))

begun_order : (y : Stand) (js : List ℕ) (new : Bool) → IsEmpty y → IsInserted 0 y.order js new → js ≡ 0 ∷ []
begun_order y js new empty h = h.keys ∙ ap (λ ks. if list_any (λ k. 0 == k) ks then ks else ks ++ 0 ∷ []) empty.order

-- whatever is needed of the root is done by the tasks
abbrev pub NeedsAtRoot : List Interface → Option (List ℕ) → List Task → Type 0
NeedsAtRoot u command ts = (s : Choice) (a w : Walk) → is_listed a 0 ≡ true → NeedsEach u s 0 (wanted command) a w → Runs u s ts a w

pub begins : (u : List Interface) (req : Requirement) (y : Stand) (js : List ℕ) (new : Bool) (lists : List (List Task)) (left : ℕ) → IsEmpty y → 0 < length u → IsInserted 0 y.order js new → left < length lists → NeedsAtRoot u req.command (list_at lists left) → PathIs u req (with_lists (with_order y js) lists left)
begins u req y js new lists left empty there h inside needs =
    let z = with_lists (with_order y js) lists left in
    let from = with_lists y lists left in
    let order : js ≡ 0 ∷ [] = begun_order y js new empty h in
    let one : length js ≡ 1 = ap length order in
    let none : length y.stops ≡ 0 = ap length empty.stops in
    let ready : IsReady from = record { inside = inside; followed = ap interfaces_of empty.stops ∙ sym empty.order } in
    record {
      begun = omega (arith, one);
      stands = record {
        inside = inside;
        same = ap interfaces_of empty.stops ∙ sym (ap (λ n. take n js) none);
        within = omega (arith, none);
        last = omega (arith, one, none);
        goes = λ s w agrees walks.
            let start : walk_to s from ≡ nothing = ap (λ ks. a_walk (map (place_at s) ks) (map as_use y.used)) empty.order ∙ ap (λ us. a_walk [] (map as_use us)) empty.used in
            (visit_steps u 0 from js new ready there h s walks.from_root w agrees (subst (λ a. Visits u s 0 a walks.from_root) (sym start) walks.visits) (needs s walks.from_root w (visit_lists walks.visits) walks.needs)).0;
      };
      rise = λ m n x y' l e f. empty_stops y.stops m x empty.stops e;
      stops = λ n x e. empty_stops y.stops n x empty.stops e;
    }

pub root_needs_none : (u : List Interface) (command : Option (List ℕ)) (y : Stand) → IsEmpty y → command ≡ None → NeedsAtRoot u command (left_of y)
root_needs_none u command y empty e s a w l n =
    let ts : left_of y ≡ [] = ap (λ ls. list_at ls y.left) empty.lists ∙ ap (list_at ([] ∷ [])) empty.left in
    subst (λ xs. Runs u s xs a w) (sym ts) (each_same (subst (λ o. NeedsEach u s 0 (wanted o) a w) e n))

pub root_needs_one : (u : List Interface) (command : Option (List ℕ)) (y : Stand) (name : List ℕ) (names : Bor (List (List ℕ))) (lists : List (List Task)) (left : ℕ) → IsEmpty y → command ≡ Some name → names.now ≡ name ∷ [] → AddsFirst y (Need 0 names) lists left → NeedsAtRoot u command (list_at lists left)
root_needs_one u command y name names lists left empty e n h s a w l needs =
    let ts : left_of y ≡ [] = ap (λ ls. list_at ls y.left) empty.lists ∙ ap (list_at ([] ∷ [])) empty.left in
    added_runs h u s a w w (l, subst (λ ns. NeedsEach u s 0 ns a w) (sym n) (subst (λ o. NeedsEach u s 0 (wanted o) a w) e needs)) (subst (λ xs. Runs u s xs w w) (sym ts) refl)

pub empty_inside : (y : Stand) → IsEmpty y → y.left < length y.lists
empty_inside y empty =
    let n : length y.lists ≡ 1 = ap length empty.lists in
    let m = empty.left in
    omega (arith, n, m)
