-- A walk that can go back stays one: where tasks are done, where the waiting place is followed, and where it goes back.
use Rattle.std.proofs.Common.{◌≡◌, ℕ, zero, suc, ◌+◌, ◌-◌, ◌<◌, ◌≤◌, Bool, true, List, [], ◌∷◌, ◌++◌, length, map, take, refl, sym, ap, ◌∙◌, subst, arith, length-append, Option, Some, None, ◌⊎◌, inl, inr}
use Rattle.std.specs.Prelude.{slice_get}
use Rattle.std.proofs.lemmas.List.{take_all, length-take-le, map-append, length-map}
use Rattle.std.proofs.lemmas.Option.{slice_get_within, slice_get_past}
use Rattle.zi_universe.specs.declared.types.Requirement.{Requirement}
use Rattle.zi_universe.specs.declared.types.Interface.{Interface}
use Rattle.zi_choice.specs.declared.traced.Used.{Used}
use Rattle.zi_choice.specs.Choice.{Choice, pick}
use Rattle.zi_choice.specs.Walk.{Walk, Walks}
use Rattle.zi_walk.specs.declared.tasks.Task.{Task}
use Rattle.zi_walk.specs.declared.path.Stop.{Stop}
use Rattle.zi_walk.specs.Kept.{Stand, Stands, StopIs, PathIs, IsBefore, Rise, waiting, GoesOn, Agrees, interfaces_of, back_at, stop_at, Longer, Comes, Grown, IsReady, Moves, IsFollowed, GoesAlong}
use Rattle.zi_walk.proofs.PartLaws.{take_part, part_item, take_item, part_stays, longer_whole, longer_length, same_longer}
use Rattle.zi_feed.proofs.ShareLaws.{at_cases}
use Rattle.zi_walk.proofs.PathLaws.{runs_on}

abbrev a_stand : List ℕ → List Stop → List Used → List (List Task) → ℕ → Stand
a_stand os xs us ls n = record { order = os; stops = xs; used = us; lists = ls; left = n }

stand_is : (os ps : List ℕ) (xs ys : List Stop) (us vs : List Used) (ls ms : List (List Task)) (n : ℕ) → os ≡ ps → xs ≡ ys → us ≡ vs → ls ≡ ms → a_stand os xs us ls n ≡ a_stand ps ys vs ms n
stand_is os ps xs ys us vs ls ms n e f g h =
    ap (λ q. a_stand q xs us ls n) e ∙ ap (λ q. a_stand ps q us ls n) f ∙ ap (λ q. a_stand ps ys q ls n) g ∙ ap (λ q. a_stand ps ys vs q n) h

-- where all places are followed none waits
pub none_waits : (z : Stand) → length z.order ≤ length z.stops → waiting z ≡ None
none_waits z l = slice_get_past z.order (length z.stops) l

pub ready_length : (z : Stand) → IsReady z → length z.order ≡ length z.stops
ready_length z r = sym (ap length r.followed) ∙ length-map z.stops (λ (x : Stop). x.interface)

-- what a place keeps is the same where the walk grows
back_same : (y z : Stand) (n : ℕ) (x : Stop) → Longer y.order z.order → Longer y.stops z.stops → Longer y.used z.used → Longer y.lists z.lists → n + 1 ≤ length y.order → n ≤ length y.stops → x.used ≤ length y.used → x.tasks < length y.lists → back_at z n x ≡ back_at y n x
back_same y z n x os xs us ls a b c d =
    stand_is (take (n + 1) z.order) (take (n + 1) y.order) (take n z.stops) (take n y.stops) (take x.used z.used) (take x.used y.used) (take (x.tasks + 1) z.lists) (take (x.tasks + 1) y.lists) x.left
    (part_stays (n + 1) y.order z.order os a) (part_stays n y.stops z.stops xs b) (part_stays x.used y.used z.used us c) (part_stays (x.tasks + 1) y.lists z.lists ls (omega (arith, d)))

stop_stays : (u : List Interface) (req : Requirement) (y z : Stand) (n : ℕ) (x : Stop) → Longer y.order z.order → Longer y.stops z.stops → Longer y.used z.used → Longer y.lists z.lists → n < length y.stops → length y.stops ≤ length y.order → StopIs u req y n x → StopIs u req z n x
stop_stays u req y z n x os xs us ls l w h =
    let a = longer_length y.used z.used us in
    let b = longer_length y.lists z.lists ls in
    let p = h.tasks in
    let q = h.used in
    record {
      tasks = omega (arith, p, b);
      used = omega (arith, q, a);
      stands = subst (λ t. Stands u req t) (sym (back_same y z n x os xs us ls (omega (arith, l, w)) (omega (arith, l)) h.used h.tasks)) h.stands;
    }

comes_longer : (y z : Stand) → Comes y z → Longer y.order z.order × (length z.order ≤ length y.order + 1)
comes_longer y z (inl e) = let l : length z.order ≡ length y.order = ap length e in (same_longer y.order z.order e, omega (arith, l))
comes_longer y z (inr e) = let l : length z.order ≡ length y.order + 1 = ap length e.1 ∙ length-append y.order (e.0 ∷ []) in ((e.0 ∷ [], e.1), omega (arith, l))

-- Where tasks are done.
module _ (u : List Interface) (req : Requirement) (y z : Stand) (new : Bool) (path : PathIs u req y) (ready : IsReady y) (grown : Grown y z) (moves : Moves u y z new) where
  same_length : length z.stops ≡ length y.stops
  same_length = ap length grown.stops

  even : length y.order ≡ length y.stops
  even = ready_length y ready

  longer : Longer y.order z.order × (length z.order ≤ length y.order + 1)
  longer = comes_longer y z grown.comes

  grown_goes : (s : Choice) (w : Walk) → Agrees s z.stops → Walks u req s w → GoesOn u s z w
  grown_goes s w like k =
      let before : Agrees s y.stops = subst (λ xs. Agrees s xs) grown.stops like in
      (moves s w before (runs_on u s y w (none_waits y (omega (arith, even))) (path.stands.goes s w before k))).0

  grown_stands : Stands u req z
  grown_stands =
      let a = longer_length y.order z.order longer.0 in
      let b = longer.1 in
      record {
        inside = grown.inside;
        same =
            ap interfaces_of grown.stops ∙ ready.followed ∙ sym (longer_whole (length z.stops) y.order z.order longer.0 (same_length ∙ sym even));
        within = omega (arith, a, even, same_length);
        last = omega (arith, b, even, same_length);
        goes = grown_goes;
      }

  pub grown_path : PathIs u req z
  grown_path =
      let a = longer_length y.order z.order longer.0 in
      let c = path.begun in
      record {
        begun = omega (arith, a, c);
        stands = grown_stands;
        rise = subst (λ xs. Rise xs) (sym grown.stops) path.rise;
        stops = λ n x e.
            let f : slice_get y.stops n ≡ Some x = ap (λ xs. slice_get xs n) (sym grown.stops) ∙ e in
            stop_stays u req y z n x longer.0 (same_longer y.stops z.stops grown.stops) grown.used grown.lists (slice_get_within y.stops n x f) path.stands.within (path.stops n x f);
      }

-- Where the waiting place is followed.
agrees_last : (s : Choice) (xs : List Stop) (x : Stop) → Agrees s (xs ++ x ∷ []) → Agrees s xs × (pick s x.interface ≡ x.pick)
agrees_last s [] x h = (tt, h.0)
agrees_last s (y ∷ xs) x h = let r = agrees_last s xs x h.1 in ((h.0, r.0), r.1)

module _ (u : List Interface) (req : Requirement) (y z : Stand) (i : ℕ) (o : Option ℕ) (known : ℕ) (path : PathIs u req y) (waits : waiting y ≡ Some i) (followed : IsFollowed y z (stop_at y i o known)) (along : GoesAlong u y z (stop_at y i o known)) (rises : (n : ℕ) (x : Stop) → slice_get y.stops n ≡ Some x → x.known ≤ known) where
  abbrev x : Stop
  x = stop_at y i o known

  abbrev n : ℕ
  n = length y.stops

  there : n < length y.order
  there = slice_get_within y.order n i waits

  one_more : length z.stops ≡ n + 1
  one_more = ap length followed.stops ∙ length-append y.stops (x ∷ [])

  filled : 0 < length y.lists
  filled = let a = path.stands.inside in omega (arith, a)

  back_here : back_at z n x ≡ y
  back_here =
      let last = path.stands.last in
      stand_is (take (n + 1) z.order) y.order (take n z.stops) y.stops (take (length y.used) z.used) y.used (take (length y.lists - 1 + 1) z.lists) y.lists y.left
      (ap (take (n + 1)) followed.order ∙ take_all (n + 1) y.order (omega (arith, last)))
      (longer_whole n y.stops z.stops (x ∷ [], followed.stops) refl)
      (ap (take (length y.used)) followed.used ∙ take_all (length y.used) y.used (omega arith))
      (longer_whole (length y.lists - 1 + 1) y.lists z.lists followed.lists (omega (arith, filled)))

  followed_goes : (s : Choice) (w : Walk) → Agrees s z.stops → Walks u req s w → GoesOn u s z w
  followed_goes s w like k =
      let h : Agrees s y.stops × (pick s i ≡ o) = agrees_last s y.stops x (subst (λ xs. Agrees s xs) followed.stops like) in
      along s w h.1 (path.stands.goes s w h.0 k)

  followed_stands : Stands u req z
  followed_stands =
      let e : length z.order ≡ length y.order = ap length followed.order in
      let last = path.stands.last in
      record {
        inside = followed.inside;
        same =
            ap interfaces_of followed.stops ∙ map-append (λ (x : Stop). x.interface) y.stops (x ∷ []) ∙ ap (λ xs. xs ++ i ∷ []) path.stands.same
            ∙ sym (take_item y.order n i waits) ∙ ap (λ m. take m y.order) (sym one_more) ∙ ap (take (length z.stops)) (sym followed.order);
        within = omega (arith, there, e, one_more);
        last = omega (arith, last, e, one_more);
        goes = followed_goes;
      }

  before_last : (m : ℕ) (w : Stop) → slice_get y.stops m ≡ Some w → IsBefore w x
  before_last m w e =
      let s : StopIs u req y m w = path.stops m w e in
      let t = s.tasks in
      record { known = rises m w e; tasks = omega (arith, t); used = s.used }

  followed_rise : Rise z.stops
  followed_rise m k v w l e f =
      at (at_cases y.stops x m v (ap (λ xs. slice_get xs m) (sym followed.stops) ∙ e)) (at_cases y.stops x k w (ap (λ xs. slice_get xs k) (sym followed.stops) ∙ f))
    where
      same : IsBefore x x
      same = record { known = omega arith; tasks = omega arith; used = omega arith }

      at : (slice_get y.stops m ≡ Some v) ⊎ ((m ≡ n) × (v ≡ x)) → (slice_get y.stops k ≡ Some w) ⊎ ((k ≡ n) × (w ≡ x)) → IsBefore v w
      at (inl a) (inl b) = path.rise m k v w l a b
      at (inl a) (inr b) = subst (λ q. IsBefore v q) (sym b.1) (before_last m v a)
      at (inr a) (inl b) =
          let p = a.0 in
          let q = slice_get_within y.stops k w b in
          absurd (omega (arith, p, q, l))
      at (inr a) (inr b) = subst (λ q. IsBefore q w) (sym a.1) (subst (λ q. IsBefore x q) (sym b.1) same)

  followed_stops : (m : ℕ) (w : Stop) → slice_get z.stops m ≡ Some w → StopIs u req z m w
  followed_stops m w e = at (at_cases y.stops x m w (ap (λ xs. slice_get xs m) (sym followed.stops) ∙ e))
    where
      here : StopIs u req z n x
      here =
          let a : length z.used ≡ length y.used = ap length followed.used in
          let b = longer_length y.lists z.lists followed.lists in
          record {
            tasks = omega (arith, filled, b);
            used = omega (arith, a);
            stands = subst (λ t. Stands u req t) (sym back_here) path.stands;
          }

      at : (slice_get y.stops m ≡ Some w) ⊎ ((m ≡ n) × (w ≡ x)) → StopIs u req z m w
      at (inl a) =
          stop_stays u req y z m w (same_longer y.order z.order followed.order) (x ∷ [], followed.stops) (same_longer y.used z.used followed.used) followed.lists (slice_get_within y.stops m w a) path.stands.within (path.stops m w a)
      at (inr a) = subst (λ q. StopIs u req z q w) (sym a.0) (subst (λ q. StopIs u req z n q) (sym a.1) here)

  pub followed_path : PathIs u req z
  followed_path =
      let a : length z.order ≡ length y.order = ap length followed.order in
      let c = path.begun in
      record { begun = omega (arith, a, c); stands = followed_stands; rise = followed_rise; stops = followed_stops }

-- Where it goes back.
module _ (u : List Interface) (req : Requirement) (y z : Stand) (n : ℕ) (x : Stop) (path : PathIs u req y) (there : slice_get y.stops n ≡ Some x) (back : z ≡ back_at y n x) where
  stop : StopIs u req y n x
  stop = path.stops n x there

  inner : (m : ℕ) (w : Stop) → slice_get (take n y.stops) m ≡ Some w → (m < n) × (slice_get y.stops m ≡ Some w)
  inner m w e = part_item n y.stops m w e

  back_twice : (m : ℕ) (w : Stop) → m < n → IsBefore w x → back_at (back_at y n x) m w ≡ back_at y m w
  back_twice m w l b =
      let t = b.tasks in
      stand_is (take (m + 1) (take (n + 1) y.order)) (take (m + 1) y.order) (take m (take n y.stops)) (take m y.stops) (take w.used (take x.used y.used)) (take w.used y.used) (take (w.tasks + 1) (take (x.tasks + 1) y.lists)) (take (w.tasks + 1) y.lists) w.left
      (take_part (m + 1) (n + 1) y.order (omega (arith, l))) (take_part m n y.stops (omega (arith, l))) (take_part w.used x.used y.used b.used) (take_part (w.tasks + 1) (x.tasks + 1) y.lists (omega (arith, t)))

  back_stops : (m : ℕ) (w : Stop) → slice_get (take n y.stops) m ≡ Some w → StopIs u req (back_at y n x) m w
  back_stops m w e =
      let h : (m < n) × (slice_get y.stops m ≡ Some w) = inner m w e in
      let l = h.0 in
      let b : IsBefore w x = path.rise m n w x (omega (arith, l)) h.1 there in
      let p = stop.tasks in
      let a : length (take (x.tasks + 1) y.lists) ≡ x.tasks + 1 = length-take-le (x.tasks + 1) y.lists (omega (arith, p)) in
      let c : length (take x.used y.used) ≡ x.used = length-take-le x.used y.used stop.used in
      let t = b.tasks in
      let v = b.used in
      record {
        tasks = omega (arith, a, t);
        used = omega (arith, c, v);
        stands = subst (λ t. Stands u req t) (sym (back_twice m w l b)) (path.stops m w h.1).stands;
      }

  back_begun : 0 < length (take (n + 1) y.order)
  back_begun =
      let l = slice_get_within y.stops n x there in
      let w = path.stands.within in
      let a : length (take (n + 1) y.order) ≡ n + 1 = length-take-le (n + 1) y.order (omega (arith, l, w)) in
      omega (arith, a)

  pub back_path : PathIs u req z
  back_path = subst (λ t. PathIs u req t) (sym back) (record {
    begun = back_begun;
    stands = stop.stands;
    rise = λ m k v w l e f. path.rise m k v w l (inner m v e).1 (inner k w f).1;
    stops = back_stops;
  })
