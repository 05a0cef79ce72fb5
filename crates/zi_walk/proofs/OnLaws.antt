-- A walk on its way: what it comes to is what the rule says.
use Rattle.std.proofs.Common.{◌≡◌, ℕ, zero, suc, ◌+◌, ◌<◌, ◌≤◌, Bool, true, false, List, [], ◌∷◌, ◌++◌, length, map, take, refl, sym, ap, ◌∙◌, subst, arith, append_assoc, Option, Some, None, ◌⊎◌, inl, inr}
use Rattle.std.specs.Prelude.{slice_get, IfSome, IfNone}
use Rattle.std.proofs.lemmas.List.{take_all, map-append, append-nil, length-map}
use Rattle.std.proofs.lemmas.Option.{slice_get_within}
use Rattle.zi_formula.specs.declared.formula.Lit.{Lit}
use Rattle.zi_proof.specs.Known.{Known, nothing}
use Rattle.zi_sat.specs.declared.entry.Entry.{Entry}
use Rattle.zi_sat.specs.Trail.{lits_of, known_from, OpenAll}
use Rattle.zi_sat.specs.Least.{first_of, least_open}
use Rattle.zi_sat.specs.Ends.{AreDecided}
use Rattle.zi_universe.specs.declared.types.Requirement.{Requirement}
use Rattle.zi_universe.specs.declared.types.Interface.{Interface}
use Rattle.zi_choice.specs.Choice.{Choice, pick}
use Rattle.zi_choice.specs.Walk.{Place, Walk, Walks}
use Rattle.zi_choice.specs.Left.{to_come}
use Rattle.zi_choice.specs.Tasks.{place_at}
use Rattle.zi_choice.proofs.GrowLaws.{grow_each, grow_follow}
use Rattle.zi_choice.proofs.ThereLaws.{walk_there}
use Rattle.zi_walk.specs.Rule.{so_far, waits_at, or_else, first_open, as_lit, walk_of, walk_picks}
use Rattle.zi_walk.specs.declared.tasks.Task.{Task}
use Rattle.zi_walk.specs.declared.tasks.Task.TheVariants.{Follow, FollowOne, Need}
use Rattle.zi_walk.specs.declared.path.Stop.{Stop}
use Rattle.zi_walk.specs.declared.standing.Blocked.{Blocked}
use Rattle.zi_walk.specs.declared.standing.Blocked.TheVariants.{Open}
use Rattle.zi_walk.specs.Kept.{Stand, Stands, PathIs, Does, Runs, left_of, walk_to, waiting, Awaits, GoesOn, Agrees, interfaces_of, stop_at, Longer, Grown, IsReady, IsFurther, Moves, IsFollowed, GoesAlong}
use Rattle.zi_walk.specs.Firm.{Firm, IsFirm, AreFirm, OnWay, IsUndecided, IsBlockedBy, IsBlocked, IsDone, IsPicked}
use Rattle.zi_walk.proofs.Rules.{NoneWaits}
use Rattle.zi_walk.proofs.OpenLaws.{lit_there}
use Rattle.zi_walk.proofs.PartLaws.{take_item}
use Rattle.zi_walk.proofs.KeptLaws.{none_waits, ready_length, grown_path, followed_path}
use Rattle.zi_walk.proofs.FirmLaws.{firm_picks, firm_quiet, firm_now}
use Rattle.zi_feed.proofs.ShareLaws.{at_cases}
use Rattle.zi_walk.proofs.PathLaws.{runs_on, walk_same}

-- A walk only grows.
longer_on : {A : Type 0} (xs ys zs : List A) → Longer xs ys → Longer ys zs → Longer xs zs
longer_on xs ys zs a b = (a.0 ++ b.0, b.1 ∙ ap (λ ys. ys ++ b.0) a.1 ∙ append_assoc xs a.0 b.0)

does_grow : (u : List Interface) (s : Choice) (t : Task) (a b : Walk) → Does u s t a b → Longer a.places b.places
does_grow u s (Follow ds) a b d = let g = grow_follow d in (g.more, g.is)
does_grow u s (FollowOne d) a b f = let g = grow_follow f in (g.more, g.is)
does_grow u s (Need i names) a b d = let g = grow_each d.1 in (g.more, g.is)

runs_grow : (u : List Interface) (s : Choice) (ts : List Task) (a w : Walk) → Runs u s ts a w → Longer a.places w.places
runs_grow u s [] a w r = ([], ap (λ (x : Walk). x.places) (sym r) ∙ sym (append-nil a.places))
runs_grow u s (t ∷ ts) a w r = longer_on a.places r.0.places w.places (does_grow u s t a r.0 r.1) (runs_grow u s ts r.0 w r.2)

awaits_grow : (u : List Interface) (s : Choice) (o : Option ℕ) (a b : Walk) → Awaits u s o a b → Longer a.places b.places
awaits_grow u s None a b e = ([], ap (λ (x : Walk). x.places) (sym e) ∙ sym (append-nil a.places))
awaits_grow u s (Some i) a b f = let g = grow_follow f in (g.more, g.is)

goes_grow : (u : List Interface) (s : Choice) (z : Stand) (w : Walk) → GoesOn u s z w → Longer (walk_to s z).places w.places
goes_grow u s z w g = longer_on (walk_to s z).places g.0.places w.places (awaits_grow u s (waiting z) (walk_to s z) g.0 g.1) (runs_grow u s (left_of z) g.0 w g.2)

-- Places where nothing waits are passed over.
open_past : (u : List Interface) (k : Known) (ps qs : List Place) → NoneWaits u k ps → first_open u k (ps ++ qs) ≡ first_open u k qs
open_past u k [] qs n = refl
open_past u k (p ∷ ps) qs n = ap (λ o. or_else o p.interface (first_open u k (ps ++ qs))) n.0 ∙ open_past u k ps qs n.1

agrees_of : (s : Choice) (xs : List Stop) → ((n : ℕ) (x : Stop) → slice_get xs n ≡ Some x → pick s x.interface ≡ x.pick) → Agrees s xs
agrees_of s [] h = tt
agrees_of s (x ∷ xs) h = (h 0 x refl, agrees_of s xs (λ n y e. h (suc n) y e))

quiet_of : (u : List Interface) (k : Known) (s : Choice) (xs : List Stop) → ((n : ℕ) (x : Stop) → slice_get xs n ≡ Some x → waits_at u k (place_at s x.interface) ≡ None) → NoneWaits u k (map (place_at s) (interfaces_of xs))
quiet_of u k s [] h = tt
quiet_of u k s (x ∷ xs) h = (h 0 x refl, quiet_of u k s xs (λ n y e. h (suc n) y e))

pub further_on : (u : List Interface) (s : Choice) (x y z : Stand) → y.order ≡ x.order → y.used ≡ x.used → IsFurther u s y z → IsFurther u s x z
further_on u s x y z e f l = subst (λ w. to_come u s (walk_to s z) < to_come u s w) (walk_same s x y e f) l

-- all places but the one that waits, and that one
order_waits : (z : Stand) (i : ℕ) → interfaces_of z.stops ≡ take (length z.stops) z.order → length z.order ≤ length z.stops + 1 → waiting z ≡ Some i → z.order ≡ interfaces_of z.stops ++ i ∷ []
order_waits z i same last w =
    sym (take_all (length z.stops + 1) z.order last) ∙ take_item z.order (length z.stops) i w ∙ ap (λ xs. xs ++ i ∷ []) (sym same)

module _ (u : List Interface) (req : Requirement) (n : ℕ) (es : List Entry) (z : Stand) (new : OpenAll nothing (lits_of es)) (way : OnWay u req es z) where
  abbrev k : Known
  k = known_from es

  abbrev s : Choice
  s = so_far u k

  abbrev whole : Walk
  whole = walk_of u req s

  firm_at : (m : ℕ) (x : Stop) → slice_get z.stops m ≡ Some x → Firm u k x.interface x.pick
  firm_at m x e = firm_now u es x new (way.firm m x e)

  pub agrees : Agrees s z.stops
  agrees = agrees_of s z.stops (λ m x e. firm_picks u k x.interface x.pick (firm_at m x e))

  quiet : NoneWaits u k (map (place_at s) (interfaces_of z.stops))
  quiet = quiet_of u k s z.stops (λ m x e. firm_quiet u k x.interface x.pick (pick s x.interface) (firm_picks u k x.interface x.pick (firm_at m x e)) (firm_at m x e))

  pub on_goes : GoesOn u s z whole
  on_goes = way.path.stands.goes s whole agrees (walk_there u req s).1

  -- where it is blocked by a candidate
  pub blocked_picks : (i : ℕ) (l : Lit) → waiting z ≡ Some i → Some l ≡ as_lit u (or_else (waits_at u k (place_at s i)) i None) → Some l ≡ walk_picks u req n k
  blocked_picks i l w e =
      let more : Longer (walk_to s z).places whole.places = goes_grow u s z whole on_goes in
      let ps : List Place = map (place_at s) (interfaces_of z.stops) in
      let order : map (place_at s) z.order ≡ ps ++ place_at s i ∷ [] =
      ap (map (place_at s)) (order_waits z i way.path.stands.same way.path.stands.last w) ∙ map-append (place_at s) (interfaces_of z.stops) (i ∷ []) in
      let places : whole.places ≡ ps ++ place_at s i ∷ more.0 = more.1 ∙ ap (λ qs. qs ++ more.0) order ∙ append_assoc ps (place_at s i ∷ []) more.0 in
      let first : first_open u k whole.places ≡ or_else (waits_at u k (place_at s i)) i (first_open u k more.0) = ap (first_open u k) places ∙ open_past u k ps (place_at s i ∷ more.0) quiet in
      ap (λ o. first_of o (least_open n k)) (lit_there u (waits_at u k (place_at s i)) i (first_open u k more.0) l e ∙ ap (as_lit u) (sym first))

  pub picked_open : (r : Option Blocked) (b : Blocked) (l : Lit) → r ≡ Some b → b ≡ Open l → IfSome r (λ b. IsBlocked u n k z b) → IsPicked u req n es (Some l)
  picked_open r b l e f h =
      let at : IsBlocked u n k z (Open l) = subst (λ (o : Blocked). IsBlocked u n k z o) f (subst (λ o. IfSome o (λ b. IsBlocked u n k z b)) e h) in
      record { is = blocked_picks at.0 l at.1 at.2.0; undecided = at.2.1; none = tt }

  -- where it is at its end
  pub done_none : IsDone z → as_lit u (first_open u k whole.places) ≡ None
  done_none d =
      let even = ready_length z d.ready in
      let r : Runs u s (left_of z) (walk_to s z) whole = runs_on u s z whole (none_waits z (omega (arith, even))) on_goes in
      let same : walk_to s z ≡ whole = subst (λ ts. Runs u s ts (walk_to s z) whole) d.empty r in
      let ps : List Place = map (place_at s) (interfaces_of z.stops) in
      let places : whole.places ≡ ps ++ [] = ap (λ (x : Walk). x.places) (sym same) ∙ ap (map (place_at s)) (sym d.ready.followed) ∙ sym (append-nil ps) in
      ap (as_lit u) (ap (first_open u k) places ∙ open_past u k ps [] quiet)

  pub picked_least : (r : Option Lit) → IsDone z → r ≡ least_open n k → IfSome r (λ l. IsUndecided n k l) → IfNone r (AreDecided n es) → IsPicked u req n es r
  picked_least r d e f g = record { is = e ∙ ap (λ o. first_of o (least_open n k)) (sym (done_none d)); undecided = f; none = g }

  -- where tasks are done
  pub done_way : (y : Stand) (more : Bool) → IsReady z → Grown z y → Moves u z y more → OnWay u req es y
  done_way y more ready grown moves = record {
    path = grown_path u req z y more way.path ready grown moves;
    firm = subst (λ xs. AreFirm u es xs) (sym grown.stops) way.firm;
  }

  pub done_less : (y : Stand) (more : Bool) → IsReady z → Moves u z y more → more ≡ true → IsFurther u s z y
  done_less y more ready moves is =
      let even = ready_length z ready in
      (moves s whole agrees (runs_on u s z whole (none_waits z (omega (arith, even))) on_goes)).1 is

  -- where the waiting place is followed
  pub followed_way : (y : Stand) (i known : ℕ) (o : Option ℕ) → known ≡ length es → waiting z ≡ Some i → Firm u k i o → IsFollowed z y (stop_at z i o known) → GoesAlong u z y (stop_at z i o known) → OnWay u req es y
  followed_way y i known o len w firm followed along = record {
    path = followed_path u req z y i o known way.path w followed along (λ m x e. let l = (way.firm m x e).0 in omega (arith, l, len));
    firm = subst (λ xs. AreFirm u es xs) (sym followed.stops) firms;
  }
    where
      last : IsFirm u es (stop_at z i o known)
      last = (omega (arith, len), subst (λ ds. Firm u (known_from ds) i o) (sym (take_all known es (omega (arith, len)))) firm)

      firms : AreFirm u es (z.stops ++ stop_at z i o known ∷ [])
      firms m x e = elim (at_cases z.stops (stop_at z i o known) m x e) [ inl f ↦ way.firm m x f | inr f ↦ subst (λ x. IsFirm u es x) (sym f.1) last ]

  pub followed_ready : (y : Stand) (i known : ℕ) (o : Option ℕ) → waiting z ≡ Some i → IsFollowed z y (stop_at z i o known) → IsReady y
  followed_ready y i known o w followed = record {
    inside = followed.inside;
    followed =
        ap interfaces_of followed.stops ∙ map-append (λ (x : Stop). x.interface) z.stops (stop_at z i o known ∷ [])
        ∙ sym (order_waits z i way.path.stands.same way.path.stands.last w) ∙ sym followed.order;
  }

  -- where nothing waits
  pub quiet_ready : length z.order ≤ length z.stops → IsReady z
  quiet_ready l = record { inside = way.path.stands.inside; followed = way.path.stands.same ∙ take_all (length z.stops) z.order l }
