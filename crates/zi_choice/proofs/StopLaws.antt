-- A choice has stops, and no others; and the stops of two choices are the same, or part at one interface.
use Rattle.std.proofs.Common.{◌≡◌, ◌≢◌, ℕ, zero, suc, ◌==◌, Bool, true, false, ◌||◌, ◌&&◌, List, [], ◌∷◌, ◌++◌, ◌+◌, ◌<◌, length, get_or, take, refl, sym, subst, ap, ◌∙◌, append_assoc, eqb-true, eq-eqb, Option, Some, None, ◌⊎◌, inl, inr}
use Rattle.std.specs.Prelude.{option_and_then, slice_get, bytes_eq}
use Rattle.std.specs.List.{list_any, flat_map}
use Rattle.std.proofs.lemmas.List.{append-nil}
use Rattle.std.proofs.lemmas.Bool.{false≢true}
use Rattle.zi_parts.specs.declared.types.Dep.{Dep}
use Rattle.zi_parts.specs.declared.types.Command.{Command}
use Rattle.zi_universe.specs.declared.types.Requirement.{Requirement}
use Rattle.zi_universe.specs.declared.types.Interface.{Interface}
use Rattle.zi_choice.specs.Choice.{Choice, pick, chosen, candidate_at, command_of, command_at, deps_of, needs_of}
use Rattle.zi_choice.specs.Walk.{Place, Use, Walk, Walks, Visits, Needs, NeedsEach, Follows, listed, comes, lacks, again, uses, no_more, one_more, ends, passes, goes, is_listed, is_used, with_place, with_use, wanted, nothing}
use Rattle.zi_choice.specs.declared.traced.Stop.{Stop}
use Rattle.zi_choice.specs.declared.traced.Stop.TheVariants.{Came, Needed}
use Rattle.zi_choice.specs.Stops.{is_came, is_needed, came_to, needed_at, and_came, and_needed, VisitStops, NeedStops, NeedEachStops, FollowStops, been, stops, without, before, needs, no_name, a_name, no_dep, a_restriction, a_dep, AreStops, places_of, uses_of, walk_of_stops, interface_of, AgreeBefore}
use Rattle.zi_choice.specs.Laws.{StopsAreThere, StopsAreOne}
use Rattle.zi_choice.proofs.GrowLaws.{any_of, any_left, any_right}
use Rattle.zi_choice.proofs.ThereLaws.{walk_there}
use Rattle.zi_names.proofs.Expanded.{front_more}
use Rattle.zi_choice.proofs.WalkLaws.{true_false, not_both, one_value}
use Rattle.zi_feed.specs.IdLaws.{none_some}
use Rattle.std.proofs.lemmas.Option.{same_Some}

-- Stops are there.

pub listed_came : (s : Choice) (i : ℕ) (xs : List Stop) → is_listed (walk_of_stops s xs) i ≡ came_to xs i
listed_came s i [] = refl
listed_came s i (Came j ∷ xs) = ap (λ b. (j == i) || b) (listed_came s i xs)
listed_came s i (Needed j name ∷ xs) = listed_came s i xs

pub used_needed : (s : Choice) (i : ℕ) (name : List ℕ) (xs : List Stop) → is_used (walk_of_stops s xs) i name ≡ needed_at xs i name
used_needed s i name [] = refl
used_needed s i name (Came j ∷ xs) = used_needed s i name xs
used_needed s i name (Needed j other ∷ xs) = ap (λ b. (j == i && bytes_eq other name) || b) (used_needed s i name xs)

pub places_more : (s : Choice) (i : ℕ) (xs : List Stop) → walk_of_stops s (and_came xs i) ≡ with_place s i (walk_of_stops s xs)
places_more s i [] = refl
places_more s i (Came j ∷ xs) = ap (λ (w : Walk). record { places = record { interface = j; pick = pick s j } ∷ w.places; used = w.used }) (places_more s i xs)
places_more s i (Needed j name ∷ xs) = ap (λ (w : Walk). record { places = w.places; used = record { interface = j; command = name } ∷ w.used }) (places_more s i xs)

pub uses_more : (s : Choice) (i : ℕ) (name : List ℕ) (xs : List Stop) → walk_of_stops s (and_needed xs i name) ≡ with_use i name (walk_of_stops s xs)
uses_more s i name [] = refl
uses_more s i name (Came j ∷ xs) = ap (λ (w : Walk). record { places = record { interface = j; pick = pick s j } ∷ w.places; used = w.used }) (uses_more s i name xs)
uses_more s i name (Needed j other ∷ xs) = ap (λ (w : Walk). record { places = w.places; used = record { interface = j; command = other } ∷ w.used }) (uses_more s i name xs)

-- they end where the walk does
abbrev Ends : Choice → (List Stop → Type 0) → Walk → Type 0
Ends s D b = (ys : List Stop) × D ys × (walk_of_stops s ys ≡ b)

mutual
  visit_ends : {u : List Interface} {s : Choice} {i : ℕ} {a b : Walk} (xs : List Stop) → walk_of_stops s xs ≡ a → Visits u s i a b → Ends s (VisitStops u s i xs) b
  visit_ends {u} {s} xs e (listed {i = i} l) = (xs, been (sym (listed_came s i xs) ∙ ap (λ w. is_listed w i) e ∙ l), e)
  visit_ends {u} {s} xs e (comes {i = i} l f) =
      let r = follow_ends (and_came xs i) (places_more s i xs ∙ ap (with_place s i) e) f in
      (r.0, stops (sym (listed_came s i xs) ∙ ap (λ w. is_listed w i) e ∙ l) r.1, r.2)

  need_ends : {u : List Interface} {s : Choice} {i : ℕ} {name : List ℕ} {a b : Walk} (xs : List Stop) → walk_of_stops s xs ≡ a → Needs u s i name a b → Ends s (NeedStops u s i name xs) b
  need_ends xs e (lacks n) = (xs, without n, e)
  need_ends {u} {s} xs e (again {i = i} {name = name} l) = (xs, before (sym (used_needed s i name xs) ∙ ap (λ w. is_used w i name) e ∙ l), e)
  need_ends {u} {s} xs e (uses {i = i} {name = name} m n l f) =
      let r = follow_ends (and_needed xs i name) (uses_more s i name xs ∙ ap (with_use i name) e) f in
      (r.0, needs m n (sym (used_needed s i name xs) ∙ ap (λ w. is_used w i name) e ∙ l) r.1, r.2)

  each_ends : {u : List Interface} {s : Choice} {i : ℕ} {names : List (List ℕ)} {a b : Walk} (xs : List Stop) → walk_of_stops s xs ≡ a → NeedsEach u s i names a b → Ends s (NeedEachStops u s i names xs) b
  each_ends xs e no_more = (xs, no_name, e)
  each_ends xs e (one_more n m) =
      let r = need_ends xs e n in
      let q = each_ends r.0 r.2 m in
      (q.0, a_name r.1 q.1, q.2)

  follow_ends : {u : List Interface} {s : Choice} {ds : List Dep} {a b : Walk} (xs : List Stop) → walk_of_stops s xs ≡ a → Follows u s ds a b → Ends s (FollowStops u s ds xs) b
  follow_ends xs e ends = (xs, no_dep, e)
  follow_ends xs e (passes n f) = let r = follow_ends xs e f in (r.0, a_restriction n r.1, r.2)
  follow_ends xs e (goes i n v m f) =
      let r = visit_ends xs e v in
      let q = each_ends r.0 r.2 m in
      let p = follow_ends q.0 q.2 f in
      (p.0, a_dep i n r.1 q.1 p.1, p.2)

pub stops_there : StopsAreThere
stops_there u req s w h =
    let r = visit_ends [] refl h.visits in
    let q = each_ends r.0 r.2 h.needs in
    (q.0, record { from_root = r.0; visit = r.1; need = q.1 }, q.2)

-- They only grow.

pub record Grows (a b : List Stop) : Type 0 where
  pub more : List Stop
  pub is : b ≡ a ++ more

grows_none : (a : List Stop) → Grows a a
grows_none a = record { more = []; is = sym (append-nil a) }

grows_on : {a b c : List Stop} → Grows a b → Grows b c → Grows a c
grows_on {a} {b} {c} g h = record { more = g.more ++ h.more; is = h.is ∙ ap (λ ps. ps ++ h.more) g.is ∙ append_assoc a g.more h.more }

grows_by : (x : Stop) (a b : List Stop) → Grows (a ++ x ∷ []) b → Grows a b
grows_by x a b g = record { more = x ∷ g.more; is = g.is ∙ append_assoc a (x ∷ []) g.more }

mutual
  grow_visit : {u : List Interface} {s : Choice} {i : ℕ} {a b : List Stop} → VisitStops u s i a b → Grows a b
  grow_visit (been {a = a} e) = grows_none a
  grow_visit (stops {i = i} {a = a} {b = b} e f) = grows_by (Came i) a b (grow_follow f)

  grow_need : {u : List Interface} {s : Choice} {i : ℕ} {name : List ℕ} {a b : List Stop} → NeedStops u s i name a b → Grows a b
  grow_need (without {a = a} e) = grows_none a
  grow_need (before {a = a} e) = grows_none a
  grow_need (needs {i = i} {name = name} {a = a} {b = b} m e g h) = grows_by (Needed i name) a b (grow_follow h)

  grow_each : {u : List Interface} {s : Choice} {i : ℕ} {names : List (List ℕ)} {a b : List Stop} → NeedEachStops u s i names a b → Grows a b
  grow_each (no_name {a = a}) = grows_none a
  grow_each (a_name n e) = grows_on (grow_need n) (grow_each e)

  grow_follow : {u : List Interface} {s : Choice} {ds : List Dep} {a b : List Stop} → FollowStops u s ds a b → Grows a b
  grow_follow (no_dep {a = a}) = grows_none a
  grow_follow (a_restriction e f) = grow_follow f
  grow_follow (a_dep i e v n f) = grows_on (grow_visit v) (grows_on (grow_each n) (grow_follow f))

stays : {a b : List Stop} (i : ℕ) → Grows a b → came_to a i ≡ true → came_to b i ≡ true
stays {a} {b} i g e = subst (λ xs. came_to xs i ≡ true) (sym g.is) (any_left (is_came i) a g.more e)

visit_comes : {u : List Interface} {s : Choice} {i : ℕ} {a b : List Stop} → VisitStops u s i a b → came_to b i ≡ true
visit_comes (been e) = e
visit_comes (stops {i = i} {a = a} e f) = stays i (grow_follow f) (any_right (is_came i) a (Came i) (eq-eqb i i refl))

-- Two choices.

-- they choose alike for the interface of each of these stops
abbrev pub AlikeAt : Choice → Choice → List Stop → Type 0
AlikeAt s t [] = Unit {0}
AlikeAt s t (x ∷ xs) = (pick s (interface_of x) ≡ pick t (interface_of x)) × AlikeAt s t xs

alike_more : (s t : Choice) (xs : List Stop) (x : Stop) → AlikeAt s t xs → pick s (interface_of x) ≡ pick t (interface_of x) → AlikeAt s t (xs ++ x ∷ [])
alike_more s t [] x h e = (e, tt)
alike_more s t (y ∷ ys) x h e = (h.0, alike_more s t ys x h.1 e)

-- they choose alike for what was come to, and at each stop
pub record Alike (u : List Interface) (s t : Choice) (a : List Stop) : Type 0 where
  pub picks : (j : ℕ) → came_to a j ≡ true → pick s j ≡ pick t j
  pub at : AlikeAt s t a

-- the stops are the same up to one of the same interface, where the choices differ
pub record Parts (u : List Interface) (s t : Choice) (xs ys : List Stop) : Type 0 where
  pub common : List Stop
  pub interface : ℕ
  pub rest : List Stop
  pub other_rest : List Stop
  pub is : xs ≡ common ++ Came interface ∷ rest
  pub other_is : ys ≡ common ++ Came interface ∷ other_rest
  pub alike : AlikeAt s t common
  pub differ : pick s interface ≢ pick t interface

pub data Goes (u : List Interface) (s t : Choice) (b c : List Stop) : Type 0 where
  together : b ≡ c → Alike u s t b → Goes u s t b c
  parted : Parts u s t b c → Goes u s t b c

part_on : (u : List Interface) (s t : Choice) (a b c d : List Stop) → Parts u s t a b → Grows a c → Grows b d → Goes u s t c d
part_on u s t a b c d p g h = parted (record {
  common = p.common;
  interface = p.interface;
  rest = p.rest ++ g.more;
  other_rest = p.other_rest ++ h.more;
  is = g.is ∙ ap (λ xs. xs ++ g.more) p.is ∙ append_assoc p.common (Came p.interface ∷ p.rest) g.more;
  other_is = h.is ∙ ap (λ xs. xs ++ h.more) p.other_is ∙ append_assoc p.common (Came p.interface ∷ p.other_rest) h.more;
  alike = p.alike;
  differ = p.differ;
})

part_here : (u : List Interface) (s t : Choice) (i : ℕ) (a b c : List Stop) → AlikeAt s t a → pick s i ≢ pick t i → Grows (and_came a i) b → Grows (and_came a i) c → Goes u s t b c
part_here u s t i a b c alike apart g h = parted (record {
  common = a;
  interface = i;
  rest = g.more;
  other_rest = h.more;
  is = g.is ∙ append_assoc a (Came i ∷ []) g.more;
  other_is = h.is ∙ append_assoc a (Came i ∷ []) h.more;
  alike = alike;
  differ = apart;
})

same_chosen : (u : List Interface) (s t : Choice) (i : ℕ) → pick s i ≡ pick t i → chosen u t i ≡ chosen u s i
same_chosen u s t i e = ap (λ p. option_and_then (λ c. candidate_at u i c) p) (sym e)

same_command : (u : List Interface) (s t : Choice) (i : ℕ) (name : List ℕ) → pick s i ≡ pick t i → command_at u t i name ≡ command_at u s i name
same_command u s t i name e = ap (λ o. option_and_then (λ c. command_of c name) o) (same_chosen u s t i e)

alike_came : (u : List Interface) (s t : Choice) (i : ℕ) (a : List Stop) → Alike u s t a → pick s i ≡ pick t i → Alike u s t (and_came a i)
alike_came u s t i a like e = record {
  picks = λ j h. at j (any_of (is_came j) a (Came i) h);
  at = alike_more s t a (Came i) like.at e;
}
  where
    at : (j : ℕ) → (came_to a j ≡ true) ⊎ ((i == j) ≡ true) → pick s j ≡ pick t j
    at j (inl g) = like.picks j g
    at j (inr g) = subst (λ k. pick s k ≡ pick t k) (eqb-true i j g) e

came_still : (a : List Stop) (i : ℕ) (name : List ℕ) (j : ℕ) → came_to (and_needed a i name) j ≡ true → came_to a j ≡ true
came_still a i name j h = elim (any_of (is_came j) a (Needed i name) h) [ inl g ↦ g | inr g ↦ absurd (false≢true g) ]

alike_needed : (u : List Interface) (s t : Choice) (i : ℕ) (name : List ℕ) (a : List Stop) → Alike u s t a → pick s i ≡ pick t i → Alike u s t (and_needed a i name)
alike_needed u s t i name a like e = record {
  picks = λ j h. like.picks j (came_still a i name j h);
  at = alike_more s t a (Needed i name) like.at e;
}

same_pick : (p q : Option ℕ) → (p ≡ q) ⊎ (p ≢ q)
same_pick None None = inl refl
same_pick None (Some d) = inr (λ e. absurd (none_some e))
same_pick (Some c) None = inr (λ e. absurd (none_some (sym e)))
same_pick (Some c) (Some d) = at (c == d) refl
  where
    at : (b : Bool) → (c == d) ≡ b → (Some c ≡ Some d) ⊎ (Some c ≢ Some d)
    at true h = inl (ap (λ x. Some x) (eqb-true c d h))
    at false h = inr (λ e. absurd (false≢true (sym h ∙ eq-eqb c d (same_Some _ _ e))))

visit_by : (u : List Interface) (s t : Choice) (i : ℕ) (a b c : List Stop) → AlikeAt s t a → Grows (and_came a i) b → Grows (and_came a i) c → (pick s i ≡ pick t i → Goes u s t b c) → Goes u s t b c
visit_by u s t i a b c alike g h on = at (same_pick (pick s i) (pick t i))
  where
    at : (pick s i ≡ pick t i) ⊎ (pick s i ≢ pick t i) → Goes u s t b c
    at (inl e) = on e
    at (inr apart) = part_here u s t i a b c alike apart g h

goes_by : (u : List Interface) (s t : Choice) (a b c d : List Stop) → Goes u s t a b → Grows a c → Grows b d → (a ≡ b → Alike u s t a → Goes u s t c d) → Goes u s t c d
goes_by u s t a b c d (together e like) g h on = on e like
goes_by u s t a b c d (parted p) g h on = part_on u s t a b c d p g h

moved : (u : List Interface) (s t : Choice) (i : ℕ) (a c : List Stop) → pick s i ≡ pick t i → FollowStops u t (deps_of (chosen u t i)) a c → FollowStops u t (deps_of (chosen u s i)) a c
moved u s t i a c e f = subst (λ o. FollowStops u t (deps_of o) a c) (same_chosen u s t i e) f

mutual
  part_visit : {u : List Interface} {s t : Choice} {i : ℕ} {a b c : List Stop} → Alike u s t a → VisitStops u s i a b → VisitStops u t i a c → Goes u s t b c
  part_visit like (been e) (been f) = together refl like
  part_visit like (been e) (stops f g) = true_false e f
  part_visit like (stops e g) (been f) = true_false f e
  part_visit {u} {s} {t} like (stops {i = i} {a = a} {b = b} e g) (stops {b = c} f h) =
      visit_by u s t i a b c like.at (grow_follow g) (grow_follow h) (λ same. part_follow (alike_came u s t i a like same) g (moved u s t i (and_came a i) c same h))

  part_need : {u : List Interface} {s t : Choice} {i : ℕ} {name : List ℕ} {a b c : List Stop} → Alike u s t a → pick s i ≡ pick t i → NeedStops u s i name a b → NeedStops u t i name a c → Goes u s t b c
  part_need like same (without e) (without f) = together refl like
  part_need like same (without e) (before f) = together refl like
  part_need {u} {s} {t} like same (without {i = i} {name = name} e) (needs m f g h) = not_both e (sym (same_command u s t i name same) ∙ f)
  part_need like same (before e) (without f) = together refl like
  part_need like same (before e) (before f) = together refl like
  part_need like same (before e) (needs m f g h) = true_false e g
  part_need {u} {s} {t} like same (needs {i = i} {name = name} m e g h) (without f) = not_both f (same_command u s t i name same ∙ e)
  part_need like same (needs m e g h) (before f) = true_false f g
  part_need {u} {s} {t} like same (needs {i = i} {name = name} {a = a} m e g h) (needs {b = c} n f k l) =
      part_follow (alike_needed u s t i name a like same) h (subst (λ x. FollowStops u t (needs_of x) (and_needed a i name) c) (one_value e (sym (same_command u s t i name same) ∙ f)) l)

  part_each : {u : List Interface} {s t : Choice} {i : ℕ} {names : List (List ℕ)} {a b c : List Stop} → Alike u s t a → pick s i ≡ pick t i → NeedEachStops u s i names a b → NeedEachStops u t i names a c → Goes u s t b c
  part_each like same no_name no_name = together refl like
  part_each {u} {s} {t} like same (a_name {i = i} {names = names} {b = b} {c = c} n e) (a_name {b = b2} {c = c2} m f) =
      goes_by u s t b b2 c c2 (part_need like same n m) (grow_each e) (grow_each f) (λ at on. part_each on same e (subst (λ w. NeedEachStops u t i names w c2) (sym at) f))

  part_follow : {u : List Interface} {s t : Choice} {ds : List Dep} {a b c : List Stop} → Alike u s t a → FollowStops u s ds a b → FollowStops u t ds a c → Goes u s t b c
  part_follow like no_dep no_dep = together refl like
  part_follow like (a_restriction e f) (a_restriction g h) = part_follow like f h
  part_follow like (a_restriction e f) (a_dep i g v n h) = not_both e g
  part_follow like (a_dep i e v n f) (a_restriction g h) = not_both g e
  part_follow {u} {s} {t} like (a_dep {d = d} {ds = ds} {a = a} {b = b} {c = c} {e = last} i e v n f) (a_dep {b = b2} {c = c2} {e = last2} j g v2 n2 f2) =
      let here : j ≡ i = one_value e g in
      let came : VisitStops u t i a b2 = subst (λ k. VisitStops u t k a b2) here v2 in
      let each : NeedEachStops u t i d.commands b2 c2 = subst (λ k. NeedEachStops u t k d.commands b2 c2) here n2 in
      goes_by u s t c c2 last last2
      (goes_by u s t b b2 c c2 (part_visit like v came) (grow_each n) (grow_each n2) (λ at on. part_each on (on.picks i (visit_comes v)) n (subst (λ w. NeedEachStops u t i d.commands w c2) (sym at) each)))
      (grow_follow f) (grow_follow f2) (λ at on. part_follow on f (subst (λ w. FollowStops u t ds w last2) (sym at) f2))

nowhere : (u : List Interface) (s t : Choice) → Alike u s t []
nowhere u s t = record { picks = λ j e. absurd (false≢true e); at = tt }

pub stops_part : (u : List Interface) (req : Requirement) (s t : Choice) (xs ys : List Stop) → AreStops u req s xs → AreStops u req t ys → Goes u s t xs ys
stops_part u req s t xs ys p q =
    goes_by u s t p.from_root q.from_root xs ys (part_visit (nowhere u s t) p.visit q.visit) (grow_each p.need) (grow_each q.need)
    (λ at on. part_each on (on.picks 0 (visit_comes p.visit)) p.need (subst (λ m. NeedEachStops u t 0 (wanted req.command) m ys) (sym at) q.need))

one_of : (u : List Interface) (s : Choice) (xs ys : List Stop) → Goes u s s xs ys → xs ≡ ys
one_of u s xs ys (together e like) = e
one_of u s xs ys (parted p) = absurd (p.differ refl)

pub stops_one : StopsAreOne
stops_one u req s xs ys p q = one_of u s xs ys (stops_part u req s s xs ys p q)

-- Where they agree on all that comes before a place, they have the same before it.
pub record Fronts (u : List Interface) (s t : Choice) (xs ys : List Stop) (n i : ℕ) : Type 0 where
  pub before : take n ys ≡ take n xs
  pub here : slice_get ys n ≡ Some (Came i)
  pub alike : AlikeAt s t (take n xs)

alike_front : (s t : Choice) (xs : List Stop) (n : ℕ) → AlikeAt s t xs → AlikeAt s t (take n xs)
alike_front s t xs zero h = tt
alike_front s t [] (suc n) h = tt
alike_front s t (x ∷ xs) (suc n) h = (h.0, alike_front s t xs n h.1)

or_true : (b : Bool) {c : Bool} → c ≡ true → (b || c) ≡ true
or_true true e = refl
or_true false e = e

or_first : (b c : Bool) → b ≡ true → (b || c) ≡ true
or_first true c e = refl
or_first false c e = absurd (false≢true e)

front : (u : List Interface) (s t : Choice) (cs : List Stop) (k : ℕ) (rest other : List Stop) (n i : ℕ) → AlikeAt s t cs → slice_get (cs ++ Came k ∷ rest) n ≡ Some (Came i) → (came_to (take n (cs ++ Came k ∷ rest)) k ≡ true → ⊥) → Fronts u s t (cs ++ Came k ∷ rest) (cs ++ Came k ∷ other) n i
front u s t [] k rest other zero i alike e off = record { before = refl; here = e; alike = tt }
front u s t [] k rest other (suc n) i alike e off = absurd (off (or_first (k == k) _ (eq-eqb k k refl)))
front u s t (c ∷ cs) k rest other zero i alike e off = record { before = refl; here = e; alike = tt }
front u s t (c ∷ cs) k rest other (suc n) i alike e off =
    let r = front u s t cs k rest other n i alike.1 e (λ y. off (or_true (is_came k c) y)) in
    record { before = ap (λ l. c ∷ l) r.before; here = r.here; alike = (alike.0, r.alike) }

pub fronts : (u : List Interface) (s t : Choice) (xs ys : List Stop) (n i : ℕ) → Goes u s t xs ys → AgreeBefore xs n s t → slice_get xs n ≡ Some (Came i) → Fronts u s t xs ys n i
fronts u s t xs ys n i (together e like) agree here =
    record { before = ap (take n) (sym e); here = ap (λ l. slice_get l n) (sym e) ∙ here; alike = alike_front s t xs n like.at }
fronts u s t xs ys n i (parted p) agree here =
    let r = front u s t p.common p.interface p.rest p.other_rest n i p.alike (ap (λ l. slice_get l n) (sym p.is) ∙ here)
    (λ y. p.differ (agree p.interface (subst (λ l. came_to (take n l) p.interface ≡ true) (sym p.is) y))) in
    record {
      before = ap (take n) p.other_is ∙ r.before ∙ ap (take n) (sym p.is);
      here = ap (λ l. slice_get l n) p.other_is ∙ r.here;
      alike = subst (λ l. AlikeAt s t (take n l)) (sym p.is) r.alike;
    }

-- Told apart they are the walk.
pub stops_walk : (u : List Interface) (req : Requirement) (s : Choice) (xs : List Stop) → AreStops u req s xs → Walks u req s (walk_of_stops s xs)
stops_walk u req s xs h =
    let w = walk_there u req s in
    let r = stops_there u req s w.0 w.1 in
    subst (Walks u req s) (sym r.2 ∙ ap (walk_of_stops s) (stops_one u req s r.0 xs r.1 h)) w.1

-- One stop more.
places_append : (s : Choice) (xs ys : List Stop) → places_of s (xs ++ ys) ≡ places_of s xs ++ places_of s ys
places_append s [] ys = refl
places_append s (Came i ∷ xs) ys = ap (λ ps. record { interface = i; pick = pick s i } ∷ ps) (places_append s xs ys)
places_append s (Needed i name ∷ xs) ys = places_append s xs ys

uses_append : (xs ys : List Stop) → uses_of (xs ++ ys) ≡ uses_of xs ++ uses_of ys
uses_append [] ys = refl
uses_append (Came i ∷ xs) ys = uses_append xs ys
uses_append (Needed i name ∷ xs) ys = ap (λ us. record { interface = i; command = name } ∷ us) (uses_append xs ys)

pub places_next : (s : Choice) (xs : List Stop) (i : ℕ) (x : Stop) → i < length xs → x ≡ get_or xs i x → places_of s (take (i + 1) xs) ≡ places_of s (take i xs) ++ places_of s (x ∷ [])
places_next s xs i x l e = ap (places_of s) (front_more xs i x l e) ∙ places_append s (take i xs) (x ∷ [])

pub uses_next : (xs : List Stop) (i : ℕ) (x : Stop) → i < length xs → x ≡ get_or xs i x → uses_of (take (i + 1) xs) ≡ uses_of (take i xs) ++ uses_of (x ∷ [])
uses_next xs i x l e = ap uses_of (front_more xs i x l e) ∙ uses_append (take i xs) (x ∷ [])

-- What code says of a walk by its parts.
pub walk_told : (u v : List Interface) (req : Requirement) (s : Choice) (xs : List Stop) (ps : List Place) (us : List Use) → AreStops u req s xs → u ≡ v → ps ≡ places_of s xs → us ≡ uses_of xs → Walks v req s (record { places = ps; used = us })
walk_told u v req s xs ps us h n e f =
    let told : walk_of_stops s xs ≡ record { places = ps; used = us } = ap (λ qs. record { places = qs; used = uses_of xs }) (sym e) ∙ ap (λ vs. record { places = ps; used = vs }) (sym f) in
    subst (λ w. Walks w req s (record { places = ps; used = us })) n (subst (Walks u req s) told (stops_walk u req s xs h))
