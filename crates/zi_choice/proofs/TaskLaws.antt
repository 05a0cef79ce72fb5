-- What one step of the tasks of a walk does.
use Rattle.std.proofs.Common.{◌≡◌, ℕ, zero, suc, ◌==◌, ◌+◌, ◌-◌, take, drop, get_or, ◌<◌, ◌≤◌, Bool, true, false, not, cond, ◌||◌, ◌&&◌, List, [], ◌∷◌, ◌++◌, length, map, refl, sym, ap, ◌∙◌, subst, arith, Option, Some, None, Bor, if◌then◌else◌, eq-eqb, eqb-true}
use Rattle.std.specs.Prelude.{option_and_then, option_copied, bytes_eq, slice_get, IfSome, MatchOption}
use Rattle.std.proofs.lemmas.Option.{slice_get-get_or, slice_get_past, same_Some}
use Rattle.std.specs.List.{list_any, position_from, flat_map}
use Rattle.std.proofs.Math.Seq.{drop-cons}
use Rattle.std.specs.Cmp.Lexicographic.{bytes_decides}
use Rattle.zi_parts.specs.declared.types.Dep.{Dep}
use Rattle.zi_parts.specs.declared.types.Runner.{Runner}
use Rattle.zi_parts.specs.declared.types.Command.{Command}
use Rattle.zi_universe.specs.declared.types.Candidate.{Candidate}
use Rattle.zi_universe.specs.declared.types.Interface.{Interface}
use Rattle.std.proofs.lemmas.List.{map-append, length-map, drop_all}
use Rattle.zi_policy.specs.Platform.{place}
use Rattle.std.proofs.lemmas.List.{get_or-map}
use Rattle.std.proofs.lemmas.Bool.{not-true, not-false}
use Rattle.std.specs.Cmp.{both_ways}
use Rattle.zi_universe.specs.Naming.{AreApart}
use Rattle.zi_universe.specs.Whole.{uris_of}
use Rattle.zi_choice.specs.Choice.{Choice, pick, chosen, candidate_at, command_at, deps_of, needs_of, with_runner, command_of, command_place}
use Rattle.zi_choice.proofs.Base.{stands_at, found_of}
use Rattle.zi_choice.specs.Walk.{Use, Walk, is_listed, is_used, with_place, with_use, leads_to}
use Rattle.zi_choice.specs.declared.traced.Stop.{Stop}
use Rattle.zi_choice.specs.Stops.{came_to, needed_at, and_came, and_needed, VisitStops, NeedStops, NeedEachStops, FollowStops, been, stops, without, before, needs, no_name, a_name, no_dep, a_restriction, a_dep, walk_of_stops}
use Rattle.zi_choice.proofs.StopLaws.{listed_came, used_needed, places_more, uses_more}
use Rattle.zi_choice.specs.Walk.{Place as APlace}
use Rattle.zi_choice.specs.declared.traced.Used.{Used}
use Rattle.zi_choice.specs.declared.walking.Task.{Task}
use Rattle.zi_choice.specs.declared.walking.Task.TheVariants.{Follow, FollowOne, Need}
use Rattle.zi_choice.specs.Left.{to_come}
use Rattle.zi_choice.proofs.ThereLaws.{place_less, use_less}
use Rattle.zi_choice.specs.Traces.{as_use}
use Rattle.zi_choice.specs.Tasks.{place_at, Does, Runs, Then, size, sizes}
use Rattle.zi_feed.proofs.LatestLaws.{text_swap}
use Rattle.zi_names.proofs.Expanded.{front_more}
use Rattle.zi_feed.specs.IdLaws.{none_some}

-- one more task at the end is done first
pub run_last : (u : List Interface) (s : Choice) (ts : List Task) (t : Task) (a w : List Stop) → Runs u s (ts ++ t ∷ []) a w → Then u s (Does u s t) ts a w
run_last u s [] t a w h = (w, subst (λ x. Does u s t x w) (sym h.1) h.2, refl)
run_last u s (x ∷ ts) t a w h = let r : Then u s (Does u s t) ts a h.0 = run_last u s ts t a h.0 h.1 in (r.0, r.1, (h.0, r.2, h.2))

pub last_run : (u : List Interface) (s : Choice) (ts : List Task) (t : Task) (a w : List Stop) → Then u s (Does u s t) ts a w → Runs u s (ts ++ t ∷ []) a w
last_run u s [] t a w h = (a, refl, subst (λ x. Does u s t a x) h.2 h.1)
last_run u s (x ∷ ts) t a w h = (h.2.0, last_run u s ts t a h.2.0 (h.0, h.1, h.2.1), h.2.2)

pub sizes_last : (ts : List Task) (t : Task) → sizes (ts ++ t ∷ []) ≡ sizes ts + size t
sizes_last [] t = omega arith
sizes_last (x ∷ ts) t = let h = sizes_last ts t in omega (arith, h)

nat_turn : (i j : ℕ) → (i == j) ≡ (j == i)
nat_turn i j = both_ways (i == j) (j == i) (λ e. eq-eqb j i (sym (eqb-true i j e))) (λ e. eq-eqb i j (sym (eqb-true j i e)))

any_map : {A B : Type 0} (f : A → B) (p : A → Bool) (q : B → Bool) (xs : List A) → ((x : A) → p x ≡ q (f x)) → list_any p xs ≡ list_any q (map f xs)
any_map f p q [] h = refl
any_map f p q (x ∷ xs) h = ap (λ b. b || list_any p xs) (h x) ∙ ap (λ b. q (f x) || b) (any_map f p q xs h)

abbrev pub a_walk : List APlace → List Use → Walk
a_walk ps us = record { places = ps; used = us }

pub listed_is : (s : Choice) (i : ℕ) (ks : List ℕ) → list_any (λ k. i == k) ks ≡ list_any (λ (p : APlace). p.interface == i) (map (place_at s) ks)
listed_is s i ks = any_map (place_at s) (λ k. i == k) (λ (p : APlace). p.interface == i) ks (λ k. nat_turn i k)

pub used_is : (i : ℕ) (name : List ℕ) (ks : List Used) → list_any (λ (k : Used). i == k.interface && bytes_eq name k.command) ks ≡ list_any (λ (x : Use). x.interface == i && bytes_eq x.command name) (map as_use ks)
used_is i name ks = any_map as_use (λ (k : Used). i == k.interface && bytes_eq name k.command) (λ (x : Use). x.interface == i && bytes_eq x.command name) ks (λ k. ap (λ b. b && bytes_eq name k.command) (nat_turn i k.interface) ∙ ap (λ b. k.interface == i && b) (text_swap name k.command))

pub keys_old : {A : Type 0} (b : Bool) (ks js : List A) (k : A) → js ≡ (if b then ks else ks ++ k ∷ []) → b ≡ true → js ≡ ks
keys_old b ks js k e t = e ∙ ap (λ c. if c then ks else ks ++ k ∷ []) t

pub keys_new : {A : Type 0} (b : Bool) (ks js : List A) (k : A) → js ≡ (if b then ks else ks ++ k ∷ []) → b ≡ false → js ≡ ks ++ k ∷ []
keys_new b ks js k e t = e ∙ ap (λ c. if c then ks else ks ++ k ∷ []) t

pub placed : (s : Choice) (i : ℕ) (ks js : List ℕ) (us : List Use) → js ≡ ks ++ i ∷ [] → a_walk (map (place_at s) js) us ≡ with_place s i (a_walk (map (place_at s) ks) us)
placed s i ks js us e = ap (λ ps. a_walk ps us) (ap (map (place_at s)) e ∙ map-append (place_at s) ks (i ∷ []))

pub in_use : (i : ℕ) (name : List ℕ) (ps : List APlace) (ks js : List Used) → js ≡ ks ++ record { interface = i; command = name } ∷ [] → a_walk ps (map as_use js) ≡ with_use i name (a_walk ps (map as_use ks))
in_use i name ps ks js e = ap (λ us. a_walk ps us) (ap (map as_use) e ∙ map-append as_use ks (record { interface = i; command = name } ∷ []))

-- visiting
pub visit_old : (u : List Interface) (s : Choice) (i : ℕ) (ts : List Task) (a b : List Stop) → came_to a i ≡ true → b ≡ a → (w : List Stop) → Runs u s ts b w → Then u s (VisitStops u s i) ts a w
visit_old u s i ts a b l e w r = (a, been l, subst (λ x. Runs u s ts x w) e r)

pub visit_none : (u : List Interface) (s : Choice) (i : ℕ) (ts : List Task) (a b : List Stop) → came_to a i ≡ false → b ≡ and_came a i → chosen u s i ≡ None → (w : List Stop) → Runs u s ts b w → Then u s (VisitStops u s i) ts a w
visit_none u s i ts a b l e n w r =
    let stays : FollowStops u s [] b b = no_dep in
    (b, stops l (subst (λ o. FollowStops u s (deps_of o) (and_came a i) b) (sym n) (subst (λ x. FollowStops u s [] x b) e stays)), r)

pub visit_some : (u : List Interface) (s : Choice) (i : ℕ) (k : Candidate) (ts : List Task) (a b : List Stop) → came_to a i ≡ false → b ≡ and_came a i → chosen u s i ≡ Some k → (w : List Stop) → Then u s (FollowStops u s k.imp.deps) ts b w → Then u s (VisitStops u s i) ts a w
visit_some u s i k ts a b l e n w f =
    let g : FollowStops u s k.imp.deps (and_came a i) f.0 = subst (λ x. FollowStops u s k.imp.deps x f.0) e f.1 in
    (f.0, stops l (subst (λ o. FollowStops u s (deps_of o) (and_came a i) f.0) (sym n) g), f.2)

-- needing a command
pub no_candidate : (u : List Interface) (s : Choice) (i : ℕ) (name : List ℕ) → chosen u s i ≡ None → command_at u s i name ≡ None
no_candidate u s i name e = ap (λ o. option_and_then (λ (c : Candidate). command_of c name) o) e

pub its_command : (u : List Interface) (s : Choice) (i : ℕ) (name : List ℕ) (k : Candidate) (o : Option Command) → chosen u s i ≡ Some k → command_of k name ≡ o → command_at u s i name ≡ o
its_command u s i name k o e f = ap (λ o. option_and_then (λ (c : Candidate). command_of c name) o) e ∙ f

pub need_lacks : (u : List Interface) (s : Choice) (i : ℕ) (name : List ℕ) (ts : List Task) (a : List Stop) → command_at u s i name ≡ None → (w : List Stop) → Runs u s ts a w → Then u s (NeedStops u s i name) ts a w
need_lacks u s i name ts a n w r = (a, without n, r)

pub need_old : (u : List Interface) (s : Choice) (i : ℕ) (name : List ℕ) (ts : List Task) (a b : List Stop) → needed_at a i name ≡ true → b ≡ a → (w : List Stop) → Runs u s ts b w → Then u s (NeedStops u s i name) ts a w
need_old u s i name ts a b l e w r = (a, before l, subst (λ x. Runs u s ts x w) e r)

pub need_new : (u : List Interface) (s : Choice) (i : ℕ) (name : List ℕ) (m : Command) (ts : List Task) (a b : List Stop) → command_at u s i name ≡ Some m → needed_at a i name ≡ false → b ≡ and_needed a i name → (w : List Stop) → Then u s (FollowStops u s (needs_of m)) ts b w → Then u s (NeedStops u s i name) ts a w
need_new u s i name m ts a b n l e w f = (f.0, needs m n l (subst (λ x. FollowStops u s (needs_of m) x f.0) e f.1), f.2)

-- a command by its place
pub its_place : (u v : List Interface) (s : Choice) (i c : ℕ) (k : Candidate) (name : List ℕ) (o : Option ℕ) → v ≡ u → chosen u s i ≡ Some k → Some c ≡ pick s i → o ≡ option_and_then (λ (x : Candidate). command_place x name) (candidate_at v i c) → o ≡ command_place k name
its_place u v s i c k name o n e p f =
    let at : candidate_at u i c ≡ Some k = ap (λ q. option_and_then (λ c. candidate_at u i c) q) p ∙ e in
    f ∙ ap (λ w. option_and_then (λ (x : Candidate). command_place x name) (candidate_at w i c)) n ∙ ap (λ q. option_and_then (λ (x : Candidate). command_place x name) q) at

pub no_command : (k : Candidate) (name : List ℕ) → None ≡ command_place k name → None ≡ command_of k name
no_command k name e = at (command_of k name) refl
  where
    at : (o : Option Command) → command_of k name ≡ o → None ≡ command_of k name
    at None f = sym f
    at (Some m) f = absurd (none_some (e ∙ (stands_at k name m f).placed))

pub command_there : (k : Candidate) (name : List ℕ) (n : ℕ) → Some n ≡ command_place k name → slice_get k.imp.commands n ≡ command_of k name
command_there k name n e = let f = found_of k name n (sym e) in f.2 ∙ sym f.1

-- following
pub follow_join : {u : List Interface} {s : Choice} {ds es : List Dep} {a b c : List Stop} → FollowStops u s ds a b → FollowStops u s es b c → FollowStops u s (ds ++ es) a c
follow_join no_dep g = g
follow_join (a_restriction e f) g = a_restriction e (follow_join f g)
follow_join (a_dep i e v n f) g = a_dep i e v n (follow_join f g)

-- pieces of dependencies, the last of which is added first
pub pieces_none : (u : List Interface) (s : Choice) (ps : List (Bor (List Dep))) (n : ℕ) (ts : List Task) → length ps ≤ n
    → (a w : List Stop) → Runs u s ts a w → Then u s (FollowStops u s (flat_map (λ q. q.now) (drop n ps))) ts a w
pieces_none u s ps n ts le a w r =
    let stays : FollowStops u s [] a a = no_dep in
    (a, subst (λ x. FollowStops u s (flat_map (λ q. q.now) x) a a) (sym (drop_all n ps le)) stays, r)

pub pieces_more : (u : List Interface) (s : Choice) (ts us vs : List Task) (ps : List (Bor (List Dep))) (i n : ℕ) (p : Bor (List Dep)) → n ≡ i + 1 → i < length ps → p ≡ get_or ps i p → vs ≡ us ++ Follow p ∷ []
    → ((a w : List Stop) → Runs u s us a w → Then u s (FollowStops u s (flat_map (λ q. q.now) (drop n ps))) ts a w)
    → (a w : List Stop) → Runs u s vs a w → Then u s (FollowStops u s (flat_map (λ q. q.now) (drop i ps))) ts a w
pieces_more u s ts us vs ps i n p e lt is more later a w r =
    let m : suc i ≡ n = omega (arith, e) in
    let split : p ∷ drop n ps ≡ drop i ps = sym (drop-cons ps i p lt ∙ ap (λ y. y ∷ drop (suc i) ps) (sym is) ∙ ap (λ j. p ∷ drop j ps) m) in
    let f : Then u s (Does u s (Follow p)) us a w = run_last u s us (Follow p) a w (subst (λ x. Runs u s x a w) more r) in
    let g : Then u s (FollowStops u s (flat_map (λ q. q.now) (drop n ps))) ts f.0 w = later f.0 w f.2 in
    (g.0, subst (λ x. FollowStops u s (flat_map (λ q. q.now) x) a g.0) split (follow_join f.1 g.1), g.2)

pub needs_alone : (u : List Interface) (s : Choice) (m : Command) (ts us : List Task) (ds : Bor (List Dep)) (a : List Stop) → m.runner ≡ None → ds.now ≡ m.deps → us ≡ ts ++ Follow ds ∷ [] → (w : List Stop) → Runs u s us a w → Then u s (FollowStops u s (needs_of m)) ts a w
needs_alone u s m ts us ds a n d t w r =
    let f : Then u s (Does u s (Follow ds)) ts a w = run_last u s ts (Follow ds) a w (subst (λ x. Runs u s x a w) t r) in
    (f.0, subst (λ o. FollowStops u s (with_runner m.deps o) a f.0) (sym n) (subst (λ x. FollowStops u s x a f.0) d f.1), f.2)

pub needs_runner : (u : List Interface) (s : Choice) (m : Command) (q : Runner) (ts us vs : List Task) (ds : Bor (List Dep)) (o : Bor Dep) (a : List Stop) → m.runner ≡ Some q → o.now ≡ q.dep → ds.now ≡ m.deps → us ≡ ts ++ FollowOne o ∷ [] → vs ≡ us ++ Follow ds ∷ [] → (w : List Stop) → Runs u s vs a w → Then u s (FollowStops u s (needs_of m)) ts a w
needs_runner u s m q ts us vs ds o a n p d t v w r =
    let f : Then u s (Does u s (Follow ds)) us a w = run_last u s us (Follow ds) a w (subst (λ x. Runs u s x a w) v r) in
    let g : Then u s (Does u s (FollowOne o)) ts f.0 w = run_last u s ts (FollowOne o) f.0 w (subst (λ x. Runs u s x f.0 w) t f.2) in
    let h : FollowStops u s (q.dep ∷ []) f.0 g.0 = subst (λ x. FollowStops u s (x ∷ []) f.0 g.0) p g.1 in
    let j : FollowStops u s (m.deps ++ q.dep ∷ []) a g.0 = follow_join (subst (λ x. FollowStops u s x a f.0) d f.1) h in
    (g.0, subst (λ y. FollowStops u s (with_runner m.deps y) a g.0) (sym n) j, g.2)

pub along_none : (u : List Interface) (s : Choice) (d : Dep) (ts : List Task) (a : List Stop) → leads_to u d ≡ None → (w : List Stop) → Runs u s ts a w → Then u s (FollowStops u s (d ∷ [])) ts a w
along_none u s d ts a n w r = (a, a_restriction n no_dep, r)

pub along_some : (u : List Interface) (s : Choice) (d : Dep) (i : ℕ) (ts us : List Task) (names : Bor (List (List ℕ))) (a : List Stop) → leads_to u d ≡ Some i → names.now ≡ d.commands → us ≡ ts ++ Need i names ∷ [] → (w : List Stop) → Then u s (VisitStops u s i) us a w → Then u s (FollowStops u s (d ∷ [])) ts a w
along_some u s d i ts us names a n p t w v =
    let f : Then u s (Does u s (Need i names)) ts v.0 w = run_last u s ts (Need i names) v.0 w (subst (λ x. Runs u s x v.0 w) t v.2) in
    (f.0, a_dep i n v.1 (subst (λ x. NeedEachStops u s i x v.0 f.0) p f.1) no_dep, f.2)

pub follow_none : (u : List Interface) (s : Choice) (ds : List Dep) (ts : List Task) (a : List Stop) → ds ≡ [] → (w : List Stop) → Runs u s ts a w → Then u s (FollowStops u s ds) ts a w
follow_none u s ds ts a e w r = let stays : FollowStops u s [] a a = no_dep in (a, subst (λ x. FollowStops u s x a a) (sym e) stays, r)

pub follow_some : (u : List Interface) (s : Choice) (d : Dep) (ds : List Dep) (rest : Bor (List Dep)) (ts us : List Task) (a : List Stop) → ds ≡ d ∷ rest.now → us ≡ ts ++ Follow rest ∷ [] → (w : List Stop) → Then u s (FollowStops u s (d ∷ [])) us a w → Then u s (FollowStops u s ds) ts a w
follow_some u s d ds rest ts us a e t w v =
    let f : Then u s (Does u s (Follow rest)) ts v.0 w = run_last u s ts (Follow rest) v.0 w (subst (λ x. Runs u s x v.0 w) t v.2) in
    (f.0, subst (λ x. FollowStops u s x a f.0) (sym e) (follow_join v.1 f.1), f.2)

pub each_none : (u : List Interface) (s : Choice) (i : ℕ) (names : List (List ℕ)) (ts : List Task) (a : List Stop) → names ≡ [] → (w : List Stop) → Runs u s ts a w → Then u s (NeedEachStops u s i names) ts a w
each_none u s i names ts a e w r = let stays : NeedEachStops u s i [] a a = no_name in (a, subst (λ x. NeedEachStops u s i x a a) (sym e) stays, r)

pub each_some : (u : List Interface) (s : Choice) (i : ℕ) (name : List ℕ) (names : List (List ℕ)) (rest : Bor (List (List ℕ))) (ts us : List Task) (a : List Stop) → names ≡ name ∷ rest.now → us ≡ ts ++ Need i rest ∷ [] → (w : List Stop) → Then u s (NeedStops u s i name) us a w → Then u s (NeedEachStops u s i names) ts a w
each_some u s i name names rest ts us a e t w v =
    let f : Then u s (Does u s (Need i rest)) ts v.0 w = run_last u s ts (Need i rest) v.0 w (subst (λ x. Runs u s x v.0 w) t v.2) in
    (f.0, subst (λ x. NeedEachStops u s i x a f.0) (sym e) (a_name v.1 f.1), f.2)

-- what is lent
pub lent_none : {T : Type 0} (o : Option (Bor T)) (p : Option T) → option_copied o ≡ p → o ≡ None → p ≡ None
lent_none o p e n = sym e ∙ ap option_copied n

pub lent_some : {T : Type 0} (o : Option (Bor T)) (x : Bor T) (p : Option T) → option_copied o ≡ p → o ≡ Some x → p ≡ Some x.now
lent_some o x p e n = sym e ∙ ap option_copied n

pub slice_some : {A : Type 0} (xs : List A) (i : ℕ) (x : A) → i < length xs → x ≡ get_or xs i x → slice_get xs i ≡ Some x
slice_some xs i x l e = slice_get-get_or xs i x l ∙ ap (λ y. Some y) (sym e)

pub lent_item : {T : Type 0} (H : Bor T → Type 0) (o : Option (Bor T)) (xs : List T) (i : ℕ) → IfSome o (λ x. x.now ≡ get_or xs i x.now) → MatchOption o (length xs ≤ i) (λ x. (i < length xs) × H x) → option_copied o ≡ slice_get xs i
lent_item H None xs i h m = sym (slice_get_past xs i m)
lent_item H (Some x) xs i h m = sym (slice_some xs i x.now m.0 h)

-- where an interface is visited for the first time, and a command used
pub record Came (s : Choice) (i : ℕ) (us : List Use) (ks js : List ℕ) : Type 0 where
  pub new : is_listed (a_walk (map (place_at s) ks) us) i ≡ false
  pub walk : a_walk (map (place_at s) js) us ≡ with_place s i (a_walk (map (place_at s) ks) us)

pub record Stayed (s : Choice) (i : ℕ) (us : List Use) (ks js : List ℕ) : Type 0 where
  pub old : is_listed (a_walk (map (place_at s) ks) us) i ≡ true
  pub walk : a_walk (map (place_at s) js) us ≡ a_walk (map (place_at s) ks) us

pub came : (s : Choice) (i : ℕ) (us : List Use) (ks js : List ℕ) (b : Bool) → b ≡ not (list_any (λ k. i == k) ks) → js ≡ (if list_any (λ k. i == k) ks then ks else ks ++ i ∷ []) → b ≡ true → Came s i us ks js
came s i us ks js b added keys new =
    let f : list_any (λ k. i == k) ks ≡ false = not-true (list_any (λ k. i == k) ks) (sym added ∙ new) in
    record {
      new = sym (listed_is s i ks) ∙ f;
      walk = placed s i ks js us (keys_new (list_any (λ k. i == k) ks) ks js i keys f);
    }

pub stayed : (s : Choice) (i : ℕ) (us : List Use) (ks js : List ℕ) (b : Bool) → b ≡ not (list_any (λ k. i == k) ks) → js ≡ (if list_any (λ k. i == k) ks then ks else ks ++ i ∷ []) → b ≡ false → Stayed s i us ks js
stayed s i us ks js b added keys old =
    let f : list_any (λ k. i == k) ks ≡ true = not-false (list_any (λ k. i == k) ks) (sym added ∙ old) in
    record {
      old = sym (listed_is s i ks) ∙ f;
      walk = ap (λ xs. a_walk (map (place_at s) xs) us) (keys_old (list_any (λ k. i == k) ks) ks js i keys f);
    }

abbrev pub same_use : ℕ → List ℕ → Used → Bool
same_use i name k = i == k.interface && bytes_eq name k.command

abbrev pub a_used : ℕ → List ℕ → Used
a_used i name = record { interface = i; command = name }

pub record CameUse (i : ℕ) (name : List ℕ) (ps : List APlace) (ks js : List Used) : Type 0 where
  pub new : is_used (a_walk ps (map as_use ks)) i name ≡ false
  pub walk : a_walk ps (map as_use js) ≡ with_use i name (a_walk ps (map as_use ks))

pub record StayedUse (i : ℕ) (name : List ℕ) (ps : List APlace) (ks js : List Used) : Type 0 where
  pub old : is_used (a_walk ps (map as_use ks)) i name ≡ true
  pub walk : a_walk ps (map as_use js) ≡ a_walk ps (map as_use ks)

pub came_use : (i : ℕ) (name : List ℕ) (ps : List APlace) (ks js : List Used) (b : Bool) → b ≡ not (list_any (same_use i name) ks) → js ≡ (if list_any (same_use i name) ks then ks else ks ++ a_used i name ∷ []) → b ≡ true → CameUse i name ps ks js
came_use i name ps ks js b added keys new =
    let f : list_any (same_use i name) ks ≡ false = not-true (list_any (same_use i name) ks) (sym added ∙ new) in
    record {
      new = sym (used_is i name ks) ∙ f;
      walk = in_use i name ps ks js (keys_new (list_any (same_use i name) ks) ks js (a_used i name) keys f);
    }

pub stayed_use : (i : ℕ) (name : List ℕ) (ps : List APlace) (ks js : List Used) (b : Bool) → b ≡ not (list_any (same_use i name) ks) → js ≡ (if list_any (same_use i name) ks then ks else ks ++ a_used i name ∷ []) → b ≡ false → StayedUse i name ps ks js
stayed_use i name ps ks js b added keys old =
    let f : list_any (same_use i name) ks ≡ true = not-false (list_any (same_use i name) ks) (sym added ∙ old) in
    record {
      old = sym (used_is i name ks) ∙ f;
      walk = ap (λ xs. a_walk ps (map as_use xs)) (keys_old (list_any (same_use i name) ks) ks js (a_used i name) keys f);
    }

-- less is left
pub less_place : (u : List Interface) (s : Choice) (i : ℕ) (a b : Walk) → i < length u → is_listed a i ≡ false → b ≡ with_place s i a → to_come u s b < to_come u s a
less_place u s i a b l n e = subst (λ x. to_come u s x < to_come u s a) (sym e) (place_less u s i a l n)

pub less_use : (u : List Interface) (s : Choice) (i : ℕ) (name : List ℕ) (m : Command) (a b : Walk) → command_at u s i name ≡ Some m → is_used a i name ≡ false → b ≡ with_use i name a → to_come u s b < to_come u s a
less_use u s i name m a b c n e = subst (λ x. to_come u s x < to_come u s a) (sym e) (use_less u s i name m a c n)

-- what a note of a command says
abbrev pub Known : ℕ → List Stop → List Stop → List ℕ → Type 0
Known i a b name = (needed_at a i name ≡ true) × (b ≡ a)

abbrev pub Noted : ℕ → List Stop → List Stop → List ℕ → Type 0
Noted i a b name = (needed_at a i name ≡ false) × (b ≡ and_needed a i name)

-- one stop more
pub less_came : (u : List Interface) (s : Choice) (i : ℕ) (a b : List Stop) → i < length u → came_to a i ≡ false → b ≡ and_came a i → to_come u s (walk_of_stops s b) < to_come u s (walk_of_stops s a)
less_came u s i a b l n e = less_place u s i (walk_of_stops s a) (walk_of_stops s b) l (listed_came s i a ∙ n) (ap (walk_of_stops s) e ∙ places_more s i a)

pub less_needed : (u : List Interface) (s : Choice) (i : ℕ) (name : List ℕ) (m : Command) (a b : List Stop) → command_at u s i name ≡ Some m → needed_at a i name ≡ false → b ≡ and_needed a i name → to_come u s (walk_of_stops s b) < to_come u s (walk_of_stops s a)
less_needed u s i name m a b c n e = less_use u s i name m (walk_of_stops s a) (walk_of_stops s b) c (used_needed s i name a ∙ n) (ap (walk_of_stops s) e ∙ uses_more s i name a)

-- whether a command isn't among those that are used
abbrev pub named : ℕ → List ℕ → List Used → Bool
named i name ks = not (list_any (same_use i name) ks)

-- a number is that of an interface
position_within : (test : List ℕ → Bool) (n : ℕ) (xs : List (List ℕ)) (i : ℕ) → position_from test n xs ≡ Some i → i < n + length xs
position_within test n [] i e = absurd (none_some e)
position_within test n (x ∷ xs) i e = at (test x) e (λ g. position_within test (n + 1) xs i g)
  where
    at : (b : Bool) → cond b (Some n) (position_from test (n + 1) xs) ≡ Some i → (position_from test (n + 1) xs ≡ Some i → i < n + 1 + length xs) → i < n + suc (length xs)
    at true g later = let s : n ≡ i = same_Some _ _ g in omega (arith, s)
    at false g later = let l = later g in omega (arith, l)

pub number_within : (u : List Interface) (uri : List ℕ) (i : ℕ) → place uri (uris_of u) ≡ Some i → i < length u
number_within u uri i e =
    let l = position_within (bytes_eq uri) 0 (uris_of u) i e in
    let m : length (uris_of u) ≡ length u = length-map u (λ (x : Interface). x.uri) in
    omega (arith, l, m)

-- a list by its first item and the others, as code takes it apart
others : {A : Type 0} (ys : List A) (n : ℕ) → n ≡ length ys → take n ys ≡ ys
others [] zero e = refl
others [] (suc n) e = refl
others (y ∷ ys) zero e = absurd (omega (arith, e))
others (y ∷ ys) (suc n) e = ap (λ zs. y ∷ zs) (others ys n (omega (arith, e)))

pub front : {A : Type 0} (xs : List A) (x : A) → 1 ≤ length xs → x ≡ get_or xs 0 x → xs ≡ x ∷ take (length xs - 1) (drop 1 xs)
front [] x l e = absurd (omega (arith, l))
front (y ∷ ys) x l e = ap (λ z. z ∷ ys) (sym e) ∙ ap (λ zs. x ∷ zs) (sym (others ys (suc (length ys) - 1) (omega arith)))

pub empty : {A : Type 0} (xs : List A) → length xs < 1 → xs ≡ []
empty [] l = refl
empty (x ∷ xs) l = absurd (omega (arith, l))

-- an address that is gone through for the first time isn't there yet
not_there : (is : List Interface) (i : ℕ) (y : List ℕ) → ((k : ℕ) (d : Interface) → k < i → (get_or is k d).uri ≡ y → ⊥) → i ≤ length is → list_any (bytes_eq y) (uris_of (take i is)) ≡ false
not_there [] zero y h l = refl
not_there [] (suc i) y h l = refl
not_there (x ∷ is) zero y h l = refl
not_there (x ∷ is) (suc i) y h l = at (bytes_eq y x.uri) refl (not_there is i y (λ k d lt e. h (suc k) d (omega (arith, lt)) e) (omega (arith, l)))
  where
    at : (b : Bool) → bytes_eq y x.uri ≡ b → list_any (bytes_eq y) (uris_of (take i is)) ≡ false → (b || list_any (bytes_eq y) (uris_of (take i is))) ≡ false
    at true e rest = absurd (h 0 x (omega arith) (sym ((bytes_decides y x.uri).0 e)))
    at false e rest = rest

pub new_address : (is : List Interface) (i : ℕ) (x : Interface) (y : List ℕ) (ks js : List (List ℕ)) → AreApart (uris_of is) → i < length is → x ≡ get_or is i x → y ≡ x.uri → ks ≡ uris_of (take i is) → js ≡ (if list_any (bytes_eq y) ks then ks else ks ++ y ∷ []) → js ≡ uris_of (take (i + 1) is)
new_address is i x y ks js apart l e n h j =
    let len : length (uris_of is) ≡ length is = length-map is (λ (x : Interface). x.uri) in
    let here : get_or (uris_of is) i y ≡ y = get_or-map (λ (x : Interface). x.uri) is i x y l ∙ ap (λ (x : Interface). x.uri) (sym e) ∙ sym n in
    let fresh : list_any (bytes_eq y) ks ≡ false = ap (list_any (bytes_eq y)) h ∙ not_there is i y (λ k d lt f. apart k i y lt (omega (arith, len, l)) (get_or-map (λ (x : Interface). x.uri) is k d y (omega (arith, lt, l)) ∙ f ∙ sym here)) (omega (arith, l)) in
    keys_new (list_any (bytes_eq y) ks) ks js y j fresh ∙ ap (λ zs. zs ++ y ∷ []) h ∙ ap (λ z. uris_of (take i is) ++ z ∷ []) n ∙ sym (map-append (λ (x : Interface). x.uri) (take i is) (x ∷ [])) ∙ ap (map (λ (x : Interface). x.uri)) (sym (front_more is i x l e))

-- the measure of the whole falls
pub falls_on : (a b : ℕ) (m n : Bool) → n ≡ true → (m ≡ true → a < b) → (m ≡ false → a ≡ b) → a + cond m 1 0 < b + cond n 1 0
falls_on a b true n e f g = subst (λ x. a + 1 < b + cond x 1 0) (sym e) (let l = f refl in omega (arith, l))
falls_on a b false n e f g = subst (λ x. a + 0 < b + cond x 1 0) (sym e) (let l = g refl in omega (arith, l))
