-- How far a loading has come, and which of two has come farther.
use Rattle.std.proofs.Common.{◌≡◌, inl, inr, ℕ, zero, suc, ◌+◌, ◌<◌, ◌≤◌, true, List, [], ◌∷◌, ◌++◌, length, map, take, get_or, Some, Contains, slice_get, refl, sym, ap, subst, ◌∙◌, arith, add-one, append_assoc, length-append}
use Rattle.std.specs.List.{AllZip}
use Rattle.std.proofs.lemmas.List.Elements.{Contains-append_left}
use Rattle.std.proofs.lemmas.List.{append-nil, take_all, take-append-le, length-take-le, take-map, take_more_same, length-map}
use Rattle.std.proofs.lemmas.Option.{same_Some}
use Rattle.zi_policy.specs.declared.types.Policy.{Policy}
use Rattle.zi_policy.specs.Platform.{listed}
use Rattle.zi_rank.specs.Laws.{RanksAreStrict}
use Rattle.zi_outside.specs.Views.{Holding}
use Rattle.zi_universe.specs.declared.types.Requirement.{Requirement}
use Rattle.zi_universe.specs.declared.types.Interface.{Interface}
use Rattle.zi_universe.specs.Naming.{Uri, Uris, without_repeats, all_of, IsNamed, IsClosed}
use Rattle.zi_universe.specs.Candidates.{Store, imports_of, asked_by}
use Rattle.zi_universe.specs.Whole.{uris_of, most_feeds}
use Rattle.zi_universe.specs.Loading.{IsRead, Reading, IsInterface, HasCome}
use Rattle.zi_universe.proofs.NamingLemmas.{begins, at_stage, closed_once, Contains-listed, listed-append_left}
use Rattle.zi_universe.proofs.OnceLemmas.{map_same, here, later, later_all, is_member, each_over, IsOne, each_one, same_one, asked_at, finds_asked, asks_next, listed-behind}
use Rattle.zi_universe.proofs.ExclusionLemmas.{take_front, cut_at, cons_same, all_of-cut, front}

-- Places in fronts.
get_front : (xs ys : Uris) (k : ℕ) (x : Uri) → slice_get xs k ≡ Some x → slice_get (xs ++ ys) k ≡ Some x
get_front [] ys k x e = cc
get_front (y ∷ xs) ys zero x e = e
get_front (y ∷ xs) ys (suc k) x e = get_front xs ys k x e

get_taken : (xs : Uris) (m k : ℕ) (x : Uri) → k < m → slice_get xs k ≡ Some x → slice_get (take m xs) k ≡ Some x
get_taken [] m k x lt e = cc
get_taken (y ∷ xs) zero k x lt e = absurd (omega (arith, lt))
get_taken (y ∷ xs) (suc m) zero x lt e = e
get_taken (y ∷ xs) (suc m) (suc k) x lt e = get_taken xs m k x (omega (arith, lt)) e

get_past : (ds : List Interface) (i : Interface) (rest : List Interface) → slice_get (uris_of (ds ++ i ∷ rest)) (length ds) ≡ Some i.uri
get_past [] i rest = refl
get_past (d ∷ ds) i rest = get_past ds i rest

few_taken : (n : ℕ) (xs : Uris) → n ≤ length (take n xs) → n ≤ length xs
few_taken zero xs h = omega arith
few_taken (suc n) [] h = h
few_taken (suc n) (x ∷ xs) h = let r = few_taken n xs (omega (arith, h)) in omega (arith, r)

-- Two lists that are named so far: the one with fewer members asked is a front of the other.
module _ (first : Uri) (next : Uri → Uris) (whole part : Uris) (m k : ℕ) (a : IsNamed first (map next (take m whole)) whole) (b : IsNamed first (map next (take k part)) part)
    (km : k ≤ m) (lm : m ≤ length whole) (lk : k ≤ length part) where
  as_far : length (map next (take k part)) ≡ k
  as_far = length-map (take k part) next ∙ length-take-le k part lk

  as_long : length (map next (take m whole)) ≡ m
  as_long = length-map (take m whole) next ∙ length-take-le m whole lm

  same_asked : (j : ℕ) → j ≤ k → take j part ≡ take j whole → take j (map next (take k part)) ≡ take j (map next (take m whole))
  same_asked j lj e =
      let jm : j ≤ m = omega (arith, lj, km) in
      take-map next j (take k part) ∙ ap (map next) (take_front j k part lj ∙ e ∙ sym (take_front j m whole jm)) ∙ sym (take-map next j (take m whole))

  same_front_of : (j : ℕ) → j ≤ k → take j part ≡ take j whole
  same_front_of zero lj = refl
  same_front_of (suc j) lj =
      let P : ℕ → Type 0 = λ q. take q part ≡ take q whole in
      let e : take j part ≡ take j whole = same_front_of j (omega (arith, lj)) in
      let lt : j < length (map next (take k part)) = omega (arith, as_far, lj) in
      let lu : j < length (map next (take m whole)) = omega (arith, as_long, lj, km) in
      let same : get_or part j first ≡ get_or whole j first =
      at_stage first (map next (take k part)) part j first b lt
      ∙ ap (λ q. get_or (without_repeats (first ∷ all_of q)) j first) (same_asked j (omega (arith, lj)) e)
      ∙ sym (at_stage first (map next (take m whole)) whole j first a lu) in
      subst P (add-one j) (take_more_same part whole j first (omega (arith, lj, lk)) (omega (arith, lj, km, lm)) e same)

  pub front_of : (zs : Uris) × (whole ≡ part ++ zs)
  front_of =
      let s = begins first (map next (take m whole)) whole k a in
      let e : take k (map next (take k part)) ≡ take k (map next (take m whole)) = same_asked k (omega arith) (same_front_of k (omega arith)) in
      let t : part ≡ without_repeats (first ∷ all_of (take k (map next (take m whole)))) =
      b.are ∙ ap (λ q. without_repeats (first ∷ all_of q)) (sym (take_all k (map next (take k part)) (omega (arith, as_far))) ∙ e) in
      (s.0, s.1 ∙ ap (λ q. q ++ s.0) (sym t))

-- How far a loading has come over a reading: these interfaces are done, and of the feeds of the next the first n were looked
-- at, and were read.
pub record Point (holds : Holding) (req : Requirement) (p : Policy) (stored : Store) (at : Reading) : Type 0 where
  pub done : List Interface
  pub groups : List Uris
  pub names : Uris
  pub come : HasCome at req p stored done groups names
  pub interface : Uri
  pub next : slice_get names (length done) ≡ Some interface
  pub here : Uris
  pub n : ℕ
  pub within : n ≤ length here
  pub named : IsNamed interface (map (λ u. imports_of p (at u)) (take n here)) here
  pub few : length (without_repeats (all_of groups ++ take n here)) ≤ most_feeds
  pub read : (u : Uri) → listed u (all_of groups ++ take n here) ≡ true → IsRead (Some holds) req.interface u (at u)

-- the same over a reading that agrees with what was looked at
module _ (holds : Holding) (req : Requirement) (p : Policy) (stored : Store) (at now : Reading) (x : Point holds req p stored at)
    (agrees : (u : Uri) → listed u (all_of x.groups ++ take x.n x.here) ≡ true → at u ≡ now u) where
  agrees_done : (u : Uri) → listed u (all_of x.groups) ≡ true → at u ≡ now u
  agrees_done u l = agrees u (listed-append_left u (all_of x.groups) (take x.n x.here) l)

  pub agrees_here : (u : Uri) → Contains (take x.n x.here) u → at u ≡ now u
  agrees_here u c = agrees u (listed-behind u (all_of x.groups) (take x.n x.here) (Contains-listed u (take x.n x.here) c))

  pub come_now : HasCome now req p stored x.done x.groups x.names
  come_now = record {
    named = x.come.named;
    in_turn = x.come.in_turn;
    each = each_over req p stored at now x.groups x.done agrees_done x.come.each;
    few_feeds = x.come.few_feeds;
    few_candidates = x.come.few_candidates;
    few_interfaces = x.come.few_interfaces;
  }

  pub named_now : IsNamed x.interface (map (λ u. imports_of p (now u)) (take x.n x.here)) x.here
  named_now =
      let P : List Uris → Type 0 = λ q. IsNamed x.interface q x.here in
      subst P (map_same (λ u. imports_of p (at u)) (λ u. imports_of p (now u)) (take x.n x.here) (λ u c. ap (imports_of p) (agrees_here u c))) x.named

  pub read_now : (u : Uri) → listed u (all_of x.groups ++ take x.n x.here) ≡ true → IsRead (Some holds) req.interface u (now u)
  read_now u l = subst (IsRead (Some holds) req.interface u) (agrees u l) (x.read u l)

  abbrev pub moved : Point holds req p stored now
  moved = record {
    done = x.done;
    groups = x.groups;
    names = x.names;
    come = come_now;
    interface = x.interface;
    next = x.next;
    here = x.here;
    n = x.n;
    within = x.within;
    named = named_now;
    few = x.few;
    read = read_now;
  }

-- Interfaces that are done, asked by address.
module _ (strict : RanksAreStrict) (req : Requirement) (p : Policy) (stored : Store) (now : Reading) (all : List Interface)
    (ones : (i : Interface) → Contains all i → IsOne req p stored now i) where
  named_by : (done : List Interface) (groups : List Uris) (names : Uris) → HasCome now req p stored done groups names → ((i : Interface) → Contains done i → Contains all i)
      → IsNamed req.interface (map (asked_at all) (take (length done) names)) names
  named_by done groups names c among =
      let P : List Uris → Type 0 = λ q. IsNamed req.interface q names in
      subst P
      (asks_next (asked_at all) done
      (λ i m. finds_asked (λ k. IsOne req p stored now k) (same_one req p stored strict now) all ones i (ones i (among i m)) (among i m))
      ∙ ap (map (asked_at all)) c.in_turn)
      c.named

both_are : {X : Type 0} (Q : X → Type 0) (xs ys : List X) → ((x : X) → Contains xs x → Q x) → ((y : X) → Contains ys y → Q y) → (z : X) → Contains (xs ++ ys) z → Q z
both_are Q [] ys f g z c = g z c
both_are Q (x ∷ xs) ys f g z c =
    elim (is_member x (xs ++ ys) z c) [ inl e ↦ subst Q (sym e) (f x (here x xs)) | inr d ↦ both_are Q xs ys (λ y m. f y (later x xs y m)) g z d ]

module _ (strict : RanksAreStrict) (req : Requirement) (p : Policy) (stored : Store) (now : Reading) where
  -- interfaces over their groups, where the addresses of some are a front of those of the others
  cut_ways : (gs hs : List Uris) (is ds : List Interface) → AllZip (IsInterface now req p stored) gs is → AllZip (IsInterface now req p stored) hs ds
      → take (length ds) (uris_of is) ≡ uris_of ds
      → (rest : List Interface) × (more : List Uris) × (is ≡ ds ++ rest) × (gs ≡ hs ++ more) × AllZip (IsInterface now req p stored) more rest
  cut_ways gs [] is [] z y e = (is, gs, refl, refl, z)
  cut_ways gs (h ∷ hs) is [] z y e = absurd y
  cut_ways gs [] is (d ∷ ds) z y e = absurd y
  cut_ways gs (h ∷ hs) [] (d ∷ ds) z y e = cc
  cut_ways [] (h ∷ hs) (i ∷ is) (d ∷ ds) z y e = absurd z
  cut_ways (g ∷ gs) (h ∷ hs) (i ∷ is) (d ∷ ds) z y e =
      let s : i.uri ≡ d.uri = cc in
      let t : take (length ds) (uris_of is) ≡ uris_of ds = cc in
      let P : Uri → Type 0 = λ q. IsClosed q (λ u. imports_of p (now u)) g in
      let same : i ≡ d = same_one req p stored strict now i d s (g, z.0) (h, y.0) in
      let alike : g ≡ h = closed_once d.uri (λ u. imports_of p (now u)) g h (subst P s z.0.closed) y.0.closed in
      let r = cut_ways gs hs is ds z.1 y.1 t in
      (r.0, r.1, cons_same i d is (ds ++ r.0) same r.2, cons_same g h gs (hs ++ r.1) alike r.3, r.4)

nothing_more : {X : Type 0} (xs ys : List X) → length (xs ++ ys) ≤ length xs → ys ≡ []
nothing_more xs [] h = refl
nothing_more xs (y ∷ ys) h = absurd (let l : length (xs ++ y ∷ ys) ≡ length xs + length (y ∷ ys) = length-append xs (y ∷ ys) in omega (arith, h, l))

no_groups : (req : Requirement) (p : Policy) (stored : Store) (now : Reading) (more : List Uris) → AllZip (IsInterface now req p stored) more [] → more ≡ []
no_groups req p stored now [] z = refl
no_groups req p stored now (g ∷ more) z = absurd z

-- the first group of some, and what it is of
first_group : (req : Requirement) (p : Policy) (stored : Store) (now : Reading) (more : List Uris) (i : Interface) (rest : List Interface)
    → AllZip (IsInterface now req p stored) more (i ∷ rest) → (g : Uris) × (gs : List Uris) × (more ≡ g ∷ gs) × IsInterface now req p stored g i
first_group req p stored now [] i rest z = absurd z
first_group req p stored now (g ∷ more) i rest z = (g, more, refl, z.0)

regroup : (a t ys zs m s : Uris) (u : Uri) → (a ++ (((t ++ u ∷ ys) ++ zs) ++ m)) ++ s ≡ (a ++ t) ++ u ∷ (ys ++ (zs ++ (m ++ s)))
regroup a t ys zs m s u = simp append_assoc

-- Two points of loadings over one reading, of which the second has done as much.
module _ (strict : RanksAreStrict) (holds : Holding) (req : Requirement) (p : Policy) (stored : Store) (now : Reading) (x y : Point holds req p stored now)
    (le : length x.done ≤ length y.done) where
  abbrev pub next_now : Uri → Uris
  next_now u = imports_of p (now u)

  ones : (i : Interface) → Contains (y.done ++ x.done) i → IsOne req p stored now i
  ones =
      both_are (λ i. IsOne req p stored now i) y.done x.done
      (each_one req p stored now y.groups y.done y.come.each) (each_one req p stored now x.groups x.done x.come.each)

  few_x : length x.done ≤ length x.names
  few_x =
      let l : length (uris_of x.done) ≡ length x.done = length-map x.done (λ (i : Interface). i.uri) in
      let t : length (uris_of x.done) ≡ length (take (length x.done) x.names) = ap length x.come.in_turn in
      few_taken (length x.done) x.names (omega (arith, l, t))

  few_y : length y.done ≤ length y.names
  few_y =
      let l : length (uris_of y.done) ≡ length y.done = length-map y.done (λ (i : Interface). i.uri) in
      let t : length (uris_of y.done) ≡ length (take (length y.done) y.names) = ap length y.come.in_turn in
      few_taken (length y.done) y.names (omega (arith, l, t))

  names_front : (zs : Uris) × (y.names ≡ x.names ++ zs)
  names_front =
      front_of req.interface (asked_at (y.done ++ x.done)) y.names x.names (length y.done) (length x.done)
      (named_by strict req p stored now (y.done ++ x.done) ones y.done y.groups y.names y.come (λ i m. Contains-append_left y.done x.done i m))
      (named_by strict req p stored now (y.done ++ x.done) ones x.done x.groups x.names x.come (λ i m. later_all y.done x.done i m))
      le few_y few_x

  uris_front : take (length x.done) (uris_of y.done) ≡ uris_of x.done
  uris_front =
      ap (take (length x.done)) y.come.in_turn ∙ take_front (length x.done) (length y.done) y.names le
      ∙ ap (take (length x.done)) names_front.1 ∙ take-append-le (length x.done) x.names names_front.0 few_x ∙ sym x.come.in_turn

  pub rests : (rest : List Interface) × (more : List Uris) × (y.done ≡ x.done ++ rest) × (y.groups ≡ x.groups ++ more) × AllZip (IsInterface now req p stored) more rest
  rests = cut_ways strict req p stored now y.groups x.groups y.done x.done y.come.each x.come.each uris_front

  next_there : slice_get y.names (length x.done) ≡ Some x.interface
  next_there = ap (λ q. slice_get q (length x.done)) names_front.1 ∙ get_front x.names names_front.0 (length x.done) x.interface x.next

  -- Where the second has done more, it has done the interface at which the first is.
  module _ (lt : length x.done < length y.done) where
    pub done_next : (i : Interface) × (rest : List Interface) × (g : Uris) × (gs : List Uris) × (y.done ≡ x.done ++ i ∷ rest) × (y.groups ≡ x.groups ++ g ∷ gs)
        × IsInterface now req p stored g i × (i.uri ≡ x.interface)
    done_next = by rests.0 refl
      where
        by : (rest : List Interface) → rests.0 ≡ rest
            → (i : Interface) × (rest : List Interface) × (g : Uris) × (gs : List Uris) × (y.done ≡ x.done ++ i ∷ rest) × (y.groups ≡ x.groups ++ g ∷ gs)
            × IsInterface now req p stored g i × (i.uri ≡ x.interface)
        by [] e =
            let d : y.done ≡ x.done = rests.2 ∙ ap (λ q. x.done ++ q) e ∙ append-nil x.done in
            let l : length y.done ≡ length x.done = ap length d in
            absurd (omega (arith, l, lt))
        by (i ∷ rest) e =
            let P : List Interface → Type 0 = λ q. AllZip (IsInterface now req p stored) rests.1 q in
            let r = first_group req p stored now rests.1 i rest (subst P e rests.4) in
            let d : y.done ≡ x.done ++ i ∷ rest = rests.2 ∙ ap (λ q. x.done ++ q) e in
            let t : slice_get (uris_of y.done) (length x.done) ≡ Some x.interface =
            ap (λ q. slice_get q (length x.done)) y.come.in_turn ∙ get_taken y.names (length y.done) (length x.done) x.interface lt next_there in
            let u : slice_get (uris_of y.done) (length x.done) ≡ Some i.uri = ap (λ q. slice_get (uris_of q) (length x.done)) d ∙ get_past x.done i rest in
            (i, rest, r.0, r.1, d, rests.3 ∙ ap (λ q. x.groups ++ q) r.2, r.3, same_Some i.uri x.interface (sym u ∙ t))

    closed_next : IsClosed x.interface next_now done_next.2
    closed_next = let P : Uri → Type 0 = λ q. IsClosed q next_now done_next.2 in subst P done_next.7 done_next.6.closed

    -- and looked at the feed at which the first is
    pub passed_done : (uri : Uri) → slice_get x.here x.n ≡ Some uri
        → (us : Uris) × (all_of y.groups ++ take y.n y.here ≡ (all_of x.groups ++ take x.n x.here) ++ uri ∷ us)
    passed_done uri turn =
        let g = done_next.2 in
        let gs = done_next.3 in
        let f = front x.interface next_now g x.here x.n closed_next x.named x.within in
        let c = cut_at x.here x.n uri turn in (
          c.0 ++ (f.0 ++ (all_of gs ++ take y.n y.here)),
          ap (λ q. all_of q ++ take y.n y.here) done_next.5 ∙ ap (λ q. q ++ take y.n y.here) (all_of-cut x.groups g gs)
              ∙ ap (λ q. (all_of x.groups ++ (q ++ all_of gs)) ++ take y.n y.here) (f.1 ∙ ap (λ q. q ++ f.0) c.1)
              ∙ regroup (all_of x.groups) (take x.n x.here) c.0 f.0 (all_of gs) (take y.n y.here) uri,
        )

  -- Where both have done as much, they are at one interface.
  module _ (ge : length y.done ≤ length x.done) where
    nothing : rests.0 ≡ []
    nothing = nothing_more x.done rests.0 (let l : length y.done ≡ length (x.done ++ rests.0) = ap length rests.2 in omega (arith, l, ge))

    pub same_done : y.done ≡ x.done
    same_done = rests.2 ∙ ap (λ q. x.done ++ q) nothing ∙ append-nil x.done

    pub same_groups : y.groups ≡ x.groups
    same_groups =
        let P : List Interface → Type 0 = λ q. AllZip (IsInterface now req p stored) rests.1 q in
        rests.3 ∙ ap (λ q. x.groups ++ q) (no_groups req p stored now rests.1 (subst P nothing rests.4)) ∙ append-nil x.groups

    pub same_names : y.names ≡ x.names
    same_names = y.come.named.are ∙ ap (λ q. without_repeats (req.interface ∷ all_of (map asked_by q))) same_done ∙ sym x.come.named.are

    pub same_interface : y.interface ≡ x.interface
    same_interface = same_Some y.interface x.interface (sym y.next ∙ ap (slice_get y.names) (ap length same_done) ∙ next_there)

    pub named_y : IsNamed x.interface (map next_now (take y.n y.here)) y.here
    named_y = let P : Uri → Type 0 = λ q. IsNamed q (map next_now (take y.n y.here)) y.here in subst P same_interface y.named

    here_front : x.n ≤ y.n → (zs : Uris) × (y.here ≡ x.here ++ zs)
    here_front lm = front_of x.interface next_now y.here x.here y.n x.n named_y x.named lm y.within x.within

    pub passed_here : x.n < y.n → (uri : Uri) → slice_get x.here x.n ≡ Some uri
        → (us : Uris) × (all_of y.groups ++ take y.n y.here ≡ (all_of x.groups ++ take x.n x.here) ++ uri ∷ us)
    passed_here lt uri turn =
        let f = here_front (omega (arith, lt)) in
        let t : slice_get y.here x.n ≡ Some uri = ap (λ q. slice_get q x.n) f.1 ∙ get_front x.here f.0 x.n uri turn in
        let c = cut_at (take y.n y.here) x.n uri (get_taken y.here y.n x.n uri lt t) in
        let same : take x.n (take y.n y.here) ≡ take x.n x.here =
        take_front x.n y.n y.here (omega (arith, lt)) ∙ ap (take x.n) f.1 ∙ take-append-le x.n x.here f.0 x.within in (
          c.0,
          ap (λ q. all_of q ++ take y.n y.here) same_groups ∙ ap (λ q. all_of x.groups ++ q) (c.1 ∙ ap (λ q. q ++ uri ∷ c.0) same)
              ∙ sym (append_assoc (all_of x.groups) (take x.n x.here) (uri ∷ c.0)),
        )

    pub same_here : x.n ≡ y.n → y.here ≡ x.here
    same_here e =
        let f = here_front (omega (arith, e)) in
        let same : take y.n y.here ≡ take x.n x.here =
        ap (λ q. take q y.here) (sym e) ∙ ap (take x.n) f.1 ∙ take-append-le x.n x.here f.0 x.within in
        named_y.are ∙ ap (λ q. without_repeats (x.interface ∷ all_of (map next_now q))) same ∙ sym x.named.are

    -- a point behind all feeds of the interface has looked at more than one before a feed
    pub not_behind : y.n ≡ length y.here → x.n < length x.here → x.n < y.n
    not_behind whole lt =
        let P : Uris → Type 0 = λ q. IsNamed x.interface (map next_now q) y.here in
        let closed : IsClosed x.interface next_now y.here = subst P (take_all y.n y.here (omega (arith, whole))) named_y in
        let f = front x.interface next_now y.here x.here x.n closed x.named x.within in
        let l : length y.here ≡ length x.here + length f.0 = ap length f.1 ∙ length-append x.here f.0 in
        omega (arith, l, whole, lt)
