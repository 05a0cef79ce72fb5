-- Where there is a universe, no feed and no limit is refused.
use Rattle.std.proofs.Common.{◌≡◌, ◌≢◌, ℕ, zero, suc, ◌+◌, ◌<◌, ◌≤◌, Bool, true, false, List, [], ◌∷◌, ◌++◌, length, map, take, get_or, true≢false, Option, Some, None, Contains, slice_get, refl, sym, ap, subst, ◌∙◌, arith, add-one, append_assoc, length-append, if◌then◌else◌}
use Rattle.std.specs.Prelude.{IsSomeAnd, MatchOption}
use Rattle.std.specs.List.{AllZip}
use Rattle.std.proofs.lemmas.List.{take_all, take-map, take_more_same, length-map}
use Rattle.std.proofs.lemmas.Option.{slice_get_within, none-some}
use Rattle.std.proofs.lemmas.List.Sums.{sum_by-append, sum_by_push}
use Rattle.std.proofs.lemmas.List.Sorted.{length_permutation}
use Rattle.std.proofs.lemmas.List.Elements.{Contains-append_left}
use Rattle.zi_policy.specs.declared.types.Policy.{Policy}
use Rattle.zi_policy.specs.Platform.{listed}
use Rattle.zi_rank.specs.Laws.{RanksAreStrict}
use Rattle.zi_elements.specs.Forest.{element_view}
use Rattle.zi_doc.specs.Laws.{IsSettled}
use Rattle.zi_feed.specs.declared.feed.Feed.{Feed}
use Rattle.zi_feed.specs.Feeds.{feed_fault}
use Rattle.zi_outside.specs.Views.{Holding}
use Rattle.zi_universe.specs.declared.types.Requirement.{Requirement}
use Rattle.zi_universe.specs.declared.types.Candidate.{Candidate}
use Rattle.zi_universe.specs.declared.types.Interface.{Interface}
use Rattle.zi_universe.specs.declared.fault.BadFeed.{BadFeed}
use Rattle.zi_universe.specs.declared.fault.BadFeed.TheVariants as bad
use Rattle.zi_universe.specs.declared.fault.LoadFault.TheVariants as fault
use Rattle.zi_universe.specs.Naming.{Uri, Uris, joined, all_of, without_repeats, IsNamed, IsClosed}
use Rattle.zi_universe.specs.Candidates.{Store, imports_of, admitted, AreCandidates, asked_by, asked_by_all}
use Rattle.zi_universe.specs.Whole.{uris_of, candidates_in, most_feeds, most_interfaces, most_candidates, feed_limit}
use Rattle.zi_universe.specs.Loading.{Says, HasFault, no_feed, IsRead, Reading, AreRead, IsInterface, reached, HasCome, Loads, ComesTo, Finds}
use Rattle.zi_universe.specs.Laws.{UniverseExcludes}
use Rattle.zi_universe.proofs.NamingLemmas.{begins, at_stage, closed_once, joined-append, joined_behind, all_of-append, map-append, listed-Contains, Contains-listed, listed-append_left, listed-without_repeats}
use Rattle.zi_universe.proofs.OnceLemmas.{map_same, here, later, later_all, each_over, IsOne, each_one, same_one, asked_at, finds_asked, asks_next, both, read_once, listed-behind}

-- Fronts.
pub take_front : (j k : ℕ) (xs : Uris) → j ≤ k → take j (take k xs) ≡ take j xs
take_front zero k xs le = refl
take_front (suc j) zero xs le = absurd (omega (arith, le))
take_front (suc j) (suc k) [] le = refl
take_front (suc j) (suc k) (x ∷ xs) le = ap (λ q. x ∷ q) (take_front j k xs (omega (arith, le)))

pub cut_at : {X : Type 0} (xs : List X) (k : ℕ) (x : X) → slice_get xs k ≡ Some x → (ys : List X) × (xs ≡ take k xs ++ x ∷ ys)
cut_at [] k x e = cc
cut_at (y ∷ ys) zero x e = (ys, (let s : y ≡ x = cc in ap (λ q. q ∷ ys) s))
cut_at (y ∷ ys) (suc k) x e = let r = cut_at ys k x e in (r.0, ap (λ q. y ∷ q) r.1)

-- A list that is named so far, the first k of whose members were asked, is a front of the closed one.
module _ (first : Uri) (next : Uri → Uris) (whole part : Uris) (k : ℕ) (m : IsClosed first next whole) (n : IsNamed first (map next (take k part)) part) (le : k ≤ length part) where
  as_long : length (map next (take k part)) ≡ k
  as_long = length-map (take k part) next ∙ length_taken k part le
    where
      length_taken : (j : ℕ) (xs : Uris) → j ≤ length xs → length (take j xs) ≡ j
      length_taken zero xs h = refl
      length_taken (suc j) [] h = absurd (omega (arith, h))
      length_taken (suc j) (x ∷ xs) h = let r = length_taken j xs (omega (arith, h)) in omega (arith, r)

  same_named : (j : ℕ) → j ≤ k → take j part ≡ take j whole → take j (map next (take k part)) ≡ take j (map next whole)
  same_named j lj e = take-map next j (take k part) ∙ ap (map next) (take_front j k part lj ∙ e) ∙ sym (take-map next j whole)

  long_stage : (j : ℕ) → j < k → take j part ≡ take j whole → j < length whole
  long_stage j lj e =
      let P : List Uris → Type 0 = λ q. j < length (without_repeats (first ∷ all_of q)) in
      let turn : j < length (without_repeats (first ∷ all_of (take j (map next whole)))) = subst P (same_named j (omega (arith, lj)) e) (n.in_turn j (omega (arith, as_long, lj))) in
      let b = begins first (map next whole) whole j m in
      let l : length whole ≡ length (without_repeats (first ∷ all_of (take j (map next whole)))) + length b.0 = ap length b.1 ∙ length-append (without_repeats (first ∷ all_of (take j (map next whole)))) b.0 in
      omega (arith, l, turn)

  same_so_far : (j : ℕ) → j ≤ k → take j part ≡ take j whole
  same_so_far zero lj = refl
  same_so_far (suc j) lj =
      let P : ℕ → Type 0 = λ q. take q part ≡ take q whole in
      let e : take j part ≡ take j whole = same_so_far j (omega (arith, lj)) in
      let long : j < length whole = long_stage j (omega (arith, lj)) e in
      let lt : j < length (map next (take k part)) = omega (arith, as_long, lj) in
      let lu : j < length (map next whole) = omega (arith, length-map whole next, long) in
      let same : get_or part j first ≡ get_or whole j first =
      at_stage first (map next (take k part)) part j first n lt
      ∙ ap (λ q. get_or (without_repeats (first ∷ all_of q)) j first) (same_named j (omega (arith, lj)) e)
      ∙ sym (at_stage first (map next whole) whole j first m lu) in
      subst P (add-one j) (take_more_same part whole j first (omega (arith, lj, le)) long e same)

  pub front : (zs : Uris) × (whole ≡ part ++ zs)
  front =
      let b = begins first (map next whole) whole k m in
      let e : take k (map next (take k part)) ≡ take k (map next whole) = same_named k (omega arith) (same_so_far k (omega arith)) in
      let s : part ≡ without_repeats (first ∷ all_of (take k (map next whole))) =
      n.are ∙ ap (λ q. without_repeats (first ∷ all_of q)) (sym (take_all k (map next (take k part)) (omega (arith, as_long))) ∙ e) in
      (b.0, b.1 ∙ ap (λ q. q ++ b.0) (sym s))

pub cons_same : {X : Type 0} (x y : X) (xs ys : List X) → x ≡ y → xs ≡ ys → x ∷ xs ≡ y ∷ ys
cons_same x y xs ys e f = ap (λ q. q ∷ xs) e ∙ ap (λ q. y ∷ q) f

-- A list of interfaces and of groups, cut.
cut_uris : (Q : Interface → Type 0) (once : (i j : Interface) → i.uri ≡ j.uri → Q i → Q j → i ≡ j) (is done : List Interface) (uri : Uri) (us : Uris)
    → ((i : Interface) → Contains is i → Q i) → ((i : Interface) → Contains done i → Q i) → uris_of is ≡ uris_of done ++ uri ∷ us
    → (i : Interface) × (rest : List Interface) × (is ≡ done ++ i ∷ rest) × (i.uri ≡ uri)
cut_uris Q once [] [] uri us a b e = cc
cut_uris Q once (i ∷ is) [] uri us a b e = (i, is, refl, (let s : i.uri ≡ uri = cc in s))
cut_uris Q once [] (d ∷ ds) uri us a b e = cc
cut_uris Q once (i ∷ is) (d ∷ ds) uri us a b e =
    let s : i.uri ≡ d.uri = cc in
    let t : uris_of is ≡ uris_of ds ++ uri ∷ us = cc in
    let same : i ≡ d = once i d s (a i (here i is)) (b d (here d ds)) in
    let r = cut_uris Q once is ds uri us (λ k m. a k (later i is k m)) (λ k m. b k (later d ds k m)) t in
    (r.0, r.1, cons_same i d is (ds ++ r.0 ∷ r.1) same r.2, r.3)

module _ (req : Requirement) (p : Policy) (stored : Store) (now : Reading) where
  cut_groups : (gs hs : List Uris) (done : List Interface) (i : Interface) (rest : List Interface)
      → AllZip (IsInterface now req p stored) gs (done ++ i ∷ rest) → AllZip (IsInterface now req p stored) hs done
      → (g : Uris) × (more : List Uris) × (gs ≡ hs ++ g ∷ more) × IsInterface now req p stored g i
  cut_groups [] [] [] i rest z y = absurd z
  cut_groups [] (h ∷ hs) [] i rest z y = absurd z
  cut_groups [] [] (d ∷ ds) i rest z y = absurd z
  cut_groups [] (h ∷ hs) (d ∷ ds) i rest z y = absurd z
  cut_groups (g ∷ gs) [] [] i rest z y = (g, gs, refl, z.0)
  cut_groups (g ∷ gs) (h ∷ hs) [] i rest z y = absurd y
  cut_groups (g ∷ gs) [] (d ∷ ds) i rest z y = absurd y
  cut_groups (g ∷ gs) (h ∷ hs) (d ∷ ds) i rest z y =
      let same : g ≡ h = closed_once d.uri (λ u. imports_of p (now u)) g h z.0.closed y.0.closed in
      let r = cut_groups gs hs ds i rest z.1 y.1 in
      (r.0, r.1, cons_same g h gs (hs ++ r.0 ∷ r.1) same r.2, r.3)

pub all_of-cut : (xss : List Uris) (ys : Uris) (zss : List Uris) → all_of (xss ++ ys ∷ zss) ≡ all_of xss ++ (ys ++ all_of zss)
all_of-cut [] ys zss = refl
all_of-cut (xs ∷ xss) ys zss = ap (λ q. xs ++ q) (all_of-cut xss ys zss) ∙ sym (append_assoc xs (all_of xss) (ys ++ all_of zss))

pub longer : (xs ys : Uris) → length xs ≤ length (joined xs ys)
longer xs ys = let b = joined_behind xs ys in let l : length (joined xs ys) ≡ length xs + length b.0 = ap length b.1 ∙ length-append xs b.0 in omega (arith, l)

-- A loading under way beside a universe.
module _ (strict : RanksAreStrict) (one : (w : List ℕ) → IsSettled w) (holds : Holding) (req : Requirement) (p : Policy) (stored : Store) (is : List Interface)
    (a : Loads (Some holds) req p stored is) (at : Reading) (done : List Interface) (groups : List Uris) (names : Uris) (come : HasCome at req p stored done groups names)
    (got : Uris) (read : AreRead (Some holds) req.interface at got) (covers : (u : Uri) → listed u (all_of groups) ≡ true → Contains got u)
    (interface : Uri) (turn : slice_get names (length done) ≡ Some interface) where
  abbrev pub now : Reading
  now = both (reached a.groups) a.at at

  agrees_a : (u : Uri) → listed u (all_of a.groups) ≡ true → a.at u ≡ now u
  agrees_a u l = sym (ap (λ t. if t then a.at u else at u) (listed-without_repeats u (all_of a.groups) ∙ l))

  pub agrees_got : (u : Uri) → Contains got u → at u ≡ now u
  agrees_got u c = by (listed u (reached a.groups)) refl
    where
      by : (t : Bool) → listed u (reached a.groups) ≡ t → at u ≡ now u
      by true s = read_once one holds req.interface u (at u) (a.at u) (read u c) (a.read u (listed-Contains u (reached a.groups) s)) ∙ sym (ap (λ t. if t then a.at u else at u) s)
      by false s = sym (ap (λ t. if t then a.at u else at u) s)

  zip_a : AllZip (IsInterface now req p stored) a.groups is
  zip_a = each_over req p stored a.at now a.groups is agrees_a a.universe.each

  zip_done : AllZip (IsInterface now req p stored) groups done
  zip_done = each_over req p stored at now groups done (λ u l. agrees_got u (covers u l)) come.each

  ones_a : (i : Interface) → Contains is i → IsOne req p stored now i
  ones_a = each_one req p stored now a.groups is zip_a

  ones_done : (i : Interface) → Contains done i → IsOne req p stored now i
  ones_done = each_one req p stored now groups done zip_done

  ones : (i : Interface) → Contains (is ++ done) i → IsOne req p stored now i
  ones i c = split is (λ j m. ones_a j m) c
    where
      split : (ks : List Interface) → ((j : Interface) → Contains ks j → IsOne req p stored now j) → Contains (ks ++ done) i → IsOne req p stored now i
      split [] f m = ones_done i m
      split (k ∷ ks) f m = either m.0 m.1 m.2 (λ d. split ks (λ j n. f j (later k ks j n)) d)
        where
          either : (q : ℕ) → q < length (k ∷ (ks ++ done)) → get_or (k ∷ (ks ++ done)) q i ≡ i → (Contains (ks ++ done) i → IsOne req p stored now i) → IsOne req p stored now i
          either zero lt e rest = let P : Interface → Type 0 = λ x. IsOne req p stored now x in subst P e (f k (here k ks))
          either (suc q) lt e rest = rest (q, omega (arith, lt), e)

  once : (i j : Interface) → i.uri ≡ j.uri → IsOne req p stored now i → IsOne req p stored now j → i ≡ j
  once = same_one req p stored strict now

  abbrev asks : Uri → Uris
  asks = asked_at (is ++ done)

  closed_a : IsClosed req.interface asks (uris_of is)
  closed_a =
      let P : List Uris → Type 0 = λ q. IsNamed req.interface q (uris_of is) in
      subst P (asks_next asks is (λ i c. finds_asked (λ k. IsOne req p stored now k) once (is ++ done) ones i (ones_a i c) (Contains-append_left is done i c))) a.universe.named

  named_done : IsNamed req.interface (map asks (take (length done) names)) names
  named_done =
      let P : List Uris → Type 0 = λ q. IsNamed req.interface q names in
      subst P
      (asks_next asks done (λ i c. finds_asked (λ k. IsOne req p stored now k) once (is ++ done) ones i (ones_done i c) (later_all is done i c)) ∙ ap (map asks) come.in_turn)
      come.named

  name_cut : (us : Uris) × (names ≡ take (length done) names ++ interface ∷ us)
  name_cut = cut_at names (length done) interface turn

  few_done : length done ≤ length names
  few_done =
      let l : length names ≡ length (take (length done) names) + length (interface ∷ name_cut.0) = ap length name_cut.1 ∙ length-append (take (length done) names) (interface ∷ name_cut.0) in
      let k : length (uris_of done) ≡ length done = length-map done (λ (i : Interface). i.uri) in
      let t : length (uris_of done) ≡ length (take (length done) names) = ap length come.in_turn in
      omega (arith, l, k, t)

  names_front : (zs : Uris) × (uris_of is ≡ names ++ zs)
  names_front = front req.interface asks (uris_of is) names (length done) closed_a named_done few_done

  pub item : (i : Interface) × (rest : List Interface) × (is ≡ done ++ i ∷ rest) × (i.uri ≡ interface)
  item =
      let e : uris_of is ≡ uris_of done ++ interface ∷ (name_cut.0 ++ names_front.0) =
      names_front.1 ∙ ap (λ q. q ++ names_front.0) name_cut.1 ∙ append_assoc (take (length done) names) (interface ∷ name_cut.0) names_front.0
      ∙ ap (λ q. q ++ interface ∷ (name_cut.0 ++ names_front.0)) (sym come.in_turn) in
      cut_uris (λ k. IsOne req p stored now k) once is done interface (name_cut.0 ++ names_front.0) ones_a ones_done e

  pub group : (g : Uris) × (more : List Uris) × (a.groups ≡ groups ++ g ∷ more) × IsInterface now req p stored g item.0
  group =
      let P : List Interface → Type 0 = λ q. AllZip (IsInterface now req p stored) a.groups q in
      cut_groups req p stored now a.groups groups done item.0 item.1 (subst P item.2 zip_a) zip_done

  pub closed_group : IsClosed interface (λ u. imports_of p (now u)) group.0
  closed_group = let P : Uri → Type 0 = λ q. IsNamed q (map (λ u. imports_of p (now u)) group.0) group.0 in subst P item.3 group.3.closed

regroup : (g t ys zs m : Uris) (u : Uri) → g ++ (((t ++ u ∷ ys) ++ zs) ++ m) ≡ (g ++ t) ++ u ∷ (ys ++ (zs ++ m))
regroup g t ys zs m u = simp append_assoc

-- A loading that comes to one feed more.
module _ (strict : RanksAreStrict) (one : (w : List ℕ) → IsSettled w) (holds : Holding) (req : Requirement) (p : Policy) (stored : Store) (is : List Interface)
    (a : Loads (Some holds) req p stored is) (uri : Uri) (got : Uris) (c : ComesTo (Some holds) req p stored uri got) where
  abbrev asked_so_far : Uris
  asked_so_far = all_of (c.groups ++ take c.n c.here ∷ [])

  in_got : (u : Uri) → listed u asked_so_far ≡ true → Contains got u
  in_got u l = listed-Contains u got (ap (listed u) c.so_far ∙ listed-without_repeats u asked_so_far ∙ l)

  covers : (u : Uri) → listed u (all_of c.groups) ≡ true → Contains got u
  covers u l = in_got u (ap (listed u) (all_of-append c.groups (take c.n c.here)) ∙ listed-append_left u (all_of c.groups) (take c.n c.here) l)

  covers_here : (u : Uri) → Contains (take c.n c.here) u → Contains got u
  covers_here u m =
      in_got u (ap (listed u) (all_of-append c.groups (take c.n c.here)) ∙ listed-behind u (all_of c.groups) (take c.n c.here) (Contains-listed u (take c.n c.here) m))

  abbrev next_now : Uri → Uris
  next_now u = imports_of p (both (reached a.groups) a.at c.at u)

  listed_now : IsNamed c.interface (map next_now (take c.n c.here)) c.here
  listed_now =
      let P : List Uris → Type 0 = λ q. IsNamed c.interface q c.here in
      subst P
      (map_same (λ u. imports_of p (c.at u)) next_now (take c.n c.here)
      (λ u m. ap (imports_of p) (agrees_got strict one holds req p stored is a c.at c.done c.groups c.names c.come got c.read covers c.interface c.next u (covers_here u m))))
      c.listed_here

  cut_here : (ys : Uris) × (c.here ≡ take c.n c.here ++ uri ∷ ys)
  cut_here = cut_at c.here c.n uri c.turn

  few_here : c.n ≤ length c.here
  few_here = let w : c.n < length c.here = slice_get_within c.here c.n uri c.turn in omega (arith, w)

  its_group : (g : Uris) × (more : List Uris) × (a.groups ≡ c.groups ++ g ∷ more) × IsClosed c.interface next_now g
  its_group =
      let r = group strict one holds req p stored is a c.at c.done c.groups c.names c.come got c.read covers c.interface c.next in
      (r.0, r.1, r.2, closed_group strict one holds req p stored is a c.at c.done c.groups c.names c.come got c.read covers c.interface c.next)

  front_here : (zs : Uris) × (its_group.0 ≡ c.here ++ zs)
  front_here = front c.interface next_now its_group.0 c.here c.n its_group.3 listed_now few_here

  abbrev behind_it : Uris
  behind_it = cut_here.0 ++ (front_here.0 ++ all_of its_group.1)

  all_cut : all_of a.groups ≡ asked_so_far ++ uri ∷ behind_it
  all_cut =
      ap all_of its_group.2 ∙ all_of-cut c.groups its_group.0 its_group.1
      ∙ ap (λ q. all_of c.groups ++ (q ++ all_of its_group.1)) (front_here.1 ∙ ap (λ q. q ++ front_here.0) cut_here.1)
      ∙ regroup (all_of c.groups) (take c.n c.here) cut_here.0 front_here.0 (all_of its_group.1) uri
      ∙ ap (λ q. q ++ uri ∷ behind_it) (sym (all_of-append c.groups (take c.n c.here)))

  read_uri : IsRead (Some holds) req.interface uri (a.at uri)
  read_uri =
      a.read uri
      (listed-Contains uri (reached a.groups)
      (listed-without_repeats uri (all_of a.groups) ∙ ap (listed uri) all_cut
      ∙ listed-behind uri asked_so_far (uri ∷ behind_it) (Contains-listed uri (uri ∷ behind_it) (here uri behind_it))))

  longer_got : length got + 1 ≤ length (reached a.groups)
  longer_got =
      let e : reached a.groups ≡ joined (got ++ uri ∷ []) behind_it =
      ap (joined []) all_cut ∙ joined-append [] asked_so_far (uri ∷ behind_it) ∙ ap (λ q. joined q (uri ∷ behind_it)) (sym c.so_far)
      ∙ ap (λ q. joined q behind_it) (ap (λ b. if b then got else got ++ uri ∷ []) c.new) in
      let k : length (reached a.groups) ≡ length (joined (got ++ uri ∷ []) behind_it) = ap length e in
      let l : length (got ++ uri ∷ []) ≡ length got + 1 = length-append got (uri ∷ []) in
      let m : length (got ++ uri ∷ []) ≤ length (joined (got ++ uri ∷ []) behind_it) = longer (got ++ uri ∷ []) behind_it in
      omega (arith, k, l, m)

  abbrev Means : Option (List ℕ) → Type 0
  Means h = MatchOption h ((uri ≢ req.interface) × (a.at uri ≡ no_feed uri)) (λ bytes. (length bytes ≤ feed_limit) × Says uri bytes (a.at uri))

  not_absent : holds uri ≡ None → uri ≢ req.interface
  not_absent e = let m : Means None = subst Means (sym read_uri.told_so ∙ e) read_uri.means in m.0

  says_now : (bytes : List ℕ) → holds uri ≡ Some bytes → (length bytes ≤ feed_limit) × Says uri bytes (a.at uri)
  says_now bytes e = let m : Means (Some bytes) = subst Means (sym read_uri.told_so ∙ e) read_uri.means in m

  not_bad : (why : BadFeed) (bytes : List ℕ) → holds uri ≡ Some bytes → HasFault uri bytes why → ⊥
  not_bad (bad.Doc kind place) bytes e h = let s = says_now bytes e in (one bytes).apart s.1.0 kind place s.1.1 h
  not_bad (bad.Feed kind place) bytes e h =
      let s = says_now bytes e in
      let same : h.0 ≡ s.1.0 = (one bytes).tree h.0 s.1.0 h.1 s.1.1 in
      let n : feed_fault (element_view h.0) uri ≡ None = ap (λ t. feed_fault (element_view t) uri) same ∙ s.1.2 in
      none-some (record { kind = kind; place = place }) (sym n ∙ h.2)

  not_long : IsSomeAnd (holds uri) (λ bytes. feed_limit < length bytes) → ⊥
  not_long h = by (holds uri) refl h
    where
      by : (k : Option (List ℕ)) → holds uri ≡ k → IsSomeAnd k (λ bytes. feed_limit < length bytes) → ⊥
      by None e m = m
      by (Some bytes) e m = let s = says_now bytes e in omega (arith, m, s.0)

  not_full : length got ≡ most_feeds → ⊥
  not_full e = omega (arith, e, longer_got, a.universe.few_feeds)

-- A loading that has found the feeds of one interface more.
module _ (strict : RanksAreStrict) (one : (w : List ℕ) → IsSettled w) (holds : Holding) (req : Requirement) (p : Policy) (stored : Store) (is : List Interface)
    (a : Loads (Some holds) req p stored is) (done : List Interface) (names : Uris) (interface : Uri) (feeds : List Feed)
    (c : Finds (Some holds) req p stored done names interface feeds) where
  abbrev got_all : Uris
  got_all = reached (c.groups ++ c.here ∷ [])

  covers_done : (u : Uri) → listed u (all_of c.groups) ≡ true → Contains got_all u
  covers_done u l =
      listed-Contains u got_all
      (listed-without_repeats u (all_of (c.groups ++ c.here ∷ [])) ∙ ap (listed u) (all_of-append c.groups c.here) ∙ listed-append_left u (all_of c.groups) c.here l)

  covers_its : (u : Uri) → Contains c.here u → Contains got_all u
  covers_its u m =
      listed-Contains u got_all
      (listed-without_repeats u (all_of (c.groups ++ c.here ∷ [])) ∙ ap (listed u) (all_of-append c.groups c.here)
      ∙ listed-behind u (all_of c.groups) c.here (Contains-listed u c.here m))

  abbrev reads_now : Reading
  reads_now = both (reached a.groups) a.at c.at

  same_read : (u : Uri) → Contains c.here u → c.at u ≡ reads_now u
  same_read u m = agrees_got strict one holds req p stored is a c.at done c.groups names c.come got_all c.read covers_done interface c.next u (covers_its u m)

  abbrev its_item : (i : Interface) × (rest : List Interface) × (is ≡ done ++ i ∷ rest) × (i.uri ≡ interface)
  its_item = item strict one holds req p stored is a c.at done c.groups names c.come got_all c.read covers_done interface c.next

  its_feeds : (g : Uris) × IsInterface reads_now req p stored g its_item.0 × IsClosed interface (λ u. imports_of p (reads_now u)) g
  its_feeds =
      let r = group strict one holds req p stored is a c.at done c.groups names c.come got_all c.read covers_done interface c.next in
      (r.0, r.3, closed_group strict one holds req p stored is a c.at done c.groups names c.come got_all c.read covers_done interface c.next)

  closed_now : IsClosed interface (λ u. imports_of p (reads_now u)) c.here
  closed_now =
      let P : List Uris → Type 0 = λ q. IsNamed interface q c.here in
      subst P (map_same (λ u. imports_of p (c.at u)) (λ u. imports_of p (reads_now u)) c.here (λ u m. ap (imports_of p) (same_read u m))) c.closed

  feeds_now : feeds ≡ map reads_now its_feeds.0
  feeds_now =
      c.are ∙ map_same c.at reads_now c.here same_read
      ∙ ap (map reads_now) (sym (closed_once interface (λ u. imports_of p (reads_now u)) its_feeds.0 c.here its_feeds.2 closed_now))

  its_candidates : AreCandidates req p stored interface feeds its_item.0.candidates
  its_candidates =
      let P : Uri → Type 0 = λ q. AreCandidates req p stored q (map reads_now its_feeds.0) its_item.0.candidates in
      let Q : List Feed → Type 0 = λ q. AreCandidates req p stored interface q its_item.0.candidates in
      subst Q (sym feeds_now) (subst P its_item.3 its_feeds.1.candidates)

  not_many_candidates : most_candidates < candidates_in done + length (admitted req p stored interface feeds) → ⊥
  not_many_candidates h =
      let l : length its_item.0.candidates ≡ length (admitted req p stored interface feeds) = length_permutation (admitted req p stored interface feeds) its_item.0.candidates its_candidates.same in
      let k : candidates_in is ≡ candidates_in (done ++ its_item.0 ∷ []) + candidates_in its_item.1 =
      ap candidates_in (its_item.2 ∙ sym (append_assoc done (its_item.0 ∷ []) its_item.1)) ∙ sum_by-append (λ (i : Interface). length i.candidates) (done ++ its_item.0 ∷ []) its_item.1 in
      let n : candidates_in (done ++ its_item.0 ∷ []) ≡ candidates_in done + length its_item.0.candidates = sum_by_push (λ (i : Interface). length i.candidates) done its_item.0 in
      omega (arith, h, l, k, n, a.universe.few_candidates)

  same_candidates : (cs : List Candidate) → AreCandidates req p stored interface feeds cs → its_item.0.candidates ≡ cs
  same_candidates cs k =
      let P : List Feed → Type 0 = λ q. AreCandidates req p stored interface q cs in
      ap (λ i. i.candidates)
      (same_one req p stored strict reads_now its_item.0 (record { uri = interface; candidates = cs }) its_item.3 (its_feeds.0, its_feeds.1)
      (its_feeds.0, record { closed = its_feeds.2; candidates = subst P feeds_now k }))

  not_many_interfaces : (cs : List Candidate) → AreCandidates req p stored interface feeds cs → most_interfaces < length (joined names (asked_by_all cs)) → ⊥
  not_many_interfaces cs k h =
      let P : List Candidate → Type 0 = λ q. most_interfaces < length (joined names (asked_by_all q)) in
      let m : most_interfaces < length (joined names (asked_by its_item.0)) = subst P (sym (same_candidates cs k)) h in
      let rest : Uris = all_of (map asked_by its_item.1) in
      let e : uris_of is ≡ joined (joined names (asked_by its_item.0)) rest =
      a.universe.named.are
      ∙ ap (λ q. without_repeats (req.interface ∷ all_of q)) (ap (map asked_by) its_item.2 ∙ map-append asked_by done (its_item.0 ∷ its_item.1))
      ∙ ap (λ q. without_repeats (req.interface ∷ q)) (all_of-cut (map asked_by done) (asked_by its_item.0) (map asked_by its_item.1))
      ∙ joined-append [] (req.interface ∷ all_of (map asked_by done)) (asked_by its_item.0 ++ rest)
      ∙ ap (λ q. joined q (asked_by its_item.0 ++ rest)) (sym c.come.named.are)
      ∙ joined-append names (asked_by its_item.0) rest in
      let l : length (uris_of is) ≡ length (joined (joined names (asked_by its_item.0)) rest) = ap length e in
      let n : length (joined names (asked_by its_item.0)) ≤ length (joined (joined names (asked_by its_item.0)) rest) = longer (joined names (asked_by its_item.0)) rest in
      omega (arith, m, l, n, a.universe.few_interfaces)

pub excludes : RanksAreStrict → ((w : List ℕ) → IsSettled w) → UniverseExcludes
excludes strict one holds req p stored is (fault.FeedRead uri) a t r = true≢false (sym t)
excludes strict one holds req p stored is fault.Memory a t r = true≢false (sym t)
excludes strict one holds req p stored is fault.NoRootFeed a t r =
    not_absent strict one holds req p stored is a req.interface r.come.got r.come.comes r.absent refl
excludes strict one holds req p stored is (fault.BadFeed uri why) a t r =
    not_bad strict one holds req p stored is a uri r.come.got r.come.comes why r.bytes r.held r.faulty
excludes strict one holds req p stored is (fault.FeedTooLong uri limit) a t r =
    not_long strict one holds req p stored is a uri r.come.got r.come.comes r.long
excludes strict one holds req p stored is (fault.TooManyFeeds limit) a t r =
    not_full strict one holds req p stored is a r.uri r.got r.comes r.full
excludes strict one holds req p stored is (fault.TooManyCandidates limit) a t r =
    not_many_candidates strict one holds req p stored is a r.done r.names r.interface r.feeds r.finds r.many
excludes strict one holds req p stored is (fault.TooManyInterfaces limit) a t r =
    not_many_interfaces strict one holds req p stored is a r.done r.names r.interface r.feeds r.finds r.candidates r.are r.many
