-- There is one universe at most.
use Rattle.std.proofs.Common.{◌≡◌, ◌≢◌, ◌⊎◌, inl, inr, ℕ, zero, suc, ◌<◌, ◌≤◌, Bool, true, false, List, [], ◌∷◌, ◌++◌, length, map, get_or, Option, Some, None, Contains, AllPairs, bytes_eq, refl, sym, ap, subst, ◌∙◌, arith, if◌then◌else◌}
use Rattle.std.specs.Prelude.{MatchOption}
use Rattle.std.specs.List.{AllZip}
use Rattle.std.proofs.lemmas.List.Sorted.{Contains-permutation, IsPermutation-sym}
use Rattle.std.proofs.lemmas.List.Elements.{Contains-append_left}
use Rattle.zi_policy.specs.declared.types.Policy.{Policy}
use Rattle.zi_policy.specs.Platform.{listed}
use Rattle.zi_rank.specs.Laws.{RanksAreStrict}
use Rattle.zi_rank.specs.Rank.{Before}
use Rattle.zi_elements.specs.Forest.{element_view}
use Rattle.zi_doc.specs.Laws.{IsSettled}
use Rattle.zi_feed.specs.declared.feed.Feed.{Feed}
use Rattle.zi_feed.specs.Feeds.{feed_of}
use Rattle.zi_outside.specs.Views.{Holding}
use Rattle.zi_universe.specs.declared.types.Requirement.{Requirement}
use Rattle.zi_universe.specs.declared.types.Candidate.{Candidate}
use Rattle.zi_universe.specs.declared.types.Interface.{Interface}
use Rattle.zi_universe.specs.Naming.{Uri, Uris, all_of, IsNamed, IsClosed}
use Rattle.zi_universe.specs.Candidates.{Store, imports_of, admitted, AreCandidates, asked_by}
use Rattle.zi_universe.specs.Whole.{uris_of, feed_limit}
use Rattle.zi_universe.specs.Loading.{Says, no_feed, IsRead, Reading, IsInterface, reached, Loads}
use Rattle.zi_universe.specs.Laws.{HasOneUniverse}
use Rattle.zi_universe.proofs.NamingLemmas.{closed_once, bytes_eq-true, bytes_eq-false, listed-Contains, Contains-listed, listed-cons, listed-append_left, listed-without_repeats}

-- Members.
pub here : {X : Type 0} (x : X) (xs : List X) → Contains (x ∷ xs) x
here x xs = (zero, omega arith, refl)

pub later : {X : Type 0} (x : X) (xs : List X) (z : X) → Contains xs z → Contains (x ∷ xs) z
later x xs z c = (suc c.0, omega (arith, c.1), c.2)

pub later_all : {X : Type 0} (xs ys : List X) (z : X) → Contains ys z → Contains (xs ++ ys) z
later_all [] ys z c = c
later_all (x ∷ xs) ys z c = later x (xs ++ ys) z (later_all xs ys z c)

pub is_member : {X : Type 0} (x : X) (xs : List X) (z : X) → Contains (x ∷ xs) z → (z ≡ x) ⊎ Contains xs z
is_member x xs z c = by c.0 c.1 c.2
  where
    by : (k : ℕ) → k < length (x ∷ xs) → get_or (x ∷ xs) k z ≡ z → (z ≡ x) ⊎ Contains xs z
    by zero lt e = inl (sym e)
    by (suc k) lt e = inr (k, omega (arith, lt), e)

pub none : {X : Type 0} (z : X) → Contains [] z → ⊥
none z c = omega (arith, c.1)

pub map_same : {X Y : Type 0} (f g : X → Y) (xs : List X) → ((x : X) → Contains xs x → f x ≡ g x) → map f xs ≡ map g xs
map_same f g [] h = refl
map_same f g (x ∷ xs) h = ap (λ q. q ∷ map f xs) (h x (here x xs)) ∙ ap (λ q. g x ∷ q) (map_same f g xs (λ y c. h y (later x xs y c)))

-- Lists in a strict order that have the same members are the same.
module _ (X : Type 0) (R : X → X → Type 0) (never : (x : X) → R x x → ⊥) (chain : (x y z : X) → R x y → R y z → R x z) where
  in_front : (x : X) (xs : List X) → AllPairs R (x ∷ xs) → (z : X) → Contains xs z → R x z
  in_front x xs a z c = let P : X → Type 0 = λ q. R x q in subst P c.2 (a zero (suc c.0) z (omega arith) (omega (arith, c.1)))

  behind : (x : X) (xs : List X) → AllPairs R (x ∷ xs) → AllPairs R xs
  behind x xs a i j d lt within = a (suc i) (suc j) d (omega (arith, lt)) (omega (arith, within))

  heads : (x : X) (xs : List X) (y : X) (ys : List X) → AllPairs R (x ∷ xs) → AllPairs R (y ∷ ys) → Contains (y ∷ ys) x → Contains (x ∷ xs) y → x ≡ y
  heads x xs y ys a b cx cy =
      elim (is_member y ys x cx) [
        | inl e ↦ e
        | inr c ↦ elim (is_member x xs y cy) [
          | inl e ↦ sym e
          | inr d ↦ absurd (never x (chain x y x (in_front x xs a y d) (in_front y ys b x c)))
        ]
      ]

  -- no member behind the first is the first
  others : (x : X) (xs : List X) (y : X) (ys : List X) → x ≡ y → AllPairs R (x ∷ xs) → ((z : X) → Contains (x ∷ xs) z → Contains (y ∷ ys) z) → (z : X) → Contains xs z → Contains ys z
  others x xs y ys s a f z c =
      elim (is_member y ys z (f z (later x xs z c))) [
        | inl e ↦ absurd (never x (let P : X → Type 0 = λ q. R x q in subst P (e ∙ sym s) (in_front x xs a z c)))
        | inr d ↦ d
      ]

  same_members : (xs ys : List X) → AllPairs R xs → AllPairs R ys → ((z : X) → Contains xs z → Contains ys z) → ((z : X) → Contains ys z → Contains xs z) → xs ≡ ys
  same_members [] [] a b f g = refl
  same_members [] (y ∷ ys) a b f g = absurd (none y (g y (here y ys)))
  same_members (x ∷ xs) [] a b f g = absurd (none x (f x (here x xs)))
  same_members (x ∷ xs) (y ∷ ys) a b f g =
      let s : x ≡ y = heads x xs y ys a b (f x (here x xs)) (g y (here y ys)) in
      ap (λ q. q ∷ xs) s
      ∙ ap (λ q. y ∷ q) (same_members xs ys (behind x xs a) (behind y ys b) (others x xs y ys s a f) (others y ys x xs (sym s) b g))

-- One feed.
module _ (one : (w : List ℕ) → IsSettled w) (holds : Holding) (root : Uri) where
  says_once : (uri : Uri) (bytes : List ℕ) (f g : Feed) → Says uri bytes f → Says uri bytes g → f ≡ g
  says_once uri bytes f g a b = a.3 ∙ ap (λ t. feed_of (element_view t) uri) ((one bytes).tree a.0 b.0 a.1 b.1) ∙ sym b.3

  pub read_once : (uri : Uri) (f g : Feed) → IsRead (Some holds) root uri f → IsRead (Some holds) root uri g → f ≡ g
  read_once uri f g a b =
      let P : Option (List ℕ) → Type 0 = λ h. MatchOption h ((uri ≢ root) × (f ≡ no_feed uri)) (λ bytes. (length bytes ≤ feed_limit) × Says uri bytes f) in
      by b.held (subst P (sym a.told_so ∙ b.told_so) a.means) b.means
    where
      by : (h : Option (List ℕ)) → MatchOption h ((uri ≢ root) × (f ≡ no_feed uri)) (λ bytes. (length bytes ≤ feed_limit) × Says uri bytes f)
          → MatchOption h ((uri ≢ root) × (g ≡ no_feed uri)) (λ bytes. (length bytes ≤ feed_limit) × Says uri bytes g) → f ≡ g
      by None u v = u.1 ∙ sym v.1
      by (Some bytes) u v = says_once uri bytes f g u.1 v.1

-- One interface.
pub listed-behind : (y : Uri) (xs ys : Uris) → listed y ys ≡ true → listed y (xs ++ ys) ≡ true
listed-behind y [] ys h = h
listed-behind y (x ∷ xs) ys h = listed-cons y x (xs ++ ys) (listed-behind y xs ys h)

module _ (req : Requirement) (p : Policy) (stored : Store) where
  pub over : (at now : Reading) (feeds : Uris) (i : Interface) → ((u : Uri) → Contains feeds u → at u ≡ now u) → IsInterface at req p stored feeds i → IsInterface now req p stored feeds i
  over at now feeds i h a =
      let P : List Uris → Type 0 = λ q. IsNamed i.uri q feeds in
      let Q : List Feed → Type 0 = λ q. AreCandidates req p stored i.uri q i.candidates in
      record {
        closed = subst P (map_same (λ u. imports_of p (at u)) (λ u. imports_of p (now u)) feeds (λ u c. ap (imports_of p) (h u c))) a.closed;
        candidates = subst Q (map_same at now feeds h) a.candidates;
      }

  pub each_over : (at now : Reading) (groups : List Uris) (is : List Interface) → ((u : Uri) → listed u (all_of groups) ≡ true → at u ≡ now u)
      → AllZip (IsInterface at req p stored) groups is → AllZip (IsInterface now req p stored) groups is
  each_over at now [] [] h z = tt
  each_over at now [] (i ∷ is) h z = absurd z
  each_over at now (g ∷ gs) [] h z = absurd z
  each_over at now (g ∷ gs) (i ∷ is) h z = (
    over at now g i (λ u c. h u (listed-append_left u g (all_of gs) (Contains-listed u g c))) z.0,
    each_over at now gs is (λ u l. h u (listed-behind u g (all_of gs) l)) z.1,
  )

  -- it is one of these feeds
  abbrev pub IsOne : Reading → Interface → Type 0
  IsOne at i = (feeds : Uris) × IsInterface at req p stored feeds i

  pub each_one : (at : Reading) (groups : List Uris) (is : List Interface) → AllZip (IsInterface at req p stored) groups is → (i : Interface) → Contains is i → IsOne at i
  each_one at [] [] z i c = absurd (none i c)
  each_one at [] (j ∷ js) z i c = absurd z
  each_one at (g ∷ gs) [] z i c = absurd z
  each_one at (g ∷ gs) (j ∷ js) z i c =
      let P : Interface → Type 0 = λ q. IsInterface at req p stored g q in
      elim (is_member j js i c) [ inl e ↦ (g, subst P (sym e) z.0) | inr d ↦ each_one at gs js z.1 i d ]

  pub same_one : RanksAreStrict → (at : Reading) (i j : Interface) → i.uri ≡ j.uri → IsOne at i → IsOne at j → i ≡ j
  same_one strict at i j e a b =
      let next : Uri → Uris = λ u. imports_of p (at u) in
      let P : Uri → Type 0 = λ q. IsNamed q (map next a.0) a.0 in
      let same : a.0 ≡ b.0 = closed_once j.uri next a.0 b.0 (subst P e a.1.closed) b.1.closed in
      let Q : Uri → Type 0 = λ q. AreCandidates req p stored q (map at a.0) i.candidates in
      let S : Uris → Type 0 = λ q. AreCandidates req p stored j.uri (map at q) i.candidates in
      let ci : AreCandidates req p stored j.uri (map at b.0) i.candidates = subst S same (subst Q e a.1.candidates) in
      let cj : AreCandidates req p stored j.uri (map at b.0) j.candidates = b.1.candidates in
      let offered : List Candidate = admitted req p stored j.uri (map at b.0) in
      let lists : i.candidates ≡ j.candidates =
      same_members Candidate (λ c d. Before p c.standing d.standing) (λ c. (strict p).never_itself c.standing) (λ c d k. (strict p).chain c.standing d.standing k.standing)
      i.candidates j.candidates ci.ranked cj.ranked
      (λ z m. Contains-permutation offered j.candidates z cj.same (Contains-permutation i.candidates offered z (IsPermutation-sym offered i.candidates ci.same) m))
      (λ z m. Contains-permutation offered i.candidates z ci.same (Contains-permutation j.candidates offered z (IsPermutation-sym offered j.candidates cj.same) m)) in
      let make : Uri → List Candidate → Interface = λ u cs. record { uri = u; candidates = cs } in
      ap (λ u. make u i.candidates) e ∙ ap (make j.uri) lists

-- What the interface of an address asks for.
abbrev pub asked_at : List Interface → Uri → Uris
asked_at [] u = []
asked_at (i ∷ is) u = if bytes_eq u i.uri then asked_by i else asked_at is u

module _ (Q : Interface → Type 0) (one : (i j : Interface) → i.uri ≡ j.uri → Q i → Q j → i ≡ j) where
  pub finds_asked : (is : List Interface) → ((i : Interface) → Contains is i → Q i) → (i : Interface) → Q i → Contains is i → asked_at is i.uri ≡ asked_by i
  finds_asked [] all i q c = absurd (none i c)
  finds_asked (x ∷ xs) all i q c = by (bytes_eq i.uri x.uri) refl (finds_asked xs (λ j m. all j (later x xs j m)) i q)
    where
      by : (b : Bool) → bytes_eq i.uri x.uri ≡ b → (Contains xs i → asked_at xs i.uri ≡ asked_by i) → asked_at (x ∷ xs) i.uri ≡ asked_by i
      by true s rest = ap (λ b. if b then asked_by x else asked_at xs i.uri) s ∙ ap asked_by (sym (one i x (bytes_eq-true i.uri x.uri s) q (all x (here x xs))))
      by false s rest =
          ap (λ b. if b then asked_by x else asked_at xs i.uri) s
          ∙ rest (elim (is_member x xs i c) [ inl e ↦ absurd (bytes_eq-false i.uri x.uri s (ap (λ k. k.uri) e)) | inr d ↦ d ])

  same_lists : (is js : List Interface) → ((i : Interface) → Contains is i → Q i) → ((i : Interface) → Contains js i → Q i) → uris_of is ≡ uris_of js → is ≡ js
  same_lists [] [] a b e = refl
  same_lists [] (j ∷ js) a b e = cc
  same_lists (i ∷ is) [] a b e = cc
  same_lists (i ∷ is) (j ∷ js) a b e =
      let s : i.uri ≡ j.uri = cc in
      let t : uris_of is ≡ uris_of js = cc in
      ap (λ q. q ∷ is) (one i j s (a i (here i is)) (b j (here j js)))
      ∙ ap (λ q. j ∷ q) (same_lists is js (λ k m. a k (later i is k m)) (λ k m. b k (later j js k m)) t)

pub asks_next : (next : Uri → Uris) (is : List Interface) → ((i : Interface) → Contains is i → next i.uri ≡ asked_by i) → map asked_by is ≡ map next (uris_of is)
asks_next next [] h = refl
asks_next next (i ∷ is) h =
    ap (λ q. q ∷ map asked_by is) (sym (h i (here i is))) ∙ ap (λ q. next i.uri ∷ q) (asks_next next is (λ j m. h j (later i is j m)))

-- the one reading where it has got, and the other elsewhere
abbrev pub both : Uris → Reading → Reading → Reading
both got first other u = if listed u got then first u else other u

module _ (strict : RanksAreStrict) (one : (w : List ℕ) → IsSettled w) (holds : Holding) (req : Requirement) (p : Policy) (stored : Store) (is js : List Interface)
    (a : Loads (Some holds) req p stored is) (b : Loads (Some holds) req p stored js) where
  abbrev at : Reading
  at = both (reached a.groups) a.at b.at

  agrees_a : (u : Uri) → listed u (all_of a.groups) ≡ true → a.at u ≡ at u
  agrees_a u l = sym (ap (λ t. if t then a.at u else b.at u) (listed-without_repeats u (all_of a.groups) ∙ l))

  agrees_b : (u : Uri) → listed u (all_of b.groups) ≡ true → b.at u ≡ at u
  agrees_b u l = by (listed u (reached a.groups)) refl
    where
      by : (t : Bool) → listed u (reached a.groups) ≡ t → b.at u ≡ at u
      by true s =
          read_once one holds req.interface u (b.at u) (a.at u)
          (b.read u (listed-Contains u (reached b.groups) (listed-without_repeats u (all_of b.groups) ∙ l))) (a.read u (listed-Contains u (reached a.groups) s))
          ∙ sym (ap (λ t. if t then a.at u else b.at u) s)
      by false s = sym (ap (λ t. if t then a.at u else b.at u) s)

  ones_a : (i : Interface) → Contains is i → IsOne req p stored at i
  ones_a = each_one req p stored at a.groups is (each_over req p stored a.at at a.groups is agrees_a a.universe.each)

  ones_b : (i : Interface) → Contains js i → IsOne req p stored at i
  ones_b = each_one req p stored at b.groups js (each_over req p stored b.at at b.groups js agrees_b b.universe.each)

  ones : (i : Interface) → Contains (is ++ js) i → IsOne req p stored at i
  ones i c = split is (λ j m. ones_a j m) c
    where
      split : (ks : List Interface) → ((j : Interface) → Contains ks j → IsOne req p stored at j) → Contains (ks ++ js) i → IsOne req p stored at i
      split [] f m = ones_b i m
      split (k ∷ ks) f m =
          let P : Interface → Type 0 = λ q. IsOne req p stored at q in
          elim (is_member k (ks ++ js) i m) [ inl e ↦ subst P (sym e) (f k (here k ks)) | inr d ↦ split ks (λ j n. f j (later k ks j n)) d ]

  once : (i j : Interface) → i.uri ≡ j.uri → IsOne req p stored at i → IsOne req p stored at j → i ≡ j
  once = same_one req p stored strict at

  closed_a : IsClosed req.interface (asked_at (is ++ js)) (uris_of is)
  closed_a =
      let P : List Uris → Type 0 = λ q. IsNamed req.interface q (uris_of is) in
      subst P (asks_next (asked_at (is ++ js)) is (λ i c. finds_asked (λ k. IsOne req p stored at k) once (is ++ js) ones i (ones_a i c) (Contains-append_left is js i c))) a.universe.named

  closed_b : IsClosed req.interface (asked_at (is ++ js)) (uris_of js)
  closed_b =
      let P : List Uris → Type 0 = λ q. IsNamed req.interface q (uris_of js) in
      subst P (asks_next (asked_at (is ++ js)) js (λ i c. finds_asked (λ k. IsOne req p stored at k) once (is ++ js) ones i (ones_b i c) (later_all is js i c))) b.universe.named

  same_universe : is ≡ js
  same_universe =
      same_lists (λ k. IsOne req p stored at k) once is js ones_a ones_b (closed_once req.interface (asked_at (is ++ js)) (uris_of is) (uris_of js) closed_a closed_b)

pub one_at_most : RanksAreStrict → ((w : List ℕ) → IsSettled w) → HasOneUniverse
one_at_most strict one holds req p stored is js a b = same_universe strict one holds req p stored is js a b
