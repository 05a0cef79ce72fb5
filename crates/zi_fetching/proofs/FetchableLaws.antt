-- What the best choice selects and isn't there can be fetched: a candidate that is neither local nor a package nor stored has a digest and a
-- method. And what is selected names the package that its candidate is.
use Rattle.std.proofs.Common.{◌≡◌, ◌≢◌, ℕ, zero, suc, ◌+◌, ◌<◌, Bool, true, false, not, ◌&&◌, ◌||◌, cond, List, [], ◌∷◌, length, map, filter, Option, Some, None, IsSome, is_some, is_none, refl, sym, ◌∙◌, ap, subst, arith, All, slice_get, slice_index_or, flat_map, option_to_list, option_map, bytes_eq, option_and_then, codes}
use Rattle.std.specs.List.{list_any, position_from, AllZip, enumerate_from}
use Rattle.std.proofs.lemmas.List.Elements.{All-nil, All-cons, All-head, All-tail, All-append}
use Rattle.std.proofs.lemmas.List.Sorted.{All-permutation}
use Rattle.std.proofs.lemmas.Slice.Eq.{bytes_eq-Decides}
use Rattle.std.proofs.lemmas.Bool.{and_parts, or_parts}
use Rattle.zi_digest.specs.declared.DigestName.{DigestName}
use Rattle.zi_digest.specs.Name.{spelling}
use Rattle.zi_outside.specs.Views.{Feeding}
use Rattle.zi_policy.specs.declared.types.Policy.{Policy}
use Rattle.zi_rank.specs.declared.types.Origin.TheVariants as origin
use Rattle.zi_rank.specs.declared.types.WhyNot.{WhyNot}
use Rattle.zi_rank.specs.declared.types.WhyNot.TheVariants as why
use Rattle.zi_rank.specs.Reasons.{why_not, first_reason, is_shunned, machine_of, runs_on, is_package, is_installed, is_at_hand, is_off}
use Rattle.zi_reading.specs.Words.{first}
use Rattle.zi_feed.specs.Active.{active_part}
use Rattle.zi_feed.specs.declared.feed.Feed.{Feed}
use Rattle.zi_parts.specs.declared.types.Impl.{Impl}
use Rattle.zi_parts.specs.declared.types.Package.{Package}
use Rattle.zi_words.specs.declared.request.Ask.{Ask}
use Rattle.zi_universe.specs.declared.types.Requirement.{Requirement}
use Rattle.zi_universe.specs.declared.types.Candidate.{Candidate}
use Rattle.zi_universe.specs.declared.types.Interface.{Interface}
use Rattle.zi_universe.specs.Naming.{Uri, Uris, AreApart, all_of}
use Rattle.zi_universe.specs.Candidates.{Store, has_items, is_stored, origin_of, standing_of, candidate_of, within_limits, is_admitted, all_impls, admitted_by, admitted}
use Rattle.zi_universe.specs.Whole.{uris_of, IsWhole}
use Rattle.zi_universe.specs.Loading.{names_of as stored_names, Reading, IsInterface}
use Rattle.zi_universe.proofs.NamingLemmas.{listed-without_repeats, bytes_eq-refl}
use Rattle.zi_choice.specs.Choice.{Choice, chosen, number, pick, candidate_at}
use Rattle.zi_choice.specs.Walk.{Walk}
use Rattle.zi_sels.specs.declared.types.Selection.{Selection}
use Rattle.zi_sels.specs.Chosen.{selection_by, selected_at, selected_from, selected}
use Rattle.zi_choosing.specs.declared.chosen.Chosen.{Chosen}
use Rattle.zi_choosing.specs.Finding.{IsChosen}
use Rattle.zi_choosing.specs.Knowing.{all_names}
use Rattle.zi_fetching.specs.Known.{is_known}
use Rattle.zi_fetching.specs.Fetching.{From, from_chosen, candidate_of as candidate_from, package_of, method_of, IsFetchable, names_in}
use Rattle.zi_choice.proofs.Base.{all_at as get_all}

-- A candidate that is neither local nor a package nor stored has a digest and a method.
pub record IsObtainable (stored : Store) (c : Candidate) : Type 0 where
  pub digests : is_some c.imp.local ≡ false → is_some c.imp.«package» ≡ false → list_any (λ d. stored.trees (spelling d)) c.imp.digests ≡ false → IsSome (first c.imp.digests)
  pub methods : is_some c.imp.local ≡ false → is_some c.imp.«package» ≡ false → list_any (λ d. stored.trees (spelling d)) c.imp.digests ≡ false → IsSome (first c.imp.methods)

first_of : {X : Type 0} (xs : List X) → has_items xs ≡ true → IsSome (first xs)
first_of [] h = absurd cc
first_of (x ∷ xs) h = refl

-- no reason stands against it, so the fourth doesn't
fourth_fails : (a b c d : Bool) (v w x y : WhyNot) (rest : List (Bool × WhyNot)) → first_reason ((a, v) ∷ (b, w) ∷ (c, x) ∷ (d, y) ∷ rest) ≡ None → d ≡ false
fourth_fails true b c d v w x y rest e = absurd cc
fourth_fails false true c d v w x y rest e = absurd cc
fourth_fails false false true d v w x y rest e = absurd cc
fourth_fails false false false true v w x y rest e = absurd cc
fourth_fails false false false false v w x y rest e = refl

gettable : (stored local got : Bool) → not ((stored || local || is_installed origin.Feed) || got || is_package origin.Feed) ≡ false → stored ≡ false → local ≡ false → got ≡ true
gettable stored local true h s l = refl
gettable true local false h s l = absurd cc
gettable false true false h s l = absurd cc
gettable false false false h s l = absurd cc

none_by : {X : Type 0} (o : Option X) → is_some o ≡ false → o ≡ None
none_by None h = refl
none_by (Some x) h = absurd cc

reachable : (p : Policy) (st : Store) (interface feed : Uri) (place : ℕ) (i : Impl) → why_not p (standing_of p st interface feed place i) ≡ None
    → is_some i.local ≡ false → is_some i.«package» ≡ false → list_any (λ d. st.trees (spelling d)) i.digests ≡ false → (has_items i.digests && has_items i.methods) ≡ true
unfolding why_not standing_of is_stored
reachable p st interface feed place i e local none stored =
    let s = standing_of p st interface feed place i in
    let is_there : Bool = list_any (λ d. st.trees (spelling d)) i.digests in
    let got : Bool = has_items i.digests && has_items i.methods in
    gettable is_there (is_some i.local) got
    (subst (λ (o : Option Package). not ((is_there || is_some i.local || is_installed (origin_of o)) || got || is_package (origin_of o)) ≡ false) (none_by i.«package» none)
    (fourth_fails (is_shunned s.stability) (bytes_eq (machine_of s.arch) (codes "src")) (not (runs_on p s)) _ why.Stability why.Source why.Arch why.Unreachable
    ((is_off p.network && not (is_at_hand s), why.Offline) ∷ []) e))
    stored local

of_part : (p : Policy) (st : Store) (interface feed : Uri) (place : ℕ) (i : Impl) → why_not p (standing_of p st interface feed place i) ≡ None → IsObtainable st (candidate_of p st interface feed place i)
unfolding active_part
of_part p st interface feed place i e = record {
  digests = λ l n s. first_of i.digests (and_parts (has_items i.digests) (has_items i.methods) (reachable p st interface feed place i e l n s)).0;
  methods = λ l n s. first_of i.methods (and_parts (has_items i.digests) (has_items i.methods) (reachable p st interface feed place i e l n s)).1;
}

admitted_none : (req : Requirement) (p : Policy) (interface : Uri) (c : Candidate) → is_admitted req p interface c ≡ true → why_not p c.standing ≡ None
admitted_none req p interface c h = none_by (why_not p c.standing) (within_limits req.limits interface c.standing.version) h
  where
    none_by : (o : Option WhyNot) (b : Bool) → (is_none o && b) ≡ true → o ≡ None
    none_by None b h = refl
    none_by (Some w) b h = absurd cc

-- what is kept of a list that a function gives
all_kept : {X Y : Type 0} (P : Y → Type 0) (test : Y → Bool) (g : X → Y) (xs : List X) → ((x : X) → test (g x) ≡ true → P (g x)) → All P (filter test (map g xs))
all_kept P test g [] h = All-nil P
all_kept P test g (x ∷ xs) h = by (test (g x)) refl (all_kept P test g xs h)
  where
    by : (b : Bool) → test (g x) ≡ b → All P (filter test (map g xs)) → All P (cond b (g x ∷ filter test (map g xs)) (filter test (map g xs)))
    by true e r = All-cons P (g x) (filter test (map g xs)) (h x e) r
    by false e r = r

all_flat : {X Y : Type 0} (P : Y → Type 0) (f : X → List Y) (xs : List X) → ((x : X) → All P (f x)) → All P (flat_map f xs)
all_flat P f [] h = All-nil P
all_flat P f (x ∷ xs) h = All-append P (f x) (flat_map f xs) (h x) (all_flat P f xs h)

all_admitted : (req : Requirement) (p : Policy) (st : Store) (interface : Uri) (feeds : List Feed) → All (IsObtainable st) (admitted req p st interface feeds)
all_admitted req p st interface feeds =
    all_flat (IsObtainable st) (admitted_by req p st interface) feeds
    (λ f. all_kept (IsObtainable st) (is_admitted req p interface) (λ (q : ℕ × Impl). candidate_of p st interface f.uri q.0 q.1) (enumerate_from 0 (all_impls st.packages f))
    (λ q e. of_part p st interface f.uri q.0 q.1 (admitted_none req p interface (candidate_of p st interface f.uri q.0 q.1) e)))

-- the interface at a place has such candidates
at_place : (at : Reading) (req : Requirement) (p : Policy) (st : Store) (groups : List Uris) (is : List Interface) (k : ℕ) (i : Interface)
    → AllZip (IsInterface at req p st) groups is → slice_get is k ≡ Some i → All (IsObtainable st) i.candidates
at_place at req p st [] [] k i z e = absurd cc
at_place at req p st [] (y ∷ ys) k i z e = absurd z
at_place at req p st (g ∷ gs) [] k i z e = absurd z
at_place at req p st (g ∷ gs) (y ∷ ys) zero i z e =
    subst (λ (x : Interface). All (IsObtainable st) x.candidates) (some_same y i e)
    (All-permutation (IsObtainable st) (admitted req p st y.uri (map at g)) y.candidates z.0.candidates.same (all_admitted req p st y.uri (map at g)))
  where
    some_same : (x y : Interface) → ◌≡◌ {A = Option Interface} (Some x) (Some y) → x ≡ y
    some_same x y e = cc
at_place at req p st (g ∷ gs) (y ∷ ys) (suc k) i z e = at_place at req p st gs ys k i z.1 e

-- The number of an address.

bytes_other : (x y : Uri) → x ≢ y → bytes_eq x y ≡ false
bytes_other x y ne =
    elim (bytes_eq x y) as (λ b. (b ≡ true → x ≡ y) → b ≡ false) [ true ↦ λ h. absurd (ne (h refl)) | false ↦ λ h. refl ] (bytes_eq-Decides x y).0

at_place_of : (xs : Uris) (k : ℕ) (y : Uri) → slice_get xs k ≡ Some y → (k < length xs) × (slice_index_or xs k y ≡ y)
at_place_of [] k y e = absurd cc
at_place_of (x ∷ xs) zero y e = (omega arith, cc)
at_place_of (x ∷ xs) (suc k) y e = let r = at_place_of xs k y e in (omega (arith, r.0), r.1)

apart_from : (xs : Uris) (k : ℕ) (y x : Uri) → AreApart (x ∷ xs) → slice_get xs k ≡ Some y → x ≢ y
apart_from xs k y x a e q =
    let r = at_place_of xs k y e in
    a 0 (suc k) y (omega arith) (omega (arith, r.0)) (q ∙ sym r.1)

place_found : (xs : Uris) (n k : ℕ) (y : Uri) → AreApart xs → slice_get xs k ≡ Some y → position_from (bytes_eq y) n xs ≡ Some (n + k)
place_found [] n k y a e = absurd cc
place_found (x ∷ xs) n zero y a e =
    let s : x ≡ y = cc in
    let t : bytes_eq y x ≡ true = subst (λ z. bytes_eq y z ≡ true) (sym s) (bytes_eq-refl y) in
    let m : n ≡ n + 0 = omega arith in
    rw t (ap (λ z. Some z) m)
place_found (x ∷ xs) n (suc k) y a e =
    let t : bytes_eq y x ≡ false = bytes_other y x (λ q. apart_from xs k y x a e (sym q)) in
    let m : n + 1 + k ≡ n + suc k = omega arith in
    rw t (place_found xs (n + 1) k y (λ i j d lt inside. a (suc i) (suc j) d (omega (arith, lt)) (omega (arith, inside))) e ∙ ap (λ z. Some z) m)

uri_at : (u : List Interface) (k : ℕ) (i : Interface) → slice_get u k ≡ Some i → slice_get (uris_of u) k ≡ Some i.uri
uri_at [] k i e = absurd cc
uri_at (x ∷ xs) zero i e = ap (option_map (λ (y : Interface). y.uri)) e
uri_at (x ∷ xs) (suc k) i e = uri_at xs k i e

number_at : (u : List Interface) (k : ℕ) (i : Interface) → AreApart (uris_of u) → slice_get u k ≡ Some i → number u i.uri ≡ Some k
number_at u k i a e =
    let m : 0 + k ≡ k = omega arith in
    place_found (uris_of u) 0 k i.uri a (uri_at u k i e) ∙ ap (λ n. Some n) m

-- Selections, by what is chosen for each interface.
chosen_at : (u : List Interface) (s : Choice) (k : ℕ) (i : Interface) (c : Candidate) → slice_get u k ≡ Some i → chosen u s k ≡ Some c → (n : ℕ) × (slice_get i.candidates n ≡ Some c)
chosen_at u s k i c at e = by (pick s k) e
  where
    by : (o : Option ℕ) → option_and_then (λ n. candidate_at u k n) o ≡ Some c → (n : ℕ) × (slice_get i.candidates n ≡ Some c)
    by None e = absurd cc
    by (Some n) e = (n, subst (λ o. option_and_then (λ (x : Interface). slice_get x.candidates n) o ≡ Some c) at e)

module _ (P : Selection → Type 0) (u : List Interface) (s : Choice) (w : Walk) where
  abbrev Gives : ℕ → List Interface → Type 0
  Gives i xs = (k : ℕ) (x : Interface) (c : Candidate) → slice_get xs k ≡ Some x → chosen u s (i + k) ≡ Some c → P (selection_by u s w (i + k) x.uri c)

  all_at : (i : ℕ) (x : Interface) (xs : List Interface) → Gives i (x ∷ xs) → (o : Option Candidate) → chosen u s i ≡ o → All P (option_to_list (option_map (selection_by u s w i x.uri) o))
  all_at i x xs h None e = All-nil P
  all_at i x xs h (Some c) e =
      let z : i + 0 ≡ i = omega arith in
      All-cons P _ [] (subst (λ n. P (selection_by u s w n x.uri c)) z (h 0 x c refl (subst (λ n. chosen u s n ≡ Some c) (sym z) e))) (All-nil P)

  all_from : (i : ℕ) (xs : List Interface) → Gives i xs → All P (selected_from u s w i xs)
  all_from i [] h = All-nil P
  all_from i (x ∷ xs) h =
      All-append P (selected_at u s w i x) (selected_from u s w (i + 1) xs) (all_at i x xs h (chosen u s i) refl)
      (all_from (i + 1) xs (λ k y c at e.
      let z : i + 1 + k ≡ i + suc k = omega arith in
      subst (λ n. P (selection_by u s w n y.uri c)) (sym z) (h (suc k) y c at (subst (λ n. chosen u s n ≡ Some c) z e))))

-- a selection of a candidate that can be got
any_same : (p q : DigestName → Bool) (xs : List DigestName) → ((d : DigestName) → p d ≡ q d) → list_any p xs ≡ list_any q xs
any_same p q [] h = refl
any_same p q (x ∷ xs) h = ap (λ b. b || list_any p xs) (h x) ∙ ap (λ b. q x || b) (any_same p q xs h)

-- the candidate that is chosen for an interface, by its number
picked_at : (c : Chosen) (k : ℕ) (i : Interface) (x : Candidate) → IsWhole c.universe → slice_get c.universe k ≡ Some i → chosen c.universe c.choice.picks k ≡ Some x
    → candidate_from (from_chosen c) i.uri ≡ Some x
picked_at c k i x whole at e = ap (option_and_then (chosen c.universe c.choice.picks)) (number_at c.universe k i whole.apart at) ∙ e

some_mapped : {X Y : Type 0} (f : X → Y) (o : Option X) → is_some (option_map f o) ≡ is_some o
some_mapped f None = refl
some_mapped f (Some x) = refl

selection_fetchable : (c : Chosen) (w : Walk) (k : ℕ) (i : Interface) (x : Candidate) → IsWhole c.universe → slice_get c.universe k ≡ Some i → chosen c.universe c.choice.picks k ≡ Some x
    → IsObtainable (stored_names (all_names c.known.each) c.known.packages) x → IsFetchable (from_chosen c) (names_in c) (selection_by c.universe c.choice.picks w k i.uri x)
unfolding selection_by
selection_fetchable c w k i x whole at e o = record {
  way = λ h. let n = wanting h in
      subst (λ m. IsSome m) (sym by_method) (o.methods n.0 n.1 n.2);
  named = λ h. let n = wanting h in o.digests n.0 n.1 n.2;
}
  where
    trees : DigestName → Bool
    trees d = (stored_names (all_names c.known.each) c.known.packages).trees (spelling d)

    wanting : (is_some x.imp.local || is_some (option_map (λ (p : Package). p.name) x.imp.«package») || list_any (is_known (names_in c)) x.imp.digests) ≡ false
        → (is_some x.imp.local ≡ false) × (is_some x.imp.«package» ≡ false) × (list_any trees x.imp.digests ≡ false)
    wanting h =
        let n = or_parts (is_some x.imp.local || is_some (option_map (λ (p : Package). p.name) x.imp.«package»)) (list_any (is_known (names_in c)) x.imp.digests) h in
        let m = or_parts (is_some x.imp.local) (is_some (option_map (λ (p : Package). p.name) x.imp.«package»)) n.0 in (
          m.0,
          sym (some_mapped (λ (p : Package). p.name) x.imp.«package») ∙ m.1,
          any_same trees (is_known (names_in c)) x.imp.digests (λ d. sym (listed-without_repeats (spelling d) (map spelling (all_names c.known.each)))) ∙ n.1,
        )

    by_method : method_of (from_chosen c) i.uri ≡ first x.imp.methods
    by_method = ap (option_and_then (λ (y : Candidate). first y.imp.methods)) (picked_at c k i x whole at e)

-- what is so of each selection of a candidate is so of all that are selected
module _ (P : Selection → Type 0) (ask : Ask) (before after : Feeding) (c : Chosen) (is : IsChosen ask before c after) where
  all_chosen : ((k : ℕ) (i : Interface) (x : Candidate) → slice_get c.universe k ≡ Some i → chosen c.universe c.choice.picks k ≡ Some x → P (selection_by c.universe c.choice.picks is.selected.walk k i.uri x))
      → All P c.sels.items
  all_chosen h =
      All-permutation P (selected c.universe c.choice.picks is.selected.walk) c.sels.items is.selected.same
      (all_from P c.universe c.choice.picks is.selected.walk 0 c.universe (λ k i x at e.
      let z : 0 + k ≡ k = omega arith in
      subst (λ m. P (selection_by c.universe c.choice.picks is.selected.walk m i.uri x)) (sym z) (h k i x at (subst (λ n. chosen c.universe c.choice.picks n ≡ Some x) z e))))

-- All that is selected can be fetched, if it isn't there.
pub all_fetchable : (ask : Ask) (before after : Feeding) (c : Chosen) → IsWhole c.universe → IsChosen ask before c after → All (IsFetchable (from_chosen c) (names_in c)) c.sels.items
all_fetchable ask before after c whole is =
    let loads = is.loaded.loads in
    let st = stored_names (all_names c.known.each) c.known.packages in
    all_chosen (IsFetchable (from_chosen c) (names_in c)) ask before after c is
    (λ k i x at e.
    let n = chosen_at c.universe c.choice.picks k i x at e in
    selection_fetchable c is.selected.walk k i x whole at e
    (get_all (IsObtainable st) i.candidates n.0 x (at_place loads.at _ _ st loads.groups c.universe k i loads.universe.each at) n.1))

-- What is selected names the package that its candidate is.
abbrev pub IsNamedAs : From → Selection → Type 0
IsNamedAs on x = x.«package» ≡ option_map (λ (p : Package). p.name) (package_of on x.interface)

selection_named : (c : Chosen) (w : Walk) (k : ℕ) (i : Interface) (x : Candidate) → IsWhole c.universe → slice_get c.universe k ≡ Some i → chosen c.universe c.choice.picks k ≡ Some x
    → IsNamedAs (from_chosen c) (selection_by c.universe c.choice.picks w k i.uri x)
unfolding selection_by
selection_named c w k i x whole at e = sym (ap (λ o. option_map (λ (p : Package). p.name) (option_and_then (λ (y : Candidate). y.imp.«package») o)) (picked_at c k i x whole at e))

pub all_named : (ask : Ask) (before after : Feeding) (c : Chosen) → IsWhole c.universe → IsChosen ask before c after → All (IsNamedAs (from_chosen c)) c.sels.items
all_named ask before after c whole is =
    all_chosen (IsNamedAs (from_chosen c)) ask before after c is (λ k i x at e. selection_named c is.selected.walk k i x whole at e)
