-- Feeds that import nothing, of which the first alone asks for others: for all those behind it. They are loaded as a universe.
use Rattle.std.proofs.Common.{◌≡◌, ℕ, zero, suc, ◌+◌, ◌*◌, ◌<◌, ◌≤◌, Bool, false, List, [], ◌∷◌, ◌++◌, map, length, take, Option, refl, sym, ap, subst, ◌∙◌, arith, append_assoc}
use Rattle.std.specs.Prelude.{bytes_eq, Contains, filter, if◌then◌else◌}
use Rattle.std.specs.List.{AllZip, AllByRecursion}
use Rattle.std.proofs.lemmas.Bool.{or_parts}
use Rattle.std.proofs.lemmas.List.{append-nil, take_all, length-map, map-append}
use Rattle.std.proofs.lemmas.List.Elements.{All-contains, All-from_recursion}
use Rattle.std.proofs.lemmas.List.Sums.{sum_by-cons}
use Rattle.zi_policy.specs.declared.types.Policy.{Policy}
use Rattle.zi_policy.specs.Platform.{listed}
use Rattle.zi_parts.specs.declared.types.Import.{Import}
use Rattle.zi_feed.specs.declared.feed.Feed.{Feed}
use Rattle.zi_outside.specs.Views.{Holding}
use Rattle.zi_universe.specs.declared.types.Requirement.{Requirement}
use Rattle.zi_universe.specs.declared.types.Interface.{Interface}
use Rattle.zi_universe.specs.Naming.{Uri, Uris, joined, without_repeats, all_of, IsNamed}
use Rattle.zi_universe.specs.Candidates.{Store, is_followed, imports_of, AreCandidates, asked_by}
use Rattle.zi_universe.specs.Whole.{uris_of, candidates_in}
use Rattle.zi_universe.specs.Loading.{Reading, no_feed, IsRead, AreFeedsOf, IsInterface, reached, Loads}
use Rattle.zi_demo_laws.proofs.ApartLemmas.{AreApartFrom, same_itself, turned}
use Rattle.zi_demo_laws.proofs.CandidateLemmas.{own_candidates}

-- the interface of a feed
abbrev pub interface_of : Policy → Store → Feed → Interface
interface_of p stored f = record { uri = f.uri; candidates = own_candidates p stored f }

abbrev pub uris_in : List Feed → Uris
uris_in fs = map (λ (f : Feed). f.uri) fs

-- the feed at each address
abbrev pub at_of : List Feed → Uri → Feed
at_of [] uri = no_feed uri
at_of (f ∷ fs) uri = if bytes_eq f.uri uri then f else at_of fs uri

at_there : (before : List Feed) (f : Feed) (behind : List Feed) → listed f.uri (uris_in before) ≡ false → at_of (before ++ f ∷ behind) f.uri ≡ f
at_there [] f behind h = ap (λ b. if b then f else at_of behind f.uri) (same_itself f.uri)
at_there (g ∷ before) f behind h =
    let k = or_parts (bytes_eq f.uri g.uri) (listed f.uri (uris_in before)) h in
    ap (λ b. if b then g else at_of (before ++ f ∷ behind) f.uri) (turned f.uri g.uri k.0) ∙ at_there before f behind k.1

all_at : (before fs : List Feed) → AreApartFrom (uris_in before) (uris_in fs) → AllByRecursion (λ f. at_of (before ++ fs) f.uri ≡ f) fs
all_at before [] h = tt
all_at before (f ∷ fs) h =
    let joins : (before ++ f ∷ []) ++ fs ≡ before ++ (f ∷ fs) = append_assoc before (f ∷ []) fs in (
      at_there before f fs h.0,
      subst (λ v. AllByRecursion (λ g. at_of v g.uri ≡ g) fs) joins
          (all_at (before ++ f ∷ []) fs (subst (λ v. AreApartFrom v (uris_in fs)) (sym (map-append (λ (g : Feed). g.uri) before (f ∷ []))) h.1)),
    )

-- what is apart is joined as it is
joined_apart : (before xs : Uris) → AreApartFrom before xs → joined before xs ≡ before ++ xs
joined_apart before [] h = sym (append-nil before)
joined_apart before (x ∷ xs) h =
    ap (λ (b : Bool). joined (if b then before else before ++ x ∷ []) xs) h.0 ∙ (joined_apart (before ++ x ∷ []) xs h.1 ∙ append_assoc before (x ∷ []) xs)

-- those that import nothing
abbrev groups_of : List Feed → List Uris
groups_of fs = map (λ (f : Feed). f.uri ∷ []) fs

all_of_groups : (fs : List Feed) → all_of (groups_of fs) ≡ uris_in fs
all_of_groups [] = refl
all_of_groups (f ∷ fs) = ap (λ v. f.uri ∷ v) (all_of_groups fs)

reaches : (fs : List Feed) → AreApartFrom [] (uris_in fs) → reached (groups_of fs) ≡ uris_in fs
reaches fs h = ap without_repeats (all_of_groups fs) ∙ joined_apart [] (uris_in fs) h

one_named : (uri : Uri) (named : List Uris) → length named ≡ 1 → all_of named ≡ [] → IsNamed uri named (uri ∷ [])
one_named uri named one none = record {
  are = ap (λ v. without_repeats (uri ∷ v)) (sym none);
  in_turn = λ k lt. turn k lt;
}
  where
    turn : (k : ℕ) → k < length named → k < length (without_repeats (uri ∷ all_of (take k named)))
    turn zero lt = omega arith
    turn (suc k) lt = absurd (omega arith)

-- a feed that was read at its address, which imports nothing, and has these candidates for its interface
pub record IsReady (told : Option Holding) (req : Requirement) (p : Policy) (stored : Store) (f : Feed) : Type 0 where
  pub read : IsRead told req.interface f.uri f
  pub imports : f.imports ≡ []
  pub candidates : AreCandidates req p stored f.uri (f ∷ []) (own_candidates p stored f)
  pub few : length (own_candidates p stored f) ≤ 3

closed_alone : (p : Policy) (at : Reading) (f : Feed) → at f.uri ≡ f → f.imports ≡ [] → AreFeedsOf at p f.uri (f.uri ∷ [])
closed_alone p at f e none =
    let nothing : imports_of p (at f.uri) ≡ [] = ap (imports_of p) e ∙ ap (λ v. map (λ (m : Import). m.uri) (filter (is_followed p) v)) none in
    one_named f.uri (imports_of p (at f.uri) ∷ []) refl (append-nil (imports_of p (at f.uri)) ∙ nothing)

module _ (told : Option Holding) (req : Requirement) (p : Policy) (stored : Store) where
  are_interfaces : (at : Reading) (fs : List Feed) → AllByRecursion (λ f. at f.uri ≡ f) fs → AllByRecursion (IsReady told req p stored) fs
      → AllZip (IsInterface at req p stored) (groups_of fs) (map (interface_of p stored) fs)
  are_interfaces at [] e h = tt
  are_interfaces at (f ∷ fs) e h = (
    record { closed = closed_alone p at f e.0 h.0.imports; candidates = subst (λ (g : Feed). AreCandidates req p stored f.uri (g ∷ []) (own_candidates p stored f)) (sym e.0) h.0.candidates },
    are_interfaces at fs e.1 h.1,
  )

  all_read : (at : Reading) (fs : List Feed) → AllByRecursion (λ f. at f.uri ≡ f) fs → AllByRecursion (IsReady told req p stored) fs → AllByRecursion (λ uri. IsRead told req.interface uri (at uri)) (uris_in fs)
  all_read at [] e h = tt
  all_read at (f ∷ fs) e h = (subst (IsRead told req.interface f.uri) (sym e.0) h.0.read, all_read at fs e.1 h.1)

  few_each : (fs : List Feed) → AllByRecursion (IsReady told req p stored) fs → candidates_in (map (interface_of p stored) fs) ≤ 3 * length fs
  few_each [] h = omega arith
  few_each (f ∷ fs) h =
      let s : candidates_in (map (interface_of p stored) (f ∷ fs)) ≡ length (own_candidates p stored f) + candidates_in (map (interface_of p stored) fs) =
      sum_by-cons (λ (i : Interface). length i.candidates) (interface_of p stored f) (map (interface_of p stored) fs) in
      let rest : candidates_in (map (interface_of p stored) fs) ≤ 3 * length fs = few_each fs h.1 in
      let one : length (own_candidates p stored f) ≤ 3 = h.0.few in
      omega arith

uris_are : (p : Policy) (stored : Store) (fs : List Feed) → uris_of (map (interface_of p stored) fs) ≡ uris_in fs
uris_are p stored [] = refl
uris_are p stored (f ∷ fs) = ap (λ v. f.uri ∷ v) (uris_are p stored fs)

-- lists that are empty
nothing_of : (xss : List Uris) → AllByRecursion (λ xs. xs ≡ []) xss → all_of xss ≡ []
nothing_of [] h = refl
nothing_of (xs ∷ xss) h = ap (λ v. v ++ all_of xss) h.0 ∙ nothing_of xss h.1

taken_empty : (k : ℕ) (xss : List Uris) → AllByRecursion (λ xs. xs ≡ []) xss → AllByRecursion (λ xs. xs ≡ []) (take k xss)
taken_empty zero xss h = tt
taken_empty (suc k) [] h = tt
taken_empty (suc k) (xs ∷ xss) h = (h.0, taken_empty k xss h.1)

-- The first names all behind it, and they name none.
all_named : (first : Uri) (xs : Uris) (named : List Uris) → AreApartFrom [] (first ∷ xs) → length named ≡ length xs → AllByRecursion (λ ys. ys ≡ []) named
    → IsNamed first (xs ∷ named) (first ∷ xs)
all_named first xs named apart same empty = record { are = sym (whole named empty); in_turn = turn }
  where
    whole : (others : List Uris) → AllByRecursion (λ ys. ys ≡ []) others → without_repeats (first ∷ all_of (xs ∷ others)) ≡ first ∷ xs
    whole others none = ap (λ v. without_repeats (first ∷ (xs ++ v))) (nothing_of others none) ∙ (ap (λ v. without_repeats (first ∷ v)) (append-nil xs) ∙ joined_apart [] (first ∷ xs) apart)

    turn : (k : ℕ) → k < length (xs ∷ named) → k < length (without_repeats (first ∷ all_of (take k (xs ∷ named))))
    turn zero lt = omega arith
    turn (suc k) lt = subst (λ (v : Uris). suc k < length v) (sym (whole (take k named) (taken_empty k named empty))) (omega arith)

abbrev ask_none : Policy → Store → List Feed → Type 0
ask_none p stored fs = AllByRecursion (λ f. asked_by (interface_of p stored f) ≡ []) fs

none_asked : (p : Policy) (stored : Store) (fs : List Feed) → ask_none p stored fs → AllByRecursion (λ ys. ys ≡ []) (map asked_by (map (interface_of p stored) fs))
none_asked p stored [] h = tt
none_asked p stored (f ∷ fs) h = (h.0, none_asked p stored fs h.1)

-- The whole.
pub loads : (told : Option Holding) (req : Requirement) (p : Policy) (stored : Store) (root : Feed) (others : List Feed)
    → req.interface ≡ root.uri → AreApartFrom [] (uris_in (root ∷ others)) → length others < 4096 → AllByRecursion (IsReady told req p stored) (root ∷ others)
    → asked_by (interface_of p stored root) ≡ uris_in others → ask_none p stored others
    → Loads told req p stored (map (interface_of p stored) (root ∷ others))
loads told req p stored root others is_root apart few ready asks none =
    let fs : List Feed = root ∷ others in
    let is : List Interface = map (interface_of p stored) fs in
    let at : Reading = at_of fs in
    let there = all_at [] fs apart in
    let r : reached (groups_of fs) ≡ uris_in fs = reaches fs apart in
    let names : uris_of is ≡ uris_in fs = uris_are p stored fs in
    let long : length (uris_in fs) ≡ length fs = length-map fs (λ (f : Feed). f.uri) in
    let count : length (map asked_by (map (interface_of p stored) others)) ≡ length (uris_in others) =
    length-map (map (interface_of p stored) others) asked_by ∙ (length-map others (interface_of p stored) ∙ sym (length-map others (λ (f : Feed). f.uri))) in
    let named : IsNamed root.uri (uris_in others ∷ map asked_by (map (interface_of p stored) others)) (uris_in fs) =
    all_named root.uri (uris_in others) (map asked_by (map (interface_of p stored) others)) apart count (none_asked p stored others none) in
    let came : IsNamed req.interface (map asked_by is) (uris_of is) =
    subst (λ v. IsNamed v (map asked_by is) (uris_of is)) (sym is_root)
    (subst (λ v. IsNamed root.uri (map asked_by is) v) (sym names) (subst (λ v. IsNamed root.uri (v ∷ map asked_by (map (interface_of p stored) others)) (uris_in fs)) (sym asks) named)) in
    let size : length is ≡ length fs = length-map fs (interface_of p stored) in
    let wide : length (uris_of is) ≡ length is = length-map is (λ (i : Interface). i.uri) in
    let short : candidates_in is ≤ 3 * length fs = few_each told req p stored fs ready in
    let reach : length (reached (groups_of fs)) ≡ length fs = ap length r ∙ long in
    record {
      at = at;
      groups = groups_of fs;
      universe = record {
        named = came;
        in_turn = sym (take_all (length is) (uris_of is) (omega arith));
        each = are_interfaces told req p stored at fs there ready;
        few_feeds = omega arith;
        few_candidates = omega arith;
        few_interfaces = omega arith;
      };
      read = λ uri c. All-contains (λ u. IsRead told req.interface u (at u)) (uris_in fs) uri
          (All-from_recursion (λ u. IsRead told req.interface u (at u)) (uris_in fs) (all_read told req p stored at fs there ready)) (subst (λ v. Contains v uri) r c);
    }
