-- The candidates that the implementations of a row are, under a policy without overrides: all may be used, and they are in the order
-- of rank.
use Rattle.std.proofs.Common.{◌≡◌, ℕ, zero, suc, ◌+◌, ◌<◌, Bool, true, false, cond, ◌&&◌, ◌||◌, List, [], ◌∷◌, ◌++◌, map, length, get_or, codes, Option, Some, None, refl, sym, ap, subst, ◌∙◌, arith}
use Rattle.std.specs.Prelude.{min, not, filter, is_none, is_some, bytes_eq, option_map, unwrap_or, find, AllPairs, if◌then◌else◌, IsPermutation}
use Rattle.std.specs.List.{AllZip, AllByRecursion, flat_map, position_from}
use Rattle.std.specs.Ordering.{nat_cmp, bool_cmp, ordering_then}
use Rattle.std.specs.declared.cmp.Ordering.TheVariants.{Less, Equal}
use Rattle.std.specs.Cmp.{nat_cmp_is}
use Rattle.std.proofs.lemmas.List.{append-nil}
use Rattle.std.proofs.lemmas.List.Sorted.{IsPermutation-refl}
use Rattle.zi_version.specs.Value.{value}
use Rattle.zi_policy.specs.declared.types.Policy.{Policy}
use Rattle.zi_policy.specs.declared.types.Override.{Override}
use Rattle.zi_policy.specs.declared.types.Stability.TheVariants.{Testing}
use Rattle.zi_policy.specs.Platform.{any, listed, os_list, os_place, machine_list, machine_place, is_active}
use Rattle.zi_rank.specs.declared.types.Standing.{Standing}
use Rattle.zi_rank.specs.declared.types.Origin.TheVariants as origin
use Rattle.zi_rank.specs.declared.types.WhyNot.{WhyNot}
use Rattle.zi_rank.specs.Languages.{language_place}
use Rattle.zi_rank.specs.declared.types.WhyNot.TheVariants as why
use Rattle.zi_rank.specs.Reasons.{is_off, why_not}
use Rattle.zi_rank.specs.Rank.{rank_cmp, Before, is_full, level_of}
use Rattle.zi_parts.specs.declared.types.Dep.{Dep}
use Rattle.zi_parts.specs.declared.types.Impl.{Impl}
use Rattle.zi_packages.specs.declared.types.Packages.{Packages}
use Rattle.zi_packages.specs.Natives.{with_rows}
use Rattle.zi_feed.specs.declared.feed.Feed.{Feed}
use Rattle.zi_feed.specs.Active.{active_deps, active_part}
use Rattle.zi_universe.specs.declared.types.Limit.{Limit}
use Rattle.zi_universe.specs.declared.types.Requirement.{Requirement}
use Rattle.zi_universe.specs.declared.types.Candidate.{Candidate}
use Rattle.zi_universe.specs.Naming.{Uri, Uris}
use Rattle.zi_universe.specs.Candidates.{Store, standing_of, is_stored, stability_of, candidate_of, offered_from, all_impls, within_limits, is_admitted, admitted_by, admitted, AreRanked, AreCandidates, asked, asked_by_command, asked_by_impl, asked_by_all}
use Rattle.zi_demo.specs.Feeds.{address}
use Rattle.zi_demo_laws.proofs.RowLemmas.{Piece, Need, Bound, Version, Row, bounds}
use Rattle.zi_demo_laws.proofs.PieceLemmas.{dep_by}
use Rattle.zi_demo_laws.proofs.VersionLemmas.{folder, impl_by}
use Rattle.zi_demo_laws.proofs.FeedLemmas.{digit_of, IsImplOf, IsFeedOf}

-- where a version stands in the rank: its number, its feed, and its place there
abbrev pub standing_at : List ℕ → Uri → ℕ → Standing
standing_at t feed place = record {
  version = t;
  id = 118 ∷ t;
  feed = feed;
  place = place;
  arch = None;
  langs = [];
  stability = Testing;
  local = true;
  stored = false;
  retrievable = false;
  origin = origin.Feed;
}

-- the candidate of a version in the feed of an address
pub record IsCandidateOf (feed : Uri) (v : Version) (c : Candidate) : Type 0 where
  pub place : ℕ
  pub standing : c.standing ≡ standing_at (digit_of v ∷ []) feed place
  pub version : c.imp.version ≡ digit_of v ∷ []
  pub arch : c.imp.arch ≡ None
  pub deps : c.imp.deps ≡ map dep_by v.says
  pub commands : c.imp.commands ≡ []

-- Platforms: any is run by all.

found_in : (t : List ℕ) (ts : List (List ℕ)) (i : ℕ) → listed t ts ≡ true → is_some (position_from (bytes_eq t) i ts) ≡ true
found_in t [] i h = absurd (cc h)
found_in t (x ∷ ts) i h = either (bytes_eq t x) h (found_in t ts (i + 1))
  where
    either : (b : Bool) → (b || listed t ts) ≡ true → (listed t ts ≡ true → is_some (position_from (bytes_eq t) (i + 1) ts) ≡ true) → is_some (if b then Some i else position_from (bytes_eq t) (i + 1) ts) ≡ true
    either true h more = refl
    either false h more = more h

behind_one : (t x : List ℕ) (ts : List (List ℕ)) → listed t ts ≡ true → listed t (x ∷ ts) ≡ true
behind_one t x ts h = either (bytes_eq t x)
  where
    either : (b : Bool) → (b || listed t ts) ≡ true
    either true = refl
    either false = h

os_any : (os : List ℕ) → listed any (os_list os) ≡ true
os_any os = either (bytes_eq os (codes "Windows"))
  where
    either : (b : Bool) → listed any (if b then os ∷ any ∷ [] else os ∷ codes "POSIX" ∷ any ∷ []) ≡ true
    either true = behind_one any os (any ∷ []) refl
    either false = behind_one any os (codes "POSIX" ∷ any ∷ []) refl

machine_any : (m : List ℕ) → listed any (machine_list m) ≡ true
machine_any m = either (bytes_eq m (codes "x86_64")) (bytes_eq m (codes "i686")) (bytes_eq m (codes "i586")) (bytes_eq m (codes "i486"))
  where
    either : (a b c d : Bool) → listed any (if a then codes "x86_64" ∷ codes "i686" ∷ codes "i586" ∷ codes "i486" ∷ codes "i386" ∷ any ∷ []
        else if b then codes "i686" ∷ codes "i586" ∷ codes "i486" ∷ codes "i386" ∷ any ∷ []
        else if c then codes "i586" ∷ codes "i486" ∷ codes "i386" ∷ any ∷ []
        else if d then codes "i486" ∷ codes "i386" ∷ any ∷ []
        else m ∷ any ∷ []) ≡ true
    either true b c d = refl
    either false true c d = refl
    either false false true d = refl
    either false false false true = refl
    either false false false false = behind_one any m (any ∷ []) refl

os_runs : (p : Policy) → is_some (os_place p any) ≡ true
unfolding os_place
os_runs p = found_in any (os_list p.os) 0 (os_any p.os)

machine_runs : (p : Policy) → is_some (machine_place p any) ≡ true
unfolding machine_place
machine_runs p = found_in any (machine_list p.machine) 0 (machine_any p.machine)

abbrev reason_by : Policy → Bool → Bool → Option WhyNot
reason_by p os machine = if not (os && machine) then Some why.Arch else if is_off p.network && false then Some why.Offline else None

no_network : (p : Policy) (b : Bool) → (if b && false then Some why.Offline else None) ≡ None
no_network p true = refl
no_network p false = refl

-- nothing stands against it
usable : (p : Policy) (t : List ℕ) (feed : Uri) (place : ℕ) → why_not p (standing_at t feed place) ≡ None
unfolding why_not
usable p t feed place =
    ap (λ b. reason_by p b (is_some (machine_place p any))) (os_runs p) ∙ (ap (λ b. reason_by p true b) (machine_runs p) ∙ no_network p (is_off p.network))

-- Rank.

turns : (b : Bool) (m : ℕ) → ordering_then (bool_cmp b b) (ordering_then (nat_cmp m m) Less) ≡ Less
turns true m = ap (λ o. ordering_then o Less) (sym (nat_cmp_is m m Equal refl))
turns false m = ap (λ o. ordering_then o Less) (sym (nat_cmp_is m m Equal refl))

abbrev IsNewer : ℕ → ℕ → Type 0
IsNewer c d = (p : Policy) (feed : Uri) (k l : ℕ) → Before p (standing_at (c ∷ []) feed k) (standing_at (d ∷ []) feed l)

three_two : IsNewer 51 50
unfolding rank_cmp language_place value
three_two p feed k l = turns (not (is_full p.network) && true) (min 3 (level_of p.level))

three_one : IsNewer 51 49
unfolding rank_cmp language_place value
three_one p feed k l = turns (not (is_full p.network) && true) (min 3 (level_of p.level))

two_one : IsNewer 50 49
unfolding rank_cmp language_place value
two_one p feed k l = turns (not (is_full p.network) && true) (min 3 (level_of p.level))

-- each version is newer than all behind it
abbrev pub Fall : List Version → Type 0
Fall [] = Unit {0}
Fall (v ∷ vs) = AllByRecursion (λ w. IsNewer (digit_of v) (digit_of w)) vs × Fall vs

pub one_falls : (xs : List Piece) → Fall (record { number = 1; says = xs } ∷ [])
one_falls xs = (tt, tt)

pub two_fall : (xs : List Piece) → Fall (record { number = 2; says = xs } ∷ record { number = 1; says = [] } ∷ [])
two_fall xs = ((two_one, tt), (tt, tt))

pub three_fall : (xs ys : List Piece) → Fall (record { number = 3; says = xs } ∷ record { number = 2; says = ys } ∷ record { number = 1; says = [] } ∷ [])
three_fall xs ys = ((three_two, (three_one, tt)), ((two_one, tt), (tt, tt)))

pair_cons : {X : Type 0} (R : X → X → Type 0) (x : X) (xs : List X) → ((k : ℕ) (d : X) → k < length xs → R x (get_or xs k d)) → AllPairs R xs → AllPairs R (x ∷ xs)
pair_cons R x xs h a zero zero d lt le = absurd (omega arith)
pair_cons R x xs h a zero (suc j) d lt le = h j d (omega arith)
pair_cons R x xs h a (suc i) zero d lt le = absurd (omega arith)
pair_cons R x xs h a (suc i) (suc j) d lt le = a i j d (omega arith) (omega arith)

pair_none : {X : Type 0} (R : X → X → Type 0) → AllPairs R []
pair_none R i j d lt le = absurd (omega arith)

before_all : (p : Policy) (feed : Uri) (v : Version) (c : Candidate) (vs : List Version) (cs : List Candidate) → IsCandidateOf feed v c
    → AllByRecursion (λ w. IsNewer (digit_of v) (digit_of w)) vs → AllZip (IsCandidateOf feed) vs cs → (k : ℕ) (d : Candidate) → k < length cs → Before p c.standing (get_or cs k d).standing
before_all p feed v c [] [] h f a k d lt = absurd (omega arith)
before_all p feed v c [] (e ∷ cs) h f a k d lt = absurd a
before_all p feed v c (w ∷ vs) [] h f a k d lt = absurd a
before_all p feed v c (w ∷ vs) (e ∷ cs) h f a zero d lt =
    subst (λ s. Before p s e.standing) (sym h.standing) (subst (λ s. Before p (standing_at (digit_of v ∷ []) feed h.place) s) (sym a.0.standing) (f.0 p feed h.place a.0.place))
before_all p feed v c (w ∷ vs) (e ∷ cs) h f a (suc k) d lt = before_all p feed v c vs cs h f.1 a.1 k d (omega arith)

ranked : (p : Policy) (feed : Uri) (vs : List Version) (cs : List Candidate) → Fall vs → AllZip (IsCandidateOf feed) vs cs → AreRanked p cs
ranked p feed [] [] f a = pair_none (λ (c d : Candidate). Before p c.standing d.standing)
ranked p feed [] (c ∷ cs) f a = absurd a
ranked p feed (v ∷ vs) [] f a = absurd a
ranked p feed (v ∷ vs) (c ∷ cs) f a =
    pair_cons (λ (c d : Candidate). Before p c.standing d.standing) c cs (before_all p feed v c vs cs a.0 f.0 a.1) (ranked p feed vs cs f.1 a.1)

-- What is offered.

stands_so : (p : Policy) (stored : Store) (interface feed u : Uri) (t : List ℕ) (deps : List Dep) (place q : ℕ) → p.overrides ≡ [] → is_some (folder u) ≡ true
    → standing_of p stored interface feed place (impl_by t deps (folder u) q) ≡ standing_at t feed place
unfolding standing_of is_stored stability_of
stands_so p stored interface feed u t deps place q calm lies =
    let at : List Override → Bool → Standing = λ os b. record (standing_at t feed place) {
      stability = unwrap_or (option_map (λ (o : Override). o.stability) (find (λ (o : Override). bytes_eq o.interface interface && bytes_eq o.id (118 ∷ t)) os)) Testing;
      local = b;
    } in
    ap (λ os. at os (is_some (folder u))) calm ∙ ap (λ b. at [] b) lies

all_active : (p : Policy) (xs : List Piece) → active_deps p (map dep_by xs) ≡ map dep_by xs
unfolding is_active
all_active p [] = refl
all_active p (Need name ∷ xs) = ap (λ v. dep_by (Need name) ∷ v) (all_active p xs)
all_active p (Bound range name ∷ xs) = ap (λ v. dep_by (Bound range name) ∷ v) (all_active p xs)

one_candidate : (p : Policy) (stored : Store) (interface feed u : Uri) (v : Version) (place : ℕ) (i : Impl) → p.overrides ≡ [] → is_some (folder u) ≡ true → IsImplOf u v i
    → IsCandidateOf feed v (candidate_of p stored interface feed place i)
unfolding active_part
one_candidate p stored interface feed u v place i calm lies h =
    let t : List ℕ = digit_of v ∷ [] in
    let ds : List Dep = map dep_by v.says in
    subst (λ j. IsCandidateOf feed v (candidate_of p stored interface feed place j)) (sym h.1)
    (record { place = place; standing = stands_so p stored interface feed u t ds place h.0 calm lies; version = refl; arch = refl; deps = all_active p v.says; commands = refl })

all_candidates : (p : Policy) (stored : Store) (interface feed u : Uri) (vs : List Version) (is : List Impl) (place : ℕ) → p.overrides ≡ [] → is_some (folder u) ≡ true → AllZip (IsImplOf u) vs is
    → AllZip (IsCandidateOf feed) vs (offered_from p stored interface feed place is)
all_candidates p stored interface feed u [] [] place calm lies h = tt
all_candidates p stored interface feed u [] (i ∷ is) place calm lies h = absurd h
all_candidates p stored interface feed u (v ∷ vs) [] place calm lies h = absurd h
all_candidates p stored interface feed u (v ∷ vs) (i ∷ is) place calm lies h =
    (one_candidate p stored interface feed u v place i calm lies h.0, all_candidates p stored interface feed u vs is (place + 1) calm lies h.1)

-- a feed that names no packages has what its elements say
no_rows : (t : Packages) (is : List Impl) → with_rows t is [] ≡ is
unfolding with_rows
no_rows t is = refl

all_admitted : (req : Requirement) (p : Policy) (interface feed : Uri) (vs : List Version) (cs : List Candidate) → req.limits ≡ [] → AllZip (IsCandidateOf feed) vs cs → filter (is_admitted req p interface) cs ≡ cs
unfolding within_limits
all_admitted req p interface feed [] [] free h = refl
all_admitted req p interface feed [] (c ∷ cs) free h = absurd h
all_admitted req p interface feed (v ∷ vs) [] free h = absurd h
all_admitted req p interface feed (v ∷ vs) (c ∷ cs) free h =
    ap (λ b. cond b (c ∷ filter (is_admitted req p interface) cs) (filter (is_admitted req p interface) cs)) (passes req.limits free (ap (why_not p) h.0.standing ∙ usable p (digit_of v ∷ []) feed h.0.place))
    ∙ ap (λ w. c ∷ w) (all_admitted req p interface feed vs cs free h.1)
  where
    passes : (ls : List Limit) → ls ≡ [] → why_not p c.standing ≡ None → (is_none (why_not p c.standing) && within_limits ls interface c.standing.version) ≡ true
    passes ls e g = ap (λ o. is_none o && within_limits ls interface c.standing.version) g ∙ ap (λ l. within_limits l interface c.standing.version) e

-- the candidates that a feed of a row has for its own interface
abbrev pub own_candidates : Policy → Store → Feed → List Candidate
own_candidates p stored f = offered_from p stored f.uri f.uri 0 f.impls

pub row_candidates : (p : Policy) (stored : Store) (row : Row) (f : Feed) → p.overrides ≡ [] → is_some (folder row.name) ≡ true → IsFeedOf row f → AllZip (IsCandidateOf f.uri) row.versions (own_candidates p stored f)
row_candidates p stored row f calm lies h = all_candidates p stored f.uri f.uri row.name row.versions f.impls 0 calm lies h.impls

pub are_candidates : (req : Requirement) (p : Policy) (stored : Store) (row : Row) (f : Feed) → p.overrides ≡ [] → req.limits ≡ [] → is_some (folder row.name) ≡ true → Fall row.versions → IsFeedOf row f
    → AreCandidates req p stored f.uri (f ∷ []) (own_candidates p stored f)
are_candidates req p stored row f calm free lies falls h =
    let a = row_candidates p stored row f calm lies h in
    let own = own_candidates p stored f in
    let impls : all_impls stored.packages f ≡ f.impls = ap (with_rows stored.packages f.impls) h.natives ∙ no_rows stored.packages f.impls in
    let same : admitted req p stored f.uri (f ∷ []) ≡ own =
    append-nil (admitted_by req p stored f.uri f)
    ∙ (ap (λ is. filter (is_admitted req p f.uri) (offered_from p stored f.uri f.uri 0 is)) impls ∙ all_admitted req p f.uri f.uri row.versions own free a) in
    record { same = subst (λ cs. IsPermutation cs own) (sym same) (IsPermutation-refl own); ranked = ranked p f.uri row.versions own falls a }

-- What they ask for.

abbrev pub wants : List Piece → Uris
wants [] = []
wants (Need name ∷ xs) = address name ∷ wants xs
wants (Bound range name ∷ xs) = wants xs

abbrev pub all_wants : List Version → Uris
all_wants vs = flat_map (λ (v : Version). wants v.says) vs

asks_wants : (xs : List Piece) → asked (map dep_by xs) ≡ wants xs
asks_wants [] = refl
asks_wants (Need name ∷ xs) = ap (λ v. address name ∷ v) (asks_wants xs)
asks_wants (Bound range name ∷ xs) = asks_wants xs

impl_asks : (feed : Uri) (v : Version) (c : Candidate) → IsCandidateOf feed v c → asked_by_impl c.imp ≡ wants v.says
unfolding asked_by_impl
impl_asks feed v c h =
    ap (λ ds. asked ds ++ flat_map asked_by_command c.imp.commands) h.deps
    ∙ (ap (λ ks. asked (map dep_by v.says) ++ flat_map asked_by_command ks) h.commands ∙ (append-nil (asked (map dep_by v.says)) ∙ asks_wants v.says))

pub candidates_ask : (feed : Uri) (vs : List Version) (cs : List Candidate) → AllZip (IsCandidateOf feed) vs cs → asked_by_all cs ≡ all_wants vs
candidates_ask feed [] [] h = refl
candidates_ask feed [] (c ∷ cs) h = absurd h
candidates_ask feed (v ∷ vs) [] h = absurd h
candidates_ask feed (v ∷ vs) (c ∷ cs) h =
    ap (λ w. w ++ asked_by_all cs) (impl_asks feed v c h.0) ∙ ap (λ w. wants v.says ++ w) (candidates_ask feed vs cs h.1)

-- restrictions ask for nothing
pub bounds_want : (range : List ℕ) (others : List (List ℕ)) → wants (bounds range others) ≡ []
bounds_want range [] = refl
bounds_want range (name ∷ others) = bounds_want range others

pub needs_want : (names : List (List ℕ)) → wants (map Need names) ≡ map address names
needs_want [] = refl
needs_want (name ∷ names) = ap (λ v. address name ∷ v) (needs_want names)
