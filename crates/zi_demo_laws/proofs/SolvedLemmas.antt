-- The demonstration of each number is loaded as the universe of its rows, and their choice is valid.
use Rattle.std.proofs.Common.{◌≡◌, ℕ, suc, ◌+◌, ◌*◌, ◌≤◌, false, List, [], ◌∷◌, ◌++◌, map, length, codes, Some, refl, sym, ap, subst, ◌∙◌, arith, append_assoc}
use Rattle.std.specs.Prelude.{bytes_eq, if◌then◌else◌}
use Rattle.std.specs.List.{AllZip, AllByRecursion}
use Rattle.std.proofs.lemmas.Bool.{or_parts}
use Rattle.std.proofs.lemmas.List.{append-nil, length-map, map-append}
use Rattle.std.proofs.lemmas.Slice.Zip.{AllZip-long}
use Rattle.zi_policy.specs.declared.types.Policy.{Policy}
use Rattle.zi_policy.specs.Platform.{listed}
use Rattle.zi_outside.specs.Views.{Holding}
use Rattle.zi_feed.specs.declared.feed.Feed.{Feed}
use Rattle.zi_universe.specs.declared.types.Candidate.{Candidate}
use Rattle.zi_universe.specs.declared.types.Interface.{Interface}
use Rattle.zi_universe.specs.Naming.{Uri}
use Rattle.zi_universe.specs.Candidates.{Store, asked_by}
use Rattle.zi_universe.specs.Loading.{IsRead}
use Rattle.zi_universe.specs.Laws.{HasOneUniverse, UniverseExcludes}
use Rattle.zi_choice.specs.Vars.{total}
use Rattle.zi_choice.specs.Valid.{IsValid}
use Rattle.zi_build.specs.Clauses.{formula, literals, most_literals}
use Rattle.zi_demo.specs.Feeds.{address, text_of, feeds, under, Holds}
use Rattle.zi_demo.specs.Feeds as demo
use Rattle.zi_demo_laws.specs.Solved.{demo_root, IsSolvable, IsClear, OfEachNumber}
use Rattle.zi_demo_laws.proofs.RowLemmas.{Piece, Need, Bound, Version, Row, feed_row, other_rows, names_of, root_row, rows, feeds_are}
use Rattle.zi_demo_laws.proofs.ApartLemmas.{AreApartFrom, same_itself, turned, addresses_of, rows_apart}
use Rattle.zi_demo_laws.proofs.PieceLemmas.{dep_by}
use Rattle.zi_demo_laws.proofs.FeedLemmas.{IsFeedOf, ReadsBack, SaysRow, says_row}
use Rattle.zi_demo_laws.proofs.CandidateLemmas.{IsCandidateOf, own_candidates, row_candidates, are_candidates, candidates_ask, wants, needs_want, all_wants}
use Rattle.zi_demo_laws.proofs.LoadLemmas.{interface_of, uris_in, IsReady, loads}
use Rattle.zi_demo_laws.proofs.FewLemmas.{IsSmall, NamesNone, IsLight, AreLight, load_of, load_in, few_literals}
use Rattle.zi_demo_laws.proofs.ValidLemmas.{IsInterfaceOf, picks, is_valid}
use Rattle.zi_demo_laws.proofs.RightLemmas.{IsFine, root_is_fine, others_are_fine, others_length, WantsNone, others_want, row_load, rows_load, others_are_met}

-- What is held under the addresses.

under_there : (before : List Row) (row : Row) (behind : List Row) → listed (address row.name) (addresses_of before) ≡ false → under (map feed_row (before ++ row ∷ behind)) (address row.name) ≡ Some (text_of (feed_row row))
under_there [] row behind h = ap (λ b. if b then Some (text_of (feed_row row)) else under (map feed_row behind) (address row.name)) (same_itself (address row.name))
under_there (r ∷ before) row behind h =
    let k = or_parts (bytes_eq (address row.name) (address r.name)) (listed (address row.name) (addresses_of before)) h in
    ap (λ b. if b then Some (text_of (feed_row r)) else under (map feed_row (before ++ row ∷ behind)) (address row.name)) (turned (address row.name) (address r.name) k.0) ∙ under_there before row behind k.1

all_under : (before rs : List Row) → AreApartFrom (addresses_of before) (addresses_of rs) → AllByRecursion (λ (row : Row). under (map feed_row (before ++ rs)) (address row.name) ≡ Some (text_of (feed_row row))) rs
all_under before [] h = tt
all_under before (row ∷ rs) h =
    let joins : (before ++ row ∷ []) ++ rs ≡ before ++ (row ∷ rs) = append_assoc before (row ∷ []) rs in (
      under_there before row rs h.0,
      subst (λ v. AllByRecursion (λ (r : Row). under (map feed_row v) (address r.name) ≡ Some (text_of (feed_row r))) rs) joins
          (all_under (before ++ row ∷ []) rs (subst (λ v. AreApartFrom v (addresses_of rs)) (sym (map-append (λ (r : Row). address r.name) before (row ∷ []))) h.1)),
    )

abbrev IsHeldAt : Holding → Row → Type 0
IsHeldAt holds row = holds (address row.name) ≡ Some (text_of (feed_row row))

all_held : (fs : List demo.Feed) (rs every : List Row) (holds : Holding) → Holds fs holds → fs ≡ map feed_row every
    → AllByRecursion (λ (row : Row). under (map feed_row every) (address row.name) ≡ Some (text_of (feed_row row))) rs → AllByRecursion (IsHeldAt holds) rs
all_held fs [] every holds h e k = tt
all_held fs (row ∷ rs) every holds h e k = (h (address row.name) ∙ (ap (λ v. under v (address row.name)) e ∙ k.0), all_held fs rs every holds h e k.1)

-- The feeds that are read.

record IsGot (holds : Holding) (row : Row) (f : Feed) : Type 0 where
  read : IsRead (Some holds) (codes "/demo/root.xml") f.uri f
  shape : IsFeedOf row f

got_row : (holds : Holding) (row : Row) (s : SaysRow row) → IsFine row → IsHeldAt holds row → IsGot holds row s.feed
got_row holds row s fine held = record {
  read = subst (λ uri. IsRead (Some holds) (codes "/demo/root.xml") uri s.feed) (sym s.shape.uri)
      (record { held = Some (text_of (feed_row row)); told_so = held; means = (fine.short, (s.tree, s.spells, s.right, s.so)) });
  shape = s.shape;
}

abbrev AreGot : Holding → List Row → Type 0
AreGot holds rs = (fs : List Feed) × AllZip (IsGot holds) rs fs

all_got : ReadsBack → (holds : Holding) (rs : List Row) → AllByRecursion IsFine rs → AllByRecursion (IsHeldAt holds) rs → AreGot holds rs
all_got back holds [] k h = ([], tt)
all_got back holds (row ∷ rs) k h =
    let s : SaysRow row = says_row back row k.0.right in
    let more : AreGot holds rs = all_got back holds rs k.1 h.1 in
    (s.feed ∷ more.0, (got_row holds row s k.0 h.0, more.1))

got_uris : (holds : Holding) (rs : List Row) (fs : List Feed) → AllZip (IsGot holds) rs fs → uris_in fs ≡ addresses_of rs
got_uris holds [] [] h = refl
got_uris holds [] (f ∷ fs) h = absurd h
got_uris holds (r ∷ rs) [] h = absurd h
got_uris holds (r ∷ rs) (f ∷ fs) h = ap (λ v. v ∷ uris_in fs) h.0.shape.uri ∙ ap (λ v. address r.name ∷ v) (got_uris holds rs fs h.1)

-- Their interfaces.

no_commands : (xs : List Piece) → AllByRecursion NamesNone (map dep_by xs)
no_commands [] = tt
no_commands (Need name ∷ xs) = (refl, no_commands xs)
no_commands (Bound range name ∷ xs) = (refl, no_commands xs)

all_light : (feed : Uri) (vs : List Version) (cs : List Candidate) → AllZip (IsCandidateOf feed) vs cs → AllByRecursion IsLight cs
all_light feed [] [] h = tt
all_light feed [] (c ∷ cs) h = absurd h
all_light feed (v ∷ vs) [] h = absurd h
all_light feed (v ∷ vs) (c ∷ cs) h =
    (record { commands = h.0.commands; deps = subst (AllByRecursion NamesNone) (sym h.0.deps) (no_commands v.says) }, all_light feed vs cs h.1)

own_load : (feed : Uri) (vs : List Version) (cs : List Candidate) → AllZip (IsCandidateOf feed) vs cs → total load_of cs ≡ total (λ (v : Version). 2 + 6 * length v.says) vs
own_load feed [] [] h = refl
own_load feed [] (c ∷ cs) h = absurd h
own_load feed (v ∷ vs) [] h = absurd h
own_load feed (v ∷ vs) (c ∷ cs) h =
    ap (λ k. 2 + 6 * k + total load_of cs) (ap length h.0.deps ∙ length-map v.says dep_by) ∙ ap (λ k. 2 + 6 * length v.says + k) (own_load feed vs cs h.1)

module _ (p : Policy) (stored : Store) (calm : p.overrides ≡ []) (holds : Holding) where
  -- a row that is fine, and its feed
  candidates_so : (row : Row) (f : Feed) → IsFine row → IsGot holds row f → AllZip (IsCandidateOf f.uri) row.versions (own_candidates p stored f)
  candidates_so row f k h = row_candidates p stored row f calm k.right.lies h.shape

  few_so : (row : Row) (f : Feed) → IsFine row → IsGot holds row f → length (own_candidates p stored f) ≤ 3
  few_so row f k h = subst (λ n. n ≤ 3) (sym (AllZip-long (IsCandidateOf f.uri) row.versions (own_candidates p stored f) (candidates_so row f k h))) k.few

  all_ready : (rs : List Row) (fs : List Feed) → AllByRecursion IsFine rs → AllZip (IsGot holds) rs fs → AllByRecursion (IsReady (Some holds) demo_root p stored) fs
  all_ready [] [] k h = tt
  all_ready [] (f ∷ fs) k h = absurd h
  all_ready (r ∷ rs) [] k h = absurd h
  all_ready (r ∷ rs) (f ∷ fs) k h = (
    record { read = h.0.read; imports = h.0.shape.imports; candidates = are_candidates demo_root p stored r f calm refl k.0.right.lies k.0.falls h.0.shape; few = few_so r f k.0 h.0 },
    all_ready rs fs k.1 h.1,
  )

  interfaces_so : (rs : List Row) (fs : List Feed) → AllByRecursion IsFine rs → AllZip (IsGot holds) rs fs → AllZip IsInterfaceOf rs (map (interface_of p stored) fs)
  interfaces_so [] [] k h = tt
  interfaces_so [] (f ∷ fs) k h = absurd h
  interfaces_so (r ∷ rs) [] k h = absurd h
  interfaces_so (r ∷ rs) (f ∷ fs) k h = (record { uri = h.0.shape.uri; candidates = candidates_so r f k.0 h.0 }, interfaces_so rs fs k.1 h.1)

  all_small : (rs : List Row) (fs : List Feed) → AllByRecursion IsFine rs → AllZip (IsGot holds) rs fs → AllByRecursion IsSmall (map (interface_of p stored) fs)
  all_small [] [] k h = tt
  all_small [] (f ∷ fs) k h = absurd h
  all_small (r ∷ rs) [] k h = absurd h
  all_small (r ∷ rs) (f ∷ fs) k h = (few_so r f k.0 h.0, all_small rs fs k.1 h.1)

  each_light : (rs : List Row) (fs : List Feed) → AllByRecursion IsFine rs → AllZip (IsGot holds) rs fs → AllByRecursion AreLight (map (interface_of p stored) fs)
  each_light [] [] k h = tt
  each_light [] (f ∷ fs) k h = absurd h
  each_light (r ∷ rs) [] k h = absurd h
  each_light (r ∷ rs) (f ∷ fs) k h = (all_light f.uri r.versions (own_candidates p stored f) (candidates_so r f k.0 h.0), each_light rs fs k.1 h.1)

  load_so : (rs : List Row) (fs : List Feed) → AllByRecursion IsFine rs → AllZip (IsGot holds) rs fs → total load_in (map (interface_of p stored) fs) ≡ total row_load rs
  load_so [] [] k h = refl
  load_so [] (f ∷ fs) k h = absurd h
  load_so (r ∷ rs) [] k h = absurd h
  load_so (r ∷ rs) (f ∷ fs) k h =
      ap (λ n. n + total load_in (map (interface_of p stored) fs)) (own_load f.uri r.versions (own_candidates p stored f) (candidates_so r f k.0 h.0)) ∙ ap (λ n. row_load r + n) (load_so rs fs k.1 h.1)

  asks_so : (row : Row) (f : Feed) → IsFine row → IsGot holds row f → asked_by (interface_of p stored f) ≡ all_wants row.versions
  asks_so row f k h = candidates_ask f.uri row.versions (own_candidates p stored f) (candidates_so row f k h)

  none_ask : (rs : List Row) (fs : List Feed) → AllByRecursion IsFine rs → AllByRecursion WantsNone rs → AllZip (IsGot holds) rs fs → AllByRecursion (λ f. asked_by (interface_of p stored f) ≡ []) fs
  none_ask [] [] k w h = tt
  none_ask [] (f ∷ fs) k w h = absurd h
  none_ask (r ∷ rs) [] k w h = absurd h
  none_ask (r ∷ rs) (f ∷ fs) k w h = (asks_so r f k.0 h.0 ∙ w.0, none_ask rs fs k.1 w.1 h.1)

  root_asks : (others : List Row) (root : Feed) (fs : List Feed) → IsFine (root_row (names_of others)) → IsGot holds (root_row (names_of others)) root → uris_in fs ≡ addresses_of others
      → asked_by (interface_of p stored root) ≡ uris_in fs
  root_asks others root fs k h e =
      asks_so (root_row (names_of others)) root k h ∙ (append-nil (wants (map Need (names_of others))) ∙ (needs_want (names_of others) ∙ (addressed others ∙ sym e)))
    where
      addressed : (rs : List Row) → map address (names_of rs) ≡ addresses_of rs
      addressed [] = refl
      addressed (r ∷ rs) = ap (λ v. address r.name ∷ v) (addressed rs)

  -- over what was got
  solved_over : (n : ℕ) → 1 ≤ n → n ≤ 1000 → (fs : List Feed) → AllZip (IsGot holds) (rows n) fs → IsSolvable holds p stored
  solved_over n low high [] h = absurd h
  solved_over n low high (root ∷ fs) h =
      let others : List Row = other_rows n in
      let root_fine = root_is_fine n low high in
      let fine : AllByRecursion IsFine (rows n) = (root_fine, others_are_fine n high) in
      let u : List Interface = map (interface_of p stored) (root ∷ fs) in
      let long : length fs ≡ n + 3 = AllZip-long (IsGot holds) others fs h.1 ∙ others_length n low in
      let size : length u ≡ suc (length fs) = length-map (root ∷ fs) (interface_of p stored) in
      let apart : AreApartFrom [] (addresses_of (rows n)) = rows_apart n low (omega arith) in
      let uris : uris_in (root ∷ fs) ≡ addresses_of (rows n) = got_uris holds (rows n) (root ∷ fs) h in
      let load : total load_in u ≡ total row_load (rows n) = load_so (rows n) (root ∷ fs) fine h in
      let light : total row_load (rows n) ≤ 20000 = rows_load n low high in
      let count : literals (formula u demo_root).constraints ≤ 3 + 3 * length u + total load_in u = few_literals u demo_root refl (all_small (rows n) (root ∷ fs) fine h) (each_light (rows n) (root ∷ fs) fine h) in
      let asks : asked_by (interface_of p stored root) ≡ uris_in fs = root_asks others root fs root_fine h.0 (got_uris holds others fs h.1) in
      record {
        universe = u;
        loads = loads (Some holds) demo_root p stored root fs (sym h.0.shape.uri) (subst (AreApartFrom []) (sym uris) apart) (omega arith) (all_ready (rows n) (root ∷ fs) fine h) asks
            (none_ask others fs (others_are_fine n high) (others_want n) h.1);
        few = omega arith;
        choice = picks (rows n);
        valid = is_valid others u (interfaces_so (rows n) (root ∷ fs) fine h) apart (others_are_met n) demo_root refl;
      }

pub all_solvable : ReadsBack → OfEachNumber IsSolvable
all_solvable back n holds p stored low high held calm =
    let fine : AllByRecursion IsFine (rows n) = (root_is_fine n low high, others_are_fine n high) in
    let there = all_held (feeds n) (rows n) (rows n) holds held (sym (feeds_are n low)) (all_under [] (rows n) (rows_apart n low (omega arith))) in
    let got : AreGot holds (rows n) = all_got back holds (rows n) fine there in
    solved_over p stored calm holds n low high got.0 got.1

pub all_clear : HasOneUniverse → UniverseExcludes → OfEachNumber IsSolvable → OfEachNumber IsClear
all_clear one excludes solvable n holds p stored low high held calm =
    let s : IsSolvable holds p stored = solvable n holds p stored low high held calm in
    record {
      loads = λ e of. excludes holds demo_root p stored s.universe e s.loads of;
      few = λ universe loaded. subst (λ u. literals (formula u demo_root).constraints ≤ most_literals) (one holds demo_root p stored s.universe universe s.loads loaded) s.few;
      solved = λ universe loaded none. none s.choice (subst (λ u. IsValid u demo_root s.choice) (one holds demo_root p stored s.universe universe s.loads loaded) s.valid);
    }
