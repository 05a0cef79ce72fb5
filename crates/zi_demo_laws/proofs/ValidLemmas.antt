-- The choice of the demonstration is valid.
use Rattle.std.proofs.Common.{◌≡◌, ℕ, zero, suc, ◌+◌, ◌⊎◌, inl, inr, true, List, [], ◌∷◌, ◌++◌, map, length, Option, Some, None, refl, sym, ap, subst, ◌∙◌, arith, append_assoc}
use Rattle.std.specs.Prelude.{IfSome, IsSomeAnd, is_some, slice_get, unwrap_or, option_map, option_and_then, All, bytes_eq}
use Rattle.std.specs.List.{AllZip, AllByRecursion, list_all, position_from}
use Rattle.std.proofs.lemmas.List.{length-map, length-append}
use Rattle.std.proofs.lemmas.List.Elements.{All-nil, All-from_recursion}
use Rattle.std.proofs.lemmas.Option.{slice_get-map}
use Rattle.std.proofs.lemmas.Slice.Zip.{AllZip-long}
use Rattle.zi_version.specs.Range.{range_of, admits}
use Rattle.zi_policy.specs.declared.types.Arch.{Arch}
use Rattle.zi_policy.specs.declared.types.Width.TheVariants.{Any, Bits32}
use Rattle.zi_policy.specs.Platform.{group_of}
use Rattle.zi_parts.specs.declared.types.Dep.{Dep}
use Rattle.zi_reading.specs.Words.{optional}
use Rattle.zi_universe.specs.declared.types.Requirement.{Requirement}
use Rattle.zi_universe.specs.declared.types.Candidate.{Candidate}
use Rattle.zi_universe.specs.declared.types.Interface.{Interface}
use Rattle.zi_universe.specs.Whole.{uris_of}
use Rattle.zi_choice.specs.Choice.{Choice, Fits, pick, chosen, candidate_at, command_at, number, deps_of, needs_of}
use Rattle.zi_choice.specs.Walk.{Use}
use Rattle.zi_choice.specs.Valid.{Has, Suits, target, IsMet, AreMet, machine_of, group, IsValid}
use Rattle.zi_demo.specs.Feeds.{address}
use Rattle.zi_demo_laws.proofs.ApartLemmas.{AreApartFrom, position_there, addresses_of}
use Rattle.zi_demo_laws.proofs.RowLemmas.{Piece, Need, Bound, Version, saying, Row, names_of, root_row, with_root}
use Rattle.zi_demo_laws.proofs.PieceLemmas.{dep_by, need_dep, bound_dep}
use Rattle.zi_demo_laws.proofs.FeedLemmas.{digit_of}
use Rattle.zi_demo_laws.proofs.CandidateLemmas.{IsCandidateOf}
use Rattle.zi_demo_laws.proofs.WalkLemmas.{Stay, LeadsTo, LeadFrom, walk_upto, walks, chosen_exactly}

-- the interface of a row
pub record IsInterfaceOf (row : Row) (i : Interface) : Type 0 where
  pub uri : i.uri ≡ address row.name
  pub candidates : AllZip (IsCandidateOf i.uri) row.versions i.candidates

-- what each row has chosen
abbrev pub picks : List Row → Choice
picks rs = map (λ (r : Row). Some r.pick) rs

-- Places in lists that go together.

abbrev Beside : {A B : Type 0} → (A → B → Type 0) → A → List B → ℕ → Type 0
Beside {A} {B} R x ys k = (y : B) × (slice_get ys k ≡ Some y) × R x y

beside : {A B : Type 0} (R : A → B → Type 0) (xs : List A) (ys : List B) (k : ℕ) (x : A) → AllZip R xs ys → slice_get xs k ≡ Some x → Beside R x ys k
beside R [] [] k x h e = absurd (cc e)
beside R [] (y ∷ ys) k x h e = absurd h
beside R (z ∷ xs) [] k x h e = absurd h
beside R (z ∷ xs) (y ∷ ys) zero x h e = (y, refl, subst (λ v. R v y) (same z x e) h.0)
  where
    same : {A : Type 0} (a b : A) → ◌≡◌ {A = Option A} (Some a) (Some b) → a ≡ b
    same a b e = cc
beside R (z ∷ xs) (y ∷ ys) (suc k) x h e = beside R xs ys k x h.1 e

-- what stands at a place where something stands
abbrev There : {A : Type 0} → List A → ℕ → Type 0
There {A} xs k = (x : A) × (slice_get xs k ≡ Some x)

row_beside : {A B : Type 0} (R : A → B → Type 0) (xs : List A) (ys : List B) (k : ℕ) (y : B) → AllZip R xs ys → slice_get ys k ≡ Some y → There xs k
row_beside R [] [] k y h e = absurd (cc e)
row_beside R [] (z ∷ ys) k y h e = absurd h
row_beside R (x ∷ xs) [] k y h e = absurd h
row_beside R (x ∷ xs) (z ∷ ys) zero y h e = (x, refl)
row_beside R (x ∷ xs) (z ∷ ys) (suc k) y h e = row_beside R xs ys k y h.1 e

-- the place of one that is apart from those before it
place_of : (before xs : List (List ℕ)) (k : ℕ) (x : List ℕ) → AreApartFrom before xs → slice_get xs k ≡ Some x → position_from (bytes_eq x) 0 (before ++ xs) ≡ Some (length before + k)
place_of before [] k x h e = absurd (cc e)
place_of before (y ∷ xs) zero x h e =
    let s : y ≡ x = same y x e in
    let n : 0 + length before ≡ length before + 0 = omega arith in
    subst (λ v. position_from (bytes_eq v) 0 (before ++ y ∷ xs) ≡ Some (length before + 0)) s (position_there y before xs 0 h.0 ∙ ap (λ (k : ℕ). Some k) n)
  where
    same : (a b : List ℕ) → ◌≡◌ {A = Option (List ℕ)} (Some a) (Some b) → a ≡ b
    same a b e = cc
place_of before (y ∷ xs) (suc k) x h e =
    let n : length (before ++ y ∷ []) + k ≡ length before + suc k = omega (arith, length-append before (y ∷ [])) in
    ap (position_from (bytes_eq x) 0) (sym (append_assoc before (y ∷ []) xs)) ∙ (place_of (before ++ y ∷ []) xs k x h.1 e ∙ ap (λ (k : ℕ). Some k) n)

-- Rows that are met.

-- one of the rows has this name, and its choice is this version
pub record Finds (rs : List Row) (name : List ℕ) (version : Version) : Type 0 where
  pub place : ℕ
  pub row : Row
  pub there : slice_get rs place ≡ Some row
  pub called : row.name ≡ name
  pub chosen : slice_get row.versions row.pick ≡ Some version

-- a piece that only restricts, and is met
abbrev pub IsMetBound : List Row → Piece → Type 0
IsMetBound rs (Need name) = ⊥
IsMetBound rs (Bound range name) = (v : Version) × Finds rs name v × (list_all (λ r. admits r (digit_of v ∷ [])) (optional (range_of range) ++ []) ≡ true)

-- a row whose chosen version asks for nothing, and whose restrictions are met
pub record IsMetRow (rs : List Row) (row : Row) : Type 0 where
  pub version : Version
  pub chosen : slice_get row.versions row.pick ≡ Some version
  pub met : AllByRecursion (IsMetBound rs) version.says

bounds_stay : (rs : List Row) (xs : List Piece) → AllByRecursion (IsMetBound rs) xs → Stay (map dep_by xs)
bounds_stay rs [] h = tt
bounds_stay rs (Need name ∷ xs) h = absurd h.0
bounds_stay rs (Bound range name ∷ xs) h = (refl, bounds_stay rs xs h.1)

module _ (rs : List Row) (u : List Interface) (are : AllZip IsInterfaceOf rs u) (apart : AreApartFrom [] (addresses_of rs)) where
  uris_so : uris_of u ≡ addresses_of rs
  uris_so = same rs u are
    where
      same : (rs : List Row) (u : List Interface) → AllZip IsInterfaceOf rs u → uris_of u ≡ addresses_of rs
      same [] [] h = refl
      same [] (i ∷ u) h = absurd h
      same (r ∷ rs) [] h = absurd h
      same (r ∷ rs) (i ∷ u) h = ap (λ v. v ∷ uris_of u) h.0.uri ∙ ap (λ v. address r.name ∷ v) (same rs u h.1)

  numbered_so : (k : ℕ) (row : Row) → slice_get rs k ≡ Some row → number u (address row.name) ≡ Some k
  numbered_so k row e =
      let zero_more : 0 + k ≡ k = omega arith in
      let at : slice_get (addresses_of rs) k ≡ Some (address row.name) = slice_get-map (λ (r : Row). address r.name) rs k ∙ ap (option_map (λ (r : Row). address r.name)) e in
      ap (position_from (bytes_eq (address row.name)) 0) uris_so ∙ (place_of [] (addresses_of rs) k (address row.name) apart at ∙ ap (λ (j : ℕ). Some j) zero_more)

  -- what is chosen at a place is the candidate of its row's version
  record ChosenAt (k : ℕ) (v : Version) : Type 0 where
    feed : List ℕ
    candidate : Candidate
    at : chosen u (picks rs) k ≡ Some candidate
    of : IsCandidateOf feed v candidate

  chosen_at : (k : ℕ) (row : Row) (v : Version) → slice_get rs k ≡ Some row → slice_get row.versions row.pick ≡ Some v → ChosenAt k v
  chosen_at k row v e f =
      let i : Beside IsInterfaceOf row u k = beside IsInterfaceOf rs u k row are e in
      let c : Beside (IsCandidateOf i.0.uri) v i.0.candidates row.pick = beside (IsCandidateOf i.0.uri) row.versions i.0.candidates row.pick v i.2.candidates f in
      let p : pick (picks rs) k ≡ Some row.pick = ap (λ (o : Option (Option ℕ)). unwrap_or o None) (slice_get-map (λ (r : Row). Some r.pick) rs k ∙ ap (option_map (λ (r : Row). Some r.pick)) e) in
      record {
        feed = i.0.uri;
        candidate = c.0;
        at = ap (λ o. option_and_then (λ c. candidate_at u k c) o) p ∙ (ap (λ (o : Option Interface). option_and_then (λ (x : Interface). slice_get x.candidates row.pick) o) i.1 ∙ c.1);
        of = c.2;
      }

  target_at : (k : ℕ) (row : Row) (v : Version) (c : ChosenAt k v) (d : Dep) → slice_get rs k ≡ Some row → d.interface ≡ address row.name → target u (picks rs) d ≡ Some c.candidate
  target_at k row v c d e named =
      ap (λ uri. option_and_then (λ i. chosen u (picks rs) i) (number u uri)) named ∙ (ap (λ o. option_and_then (λ i. chosen u (picks rs) i) o) (numbered_so k row e) ∙ c.at)

  -- a dependency whose target is this candidate, which its ranges admit, and which names no command
  met_by : (d : Dep) (c : Candidate) → target u (picks rs) d ≡ Some c → d.commands ≡ [] → list_all (λ r. admits r c.imp.version) d.ranges ≡ true → IsMet u (picks rs) d
  met_by d c t none right = record {
    there = λ e. ap is_some t;
    suits = subst (λ o. IfSome o (λ c. Suits d c)) (sym t) (record { admitted = right; commands = λ a. subst (λ ns. All (λ name. Has c name) ns) (sym none) (All-nil (λ name. Has c name)) });
  }

  bound_met : (range name : List ℕ) → IsMetBound rs (Bound range name) → IsMet u (picks rs) (bound_dep range name)
  bound_met range name h =
      let f : Finds rs name h.0 = h.1 in
      let c = chosen_at f.place f.row h.0 f.there f.chosen in
      met_by (bound_dep range name) c.candidate (target_at f.place f.row h.0 c (bound_dep range name) f.there (ap address (sym f.called))) refl
      (ap (λ v. list_all (λ r. admits r v) (optional (range_of range) ++ [])) c.of.version ∙ h.2)

  bounds_met : (xs : List Piece) → AllByRecursion (IsMetBound rs) xs → AllByRecursion (IsMet u (picks rs)) (map dep_by xs)
  bounds_met [] h = tt
  bounds_met (Need name ∷ xs) h = absurd h.0
  bounds_met (Bound range name ∷ xs) h = (bound_met range name h.0, bounds_met xs h.1)

  -- a place where nothing is chosen, or a candidate that works
  record Works (k : ℕ) : Type 0 where
    candidate : Candidate
    at : chosen u (picks rs) k ≡ Some candidate
    arch : candidate.imp.arch ≡ None
    met : AllByRecursion (IsMet u (picks rs)) candidate.imp.deps

  works_by : (k : ℕ) (v : Version) → ChosenAt k v → AllByRecursion (IsMet u (picks rs)) (map dep_by v.says) → Works k
  works_by k v c met = record { candidate = c.candidate; at = c.at; arch = c.of.arch; met = subst (AllByRecursion (IsMet u (picks rs))) (sym c.of.deps) met }

  no_pick : (k : ℕ) → slice_get rs k ≡ None → pick (picks rs) k ≡ None
  no_pick k e = ap (λ (o : Option (Option ℕ)). unwrap_or o None) (slice_get-map (λ (r : Row). Some r.pick) rs k ∙ ap (option_map (λ (r : Row). Some r.pick)) e)

  -- a need of a row's interface
  need_at : (k : ℕ) (row : Row) (m : IsMetRow rs row) → slice_get rs k ≡ Some row → LeadsTo u (picks rs) k (need_dep row.name) × IsMet u (picks rs) (need_dep row.name)
  need_at k row m e =
      let c = chosen_at k row m.version e m.chosen in
      let stay : Stay (deps_of (chosen u (picks rs) k)) = subst (λ o. Stay (deps_of o)) (sym c.at) (subst Stay (sym c.of.deps) (bounds_stay rs m.version.says m.met)) in (
        record { to = numbered_so k row e; commands = refl; stay = stay },
        met_by (need_dep row.name) c.candidate (target_at k row m.version c (need_dep row.name) e refl) refl refl,
      )

-- what stands behind others
pub stands_behind : {A : Type 0} (xs : List A) (y : A) (ys : List A) → slice_get (xs ++ y ∷ ys) (length xs) ≡ Some y
stands_behind [] y ys = refl
stands_behind (x ∷ xs) y ys = stands_behind xs y ys

met_row_at : (rs xs : List Row) (k : ℕ) (row : Row) → AllByRecursion (IsMetRow rs) xs → slice_get xs k ≡ Some row → IsMetRow rs row
met_row_at rs [] k row h e = absurd (cc e)
met_row_at rs (x ∷ xs) zero row h e = subst (IsMetRow rs) (same x row e) h.0
  where
    same : (a b : Row) → ◌≡◌ {A = Option Row} (Some a) (Some b) → a ≡ b
    same a b e = cc
met_row_at rs (x ∷ xs) (suc k) row h e = met_row_at rs xs k row h.1 e

no_arch : (c : Candidate) → c.imp.arch ≡ None → group c ≡ Any
unfolding group_of
no_arch c e = ap (λ (o : Option Arch). group_of (machine_of o)) e

module _ (others : List Row) (u : List Interface) (are : AllZip IsInterfaceOf (with_root others) u) (apart : AreApartFrom [] (addresses_of (with_root others)))
    (rows_met : AllByRecursion (IsMetRow (with_root others)) others) where
  abbrev needed : List Row → List Dep
  needed rest = map dep_by (map Need (names_of rest))

  leads : (before rest : List Row) → others ≡ before ++ rest → AllByRecursion (IsMetRow (with_root others)) rest
      → LeadFrom u (picks (with_root others)) (suc (length before)) (needed rest) × AllByRecursion (IsMet u (picks (with_root others))) (needed rest)
  leads before [] e h = (tt, tt)
  leads before (row ∷ rest) e h =
      let at : slice_get others (length before) ≡ Some row = ap (λ v. slice_get v (length before)) e ∙ stands_behind before row rest in
      let one = need_at (with_root others) u are apart (suc (length before)) row h.0 at in
      let more = leads (before ++ row ∷ []) rest (e ∙ sym (append_assoc before (row ∷ []) rest)) h.1 in
      let n : suc (length (before ++ row ∷ [])) ≡ suc (suc (length before)) = omega (arith, length-append before (row ∷ [])) in
      ((one.0, subst (λ k. LeadFrom u (picks (with_root others)) k (needed rest)) n more.0), (one.1, more.1))

  root_chosen : ChosenAt (with_root others) u are apart 0 (saying 1 (map Need (names_of others)))
  root_chosen = chosen_at (with_root others) u are apart 0 (root_row (names_of others)) (saying 1 (map Need (names_of others))) refl refl

  some_works : (k : ℕ) (o : Option Row) → slice_get (with_root others) k ≡ o → (pick (picks (with_root others)) k ≡ None) ⊎ Works (with_root others) u are apart k
  some_works k None e = inl (no_pick (with_root others) u are apart k e)
  some_works zero (Some row) e = inr (works_by (with_root others) u are apart 0 (saying 1 (map Need (names_of others))) root_chosen (leads [] others refl rows_met).1)
  some_works (suc k) (Some row) e =
      let m = met_row_at (with_root others) others k row rows_met e in
      inr (works_by (with_root others) u are apart (suc k) m.version (chosen_at (with_root others) u are apart (suc k) row m.version e m.chosen) (bounds_met (with_root others) u are apart m.version.says m.met))

  works : (k : ℕ) → (pick (picks (with_root others)) k ≡ None) ⊎ Works (with_root others) u are apart k
  works k = some_works k (slice_get (with_root others) k) refl

  nothing_there : (k : ℕ) → pick (picks (with_root others)) k ≡ None → chosen u (picks (with_root others)) k ≡ None
  nothing_there k e = ap (λ o. option_and_then (λ c. candidate_at u k c) o) e

  fits : Fits u (picks (with_root others))
  fits = record {
    each = length-map (with_root others) (λ (r : Row). Some r.pick) ∙ sym (AllZip-long IsInterfaceOf (with_root others) u are);
    there = λ i c e. elim (works i) [ inl n ↦ absurd (differ (sym n ∙ e)) | inr w ↦ ap is_some (sym (ap (λ o. option_and_then (λ c. candidate_at u i c) o) e) ∙ w.at) ];
  }
    where
      differ : {c : ℕ} → ◌≡◌ {A = Option ℕ} None (Some c) → ⊥
      differ e = cc e

  met_at : (i : ℕ) → IfSome (chosen u (picks (with_root others)) i) (λ c. AreMet u (picks (with_root others)) c.imp.deps)
  met_at i = elim (works i) [
    | inl n ↦ subst (λ o. IfSome o (λ c. AreMet u (picks (with_root others)) c.imp.deps)) (sym (nothing_there i n)) tt
    | inr w ↦ subst (λ o. IfSome o (λ c. AreMet u (picks (with_root others)) c.imp.deps)) (sym w.at) (All-from_recursion (λ d. IsMet u (picks (with_root others)) d) w.candidate.imp.deps w.met)
  ]

  any_group : (i : ℕ) (c : Candidate) → chosen u (picks (with_root others)) i ≡ Some c → group c ≡ Any
  any_group i c e = elim (works i) [ inl n ↦ absurd (differ (sym (nothing_there i n) ∙ e)) | inr w ↦ ap group (same (sym e ∙ w.at)) ∙ no_arch w.candidate w.arch ]
    where
      differ : {c : Candidate} → ◌≡◌ {A = Option Candidate} None (Some c) → ⊥
      differ e = cc e

      same : {a b : Candidate} → ◌≡◌ {A = Option Candidate} (Some a) (Some b) → a ≡ b
      same e = cc

  -- the choice is valid
  pub is_valid : (req : Requirement) → req.command ≡ None → IsValid u req (picks (with_root others))
  is_valid req none =
      let deps : deps_of (chosen u (picks (with_root others)) 0) ≡ needed others = ap deps_of root_chosen.at ∙ root_chosen.of.deps in
      let lead : LeadFrom u (picks (with_root others)) 1 (deps_of (chosen u (picks (with_root others)) 0)) = subst (LeadFrom u (picks (with_root others)) 1) (sym deps) (leads [] others refl rows_met).0 in
      let many : length (needed others) ≡ length others = length-map (map Need (names_of others)) dep_by ∙ (length-map (names_of others) Need ∙ length-map others (λ (r : Row). r.name)) in
      let picked : length (picks (with_root others)) ≡ suc (length others) = length-map (with_root others) (λ (r : Row). Some r.pick) in
      let asked : length (deps_of (chosen u (picks (with_root others)) 0)) ≡ length (needed others) = ap length deps in
      let long : length (picks (with_root others)) ≡ 1 + length (deps_of (chosen u (picks (with_root others)) 0)) = omega (arith, many, picked, asked) in
      record {
        fits = fits;
        root = subst (λ o. IsSomeAnd o (λ c. IfSome req.command (λ name. Has c name))) (sym root_chosen.at) (subst (λ o. IfSome o (λ name. Has root_chosen.candidate name)) (sym none) tt);
        met = met_at;
        walk = walk_upto (picks (with_root others)) (length (picks (with_root others)));
        walks = walks u req (picks (with_root others)) none lead long;
        used_met = All-nil (λ (x : Use). IfSome (command_at u (picks (with_root others)) x.interface x.command) (λ m. AreMet u (picks (with_root others)) (needs_of m)));
        one_group = λ i j c d e f g h. differ (sym (any_group i c e) ∙ g);
        exactly = chosen_exactly (picks (with_root others));
      }
    where
      differ : Any ≡ Bits32 → ⊥
      differ e = cc e
