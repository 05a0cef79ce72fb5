-- In which store each digest stands, store after store.
use Rattle.std.proofs.Common.{◌≡◌, ℕ, zero, suc, ◌+◌, ◌<◌, ◌≤◌, Bool, true, false, ◌||◌, cond, List, [], ◌∷◌, ◌++◌, map, length, take, get_or, Option, Some, None, refl, sym, ◌∙◌, ap, arith, bytes_eq}
use Rattle.std.specs.List.{position_from, list_any}
use Rattle.std.specs.Map.{lookup}
use Rattle.std.proofs.lemmas.List.{map-append, take_more}
use Rattle.zi_digest.specs.declared.DigestName.{DigestName}
use Rattle.zi_digest.specs.Name.{spelling}
use Rattle.zi_policy.specs.Platform.{listed}
use Rattle.zi_shelf.specs.Names.{Name}
use Rattle.zi_store.specs.Rising.{is_among}
use Rattle.zi_store.specs.Finding.{spelled}
use Rattle.zi_feed.proofs.LatestLaws.{text_swap}
use Rattle.zi_choice.specs.Tables.{first_of, IsAdded}
use Rattle.zi_choice.proofs.TableLaws.{position_last}
use Rattle.zi_universe.specs.Naming.{joined}
use Rattle.zi_universe.proofs.NamingLemmas.{listed-joined_left, listed-without_repeats}
use Rattle.zi_world.specs.Places.{place, place_by}
use Rattle.zi_choosing.specs.Knowing.{all_names}
use Rattle.zi_fetching.specs.Known.{Names, names_of, is_known}
use Rattle.zi_launching.specs.Placing.{ArePlaces, ArePlaced, IsPlaced}

or_none : (o : Option ℕ) → o ≡ first_of o None
or_none None = refl
or_none (Some n) = refl

-- none were added
pub placed_none : (store : ℕ) (es : List (List ℕ × ℕ)) → IsPlaced [] store es es
placed_none store es q = or_none (lookup (bytes_eq q) es)

any_last : (p : Name → Bool) (xs : List Name) (y : Name) → list_any p (xs ++ y ∷ []) ≡ (list_any p xs || p y)
any_last p [] y = by (p y)
  where
    by : (b : Bool) → (b || false) ≡ b
    by true = refl
    by false = refl
any_last p (x ∷ xs) y = by (p x) (any_last p xs y)
  where
    by : (b : Bool) → list_any p (xs ++ y ∷ []) ≡ (list_any p xs || p y) → (b || list_any p (xs ++ y ∷ [])) ≡ ((b || list_any p xs) || p y)
    by true h = refl
    by false h = h

either_of : (o : Option ℕ) (n : ℕ) (a b : Bool) → first_of (first_of o (cond a (Some n) None)) (cond b (Some n) None) ≡ first_of o (cond (a || b) (Some n) None)
either_of None n true b = refl
either_of None n false b = refl
either_of (Some m) n a b = refl

-- one more, at any default of the list's elements
pub placed_more : (ds : List DigestName) (i : ℕ) (e : DigestName) (store : ℕ) (old es fs : List (List ℕ × ℕ)) → i < length ds → IsPlaced (take i ds) store old es → IsAdded es (spelling (get_or ds i e)) store fs
    → IsPlaced (take (i + 1) ds) store old fs
placed_more ds i e store old es fs lt placed added q =
    let d : DigestName = get_or ds i e in
    let cut : take (i + 1) ds ≡ take i ds ++ d ∷ [] = take_more ds i e lt in
    let names : map spelling (take (i + 1) ds) ≡ map spelling (take i ds) ++ spelling d ∷ [] = ap (map spelling) cut ∙ map-append spelling (take i ds) (d ∷ []) in
    let o = lookup (bytes_eq q) old in
    let among : is_among (map spelling (take (i + 1) ds)) q ≡ (is_among (map spelling (take i ds)) q || bytes_eq (spelling d) q) =
    ap (λ ns. is_among ns q) names ∙ any_last (λ n. bytes_eq n q) (map spelling (take i ds)) (spelling d) in
    added q
    ∙ ap (λ p. first_of p (cond (bytes_eq q (spelling d)) (Some store) None)) (placed q)
    ∙ ap (λ b. first_of (first_of o (cond (is_among (map spelling (take i ds)) q) (Some store) None)) (cond b (Some store) None)) (text_swap q (spelling d))
    ∙ either_of o store (is_among (map spelling (take i ds)) q) (bytes_eq (spelling d) q)
    ∙ ap (λ b. first_of o (cond b (Some store) None)) (sym among)

-- of no store
pub placed_at_first : (each : List (List DigestName)) (es : List (List ℕ × ℕ)) → es ≡ [] → ArePlaced (take 0 each) es
placed_at_first each es e q = ap (lookup (bytes_eq q)) e

spelled_length : (each : List (List DigestName)) (i : ℕ) → i ≤ length each → length (spelled (take i each)) ≡ i
spelled_length each zero h = refl
spelled_length [] (suc i) h = absurd (omega (arith, h))
spelled_length (ns ∷ each) (suc i) h = ap suc (spelled_length each i (omega (arith, h)))

-- those of one store more
pub placed_next : (each : List (List DigestName)) (i : ℕ) (ds : List DigestName) (es fs : List (List ℕ × ℕ)) → i < length each → ds ≡ get_or each i ds → ArePlaced (take i each) es → IsPlaced ds i es fs → ArePlaced (take (i + 1) each) fs
placed_next each i ds es fs lt at_ are placed q =
    let test : List Name → Bool = λ ns. is_among ns q in
    let cut : take (i + 1) each ≡ take i each ++ ds ∷ [] = take_more each i ds lt ∙ ap (λ x. take i each ++ x ∷ []) (sym at_) in
    let lists : spelled (take (i + 1) each) ≡ spelled (take i each) ++ map spelling ds ∷ [] = ap spelled cut ∙ map-append (λ ns. map spelling ns) (take i each) (ds ∷ []) in
    let long : length (spelled (take i each)) ≡ i = spelled_length each i (omega (arith, lt)) in
    let z : 0 + length (spelled (take i each)) ≡ i = omega (arith, long) in
    placed q
    ∙ ap (λ o. first_of o (cond (test (map spelling ds)) (Some i) None)) (are q)
    ∙ ap (λ k. first_of (position_from test 0 (spelled (take i each))) (cond (test (map spelling ds)) (Some k) None)) (sym z)
    ∙ sym (position_last test 0 (spelled (take i each)) (map spelling ds))
    ∙ ap (position_from test 0) (sym lists)

-- what is looked up is where each stands
pub placed_places : (each : List (List DigestName)) (es : List (List ℕ × ℕ)) → ArePlaced each es → ArePlaces each es
placed_places each es h d = ap place_by (h (spelling d))

-- of one store at most all stand in the first
pub few_places : (each : List (List DigestName)) (es : List (List ℕ × ℕ)) → length each ≤ 1 → es ≡ [] → ArePlaces each es
few_places each es few e d = ap (λ xs. place_by (lookup (bytes_eq (spelling d)) xs)) e ∙ by each few
  where
    in_one : (b : Bool) → 0 ≡ place_by (cond b (Some 0) None)
    in_one true = refl
    in_one false = refl

    by : (each : List (List DigestName)) → length each ≤ 1 → 0 ≡ place each d
    by [] h = refl
    by (ns ∷ []) h = in_one (is_among (map spelling ns) (spelling d))
    by (ns ∷ ms ∷ each) h = absurd (omega (arith, h))

-- it is one of the stores
within : (n : ℕ) (each : List (List DigestName)) (j : ℕ) (q : Name) → j + length each ≤ n → 0 < n → place_by (position_from (λ ns. is_among ns q) j (spelled each)) < n
within n [] j q h lt = lt
within n (ns ∷ each) j q h lt = by (is_among (map spelling ns) q) (within n each (j + 1) q (omega (arith, h)) lt)
  where
    by : (b : Bool) → place_by (position_from (λ ms. is_among ms q) (j + 1) (spelled each)) < n → place_by (cond b (Some j) (position_from (λ ms. is_among ms q) (j + 1) (spelled each))) < n
    by true go = omega (arith, h)
    by false go = go

pub place_within : (n : ℕ) (each : List (List DigestName)) (d : DigestName) → length each ≡ n + 1 → place each d ≤ n
place_within n each d e = let w = within (n + 1) each 0 (spelling d) (omega (arith, e)) (omega arith) in omega (arith, w)

-- A digest that is in none of the stores stands in the first.
apart_from : (q : Name) (ds rest : List DigestName) → listed q (map spelling (ds ++ rest)) ≡ false → (is_among (map spelling ds) q ≡ false) × (listed q (map spelling rest) ≡ false)
apart_from q [] rest h = (refl, h)
apart_from q (d ∷ ds) rest h = by (bytes_eq q (spelling d)) refl h (apart_from q ds rest)
  where
    by : (b : Bool) → bytes_eq q (spelling d) ≡ b → (b || listed q (map spelling (ds ++ rest))) ≡ false
        → (listed q (map spelling (ds ++ rest)) ≡ false → (is_among (map spelling ds) q ≡ false) × (listed q (map spelling rest) ≡ false))
        → ((bytes_eq (spelling d) q || is_among (map spelling ds) q) ≡ false) × (listed q (map spelling rest) ≡ false)
    by true e h go = absurd (cc h)
    by false e h go = let r = go h in (ap (λ b. b || is_among (map spelling ds) q) (sym (text_swap q (spelling d)) ∙ e) ∙ r.0, r.1)

no_place : (each : List (List DigestName)) (j : ℕ) (q : Name) → listed q (map spelling (all_names each)) ≡ false → position_from (λ ns. is_among ns q) j (spelled each) ≡ None
no_place [] j q h = refl
no_place (ds ∷ each) j q h =
    let r = apart_from q ds (all_names each) h in
    ap (λ b. cond b (Some j) (position_from (λ ns. is_among ns q) (j + 1) (spelled each))) r.0 ∙ no_place each (j + 1) q r.1

pub new_first : (each : List (List DigestName)) (d : DigestName) → is_known (names_of (all_names each)) d ≡ false → place each d ≡ 0
new_first each d h = ap place_by (no_place each 0 (spelling d) (sym (listed-without_repeats (spelling d) (map spelling (all_names each))) ∙ h))

-- so does one that isn't there behind more that are
pub new_behind : (each : List (List DigestName)) (more : Names) (d : DigestName) → is_known (joined (names_of (all_names each)) more) d ≡ false → place each d ≡ 0
new_behind each more d h = new_first each d (by (is_known (names_of (all_names each)) d) refl)
  where
    by : (b : Bool) → is_known (names_of (all_names each)) d ≡ b → is_known (names_of (all_names each)) d ≡ false
    by true e = let k = listed-joined_left (spelling d) (names_of (all_names each)) more e in absurd (cc (sym k ∙ h))
    by false e = e
