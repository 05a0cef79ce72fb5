-- A list that grows by what its members name, member by member.
use Rattle.std.proofs.Common.{◌≡◌, ℕ, zero, suc, ◌+◌, ◌<◌, ◌≤◌, ◌⊎◌, inl, inr, Bool, true, false, List, [], ◌∷◌, ◌++◌, length, take, drop, map, get_or, refl, sym, ap, subst, ◌∙◌, arith, append_assoc, length-append, add-one, if◌then◌else◌}
use Rattle.std.specs.Prelude.{◌≢◌, ◌||◌, Contains, bytes_eq}
use Rattle.std.proofs.Common.{true≢false}
use Rattle.std.proofs.Math.Bool.{or-true}
use Rattle.std.proofs.lemmas.Slice.Eq.{bytes_eq-Decides}
use Rattle.std.proofs.lemmas.List.Elements.{Contains-get_or, Contains-append_left, Contains-push, Contains-push_cases}
use Rattle.std.proofs.lemmas.List.Quantifiers.{all_pairs_push}
use Rattle.indexmap.proofs.CallerLemmas.{Contains-list_any}
use Rattle.std.proofs.lemmas.List.{append-nil, take_all, take-append-le, take_more, length-take-le, take-append-drop, get_or_append_left, take-map, take_more_same, length-map}
use Rattle.zi_policy.specs.Platform.{listed}
use Rattle.zi_universe.specs.Naming.{Uri, Uris, with_one, joined, without_repeats, all_of, IsNamed, IsClosed, AreApart}

pub joined-append : (xs ys zs : Uris) → joined xs (ys ++ zs) ≡ joined (joined xs ys) zs
joined-append xs [] zs = refl
joined-append xs (y ∷ ys) zs = joined-append (with_one xs y) ys zs

pub all_of-append : (xss : List Uris) (ys : Uris) → all_of (xss ++ ys ∷ []) ≡ all_of xss ++ ys
all_of-append [] ys = append-nil ys
all_of-append (xs ∷ xss) ys = ap (λ zs. xs ++ zs) (all_of-append xss ys) ∙ sym (append_assoc xs (all_of xss) ys)

-- joining only puts more behind
with_one_behind : (b : Bool) (xs : Uris) (y : Uri) → (zs : Uris) × ((if b then xs else xs ++ y ∷ []) ≡ xs ++ zs)
with_one_behind true xs y = ([], sym (append-nil xs))
with_one_behind false xs y = (y ∷ [], refl)

pub joined_behind : (xs ys : Uris) → (zs : Uris) × (joined xs ys ≡ xs ++ zs)
joined_behind xs [] = ([], sym (append-nil xs))
joined_behind xs (y ∷ ys) =
    let one = with_one_behind (listed y xs) xs y in
    let more = joined_behind (with_one xs y) ys in
    (one.0 ++ more.0, more.1 ∙ ap (λ q. q ++ more.0) one.1 ∙ append_assoc xs one.0 more.0)

-- the list after named members, and one more
after_one : (first : Uri) (named : List Uris) (ys : Uris) → without_repeats (first ∷ all_of (named ++ ys ∷ [])) ≡ joined (without_repeats (first ∷ all_of named)) ys
after_one first named ys = ap (λ q. joined (first ∷ []) q) (all_of-append named ys) ∙ joined-append (first ∷ []) (all_of named) ys

pub named_begins : (first : Uri) → IsNamed first [] (first ∷ [])
named_begins first = record { are = refl; in_turn = λ k lt. absurd (omega arith) }

turns_more : (first : Uri) (named : List Uris) (xs ys : Uris) → IsNamed first named xs → length named < length xs → (k : ℕ) → k < length named + 1
    → k < length (without_repeats (first ∷ all_of (take k (named ++ ys ∷ []))))
turns_more first named xs ys n room k lt =
    let P : List Uris → Type 0 = λ q. k < length (without_repeats (first ∷ all_of q)) in
    elim (below_or_at k (length named) lt) [
      | inl h ↦ subst P (sym (take-append-le k named (ys ∷ []) (omega arith))) (n.in_turn k h)
      | inr e ↦ subst P (sym (take-append-le k named (ys ∷ []) (omega arith) ∙ take_all k named (omega arith)))
          (let len : k < length xs = omega arith in subst (λ q. k < length q) n.are len)
    ]
  where
    below_or_at : (k m : ℕ) → k < m + 1 → (k < m) ⊎ (k ≡ m)
    below_or_at k m lt = grind arith

pub named_more : (first : Uri) (named : List Uris) (xs ys : Uris) → IsNamed first named xs → length named < length xs → IsNamed first (named ++ ys ∷ []) (joined xs ys)
named_more first named xs ys n room = record {
  are = ap (λ q. joined q ys) n.are ∙ sym (after_one first named ys);
  in_turn = λ k lt. turns_more first named xs ys n room k (let e : length (named ++ ys ∷ []) ≡ length named + 1 = length-append named (ys ∷ []) in omega (arith, lt, e));
}

pub map-append : {X Y : Type 0} (f : X → Y) (xs ys : List X) → map f (xs ++ ys) ≡ map f xs ++ map f ys
map-append f [] ys = refl
map-append f (x ∷ xs) ys = ap (λ q. f x ∷ q) (map-append f xs ys)

-- one more of the members of xs names what it names
pub member_names : (first : Uri) (next : Uri → Uris) (xs : Uris) (i : ℕ) (x : Uri) → i < length xs → get_or xs i x ≡ x
    → IsNamed first (map next (take i xs)) xs → IsNamed first (map next (take (i + 1) (joined xs (next x)))) (joined xs (next x))
member_names first next xs i x lt e n =
    let more = joined_behind xs (next x) in
    let cut : take (i + 1) (joined xs (next x)) ≡ take i xs ++ x ∷ [] =
    ap (λ q. take (i + 1) q) more.1 ∙ take-append-le (i + 1) xs more.0 (omega arith) ∙ take_more xs i x lt ∙ ap (λ q. take i xs ++ q ∷ []) e in
    let same : map next (take i xs) ++ next x ∷ [] ≡ map next (take (i + 1) (joined xs (next x))) =
    sym (ap (λ q. map next q) cut ∙ map-append next (take i xs) (x ∷ [])) in
    let P : List Uris → Type 0 = λ q. IsNamed first q (joined xs (next x)) in
    let len : length (map next (take i xs)) ≡ i = length-map (take i xs) next ∙ length-take-le i xs (omega arith) in
    subst P same (named_more first (map next (take i xs)) xs (next x) n (omega (arith, len, lt)))

-- once all have named theirs, the list is closed
pub closes : (first : Uri) (next : Uri → Uris) (xs : Uris) (i : ℕ) → length xs ≤ i → IsNamed first (map next (take i xs)) xs → IsClosed first next xs
closes first next xs i le n = let P : Uris → Type 0 = λ q. IsNamed first (map next q) xs in subst P (take_all i xs le) n

all_of-both : (xss yss : List Uris) → all_of (xss ++ yss) ≡ all_of xss ++ all_of yss
all_of-both [] yss = refl
all_of-both (xs ∷ xss) yss = ap (λ zs. xs ++ zs) (all_of-both xss yss) ∙ sym (append_assoc xs (all_of xss) (all_of yss))

-- a list begins with each of its stages
pub begins : (first : Uri) (named : List Uris) (xs : Uris) (k : ℕ) → IsNamed first named xs → (zs : Uris) × (xs ≡ without_repeats (first ∷ all_of (take k named)) ++ zs)
begins first named xs k n =
    let front : Uris = all_of (take k named) in
    let back : Uris = all_of (drop k named) in
    let more = joined_behind (joined (first ∷ []) front) back in
    let cut : all_of named ≡ front ++ back = ap (λ q. all_of q) (sym (take-append-drop k named)) ∙ all_of-both (take k named) (drop k named) in
    (more.0, n.are ∙ ap (λ q. joined (first ∷ []) q) cut ∙ joined-append (first ∷ []) front back ∙ more.1)

-- what stands at k is what the stage at k has there
pub at_stage : (first : Uri) (named : List Uris) (xs : Uris) (k : ℕ) (d : Uri) → IsNamed first named xs → k < length named
    → get_or xs k d ≡ get_or (without_repeats (first ∷ all_of (take k named))) k d
at_stage first named xs k d n lt =
    let b = begins first named xs k n in
    ap (λ q. get_or q k d) b.1 ∙ get_or_append_left (without_repeats (first ∷ all_of (take k named))) b.0 d k (n.in_turn k lt)

same_names : (next : Uri → Uris) (xs ys : Uris) (k : ℕ) → take k xs ≡ take k ys → take k (map next xs) ≡ take k (map next ys)
same_names next xs ys k e = take-map next k xs ∙ ap (λ q. map next q) e ∙ sym (take-map next k ys)

same_front : (first : Uri) (next : Uri → Uris) (xs ys : Uris) → IsClosed first next xs → IsClosed first next ys → (k : ℕ) → k ≤ length xs → k ≤ length ys → take k xs ≡ take k ys
same_front first next xs ys m n zero le lf = refl
same_front first next xs ys m n (suc k) le lf =
    let P : ℕ → Type 0 = λ j. take j xs ≡ take j ys in
    let so_far : take k xs ≡ take k ys = same_front first next xs ys m n k (omega arith) (omega arith) in
    let lt : k < length (map next xs) = omega (arith, length-map xs next, le) in
    let lu : k < length (map next ys) = omega (arith, length-map ys next, lf) in
    let here : get_or xs k first ≡ get_or ys k first =
    at_stage first (map next xs) xs k first m lt
    ∙ ap (λ q. get_or (without_repeats (first ∷ all_of q)) k first) (same_names next xs ys k so_far)
    ∙ sym (at_stage first (map next ys) ys k first n lu) in
    subst P (add-one k) (take_more_same xs ys k first (omega arith) (omega arith) so_far here)

not_longer : (first : Uri) (next : Uri → Uris) (xs ys : Uris) → IsClosed first next xs → IsClosed first next ys → ¬ (length xs < length ys)
not_longer first next xs ys m n lt =
    let k : ℕ = length xs in
    let so_far : take k xs ≡ take k ys = same_front first next xs ys m n k (omega arith) (omega arith) in
    let all : take k (map next ys) ≡ map next xs = sym (same_names next xs ys k so_far) ∙ take_all k (map next xs) (omega (arith, length-map xs next)) in
    let turn : k < length (without_repeats (first ∷ all_of (take k (map next ys)))) = n.in_turn k (omega (arith, length-map ys next, lt)) in
    let end : without_repeats (first ∷ all_of (take k (map next ys))) ≡ xs = ap (λ q. without_repeats (first ∷ all_of q)) all ∙ sym m.are in
    let P : Uris → Type 0 = λ q. k < length q in
    let bad : k < length xs = subst P end turn in
    omega (arith, bad)

-- there is one closed list at most
pub closed_once : (first : Uri) (next : Uri → Uris) (xs ys : Uris) → IsClosed first next xs → IsClosed first next ys → xs ≡ ys
closed_once first next xs ys m n =
    let a = not_longer first next xs ys m n in
    let b = not_longer first next ys xs n m in
    let e : length xs ≡ length ys = equal_from (length xs) (length ys) a b in
    sym (take_all (length xs) xs (omega arith)) ∙ same_front first next xs ys m n (length xs) (omega arith) (omega arith) ∙ take_all (length xs) ys (omega arith)
  where
    equal_from : (a b : ℕ) → ¬ (a < b) → ¬ (b < a) → a ≡ b
    equal_from a b f g = omega arith

-- one list after another
pub joined_twice : (xs ys zs : Uris) → joined (joined xs ys) zs ≡ joined xs (ys ++ zs)
joined_twice xs ys zs = sym (joined-append xs ys zs)

-- one more of the front of a list that only grows
pub take_joined : (here ys : Uris) (n : ℕ) (uri : Uri) → n < length here → get_or here n uri ≡ uri → take (n + 1) (joined here ys) ≡ take n here ++ uri ∷ []
take_joined here ys n uri lt e =
    let more = joined_behind here ys in
    ap (λ q. take (n + 1) q) more.1 ∙ take-append-le (n + 1) here more.0 (omega arith) ∙ take_more here n uri lt ∙ ap (λ q. take n here ++ q ∷ []) e

-- Members.
pub bytes_eq-true : (x y : Uri) → bytes_eq x y ≡ true → x ≡ y
bytes_eq-true x y e = (bytes_eq-Decides x y).0 e

pub bytes_eq-refl : (x : Uri) → bytes_eq x x ≡ true
bytes_eq-refl x = (bytes_eq-Decides x x).1 refl

pub bytes_eq-false : (x y : Uri) → bytes_eq x y ≡ false → x ≢ y
bytes_eq-false x y e s = true≢false (sym ((bytes_eq-Decides x y).1 s) ∙ e)

pub listed-Contains : (y : Uri) (xs : Uris) → listed y xs ≡ true → Contains xs y
listed-Contains y xs e = Contains-list_any bytes_eq bytes_eq-true xs y e

-- an address is among those behind one, or it is that one
pub listed-cons : (y x : Uri) (xs : Uris) → listed y xs ≡ true → listed y (x ∷ xs) ≡ true
listed-cons y x xs e = ap (λ b. bytes_eq y x || b) e ∙ or-true (bytes_eq y x)

pub Contains-listed : (y : Uri) (xs : Uris) → Contains xs y → listed y xs ≡ true
Contains-listed y [] c = absurd (omega (arith, c.1))
Contains-listed y (x ∷ xs) c = at c.0 c.1 c.2 (λ d. Contains-listed y xs d)
  where
    at : (k : ℕ) → k < suc (length xs) → get_or (x ∷ xs) k y ≡ y → (Contains xs y → listed y xs ≡ true) → listed y (x ∷ xs) ≡ true
    at zero lt e rest = ap (λ b. b || listed y xs) (ap (λ q. bytes_eq y q) e ∙ bytes_eq-refl y)
    at (suc k) lt e rest = listed-cons y x xs (rest (k, omega arith, e))

pub listed-append_left : (y : Uri) (xs ys : Uris) → listed y xs ≡ true → listed y (xs ++ ys) ≡ true
listed-append_left y xs ys e = Contains-listed y (xs ++ ys) (Contains-append_left xs ys y (listed-Contains y xs e))

pub listed-joined_left : (y : Uri) (xs ys : Uris) → listed y xs ≡ true → listed y (joined xs ys) ≡ true
listed-joined_left y xs ys e =
    let b = joined_behind xs ys in
    ap (λ q. listed y q) b.1 ∙ listed-append_left y xs b.0 e

pub listed-with_one : (y : Uri) (xs : Uris) → listed y (with_one xs y) ≡ true
listed-with_one y xs = by (listed y xs) refl
  where
    by : (b : Bool) → listed y xs ≡ b → listed y (if b then xs else xs ++ y ∷ []) ≡ true
    by true e = e
    by false e = Contains-listed y (xs ++ y ∷ []) (Contains-push xs y)

pub listed-joined : (y : Uri) (xs ys : Uris) → listed y ys ≡ true → listed y (joined xs ys) ≡ true
listed-joined y xs [] e = absurd (true≢false (sym e))
listed-joined y xs (z ∷ zs) e = by (bytes_eq y z) refl (λ h. listed-joined y (with_one xs z) zs h)
  where
    by : (b : Bool) → bytes_eq y z ≡ b → (listed y zs ≡ true → listed y (joined (with_one xs z) zs) ≡ true) → listed y (joined (with_one xs z) zs) ≡ true
    by true same rest =
        let P : Uri → Type 0 = λ q. listed y (with_one xs q) ≡ true in
        listed-joined_left y (with_one xs z) zs (subst P (bytes_eq-true y z same) (listed-with_one y xs))
    by false other rest = rest (ap (λ b. b || listed y zs) (sym other) ∙ e)

-- no more than those is there
with_one_from : (y : Uri) (xs : Uris) (z : Uri) → listed y (with_one xs z) ≡ true → (listed y xs ≡ true) ⊎ (y ≡ z)
with_one_from y xs z e = by (listed z xs) e
  where
    by : (b : Bool) → listed y (if b then xs else xs ++ z ∷ []) ≡ true → (listed y xs ≡ true) ⊎ (y ≡ z)
    by true h = inl h
    by false h = elim (Contains-push_cases xs z y (listed-Contains y (xs ++ z ∷ []) h)) [ inl c ↦ inl (Contains-listed y xs c) | inr s ↦ inr (sym s) ]

pub joined_from : (y : Uri) (xs ys : Uris) → listed y (joined xs ys) ≡ true → (listed y xs ≡ true) ⊎ (listed y ys ≡ true)
joined_from y xs [] e = inl e
joined_from y xs (z ∷ zs) e = elim (joined_from y (with_one xs z) zs e) [
  | inl h ↦ elim (with_one_from y xs z h) [
    | inl i ↦ inl i
    | inr s ↦ inr (ap (λ b. b || listed y zs) (ap (λ q. bytes_eq y q) (sym s) ∙ bytes_eq-refl y))
  ]
  | inr h ↦ inr (listed-cons y z zs h)
]

-- Lists without repeats.
with_one_apart : (xs : Uris) (y : Uri) → AreApart xs → AreApart (with_one xs y)
with_one_apart xs y a = by (listed y xs) refl
  where
    by : (b : Bool) → listed y xs ≡ b → AreApart (if b then xs else xs ++ y ∷ [])
    by true e = a
    by false e = all_pairs_push (λ x z. x ≢ z) xs y a (λ k d lt s. true≢false (sym (Contains-listed y xs (let P : Uri → Type 0 = λ q. Contains xs q in subst P s (Contains-get_or xs k d lt))) ∙ e))

pub joined_apart : (xs ys : Uris) → AreApart xs → AreApart (joined xs ys)
joined_apart xs [] a = a
joined_apart xs (y ∷ ys) a = joined_apart (with_one xs y) ys (with_one_apart xs y a)

pub none_apart : AreApart []
none_apart i j d lt within = absurd (omega (arith, within))

pub without_repeats_apart : (xs : Uris) → AreApart (without_repeats xs)
without_repeats_apart xs = joined_apart [] xs none_apart

-- the same addresses are in a list without its repeats
pub listed-without_repeats : (y : Uri) (xs : Uris) → listed y (without_repeats xs) ≡ listed y xs
listed-without_repeats y xs = by (listed y (without_repeats xs)) (listed y xs) refl refl
  where
    by : (b c : Bool) → listed y (without_repeats xs) ≡ b → listed y xs ≡ c → b ≡ c
    by true true e f = refl
    by false false e f = refl
    by false true e f = absurd (true≢false (sym (listed-joined y [] xs f) ∙ e))
    by true false e f = elim (joined_from y [] xs e) [ inl h ↦ absurd (true≢false (sym h)) | inr h ↦ absurd (true≢false (sym h ∙ f)) ]
