-- The folders on a way, and the paths to which names lead.
use Rattle.std.proofs.Common.{◌≡◌, ℕ, ◌+◌, ◌-◌, ◌<◌, List, [], ◌∷◌, ◌++◌, length, map, take, drop, get_or, refl, sym, ap, ◌∙◌, arith, take-append-drop, take_all}
use Rattle.std.proofs.lemmas.List.{take_more, take-map, get_or-map, length-map, map-append}
use Rattle.zi_folder.specs.Paths.{in_folder, path_on}
use Rattle.zi_folder.specs.Opened.{LeadsAs, IsFront}

-- one name more
pub path_on-more : (path : List ℕ) (names : List (List ℕ)) (name : List ℕ) → path_on path (names ++ name ∷ []) ≡ in_folder (path_on path names) name
path_on-more path [] name = refl
path_on-more path (first ∷ names) name = path_on-more (in_folder path first) names name

-- what leads as the parts do, and the rest of them behind it, are the top entry and the parts
pub joined : (count : ℕ) (names parts : List (List ℕ)) → LeadsAs count names parts → take count names ++ drop (count - 1) parts ≡ take 1 names ++ parts
joined count [] parts e = rw e refl
joined count (top ∷ names) parts (inner, e, front) =
    let before : count - 1 ≡ inner = omega (arith, e) in
    ap (λ n. take n (top ∷ names) ++ drop (count - 1) parts) e ∙ ap (λ n. (top ∷ take inner names) ++ drop n parts) before
    ∙ ap (λ xs. top ∷ xs) (ap (λ xs. xs ++ drop inner parts) front.same ∙ take-append-drop inner parts)

-- the whole way leads as all parts do
pub whole : (count : ℕ) (names parts : List (List ℕ)) → LeadsAs count names parts → count ≡ length names → count ≡ length parts + 1 → names ≡ take 1 names ++ parts
whole count [] parts e len all = absurd (omega (arith, e, all))
whole count (top ∷ names) parts (inner, e, front) len all =
    ap (λ xs. top ∷ xs) (sym (take_all inner names (omega (arith, e, len))) ∙ front.same ∙ take_all inner parts (omega (arith, e, all)))

-- the path is one name longer
pub longer : (base before after : List ℕ) (names : List (List ℕ)) (i : ℕ) (name : List ℕ) → i < length names → name ≡ get_or names i name → before ≡ path_on base (take i names)
    → after ≡ in_folder before name → after ≡ path_on base (take (i + 1) names)
longer base before after names i name lt is so_far step =
    step ∙ ap (λ path. in_folder path name) so_far ∙ ap (in_folder (path_on base (take i names))) is
    ∙ sym (path_on-more base (take i names) (get_or names i name)) ∙ ap (path_on base) (sym (take_more names i name lt))

pub longer_by : {X : Type 0} (f : X → List ℕ) → (base before after : List ℕ) (xs : List X) (i : ℕ) (x : X) → i < length xs → x ≡ get_or xs i x
    → before ≡ path_on base (map f (take i xs)) → after ≡ in_folder before (f x) → after ≡ path_on base (map f (take (i + 1) xs))
longer_by f base before after xs i x lt is so_far step =
    let among : i < length (map f xs) = omega (arith, lt, length-map xs f) in
    longer base before after (map f xs) i (f x) among (ap f is ∙ sym (get_or-map f xs i x (f x) lt)) (so_far ∙ ap (path_on base) (sym (take-map f i xs))) step
    ∙ ap (path_on base) (take-map f (i + 1) xs)

-- one name more is the same
pub one_more : (names parts : List (List ℕ)) (i : ℕ) (name : List ℕ) → i < length names → i < length parts → get_or names i name ≡ name → get_or parts i name ≡ name
    → IsFront i names parts → IsFront (i + 1) names parts
one_more names parts i name lt lt' is is' front = record {
  few = omega (arith, lt);
  fits = omega (arith, lt');
  same = take_more names i name lt ∙ ap (λ x. take i names ++ x ∷ []) (is ∙ sym is') ∙ ap (λ xs. xs ++ get_or parts i name ∷ []) front.same ∙ sym (take_more parts i name lt');
}

pub one_more_by : {X : Type 0} (f : X → List ℕ) → (xs : List X) (parts : List (List ℕ)) (i : ℕ) (x : X) → i < length xs → x ≡ get_or xs i x → i < length parts → get_or parts i (f x) ≡ f x
    → IsFront i (map f xs) parts → IsFront (i + 1) (map f xs) parts
one_more_by f xs parts i x lt is lt' is' front =
    let among : i < length (map f xs) = omega (arith, lt, length-map xs f) in
    one_more (map f xs) parts i (f x) among lt' (get_or-map f xs i x (f x) lt ∙ ap f (sym is)) is' front

-- a folder more
pub grown : {X : Type 0} (f : X → List ℕ) → (xs : List X) (x : X) (name : List ℕ) → f x ≡ name → map f (xs ++ x ∷ []) ≡ map f xs ++ name ∷ []
grown f xs x name is = map-append f xs (x ∷ []) ∙ ap (λ n. map f xs ++ n ∷ []) is
