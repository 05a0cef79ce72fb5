-- Lists of addresses that grow by what their own members name, as the feeds of an interface grow by imports, and the
-- interfaces of a program by what their candidates ask for.
use Rattle.std.specs.Prelude.{◌≡◌, ◌≢◌, ℕ, ◌<◌, Bool, if◌then◌else◌, List, [], ◌∷◌, ◌++◌, length, take, fold, map, AllPairs}
use Rattle.std.specs.List.{flat_map}
use Rattle.zi_policy.specs.Platform.{listed}

-- an address, and a list of them
abbrev pub Uri : Type 0
Uri = List ℕ

abbrev pub Uris : Type 0
Uris = List (List ℕ)

-- an address joins a list where it isn't there yet
abbrev pub with_one : Uris → Uri → Uris
with_one xs y = if listed y xs then xs else xs ++ y ∷ []

-- which addresses are in a list
abbrev pub in_set : Uris → Uri → Bool
in_set xs y = listed y xs

-- a list, and behind it the others that aren't there yet, each once
abbrev pub joined : Uris → Uris → Uris
joined xs ys = fold with_one xs ys

-- each at its first place
abbrev pub without_repeats : Uris → Uris
without_repeats xs = joined [] xs

-- what is in some lists, one behind the other
abbrev pub all_of : List Uris → Uris
all_of xss = flat_map (λ xs. xs) xss

-- The list of first, and of what its members name, without repeats, where the members at its front named these lists.
-- Each of them was in the list before its turn came.
pub record IsNamed (first : Uri) (named : List Uris) (xs : Uris) : Type 0 where
  pub are : xs ≡ without_repeats (first ∷ all_of named)
  pub in_turn : (k : ℕ) → k < length named → k < length (without_repeats (first ∷ all_of (take k named)))

-- all its members named theirs: it begins with first, and is closed under next
abbrev pub IsClosed : Uri → (Uri → Uris) → Uris → Type 0
IsClosed first next xs = IsNamed first (map next xs) xs

-- there is one such list at most
abbrev pub IsClosedOnce : Uri → (Uri → Uris) → Type 0
IsClosedOnce first next = (xs ys : Uris) → IsClosed first next xs → IsClosed first next ys → xs ≡ ys

-- no two of them are alike
abbrev pub AreApart : Uris → Type 0
AreApart xs = AllPairs (λ x y. x ≢ y) xs
