-- The selections of a document as trees: below each what it is the first to need.
use Rattle.std.specs.Prelude.{◌≡◌, ℕ, List, [], ◌∷◌, ◌++◌, map, find, bytes_eq, if◌then◌else◌, Option, Some, None}
use Rattle.std.specs.List.{flat_map}
use Rattle.zi_policy.specs.Platform.{listed}
use Rattle.zi_universe.specs.Candidates.{asked, asked_by_command}
use Rattle.zi_sels.specs.declared.types.Selection.{Selection}
use Rattle.zi_sels.specs.declared.types.Selections.{Selections}

-- the addresses that a selection asks for: its own, and then those of each of its commands, in the order of the document
abbrev pub needs : Selection → List (List ℕ)
needs x = asked x.deps ++ flat_map asked_by_command x.commands

-- what is selected for an address
abbrev pub selected_for : List Selection → List ℕ → Option Selection
selected_for items u = find (λ (x : Selection). bytes_eq x.interface u) items

-- the same, unless its address is among those that have been shown
abbrev pub still_to_show : List Selection → List (List ℕ) → List ℕ → Option Selection
still_to_show items shown u = if listed u shown then None else selected_for items u

-- trees side by side: the first, which is a selection with the trees below it, and those behind it
pub data Trees : Type 0 where
  none : Trees
  tree : Selection → Trees → Trees → Trees

-- all selections in them, each before those below it
abbrev pub all_in : Trees → List Selection
all_in none = []
all_in (tree x below next) = x ∷ (all_in below ++ all_in next)

-- and their addresses
abbrev pub addresses_in : Trees → List (List ℕ)
addresses_in ts = map (λ (x : Selection). x.interface) (all_in ts)

-- The trees of addresses that are asked for one after another, where some have been shown, and those that have been then: a tree for each that has
-- something still to show, and below it the trees of what that needs. So each selection stands where it is first needed, depth first.
pub data Grow (items : List Selection) : List (List ℕ) → List (List ℕ) → Trees → List (List ℕ) → Type 0 where
  ends : {shown : List (List ℕ)} → Grow items shown [] none shown
  passes : {shown us after : List (List ℕ)} {u : List ℕ} {ts : Trees} → still_to_show items shown u ≡ None → Grow items shown us ts after
      → Grow items shown (u ∷ us) ts after
  grows : {shown us mid after : List (List ℕ)} {u : List ℕ} {below next : Trees} (x : Selection) → still_to_show items shown u ≡ Some x
      → Grow items (u ∷ shown) (needs x) below mid → Grow items mid us next after → Grow items shown (u ∷ us) (tree x below next) after

-- the root's address, and then that of each selection, which comes to those that the root doesn't need
abbrev pub all_asked : Selections → List (List ℕ)
all_asked sels = sels.interface ∷ map (λ (x : Selection). x.interface) sels.items

-- The trees of a document: that of the root first, and behind it those of what it doesn't need.
abbrev pub AreTrees : Selections → Trees → Type 0
AreTrees sels ts = (after : List (List ℕ)) × Grow sels.items [] (all_asked sels) ts after
