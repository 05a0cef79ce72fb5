-- The walk over a document in steps, and what is put of its lines. The contracts inside the crate cite this.
use Rattle.std.specs.Prelude.{◌≡◌, ◌⊎◌, ℕ, ◌+◌, List, [], ◌∷◌, ◌++◌, codes, cond, map, length, bytes_eq, option_copied, is_some, if◌then◌else◌, Option, Some, None}
use Rattle.std.specs.Borrow.{Bor}
use Rattle.std.specs.Map.{lookup}
use Rattle.zi_digest.specs.declared.DigestName.{DigestName}
use Rattle.zi_digest.specs.Name.{spelling}
use Rattle.zi_outside.specs.Views.{Sinking}
use Rattle.zi_outcome.specs.declared.outcome.Outcome.{Outcome}
use Rattle.zi_outcome.specs.declared.outcome.Outcome.TheVariants.{Memory}
use Rattle.zi_outcome.specs.Writing.{Prints}
use Rattle.zi_sels.specs.declared.types.Selection.{Selection}
use Rattle.zi_sels.specs.declared.types.Selections.{Selections}
use Rattle.zi_showing.specs.declared.asking.Asked.{Asked}
use Rattle.zi_showing.specs.declared.walking.Place.{Place}
use Rattle.zi_showing.specs.Tree.{Trees, none, tree, AreTrees}
use Rattle.zi_showing.specs.Text.{deeper, item_text}
use Rattle.zi_showing.specs.Showing.{IsShown}

-- what has still to be shown, by its addresses
abbrev pub Left : Type 0
Left = List (Bor (List ℕ) × Bor Selection)

abbrev pub left_in : Left → List ℕ → Option Selection
left_in left u = option_copied (lookup (λ k. bytes_eq u k.now) left)

abbrev pub AreLeft : (List ℕ → Option Selection) → Left → Type 0
AreLeft still left = (u : List ℕ) → left_in left u ≡ still u

-- what has still to be shown of an address, which is taken out
pub record IsTaken (u : List ℕ) (taken : Option Selection) (old new : Left) : Type 0 where
  pub is : taken ≡ left_in old u
  pub others : (q : List ℕ) → left_in new q ≡ cond (bytes_eq u q) None (left_in old q)
  pub fewer : length new + (if is_some taken then 1 else 0) ≡ length old
  pub same : taken ≡ None → new ≡ old

-- what is asked for: addresses, each with its level
abbrev pub Todo : Type 0
Todo = List (List ℕ × ℕ)

abbrev pub at_level : ℕ → List (List ℕ) → Todo
at_level level us = map (λ u. (u, level)) us

abbrev pub asked_in : List Asked → Todo
asked_in pending = map (λ (a : Asked). (a.interface.now, a.level)) pending

-- nothing of these has still to be shown
abbrev pub ArePassed : (List ℕ → Option Selection) → Todo → Type 0
ArePassed still [] = Unit {0}
ArePassed still (w ∷ ws) = (still w.0 ≡ None) × ArePassed still ws

-- those at the front are passed
abbrev pub Passes : (List ℕ → Option Selection) → Todo → Todo → Type 0
Passes still old new = (front : Todo) × (old ≡ front ++ new) × ArePassed still front

-- The next that is shown: the first of what is asked for that has something still to show.
abbrev pub FindsNext : Left → Todo → Option (Selection × ℕ) → Left → Todo → Type 0
FindsNext left old None after new = Passes (left_in left) old [] × (new ≡ [])
FindsNext left old (Some p) after new =
    (u : List ℕ) × Passes (left_in left) old ((u, p.1) ∷ new) × (left_in left u ≡ Some p.0)
    × ((q : List ℕ) → left_in after q ≡ cond (bytes_eq u q) None (left_in left q)) × (length after + 1 ≡ length left)

-- a selection with its level
abbrev pub place_seen : Place → Selection × ℕ
place_seen p = (p.item.now, p.level)

-- those of trees at a level, in the order in which they are shown
abbrev pub places_of : ℕ → Trees → List (Selection × ℕ)
places_of level none = []
places_of level (tree x below next) = (x, level) ∷ (places_of (deeper level) below ++ places_of level next)

abbrev pub AreWalked : Selections → List (Selection × ℕ) → Type 0
AreWalked sels places = (trees : Trees) × AreTrees sels trees × (places ≡ places_of 0 trees)

abbrev pub place_text : List (List ℕ) → Selection × ℕ → List ℕ
place_text names p = item_text names p.1 p.0

-- a digest, and words behind it
abbrev pub digest_line_words : DigestName → List ℕ → List ℕ
digest_line_words d words = codes " " ++ (spelling d ++ words)

-- the text of a document is printed, or memory was refused before, and nothing is written
abbrev pub PrintsText : Selections → List DigestName → Sinking → Sinking → Outcome → Type 0
PrintsText sels digests old new outcome =
    ((text : List ℕ) × IsShown sels digests text × Prints text old new outcome) ⊎ ((outcome ≡ Memory) × (new ≡ old))
