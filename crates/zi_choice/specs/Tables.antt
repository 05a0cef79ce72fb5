-- A universe's names as tables that are made once: its interfaces by their addresses, and each candidate's commands by theirs.
use Rattle.std.specs.Prelude.{◌≡◌, ℕ, List, [], ◌∷◌, bytes_eq, Option, Some, None, cond}
use Rattle.std.specs.List.{position_from}
use Rattle.std.specs.Map.{lookup}
use Rattle.zi_parts.specs.declared.types.Command.{Command}
use Rattle.zi_universe.specs.declared.types.Candidate.{Candidate}
use Rattle.zi_universe.specs.declared.types.Interface.{Interface}
use Rattle.zi_universe.specs.Whole.{uris_of}
use Rattle.zi_choice.specs.declared.table.CommandTable.{CommandTable}

-- the first value that is there
abbrev pub first_of : Option ℕ → Option ℕ → Option ℕ
first_of None q = q
first_of (Some n) q = Some n

-- Places by names, with one more: a name that was there keeps its place.
abbrev pub IsAdded : List (List ℕ × ℕ) → List ℕ → ℕ → List (List ℕ × ℕ) → Type 0
IsAdded es name place fs =
    (q : List ℕ) → lookup (bytes_eq q) fs ≡ first_of (lookup (bytes_eq q) es) (cond (bytes_eq q name) (Some place) None)

-- For each name the place of the first of these commands that has it.
abbrev pub AreTheirPlaces : List Command → List (List ℕ × ℕ) → Type 0
AreTheirPlaces ms es = (q : List ℕ) → lookup (bytes_eq q) es ≡ position_from (λ m. bytes_eq m.name q) 0 ms

abbrev pub IsTableOf : Candidate → CommandTable → Type 0
IsTableOf k t = AreTheirPlaces k.imp.commands t.places.entries

-- two lists of one length, item for item
abbrev pub Each : {A B : Type 0} → (A → B → Type 0) → List A → List B → Type 0
Each R [] [] = Unit {0}
Each R [] (y ∷ ys) = ⊥
Each R (x ∷ xs) [] = ⊥
Each R (x ∷ xs) (y ∷ ys) = R x y × Each R xs ys

abbrev pub AreTablesOf : List Candidate → List CommandTable → Type 0
AreTablesOf ks ts = Each IsTableOf ks ts

abbrev pub AreAllTables : List Interface → List (List CommandTable) → Type 0
AreAllTables u rows = Each (λ (x : Interface) ts. AreTablesOf x.candidates ts) u rows

-- the tables of a universe
pub record AreNames (u : List Interface) (addresses : List (List ℕ)) (rows : List (List CommandTable)) : Type 0 where
  pub are_addresses : addresses ≡ uris_of u
  pub are_commands : AreAllTables u rows
