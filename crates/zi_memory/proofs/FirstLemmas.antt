-- The first rename that a crash finds is that of the entry's names since the last settle of the top.
use Rattle.std.proofs.Common.{◌≡◌, ℕ, Bool, true, false, List, [], ◌∷◌, length, Option, Some, None, unwrap_or, refl, sym, ◌∙◌, ap, bytes_eq, if◌then◌else◌}
use Rattle.zi_tree.specs.Dir.{Dir}
use Rattle.zi_shelf.specs.Names.{Name}
use Rattle.zi_shelf.specs.Shelved.{Pending, Renamed, Removed}
use Rattle.zi_shelf.specs.Crash.{names_before}
use Rattle.zi_memory.specs.Picked.{last_of, renamed_at, back_at, GoesTo}
use Rattle.zi_memory.specs.Comers.{first_or, first_step, first_at}
use Rattle.zi_memory.specs.declared.crash.First.{First}

-- the name that an entry goes to
abbrev pub name_back : Bool → Name → List Name → Name
name_back true n before = last_of n before
name_back false n before = n

pub goes_back : (renames : Bool) (n : Name) (before : List Name) → GoesTo renames (n ∷ before) (name_back renames n before)
goes_back true n before = refl
goes_back false n before = refl

pub goes_there : (renames : Bool) (n : Name) (before : List Name) (name : Name) → GoesTo renames (n ∷ before) name → name ≡ name_back renames n before
goes_there true n before name h = h
goes_there false n before name h = h

-- where renames stay there is no first one
pub no_first : (n : Name) (ps : List (Pending Dir)) → first_at false n ps ≡ None
no_first n [] = refl
no_first n (Renamed a b ∷ older) = no_first n older
no_first n (Removed m e ∷ older) = elim (bytes_eq m n) as (λ t. (if t then None else first_at false n older) ≡ None) [ true ↦ refl | false ↦ no_first n older ]

-- what was found is what the names say
abbrev IsFirst : Name → Option First → Option ℕ → List Name → Type 0
IsFirst n None number names = (number ≡ None) × (names ≡ [])
IsFirst n (Some f) number names = (number ≡ Some f.older) × (last_of n names ≡ f.name)

through : (a n : Name) (k : ℕ) (o : Option First) (number : Option ℕ) (names : List Name) → IsFirst a o number names → IsFirst n (Some (first_or o a k)) (Some (unwrap_or number k)) (a ∷ names)
through a n k None number names (h, e) = (ap (λ x. Some (unwrap_or x k)) h, ap (last_of a) e)
through a n k (Some f) number names (h, e) = (ap (λ x. Some (unwrap_or x k)) h, e)

found : (n : Name) (ps : List (Pending Dir)) → IsFirst n (first_at true n ps) (renamed_at n ps) (names_before n ps)
found n [] = (refl, refl)
found n (Renamed a b ∷ older) =
    elim (bytes_eq b n) as (λ t. IsFirst n (if t then Some (first_or (first_at true a older) a (length older)) else if bytes_eq a n then None else first_at true n older)
    (if t then Some (unwrap_or (renamed_at a older) (length older)) else if bytes_eq a n then None else renamed_at n older)
    (if t then a ∷ names_before a older else if bytes_eq a n then [] else names_before n older)) [
      | true ↦ through a n (length older) (first_at true a older) (renamed_at a older) (names_before a older) (found a older)
      | false ↦ elim (bytes_eq a n) as (λ t. IsFirst n (if t then None else first_at true n older) (if t then None else renamed_at n older) (if t then [] else names_before n older)) [
        | true ↦ (refl, refl)
        | false ↦ found n older
      ]
    ]
found n (Removed m e ∷ older) =
    elim (bytes_eq m n) as (λ t. IsFirst n (if t then None else first_at true n older) (if t then None else renamed_at n older) (if t then [] else names_before n older)) [
      | true ↦ (refl, refl)
      | false ↦ found n older
    ]

abbrev said : Name → ℕ → First
said name older = record { name = name; older = older }

by_found : (n : Name) (k : ℕ) (o : Option First) (number : Option ℕ) (names : List Name) → IsFirst n o number names → first_or o n k ≡ said (last_of n names) (unwrap_or number k)
by_found n k None number names (h, e) = ap (λ ns. said (last_of n ns) k) (sym e) ∙ ap (λ x. said (last_of n names) (unwrap_or x k)) (sym h)
by_found n k (Some f) number names (h, e) = ap (λ name. said name f.older) (sym e) ∙ ap (λ x. said (last_of n names) (unwrap_or x k)) (sym h)

-- what a crash finds
pub first_is : (renames : Bool) (n : Name) (ps : List (Pending Dir)) → first_or (first_at renames n ps) n (length ps) ≡ said (name_back renames n (names_before n ps)) (back_at renames n ps)
first_is true n ps = by_found n (length ps) (first_at true n ps) (renamed_at n ps) (names_before n ps) (found n ps)
first_is false n ps = ap (λ o. first_or o n (length ps)) (no_first n ps)
