-- Places in a list of entries.
use Rattle.std.specs.Prelude.{◌≡◌, ℕ, zero, suc, List, [], ◌∷◌, true, false, bytes_eq}
use Rattle.std.specs.Ordering.{is_lt, nat_cmp}
use Rattle.std.specs.Cmp.Lexicographic.{slice_cmp}
use Rattle.zi_tree.specs.declared.tree.Entry.{Entry}

-- the entry there has this name, and none before it has
abbrev pub IsAt : List ℕ → List Entry → ℕ → Type 0
IsAt n [] i = ⊥
IsAt n (e ∷ es) zero = bytes_eq e.name n ≡ true
IsAt n (e ∷ es) (suc i) = (bytes_eq e.name n ≡ false) × IsAt n es i

-- the first place at which the name stands before the entry
abbrev pub IsPlace : List ℕ → List Entry → ℕ → Type 0
IsPlace n [] i = i ≡ 0
IsPlace n (e ∷ es) zero = is_lt (slice_cmp nat_cmp n e.name) ≡ true
IsPlace n (e ∷ es) (suc i) = (is_lt (slice_cmp nat_cmp n e.name) ≡ false) × IsPlace n es i
