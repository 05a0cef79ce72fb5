-- The rows of a table of packages that a text says are right.
use Rattle.std.proofs.Common.{◌≡◌, Bool, true, false, ◌&&◌, ℕ, List, [], ◌∷◌, Option, Some, None, refl, sym, subst, ◌∙◌}
use Rattle.std.specs.Prelude.{option_map, option_and_then, if◌then◌else◌}
use Rattle.zi_text.specs.Pieces.{each}
use Rattle.zi_reading.specs.Forms.{is_version}
use Rattle.zi_packages.specs.Lines.{all_pieces}
use Rattle.zi_packages.specs.declared.types.Packages.{Packages}
use Rattle.zi_packages.specs.declared.types.PackageRow.{PackageRow}
use Rattle.zi_packages.specs.Table.{is_name, is_machine, state_of, version_of, row_with, row_of_items, row_of, IsTableText}
use Rattle.zi_sels_laws.specs.Rows.{IsRightRow, HasRightRows}
use Rattle.zi_sels_laws.proofs.LikeLaws.{Each}
use Rattle.zi_sels_laws.proofs.EachLaws.{each_all}

-- a version that a text gives gives itself
version_again : (t v : List ℕ) → version_of t ≡ Some v → version_of v ≡ Some v
version_again t v h = by (is_name t) (is_version t) h
  where
    by : (a b : Bool) → (if a then (if b then Some t else None) else None) ≡ Some v → version_of v ≡ Some v
    by true true k =
        let same : t ≡ v = cc k in
        subst (λ (x : List ℕ). version_of x ≡ Some x) same (h ∙ sym k)
    by true false k = absurd (cc k)
    by false b k = absurd (cc k)

abbrev row_made : List ℕ → List ℕ → List ℕ → Bool → PackageRow
row_made name machine version state = record { «package» = name; version = version; machine = machine; installed = state }

-- one of right items
row_right : (p m : List ℕ) (v : Option (List ℕ)) (s : Option Bool) (r : PackageRow) → ((x : List ℕ) → v ≡ Some x → version_of x ≡ Some x) → row_with p m v s ≡ Some r → IsRightRow r
row_right p m v s r again h = by (is_name p) (is_machine m) v s refl refl refl h
  where
    by : (a b : Bool) (w : Option (List ℕ)) (o : Option Bool) → is_name p ≡ a → is_machine m ≡ b → v ≡ w
        → (if a && b then option_and_then (λ (x : List ℕ). option_map (row_made p m x) o) w else None) ≡ Some r → IsRightRow r
    by true true (Some x) (Some i) n k e q =
        let made : IsRightRow (row_made p m x i) = record { name = n; version = again x e; machine = k } in
        let same : row_made p m x i ≡ r = cc q in
        subst IsRightRow same made
    by true true (Some x) None n k e q = absurd (cc q)
    by true true None o n k e q = absurd (cc q)
    by true false w o n k e q = absurd (cc q)
    by false b w o n k e q = absurd (cc q)

line_right : (line : List ℕ) (r : PackageRow) → row_of line ≡ Some r → IsRightRow r
unfolding row_of
line_right line r h = by (all_pieces 32 line) h
  where
    by : (items : List (List ℕ)) → row_of_items items ≡ Some r → IsRightRow r
    by (p ∷ v ∷ m ∷ s ∷ []) k = row_right p m (version_of v) (state_of s) r (version_again v) k
    by [] k = absurd (cc k)
    by (p ∷ []) k = absurd (cc k)
    by (p ∷ v ∷ []) k = absurd (cc k)
    by (p ∷ v ∷ m ∷ []) k = absurd (cc k)
    by (p ∷ v ∷ m ∷ s ∷ x ∷ xs) k = absurd (cc k)

lines_right : (lines : List (List ℕ)) (rs : List PackageRow) → each row_of lines ≡ Some rs → Each IsRightRow rs
lines_right [] rs h =
    let none : List PackageRow = [] in
    let same : none ≡ rs = cc h in
    subst (Each IsRightRow) same tt
lines_right (x ∷ xs) rs h = by (row_of x) (each row_of xs) refl h (lines_right xs)
  where
    by : (o : Option PackageRow) (p : Option (List PackageRow)) → row_of x ≡ o → option_and_then (λ (r : PackageRow). option_map (λ (ys : List PackageRow). r ∷ ys) p) o ≡ Some rs
        → ((ys : List PackageRow) → p ≡ Some ys → Each IsRightRow ys) → Each IsRightRow rs
    by (Some r) (Some ys) e k more =
        let same : r ∷ ys ≡ rs = cc k in
        subst (Each IsRightRow) same (line_right x r e, more ys refl)
    by (Some r) None e k more = absurd (cc k)
    by None p e k more = absurd (cc k)

-- all rows of a table that is read
pub read_right : (bytes : List ℕ) (t : Packages) → IsTableText bytes t → HasRightRows t
read_right bytes t h = each_all IsRightRow t.rows (lines_right h.say.others t.rows h.say.rows)
