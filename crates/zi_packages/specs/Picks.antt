-- Rows that were picked for the packages that a feed names.
use Rattle.std.specs.Prelude.{◌≡◌, ℕ, true, List, [], ◌∷◌, ◌++◌, map, fold, take, slice_get, bytes_eq, Some, All, unwrap_or}
use Rattle.std.specs.Borrow.{Bor}
use Rattle.std.specs.List.{flat_map, list_all}
use Rattle.std.specs.Map.{lookup}
use Rattle.zi_parts.specs.declared.types.Impl.{Impl}
use Rattle.zi_parts.specs.declared.types.Native.{Native}
use Rattle.zi_packages.specs.declared.types.Packages.{Packages}
use Rattle.zi_packages.specs.declared.types.PackageRow.{PackageRow}
use Rattle.zi_packages.specs.declared.named.Pick.{Pick}
use Rattle.zi_packages.specs.declared.named.Named.{Named}
use Rattle.zi_packages.specs.Table.{is_listed}
use Rattle.zi_packages.specs.Natives.{row_id, row_impl, rows_of, made_by, offered_rows, ids_of, with_new}

-- the implementation of a row that was picked
abbrev pub picked : Pick → Impl
picked p = row_impl p.native.now p.row.now

abbrev pub all_picked : List Pick → List Impl
all_picked ps = map picked ps

-- each has its package at its place among those of a feed
abbrev pub AreAt : List Native → List Pick → Type 0
AreAt ns ps = All (λ p. slice_get ns p.at ≡ Some p.native.now) ps

-- These rows were picked behind these implementations; the texts are the ids of all of them.
pub record HasPicked (is : List Impl) (known : List (List ℕ)) (ps : List Pick) (all : List Impl) : Type 0 where
  pub are : all ≡ is ++ all_picked ps
  pub ids : (t : List ℕ) → is_listed t known ≡ is_listed t (ids_of all)

-- Packages with rows that a feed names, and what all their rows make.
abbrev pub made_named : Named → List Impl
made_named n = made_by n.native.now n.rows.now

abbrev pub all_named : List Named → List Impl
all_named ns = flat_map made_named ns

abbrev pub AreNamedAt : List Native → List Named → Type 0
AreNamedAt ns cs = All (λ c. slice_get ns c.at ≡ Some c.native.now) cs

-- what a map has for a package
abbrev pub rows_in : List (Bor (List ℕ) × List PackageRow) → List ℕ → List PackageRow
rows_in entries name = unwrap_or (lookup (λ k. bytes_eq name k.now) entries) []

-- the map has the rows of each package, in the order of the table
abbrev pub FindsRows : List PackageRow → List (Bor (List ℕ) × List PackageRow) → Type 0
FindsRows rows entries = (name : List ℕ) → rows_in entries name ≡ rows_of rows name

-- there is one row more
abbrev pub AddsRow : PackageRow → List (Bor (List ℕ) × List PackageRow) → List (Bor (List ℕ) × List PackageRow) → Type 0
AddsRow r old new = (name : List ℕ) → rows_in new name ≡ rows_in old name ++ rows_of (r ∷ []) name

-- Of the first packages that a feed names these were named, and others aren't missed: each of their rows has an implementation of its
-- id. The texts are the names of packages that were named.
pub record HasNamed (t : Packages) (ns : List Native) (n : ℕ) (seen : List (List ℕ)) (cs : List Named) : Type 0 where
  pub same : (is : List Impl) → fold with_new is (all_named cs) ≡ fold with_new is (offered_rows t (take n ns))
  pub covered : (name : List ℕ) → is_listed name seen ≡ true → (is : List Impl) → list_all (λ r. is_listed (row_id r) (ids_of (fold with_new is (all_named cs)))) (rows_of t.rows name) ≡ true
  pub at : AreNamedAt ns cs
