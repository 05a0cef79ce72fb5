-- What holds of the text of a table, and of the implementations that rows make.
use Rattle.std.specs.Prelude.{ℕ, ◌≡◌, bytes_eq, List, ◌++◌}
use Rattle.std.specs.List.{IsDistinct}
use Rattle.zi_parts.specs.declared.types.Impl.{Impl}
use Rattle.zi_parts.specs.declared.types.Native.{Native}
use Rattle.zi_packages.specs.declared.types.Packages.{Packages}
use Rattle.zi_packages.specs.declared.fault.PackagesFault.TheVariants.{Bad}
use Rattle.zi_packages.specs.Table.{IsTableText, FaultMeans}
use Rattle.zi_packages.specs.Natives.{ids_of, with_rows}

-- a text is that of one table at most
abbrev pub TableIsOne : Type 0
TableIsOne = (bytes : List ℕ) (s t : Packages) → IsTableText bytes s → IsTableText bytes t → s ≡ t

-- and has one line at most that is told as bad
abbrev pub BadLineIsOne : Type 0
BadLineIsOne = (bytes : List ℕ) (m n : ℕ) → FaultMeans bytes (Bad m) → FaultMeans bytes (Bad n) → m ≡ n

-- where ids are distinct, they stay so
abbrev pub IdsStayDistinct : Type 0
IdsStayDistinct = (t : Packages) (is : List Impl) (ns : List Native) → IsDistinct bytes_eq (ids_of is) → IsDistinct bytes_eq (ids_of (with_rows t is ns))

-- the implementations that were there are the first, in their order
abbrev pub RowsStandBehind : Type 0
RowsStandBehind = (t : Packages) (is : List Impl) (ns : List Native) → (more : List Impl) × (with_rows t is ns ≡ is ++ more)
