-- Rows of a table of packages as a text of one says them.
use Rattle.std.specs.Prelude.{◌≡◌, true, Some, All}
use Rattle.zi_packages.specs.declared.types.Packages.{Packages}
use Rattle.zi_packages.specs.declared.types.PackageRow.{PackageRow}
use Rattle.zi_packages.specs.Table.{is_name, is_machine, version_of}

-- its items are as a line may have them
pub record IsRightRow (r : PackageRow) : Type 0 where
  pub name : is_name r.«package» ≡ true
  pub version : version_of r.version ≡ Some r.version
  pub machine : is_machine r.machine ≡ true

abbrev pub HasRightRows : Packages → Type 0
HasRightRows t = All IsRightRow t.rows
