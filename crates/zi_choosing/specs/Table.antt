-- The table of the packages that the operating system has, which the user hands in: the variable ZI_PACKAGES names its file.
use Rattle.std.specs.Prelude.{◌≡◌, ℕ, ◌⊎◌, ◌==◌, if◌then◌else◌, List, [], length, codes, Option, Some, None, option_and_then}
use Rattle.zi_outside.specs.Views.{Feeding}
use Rattle.zi_outside.specs.Vars.{value_of}
use Rattle.zi_outside.specs.declared.var.Var.{Var}
use Rattle.zi_packages.specs.declared.types.Packages.{Packages}
use Rattle.zi_packages.specs.declared.fault.PackagesFault.TheVariants.{Bad}
use Rattle.zi_packages.specs.Table.{IsTableText, FaultMeans}
use Rattle.zi_outcome.specs.declared.outcome.Outcome.{Outcome}
use Rattle.zi_outcome.specs.declared.outcome.Outcome.TheVariants.{FeedRead, FeedTooLong, NoFile, BadPackages, Memory}
use Rattle.zi_world.specs.Files.{AsksFor, GetsWithin, IsAbsent, IsLonger, IsUnread}

-- so many bytes a table may have: 4 MiB
abbrev pub table_limit : ℕ
table_limit = 4194304

-- no packages
abbrev pub no_packages : Packages
no_packages = record { distribution = []; rows = [] }

-- a text that isn't empty
abbrev pub filled : List ℕ → Option (List ℕ)
filled t = if length t == 0 then None else Some t

-- the file of the table: the value of the variable, where it is set and isn't empty
abbrev pub table_in : List Var → Option (List ℕ)
table_in vars = option_and_then filled (value_of vars (codes "ZI_PACKAGES"))

-- The file has the text of this table. Where there is no file, there are no packages, and nothing is asked for.
abbrev pub HasTable : Option (List ℕ) → Feeding → Packages → Feeding → Type 0
HasTable None before t after = (t ≡ no_packages) × (after ≡ before)
HasTable (Some file) before t after = (bytes : List ℕ) × GetsWithin table_limit file before after bytes × IsTableText bytes t

-- The file isn't got, or it has no table's text, and this is why; or memory was refused.
abbrev pub LacksTable : Option (List ℕ) → Feeding → Outcome → Feeding → Type 0
LacksTable (Some file) before (FeedRead uri) after = (uri ≡ file) × IsUnread file before after
LacksTable (Some file) before (FeedTooLong uri limit) after = (uri ≡ file) × IsLonger table_limit file before after limit
LacksTable (Some file) before (NoFile name) after = (name ≡ file) × IsAbsent file before after
LacksTable (Some file) before (BadPackages line) after = (bytes : List ℕ) × GetsWithin table_limit file before after bytes × FaultMeans bytes (Bad line)
LacksTable (Some file) before Memory after = (after ≡ before) ⊎ AsksFor file before after
LacksTable table before other after = ⊥

-- Parts of the work.

-- the bytes are no table's text, or memory was refused
abbrev pub IsNoTable : List ℕ → Outcome → Type 0
IsNoTable bytes (BadPackages line) = FaultMeans bytes (Bad line)
IsNoTable bytes Memory = Unit {0}
IsNoTable bytes other = ⊥
