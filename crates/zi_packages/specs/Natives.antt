-- What the rows of a table make of the packages that a feed names: implementations, one for each row of such a package. They join
-- those that the feed's own elements say, unless an earlier one has the same id.
use Rattle.std.specs.Prelude.{ℕ, ◌==◌, ◌||◌, Bool, if◌then◌else◌, List, [], ◌∷◌, ◌++◌, map, filter, fold, length, bytes_eq, codes, Some, None}
use Rattle.std.specs.List.{flat_map}
use Rattle.zi_policy.specs.declared.types.Arch.{Arch}
use Rattle.zi_policy.specs.declared.types.Stability.TheVariants.{Packaged}
use Rattle.zi_policy.specs.Platform.{any}
use Rattle.zi_parts.specs.declared.types.Impl.{Impl}
use Rattle.zi_parts.specs.declared.types.Native.{Native}
use Rattle.zi_packages.specs.declared.types.Packages.{Packages}
use Rattle.zi_packages.specs.declared.types.PackageRow.{PackageRow}
use Rattle.zi_packages.specs.Table.{is_listed}

-- the id of a row's implementation: `package:PACKAGE:VERSION:MACHINE`
unfoldable pub row_id : PackageRow → List ℕ
row_id r = codes "package:" ++ (r.«package» ++ 58 ∷ (r.version ++ 58 ∷ r.machine))

-- any operating system, on the row's machine
abbrev pub row_arch : PackageRow → Arch
row_arch r = record { os = any; machine = r.machine }

-- the implementation of a row, with what a feed says of its package
unfoldable pub row_impl : Native → PackageRow → Impl
row_impl n r = record {
  id = row_id r;
  version = r.version;
  arch = Some (row_arch r);
  stability = Packaged;
  langs = n.langs;
  released = n.released;
  local = None;
  digests = [];
  methods = [];
  deps = n.deps;
  commands = n.commands;
  bindings = n.bindings;
  place = n.place;
  «package» = Some (record { name = r.«package»; installed = r.installed });
}

-- what a feed says is for a distribution: it names none, or this one among them
unfoldable pub is_for : List ℕ → Native → Bool
is_for distribution n = length n.distributions == 0 || is_listed distribution n.distributions

-- the rows of a package, in the order of the table
abbrev pub rows_of : List PackageRow → List ℕ → List PackageRow
rows_of rows name = filter (λ r. bytes_eq r.«package» name) rows

-- the implementations of these rows
abbrev pub made_by : Native → List PackageRow → List Impl
made_by n rows = map (row_impl n) rows

-- the implementations that a table makes of one package that a feed names, and of all of them
abbrev pub made_of : Packages → Native → List Impl
made_of t n = if is_for t.distribution n then made_by n (rows_of t.rows n.«package») else []

abbrev pub offered_rows : Packages → List Native → List Impl
offered_rows t ns = flat_map (made_of t) ns

abbrev pub ids_of : List Impl → List (List ℕ)
ids_of is = map (λ i. i.id) is

-- one implementation more, unless an earlier one has its id
abbrev pub with_new : List Impl → Impl → List Impl
with_new is i = if is_listed i.id (ids_of is) then is else is ++ i ∷ []

-- implementations, and behind them those of the rows of the packages that are named, of each id the first
unfoldable pub with_rows : Packages → List Impl → List Native → List Impl
with_rows t is ns = fold with_new is (offered_rows t ns)
