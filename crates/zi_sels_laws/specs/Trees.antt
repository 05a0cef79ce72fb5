-- Selections of packages of the operating system, which aren't kept in a store (the published format of selections documents).
use Rattle.std.specs.Prelude.{◌≡◌, [], None, IfSome, All}
use Rattle.zi_sels.specs.declared.types.Selection.{Selection}
use Rattle.zi_sels.specs.declared.types.Selections.{Selections}

-- where it is of a package it has no folder and no digest: there is nothing to fetch, and nothing to verify
abbrev pub HasNoTree : Selection → Type 0
HasNoTree x = IfSome x.«package» (λ name. (x.local ≡ None) × (x.digests ≡ []))

abbrev pub PackagesHaveNoTrees : Selections → Type 0
PackagesHaveNoTrees sels = All HasNoTree sels.items
