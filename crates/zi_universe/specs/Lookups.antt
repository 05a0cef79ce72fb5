-- What is found in the maps of a loading: the stabilities that overrides give, by what they speak of, and limits by interfaces.
use Rattle.std.specs.Prelude.{◌≡◌, ◌&&◌, ◌||◌, not, Bool, ℕ, List, [], find, bytes_eq, Option, option_map, unwrap_or}
use Rattle.std.specs.List.{list_all}
use Rattle.std.specs.Map.{lookup}
use Rattle.std.specs.Borrow.{Bor}
use Rattle.zi_version.specs.Range.{admits}
use Rattle.zi_policy.specs.declared.types.Override.{Override}
use Rattle.zi_policy.specs.declared.types.Stability.{Stability}
use Rattle.zi_universe.specs.declared.types.Limit.{Limit}
use Rattle.zi_universe.specs.declared.wanted.Overridden.{Overridden}
use Rattle.zi_universe.specs.Naming.{Uri}
use Rattle.zi_universe.specs.Candidates.{within_limits}

-- the stability of the first override for an interface and an id, and what a map has for them
abbrev pub overriding : List Override → Uri → List ℕ → Option Stability
overriding overrides interface id = option_map (λ o. o.stability) (find (λ o. bytes_eq o.interface interface && bytes_eq o.id id) overrides)

abbrev pub stability_in : List (Overridden × Stability) → Uri → List ℕ → Option Stability
stability_in entries interface id = lookup (λ k. bytes_eq interface k.interface.now && bytes_eq id k.id.now) entries

abbrev pub FindsStabilities : List Override → List (Overridden × Stability) → Type 0
FindsStabilities overrides entries = (interface : Uri) (id : List ℕ) → stability_in entries interface id ≡ overriding overrides interface id

-- the limits that a map has for an interface, and whether they all admit a version
abbrev pub limits_in : List (Bor Uri × List (Bor Limit)) → Uri → List (Bor Limit)
limits_in entries interface = unwrap_or (lookup (λ k. bytes_eq interface k.now) entries) []

abbrev pub all_admit : List (Bor Limit) → List ℕ → Bool
all_admit limits v = list_all (λ l. admits l.now.range v) limits

abbrev pub FindsLimits : List Limit → List (Bor Uri × List (Bor Limit)) → Type 0
FindsLimits limits entries = (interface : Uri) (v : List ℕ) → all_admit (limits_in entries interface) v ≡ within_limits limits interface v

-- a limit is added
abbrev pub AddsLimit : Limit → List (Bor Uri × List (Bor Limit)) → List (Bor Uri × List (Bor Limit)) → Type 0
AddsLimit l old new =
    (interface : Uri) (v : List ℕ) → all_admit (limits_in new interface) v ≡ ((not (bytes_eq l.interface interface) || admits l.range v) && all_admit (limits_in old interface) v)
