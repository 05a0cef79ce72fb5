-- What holds of loadings as such.
use Rattle.std.specs.Prelude.{◌≡◌, ◌⊎◌, Bool, true, false, List, Some}
use Rattle.zi_policy.specs.declared.types.Policy.{Policy}
use Rattle.zi_outside.specs.Views.{Holding}
use Rattle.zi_universe.specs.declared.types.Requirement.{Requirement}
use Rattle.zi_universe.specs.declared.types.Interface.{Interface}
use Rattle.zi_universe.specs.declared.fault.LoadFault.{LoadFault}
use Rattle.zi_universe.specs.declared.fault.LoadFault.TheVariants as fault
use Rattle.zi_universe.specs.Candidates.{Store}
use Rattle.zi_universe.specs.Loading.{Loads, Refuses}

-- Over an outside that tells what it holds, a requirement has one universe at most under a policy and a store.
abbrev pub HasOneUniverse : Type 0
HasOneUniverse =
    (holds : Holding) (req : Requirement) (p : Policy) (stored : Store) (is js : List Interface) →
    Loads (Some holds) req p stored is → Loads (Some holds) req p stored js → is ≡ js

-- the refusals that feeds alone cause, and the limits
abbrev pub IsOfFeeds : LoadFault → Bool
IsOfFeeds (fault.FeedRead uri) = false
IsOfFeeds fault.Memory = false
IsOfFeeds e = true

-- Where there is a universe, none of these refusals has its cause.
abbrev pub UniverseExcludes : Type 0
UniverseExcludes =
    (holds : Holding) (req : Requirement) (p : Policy) (stored : Store) (is : List Interface) (e : LoadFault) →
    Loads (Some holds) req p stored is → IsOfFeeds e ≡ true → ¬ Refuses (Some holds) req p stored e

-- A loading has one refusal at most: two of them that have their causes are the same.
abbrev pub HasOneRefusal : Type 0
HasOneRefusal =
    (holds : Holding) (req : Requirement) (p : Policy) (stored : Store) (e d : LoadFault) →
    IsOfFeeds e ≡ true → IsOfFeeds d ≡ true → Refuses (Some holds) req p stored e → Refuses (Some holds) req p stored d → e ≡ d

-- Over an outside that tells what it holds, there is a universe, or one of these refusals has its cause.
abbrev pub LoadsOrIsRefused : Type 0
LoadsOrIsRefused =
    (holds : Holding) (req : Requirement) (p : Policy) (stored : Store) →
    ((is : List Interface) × Loads (Some holds) req p stored is) ⊎ ((e : LoadFault) × (IsOfFeeds e ≡ true) × Refuses (Some holds) req p stored e)
