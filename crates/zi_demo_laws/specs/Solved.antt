-- That the demonstration of each number from 1 to 1,000 can be loaded and solved: over its feeds, under every policy that overrides no
-- stability, and whatever a machine has.
use Rattle.std.specs.Prelude.{◌≡◌, ℕ, ◌≤◌, true, List, [], codes, Some, None}
use Rattle.zi_policy.specs.declared.types.Policy.{Policy}
use Rattle.zi_outside.specs.Views.{Holding}
use Rattle.zi_universe.specs.declared.types.Requirement.{Requirement}
use Rattle.zi_universe.specs.declared.types.Interface.{Interface}
use Rattle.zi_universe.specs.declared.fault.LoadFault.{LoadFault}
use Rattle.zi_universe.specs.Candidates.{Store}
use Rattle.zi_universe.specs.Loading.{Loads, Refuses}
use Rattle.zi_universe.specs.Laws.{IsOfFeeds}
use Rattle.zi_choice.specs.Choice.{Choice}
use Rattle.zi_choice.specs.Valid.{IsValid, NoneIsValid}
use Rattle.zi_build.specs.Clauses.{formula, literals, most_literals}
use Rattle.zi_demo.specs.Feeds.{feeds, Holds}

-- what is asked for: the root of the demonstration, with no command and no limits
abbrev pub demo_root : Requirement
demo_root = record { interface = codes "/demo/root.xml"; command = None; limits = [] }

-- there is a universe, the constraints on a choice from it are few enough, and some choice from it is valid
pub record IsSolvable (holds : Holding) (policy : Policy) (stored : Store) : Type 0 where
  pub universe : List Interface
  pub loads : Loads (Some holds) demo_root policy stored universe
  pub few : literals (formula universe demo_root).constraints ≤ most_literals
  pub choice : Choice
  pub valid : IsValid universe demo_root choice

-- So nothing stands in the way of the answer: no refusal of the loading has its cause, but for a failed call and want of memory; and of
-- whatever universe is loaded the constraints are few enough, and not every choice is invalid.
pub record IsClear (holds : Holding) (policy : Policy) (stored : Store) : Type 0 where
  pub loads : (e : LoadFault) → IsOfFeeds e ≡ true → ¬ Refuses (Some holds) demo_root policy stored e
  pub few : (universe : List Interface) → Loads (Some holds) demo_root policy stored universe → literals (formula universe demo_root).constraints ≤ most_literals
  pub solved : (universe : List Interface) → Loads (Some holds) demo_root policy stored universe → ¬ NoneIsValid universe demo_root

-- the same of every number, over feeds that are those of the demonstration and no others
abbrev pub OfEachNumber : (Holding → Policy → Store → Type 0) → Type 0
OfEachNumber Is =
    (n : ℕ) (holds : Holding) (policy : Policy) (stored : Store) → 1 ≤ n → n ≤ 1000 → Holds (feeds n) holds → policy.overrides ≡ [] → Is holds policy stored
