-- `script`: the launch that `run`, or `launch`, would have started is written as a script in place of its start.
use Rattle.std.specs.Prelude.{◌≡◌, ◌⊎◌, ℕ, List, [], ◌∷◌, Some, None}
use Rattle.zi_outside.specs.Views.{Sinking}
use Rattle.zi_outside.specs.Launched.{Ran, Spawning}
use Rattle.zi_outside.specs.declared.launch.Launch.{Launch}
use Rattle.zi_outside.specs.declared.var.Var.{Var}
use Rattle.zi_script.specs.Script.{unsettable, script}
use Rattle.zi_plan.specs.declared.fault.PlanFault.TheVariants as plan
use Rattle.zi_outcome.specs.declared.outcome.Outcome.{Outcome}
use Rattle.zi_outcome.specs.declared.outcome.Outcome.TheVariants.{Plan, Memory, Child}
use Rattle.zi_outcome.specs.Writing.{Prints}
use Rattle.zi_world.specs.Meets.{Meets}
use Rattle.zi_world.specs.Surroundings.{Surroundings}
use Rattle.zi_choosing.specs.declared.asked.Asked.{Asked}
use Rattle.zi_launching.specs.Run.{RunsProgram}
use Rattle.zi_launching.specs.Opening.{LaunchesFile}

-- What is seen of a spawner that takes down what it is to start, and starts nothing: it answers the status 0.
abbrev pub taken_down : List Ran → Spawning
taken_down ran = record { ran = Some ran; calls = None; faults = 0; plan = [] }

abbrev pub nothing_taken : Spawning
nothing_taken = taken_down []

abbrev pub this_taken : Launch → Spawning
this_taken launch = taken_down (record { launch = launch; status = 0 } ∷ [])

-- what is met, with such a spawner besides, and an output to which nothing comes
abbrev pub beside : Meets → Spawning → Sinking → Surroundings
beside m spawner out = record { feeds = m.feeds; shelf = m.shelf; others = m.others; web = m.web; spawner = spawner; out = out }

-- The script of a launch is printed, for a shell that had these variables; or the launch changes one that no shell can set, which is told, and
-- nothing is written; or nothing is for want of memory.
abbrev pub WritesScript : List Var → Launch → Sinking → Sinking → Outcome → Type 0
WritesScript vars launch before after outcome =
    ((unsettable vars launch.vars ≡ None) × Prints (script vars launch) before after outcome)
    ⊎ (((name : List ℕ) × (unsettable vars launch.vars ≡ Some name) × (outcome ≡ Plan (plan.Unbuilt name)) × (after ≡ before))
    ⊎ ((outcome ≡ Memory) × (after ≡ before)))

-- A command comes to what it would come to over a spawner that takes its launch down: to an outcome at which nothing was to be started, and nothing
-- is written; or to a launch, of which the script is written.
abbrev pub InPlaceOfStart : (Surroundings → Surroundings → Outcome → Type 0) → List Var → Meets → Meets → Outcome → Type 0
InPlaceOfStart Does vars before after outcome =
    (Does (beside before nothing_taken before.out) (beside after nothing_taken before.out) outcome × (after.out ≡ before.out))
    ⊎ ((launch : Launch) × Does (beside before nothing_taken before.out) (beside after (this_taken launch) before.out) (Child 0)
    × WritesScript vars launch before.out after.out outcome)

abbrev pub Scripts : Asked → List Var → List (List ℕ) → Meets → Meets → Outcome → Type 0
Scripts asked vars user before after outcome = InPlaceOfStart (λ b a o. RunsProgram asked vars user b a o) vars before after outcome

abbrev pub ScriptsFile : List ℕ → List Var → List (List ℕ) → Meets → Meets → Outcome → Type 0
ScriptsFile file vars user before after outcome = InPlaceOfStart (λ b a o. LaunchesFile file vars user b a o) vars before after outcome
