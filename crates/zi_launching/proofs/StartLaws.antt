-- What comes of a launch that was made ready, or of none.
use Rattle.std.proofs.Common.{◌≡◌, inl, inr, List, sym, subst, Result, Ok, Err}
use Rattle.zi_outside.specs.Launched.{Spawning}
use Rattle.zi_outside.specs.declared.launch.Launch.{Launch}
use Rattle.zi_shelf.specs.Shelving.{Shelving}
use Rattle.zi_outcome.specs.declared.outcome.Outcome.{Outcome}
use Rattle.zi_launching.specs.Launching.{Task, PreparesNot, PreparesWith, StartsThen, LaunchesWith}

-- it is launched, or not
pub launched_then : (task : Task) (before after : List Shelving) (result : Result Launch Outcome) (old new : Spawning) (outcome : Outcome) → PreparesWith task before result after → StartsThen result old new outcome
    → LaunchesWith task (record { stores = before; spawner = old }) (record { stores = after; spawner = new }) outcome
launched_then task before after (Ok launch) old new outcome p starts = record { tried = p.tried; launches = inr (launch, p.prepares, starts); works = p.works }
launched_then task before after (Err work) old new outcome p (is, none) =
    record { tried = p.tried; launches = inl (subst (λ w. PreparesNot task p.tried before w after) (sym is) p.prepares, none); works = p.works }

-- what comes of an outcome before the start comes of it where nothing is started then
pub unstarted_then : (P : Spawning → Outcome → Type 0) (work : Outcome) (old new : Spawning) (outcome : Outcome) → P old work → (outcome ≡ work) × (new ≡ old) → P new outcome
unstarted_then P work old new outcome h (is, none) = subst (λ s. P s outcome) (sym none) (subst (λ w. P old w) (sym is) h)
