-- `run` and `launch`: after every outcome but a program's status nothing was launched, and they never come to Usage.
use Rattle.std.proofs.Common.{◌≡◌, ◌≢◌, ℕ, inl, inr, List, Option, refl, ap}
use Rattle.zi_outside.specs.Launched.{Ran, Spawning}
use Rattle.zi_outside.specs.declared.launch.Launch.{Launch}
use Rattle.zi_outside.specs.declared.var.Var.{Var}
use Rattle.zi_digest.specs.declared.DigestName.{DigestName}
use Rattle.zi_shelf.specs.Shelving.{Shelving}
use Rattle.zi_store.specs.declared.verdicts.Verdict.{Verdict}
use Rattle.zi_store.specs.declared.verdicts.Verdict.TheVariants as verdict
use Rattle.zi_plan.specs.declared.call.ShimCall.{ShimCall}
use Rattle.zi_adding.specs.declared.adding.AddFault.{AddFault}
use Rattle.zi_adding.specs.declared.adding.AddFault.TheVariants as add
use Rattle.zi_adding.specs.Trying.{Tried}
use Rattle.zi_outcome.specs.declared.outcome.Outcome.{Outcome}
use Rattle.zi_outcome.specs.declared.outcome.Outcome.TheVariants.{Usage, SpawnFault, Memory, Child}
use Rattle.zi_world.specs.Surroundings.{Surroundings, meets_of}
use Rattle.zi_world.specs.Places.{place}
use Rattle.zi_world.proofs.StandLemmas.{never_in_store}
use Rattle.zi_choosing.specs.declared.asked.Asked.{Asked}
use Rattle.zi_choosing.proofs.KnownLemmas.{unknown_right}
use Rattle.zi_fetching.specs.Download.{sources}
use Rattle.zi_fetching.specs.Outcomes.{unadded}
use Rattle.zi_launching.specs.Verifying.{Condemns, FailsToVerify}
use Rattle.zi_launching.specs.Shims.{StopsAdding}
use Rattle.zi_launching.specs.Launching.{Task, Lent, launching, PreparesNot, Starts, LaunchesOver}
use Rattle.zi_launching.specs.Run.{RunsTo, RunsProgram}
use Rattle.zi_launching.specs.Opening.{LaunchesTo, LaunchesFile}
use Rattle.zi_app.proofs.KeptLemmas.{not_right}

-- the launches that a spawner tells
abbrev pub ran_in : Spawning → Option (List Ran)
ran_in s = s.ran

started_quiet : (launch : Launch) (old new : Spawning) (outcome : Outcome) → Starts launch old new outcome → ((n : ℕ) → outcome ≢ Child n) → new.ran ≡ old.ran
started_quiet launch old new SpawnFault s ne = s.0.ran
started_quiet launch old new Memory s ne = ap ran_in s
started_quiet launch old new (Child n) s ne = absurd (ne n refl)
started_quiet launch old new other s ne = absurd s

over_quiet : (task : Task) (tried : List Tried) (before after : Lent) (outcome : Outcome) → LaunchesOver task tried before after outcome → ((n : ℕ) → outcome ≢ Child n) → after.spawner.ran ≡ before.spawner.ran
over_quiet task tried before after outcome (inl (not, same)) ne = ap ran_in same
over_quiet task tried before after outcome (inr (launch, ready, starts)) ne = started_quiet launch before.spawner after.spawner outcome starts ne

pub run_quiet : (asked : Asked) (vars : List Var) (user : List (List ℕ)) (before after : Surroundings) (outcome : Outcome) → RunsProgram asked vars user before after outcome → ((n : ℕ) → outcome ≢ Child n)
    → after.spawner.ran ≡ before.spawner.ran
run_quiet asked vars user before after outcome r ne = by r.comes
  where
    by : RunsTo asked vars user r.tried before after outcome → after.spawner.ran ≡ before.spawner.ran
    by (inl (found, fetched, nothing)) = ap ran_in nothing
    by (inr (c, chosen, inl stops)) = ap ran_in stops.nothing
    by (inr (c, chosen, inr l)) = over_quiet _ _ (launching before) (launching after) outcome l.launches ne

pub launch_quiet : (file : List ℕ) (vars : List Var) (user : List (List ℕ)) (before after : Surroundings) (outcome : Outcome) → LaunchesFile file vars user before after outcome → ((n : ℕ) → outcome ≢ Child n)
    → after.spawner.ran ≡ before.spawner.ran
launch_quiet file vars user before after outcome l ne = by l.comes
  where
    by : LaunchesTo file vars user l.tried before after outcome → after.spawner.ran ≡ before.spawner.ran
    by (inl (fresh, gets, leaves)) = ap ran_in leaves.nothing
    by (inr (sels, gets, inl (fresh, none, keeps, nothing))) = ap ran_in nothing
    by (inr (sels, gets, inr (stored, are, over))) = over_quiet _ _ (launching before) (launching after) outcome over ne

-- Never Usage.
condemned_right : (d : DigestName) (v : Verdict) (index : ℕ) → Condemns d v (Usage index) → ⊥
condemned_right d verdict.Sound index w = w
condemned_right d verdict.Missing index w = (cc w)
condemned_right d (verdict.Damaged found) index w = (cc w)
condemned_right d (verdict.BadName path) index w = (cc w)
condemned_right d (verdict.TooLarge what limit) index w = (cc w)

fails_right : (d : DigestName) (before after : Shelving) (index : ℕ) → FailsToVerify d before (Usage index) after → ⊥
fails_right d before after index (inl (v, why, calm, held)) = condemned_right d v index why
fails_right d before after index (inr (inl (e, failed))) = (cc e)
fails_right d before after index (inr (inr (e, calm))) = (cc e)

no_adding : (fault : AddFault) (index : ℕ) → Usage index ≡ unadded fault → ⊥
no_adding (add.BadName path) index e = cc e
no_adding (add.Mismatch name found) index e = cc e
no_adding (add.Crowded tried) index e = cc e
no_adding (add.Failed blamed) index e = cc e
no_adding add.Memory index e = cc e

adding_right : (task : Task) (calls : List ShimCall) (tried : List Tried) (index : ℕ) → StopsAdding task.stored calls (Usage index) tried → ⊥
adding_right task calls tried index (inl f) = no_adding f.fault index f.is
adding_right task calls tried index (inr (e, turn)) = cc e

prepares_right : (task : Task) (tried : List Tried) (before after : List Shelving) (index : ℕ) → PreparesNot task tried before (Usage index) after → ⊥
prepares_right task tried before after index (inl (none, inl (inl (d, m, e), calm))) = (cc e)
prepares_right task tried before after index (inl (none, inl (inr e, calm))) = (cc e)
prepares_right task tried before after index (inl (none, inr (inl (fault, e, plan), calm))) = (cc e)
prepares_right task tried before after index (inl (none, inr (inr e, calm))) = (cc e)
prepares_right task tried before after index (inr (inl u)) = adding_right task u.calls tried index u.stops
prepares_right task tried before after index (inr (inr (inl u))) =
    never_in_store (λ b a. FailsToVerify u.stops.name b (Usage index) a) (λ b a f. fails_right u.stops.name b a index f) (place task.each u.stops.name) before after u.stops.fails
prepares_right task tried before after index (inr (inr (inr u))) = let e = u.is in (cc e)

over_right : (task : Task) (tried : List Tried) (before after : Lent) (index : ℕ) → LaunchesOver task tried before after (Usage index) → ⊥
over_right task tried before after index (inl (not, same)) = prepares_right task tried before.stores after.stores index not
over_right task tried before after index (inr (launch, ready, starts)) = starts

pub run_right : (asked : Asked) (vars : List Var) (user : List (List ℕ)) (before after : Surroundings) (index : ℕ) → RunsProgram asked vars user before after (Usage index) → ⊥
run_right asked vars user before after index r = by r.comes
  where
    by : RunsTo asked vars user r.tried before after (Usage index) → ⊥
    by (inl (inl none, fetched, nothing)) = unknown_right asked.table (sources (meets_of before)) (sources (meets_of after)) index none
    by (inl (inr found, fetched, nothing)) = found.1
    by (inr (c, chosen, inl stops)) = not_right c before.web index r.tried after.web stops.fetches
    by (inr (c, chosen, inr l)) = over_right _ _ (launching before) (launching after) index l.launches

pub launch_right : (file : List ℕ) (vars : List Var) (user : List (List ℕ)) (before after : Surroundings) (index : ℕ) → LaunchesFile file vars user before after (Usage index) → ⊥
launch_right file vars user before after index l = by l.comes
  where
    by : LaunchesTo file vars user l.tried before after (Usage index) → ⊥
    by (inl (fresh, gets, leaves)) = gets
    by (inr (sels, gets, inl (fresh, none, keeps, nothing))) = none
    by (inr (sels, gets, inr (stored, are, over))) = over_right _ _ (launching before) (launching after) index over
