-- What was written and whose calls failed, of `script`; and it never comes to Usage.
use Rattle.std.proofs.Common.{◌≡◌, ◌⊎◌, ℕ, inl, inr, List, [], refl, sym, ap, subst, arith}
use Rattle.zi_outside.specs.Views.{Sinking}
use Rattle.zi_outside.specs.Launched.{Spawning}
use Rattle.zi_outside.specs.declared.launch.Launch.{Launch}
use Rattle.zi_outside.specs.declared.var.Var.{Var}
use Rattle.zi_script.specs.Script.{script}
use Rattle.zi_outcome.specs.declared.outcome.Outcome.{Outcome}
use Rattle.zi_outcome.specs.declared.outcome.Outcome.TheVariants.{Usage, Plan, SpawnFault, Memory, Child}
use Rattle.zi_world.specs.World.{all_stores}
use Rattle.zi_world.specs.Meets.{Meets, world_of}
use Rattle.zi_world.specs.Surroundings.{Surroundings, Unstarted, meets_of}
use Rattle.zi_choosing.specs.declared.asked.Asked.{Asked}
use Rattle.zi_launching.specs.Run.{RunsProgram}
use Rattle.zi_launching.specs.Opening.{LaunchesFile}
use Rattle.zi_scripting.specs.Scripting.{beside, nothing_taken, this_taken, WritesScript, InPlaceOfStart, Scripts, ScriptsFile}
use Rattle.zi_storing.proofs.RightLemmas.{prints_right}
use Rattle.zi_app.specs.Outcomes.{Leaves, RoseOnSpawnFault}
use Rattle.zi_app.proofs.EndLemmas.{EndsOut, Ends, ends, feeds_still, stores_still, web_still, spawner_still, unwritten, prints}
use Rattle.zi_app.proofs.LaunchLemmas.{run_right, launch_right}
use Rattle.zi_app.proofs.LaunchingEnds.{run_ends, launch_ends}

-- what it comes to over a spawner that takes a launch down
pub run_of : (asked : Asked) (vars : List Var) (user : List (List ℕ)) (before after : Meets) (outcome : Outcome) → Scripts asked vars user before after outcome
    → (p : Spawning) × (o : Outcome) × RunsProgram asked vars user (beside before nothing_taken before.out) (beside after p before.out) o
run_of asked vars user before after outcome (inl (r, e)) = (nothing_taken, outcome, r)
run_of asked vars user before after outcome (inr (launch, r, w)) = (this_taken launch, Child 0, r)

pub launch_of : (file : List ℕ) (vars : List Var) (user : List (List ℕ)) (before after : Meets) (outcome : Outcome) → ScriptsFile file vars user before after outcome
    → (p : Spawning) × (o : Outcome) × LaunchesFile file vars user (beside before nothing_taken before.out) (beside after p before.out) o
launch_of file vars user before after outcome (inl (r, e)) = (nothing_taken, outcome, r)
launch_of file vars user before after outcome (inr (launch, r, w)) = (this_taken launch, Child 0, r)

-- what a script that is written, or isn't, comes to
written : (vars : List Var) (launch : Launch) (old new : Sinking) (o : Outcome) → WritesScript vars launch old new o → EndsOut o old new
written vars launch old new o (inl (none, p)) = prints (script vars launch) old new o p
written vars launch old new o (inr (inl (name, e, is, same))) = subst (λ x. EndsOut x old new) (sym is) (same, tt, tt, tt, tt)
written vars launch old new o (inr (inr (is, same))) = subst (λ x. EndsOut x old new) (sym is) (unwritten Memory old new tt same, tt, tt, tt, tt)

-- a spawner that takes launches down never fails
spawner_same : (o : Outcome) (old new : Spawning) → RoseOnSpawnFault o 0 0 → new ≡ old → RoseOnSpawnFault o old.faults new.faults
spawner_same SpawnFault old new r e = absurd (elim r [ inl a ↦ omega (arith, a) | inr b ↦ omega (arith, b) ])
spawner_same other old new r e = ap (λ (p : Spawning). p.faults) e

module _ (Does : Surroundings → Surroundings → Outcome → Type 0) (ends_by : (b a : Surroundings) (o : Outcome) → Does b a o → Ends o b a) (vars : List Var) where
  in_place : (o : Outcome) (before after : Surroundings) → after.spawner ≡ before.spawner → InPlaceOfStart Does vars (meets_of before) (meets_of after) o → Ends o before after
  in_place o before after started (inl (d, same)) =
      let e = ends_by (beside (meets_of before) nothing_taken before.out) (beside (meets_of after) nothing_taken before.out) o d in
      ends o before after e.blamed.feeds e.blamed.stores e.blamed.web (spawner_same o before.spawner after.spawner e.blamed.spawner started) (subst (λ s. Leaves o before.out s) (sym same) e.out)
  in_place o before after started (inr (launch, d, w)) =
      let e = ends_by (beside (meets_of before) nothing_taken before.out) (beside (meets_of after) (this_taken launch) before.out) (Child 0) d in
      let x = written vars launch before.out after.out o w in
      ends o before after (feeds_still o x.1 e.blamed.feeds) (stores_still o (all_stores (world_of (meets_of before))) (all_stores (world_of (meets_of after))) x.2 e.blamed.stores) (web_still o x.3 e.blamed.web)
      (spawner_still o before.spawner after.spawner x.4 started) x.0

pub script_ends : (asked : Asked) (vars : List Var) (user : List (List ℕ)) (o : Outcome) (before after : Surroundings) → Unstarted (Scripts asked vars user) before after o → Ends o before after
script_ends asked vars user o before after d = in_place (λ b a o. RunsProgram asked vars user b a o) (λ b a o r. run_ends asked vars user o b a r) vars o before after d.started d.does

pub script_file_ends : (file : List ℕ) (vars : List Var) (user : List (List ℕ)) (o : Outcome) (before after : Surroundings) → Unstarted (ScriptsFile file vars user) before after o → Ends o before after
script_file_ends file vars user o before after d = in_place (λ b a o. LaunchesFile file vars user b a o) (λ b a o r. launch_ends file vars user o b a r) vars o before after d.started d.does

-- Never Usage.
writes_right : (vars : List Var) (launch : Launch) (old new : Sinking) (index : ℕ) → WritesScript vars launch old new (Usage index) → ⊥
writes_right vars launch old new index (inl (none, p)) = prints_right (script vars launch) old new index p
writes_right vars launch old new index (inr (inl (name, e, is, same))) = cc is
writes_right vars launch old new index (inr (inr (is, same))) = cc is

pub script_right : (asked : Asked) (vars : List Var) (user : List (List ℕ)) (before after : Surroundings) (index : ℕ) → Unstarted (Scripts asked vars user) before after (Usage index) → ⊥
script_right asked vars user before after index d = elim d.does [
  | inl r ↦ run_right asked vars user (beside (meets_of before) nothing_taken before.out) (beside (meets_of after) nothing_taken before.out) index r.0
  | inr s ↦ writes_right vars s.0 before.out after.out index s.2
]

pub script_file_right : (file : List ℕ) (vars : List Var) (user : List (List ℕ)) (before after : Surroundings) (index : ℕ) → Unstarted (ScriptsFile file vars user) before after (Usage index) → ⊥
script_file_right file vars user before after index d = elim d.does [
  | inl r ↦ launch_right file vars user (beside (meets_of before) nothing_taken before.out) (beside (meets_of after) nothing_taken before.out) index r.0
  | inr s ↦ writes_right vars s.0 before.out after.out index s.2
]
