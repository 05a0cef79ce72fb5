-- A step keeps the invariant of the machine and what else it owes the shelf.
use Rattle.std.proofs.Common.{◌≡◌, ◌+◌, ℕ, nat_lt, true, false, if◌then◌else◌, List, length, Some, refl, sym, ap, subst, slice_get}
use Rattle.zi_tree.specs.Dir.{Dir}
use Rattle.zi_shelf.specs.Names.{Name}
use Rattle.zi_shelf.specs.Shelved.{Shelved, Call, SettleTop, RemoveTop, Reply, Did, Exists, Failed, Memory, Fits}
use Rattle.zi_shelf.specs.Filling.{Work, trees}
use Rattle.zi_shelf.specs.Told.{HasCause}
use Rattle.zi_shelf.specs.Shelving.{Shelving}
use Rattle.zi_session.specs.Phases.{tmp_name}
use Rattle.zi_session.proofs.KeepingLemmas.{not_later, stays_same}
use Rattle.zi_purge.specs.Machine.{Purger, Phase, Moving, Sealing, Clearing, Closing, Ended, Stopped, Done, Crowded, Fault, moving, next_call, next_phase}
use Rattle.zi_purge.specs.Stepping.{Standing, named, Says, SaysOn, IsStep, Calls}
use Rattle.zi_purge.specs.Keeping.{IsShared, KeepsInvariant, CountFits, IsAsLeft, KeepsShelf}
use Rattle.zi_purge.specs.declared.step.PurgeStep.{PurgeStep}
use Rattle.zi_purge.specs.declared.step.PurgeStep.TheVariants.{More, Done as SaysDone, Crowded as SaysCrowded, Fault as SaysFault, Memory as SaysMemory}
use Rattle.zi_purge.proofs.PurgingLemmas.{rename_is}
use Rattle.zi_purge.proofs.AloneLemmas.{alone_on, alone_as_left}
use Rattle.zi_purge.proofs.StoreLemmas.{step_keeps as keeps}

abbrev in_phase : Purger → Phase → Purger
in_phase p q = record p { phase = q }

-- where nothing changed
still_sound : (x : Standing) (seen : Shelving) → KeepsInvariant x seen x seen
still_sound x seen = record {
  keeps = λ adders p shared stands.
      let same : in_phase p x.phase ≡ p = ap (λ q. in_phase p q) (sym stands.phase) in
      subst (λ q. IsShared seen adders q) (sym same) shared;
}

step_sound : (x y : Standing) (before after : Shelving) (step : PurgeStep) → IsStep x before step y after → KeepsInvariant x before y after
step_sound x y before after step c = record {
  keeps = λ adders p shared stands.
      let l = c.does.leads shared.now shared.honest shared.tells in
      let told : Calls x shared.now step y l.0 = record { call = c.call; next = c.next; reply = c.reply; replies = c.replies; does = l.2; goes = c.goes; says = c.says } in
      record {
        honest = c.does.stays.honest shared.honest;
        now = l.0;
        tells = l.1;
        invariant = keeps adders p x y shared.now l.0 step stands told shared.invariant;
      };
}

-- the count

-- no call led here that failed
abbrev IsCalm : Phase → Type 0
IsCalm (Ended Fault) = ⊥
IsCalm p = Unit {0}

calm_moving : (all k : ℕ) → IsCalm (moving all k)
calm_moving all k = elim (nat_lt k all) as (λ b. IsCalm (if b then Moving k 0 else Closing)) [ true ↦ tt | false ↦ tt ]

calm_tries : (k n : ℕ) → IsCalm (if nat_lt (n + 1) 10000 then Moving k (n + 1) else Ended Crowded)
calm_tries k n = elim (nat_lt (n + 1) 10000) as (λ b. IsCalm (if b then Moving k (n + 1) else Ended Crowded)) [ true ↦ tt | false ↦ tt ]

did_calm : (names : List Name) (p : Phase) (call : Call Work) → next_call tmp_name names p ≡ Some call → IsCalm (next_phase 10000 (length names) p Did)
did_calm names (Moving k n) call m = tt
did_calm names (Sealing k n) call m = tt
did_calm names (Clearing k n) call m = calm_moving (length names) (k + 1)
did_calm names Closing call m = tt
did_calm names (Ended a) call m = absurd (cc m)
did_calm names Stopped call m = absurd (cc m)

exists_calm : (names : List Name) (p : Phase) (call : Call Work) → next_call tmp_name names p ≡ Some call → IsCalm (next_phase 10000 (length names) p Exists)
exists_calm names (Moving k n) call m = calm_tries k n
exists_calm names (Sealing k n) call m = tt
exists_calm names (Clearing k n) call m = tt
exists_calm names Closing call m = tt
exists_calm names (Ended a) call m = absurd (cc m)
exists_calm names Stopped call m = absurd (cc m)

fits_as : (step other : PurgeStep) (f g : ℕ) → step ≡ other → CountFits other f g → CountFits step f g
fits_as step other f g e h = subst (λ s. CountFits s f g) (sym e) h

fits_by : (p q : Phase) (step : PurgeStep) (f g : ℕ) → IsCalm q → Says p q step → g ≡ f → CountFits step f g
fits_by p (Moving k n) step f g calm says e = fits_as step More f g says e
fits_by p (Sealing k n) step f g calm says e = fits_as step More f g says e
fits_by p (Clearing k n) step f g calm says e = fits_as step More f g says e
fits_by p Closing step f g calm says e = fits_as step More f g says e
fits_by p (Ended Done) step f g calm says e = fits_as step SaysDone f g says e
fits_by p (Ended Crowded) step f g calm says e = fits_as step (SaysCrowded 10000) f g says e
fits_by p (Ended Fault) step f g calm says e = absurd calm
fits_by p Stopped step f g calm says e = absurd says

fits_on : (names : List Name) (p : Phase) (reply : Reply) (call : Call Work) (step : PurgeStep) (f g : ℕ) → next_call tmp_name names p ≡ Some call
    → SaysOn p reply (next_phase 10000 (length names) p reply) step → HasCause f g reply → CountFits step f g
fits_on names p Did call step f g m says h = fits_by p (next_phase 10000 (length names) p Did) step f g (did_calm names p call m) says (h.did refl)
fits_on names p Exists call step f g m says h = fits_by p (next_phase 10000 (length names) p Exists) step f g (exists_calm names p call m) says (h.exists refl)
fits_on names p Failed call step f g m says h = fits_as step (SaysFault (named p)) f g says (h.failed refl)
fits_on names p Memory call step f g m says h = fits_as step SaysMemory f g says (h.memory refl)

-- the next call fits where all is as the purger left it
next_call_fits : (names : List Name) (p : Phase) (s : Shelved Dir) (call : Call Work) → next_call tmp_name names p ≡ Some call → IsAsLeft names p s → Fits trees s call
next_call_fits names (Moving k n) s call m left =
    let f = rename_is (slice_get names k) (tmp_name n) call m in subst (λ c. Fits trees s c) f.2 (left k f.0 (not_later k) f.1)
next_call_fits names (Sealing k n) s call m left = let e : SettleTop ≡ call = cc m in subst (λ c. Fits trees s c) e tt
next_call_fits names (Clearing k n) s call m left = let e : RemoveTop (tmp_name n) ≡ call = cc m in subst (λ c. Fits trees s c) e left.0
next_call_fits names Closing s call m left = let e : SettleTop ≡ call = cc m in subst (λ c. Fits trees s c) e tt
next_call_fits names (Ended a) s call m left = absurd (cc m)
next_call_fits names Stopped s call m left = absurd (cc m)

-- what is kept of the shelf by one step
pub step_keeps : (x y : Standing) (before after : Shelving) (step : PurgeStep) → IsStep x before step y after → KeepsShelf x before step y after
step_keeps x y before after step c = record {
  sound = step_sound x y before after step c;
  cause = fits_on x.names x.phase c.reply c.call step before.faults after.faults c.next (subst (λ (z : Standing). SaysOn x.phase c.reply z.phase step) c.goes c.says) c.does.cause;
  later = c.does.cause.later;
  no_rise = λ s sure told left. (c.does.no_rise sure).no_rise s told (next_call_fits x.names x.phase s.shelf c.call c.next left);
  alone = λ start a.
      let l = c.does.leads a.now a.honest a.tells in
      record { honest = c.does.stays.honest a.honest; now = l.0; tells = l.1; works = alone_on start a.now.shelf l.0.shelf x y c.call c.reply c.next l.2.answers c.goes a.works };
  no_fault = λ start a sure. (c.does.no_rise sure).no_rise a.now a.tells (next_call_fits x.names x.phase a.now.shelf c.call c.next (alone_as_left start a.now.shelf x a.works));
  stays = c.does.stays;
}

-- where nothing changed
pub none_keeps : (x : Standing) (seen : Shelving) (step : PurgeStep) → CountFits step seen.faults seen.faults → KeepsShelf x seen step x seen
none_keeps x seen step fits = record {
  sound = still_sound x seen;
  cause = fits;
  later = not_later seen.faults;
  no_rise = λ s sure told left. refl;
  alone = λ start a. a;
  no_fault = λ start a sure. refl;
  stays = stays_same seen;
}
