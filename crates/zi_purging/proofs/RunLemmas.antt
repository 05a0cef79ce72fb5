-- The steps of a purger, one after the other.
use Rattle.std.proofs.Common.{◌≡◌, ◌≢◌, ℕ, zero, suc, ◌<◌, ◌≤◌, false, Some, refl, ◌∙◌, ap, subst, arith}
use Rattle.zi_shelf.specs.Shelved.{Shelved}
use Rattle.zi_shelf.specs.Shelving.{Shelving, Stays}
use Rattle.zi_shelf.specs.Told.{Told}
use Rattle.zi_tree.specs.Dir.{Dir}
use Rattle.zi_purge.specs.Alone.{IsAlone}
use Rattle.zi_purge.specs.Keeping.{CountFits, KeepsShelf}
use Rattle.zi_purge.specs.Progress.{has_ended, calls_left, Advances}
use Rattle.zi_purge.specs.Stepping.{Standing, IsStep, Calls}
use Rattle.zi_purge.specs.declared.step.PurgeStep.{PurgeStep}
use Rattle.zi_purge.specs.declared.step.PurgeStep.TheVariants as step
use Rattle.zi_purging.specs.Running.{Lead, CallsToEnd, IsEnd, IsRun}

-- what the loop keeps: so many steps, each with the answer More, led from the first standing to this one
pub record Ran (x : Standing) (before : Shelving) (y : Standing) (now : Shelving) : Type 0 where
  pub names : y.names ≡ x.names
  pub led : (s : Told) → before.honest → before.told ≡ Some s → (t : Told) × (now.told ≡ Some t) × (n : ℕ) × Lead n x s y t
  pub calm : now.faults ≡ before.faults
  pub alone : (start : Shelved Dir) → IsAlone start x before → IsAlone start y now
  pub stays : Stays before now

pub stays_same : (seen : Shelving) → Stays seen seen
stays_same seen = record { honest = λ h. h; sure = λ h. h; in_memory = λ h. h; root = refl; plan = refl }

pub stays_on : (first mid last : Shelving) → Stays first mid → Stays mid last → Stays first last
stays_on first mid last a b = record {
  honest = λ h. b.honest (a.honest h);
  sure = λ h. b.sure (a.sure h);
  in_memory = λ h. b.in_memory (a.in_memory h);
  root = b.root ∙ a.root;
  plan = b.plan ∙ a.plan;
}

pub ran_start : (x : Standing) (seen : Shelving) → Ran x seen x seen
ran_start x seen = record { names = refl; led = λ s honest told. (s, told, 0, (refl, refl)); calm = refl; alone = λ start a. a; stays = stays_same seen }

-- a step, by what the shelf tells
calls_of : (x y : Standing) (before after : Shelving) (answer : PurgeStep) (s : Told) → IsStep x before answer y after → before.honest → before.told ≡ Some s → (t : Told) × (after.told ≡ Some t) × Calls x s answer y t
calls_of x y before after answer s c honest told =
    let l = c.does.leads s honest told in
    (l.0, l.1, record { call = c.call; next = c.next; reply = c.reply; replies = c.replies; does = l.2; goes = c.goes; says = c.says })

pub ran_on : (x y z : Standing) (before now after : Shelving) (answer : PurgeStep) → answer ≡ step.More → Ran x before y now → IsStep y now answer z after → KeepsShelf y now answer z after → Ran x before z after
ran_on x y z before now after answer more r c k = record {
  names = ap (λ (w : Standing). w.names) c.goes ∙ r.names;
  led = λ s h told.
      let l = r.led s h told in
      let last = calls_of y z now after answer l.0 c (r.stays.honest h) l.1 in
      (last.0, last.1, suc l.2, (y, l.0, l.3, subst (λ a. Calls y l.0 a z last.0) more last.2));
  calm = subst (λ a. CountFits a now.faults after.faults) more k.cause ∙ r.calm;
  alone = λ start a. k.alone start (r.alone start a);
  stays = stays_on before now after r.stays k.stays;
}

pub open_more : (y z : Standing) (answer : PurgeStep) → answer ≡ step.More → Advances y answer z → has_ended z.phase ≡ false
open_more y z answer more a = let b : Advances y step.More z = subst (λ s. Advances y s z) more a in b.0

pub fewer_more : (y z : Standing) (answer : PurgeStep) → answer ≡ step.More → Advances y answer z → calls_left z < calls_left y
fewer_more y z answer more a = let b : Advances y step.More z = subst (λ s. Advances y s z) more a in b.1

-- what the last step answers
end_of : (y z : Standing) (answer : PurgeStep) → answer ≢ step.More → has_ended y.phase ≡ false → Advances y answer z → IsEnd answer z
end_of y z step.More ne going a = absurd (ne refl)
end_of y z step.Done ne going a = a
end_of y z (step.Crowded tried) ne going a = a
end_of y z (step.Fault tmp) ne going a = a.1
end_of y z step.Memory ne going a = ap (λ (x : Standing). has_ended x.phase) a ∙ going
end_of y z step.Over ne going a = let over = a.0 in absurd (cc (going, over))

fits_since : (answer : PurgeStep) (a b c : ℕ) → b ≡ a → CountFits answer b c → CountFits answer a c
fits_since answer a b c e h = subst (λ n. CountFits answer n c) e h

later_since : (a b c : ℕ) → b ≡ a → b ≤ c → a ≤ c
later_since a b c e h = omega arith

pub ran_run : (x y z : Standing) (before now after : Shelving) (answer : PurgeStep) → answer ≢ step.More → has_ended y.phase ≡ false → Ran x before y now → IsStep y now answer z after
    → Advances y answer z → KeepsShelf y now answer z after → IsRun x before answer z after
ran_run x y z before now after answer ne going r c a k = record {
  names = ap (λ (w : Standing). w.names) c.goes ∙ r.names;
  ends = end_of y z answer ne going a;
  calls = λ s h told.
      let l = r.led s h told in
      let last = calls_of y z now after answer l.0 c (r.stays.honest h) l.1 in
      (last.0, last.1, record { number = l.2; there = y; told = l.0; first = l.3; last = last.2 });
  cause = fits_since answer before.faults now.faults after.faults r.calm k.cause;
  later = later_since before.faults now.faults after.faults r.calm k.later;
  alone = λ start b. k.alone start (r.alone start b);
  no_fault = λ start b sure. k.no_fault start (r.alone start b) (r.stays.sure sure) ∙ r.calm;
  stays = stays_on before now after r.stays k.stays;
}
