-- The steps of a run, one after the other.
use Rattle.std.proofs.Common.{◌≡◌, ℕ, zero, suc, ◌+◌, ◌-◌, ◌<◌, ◌≤◌, Some, refl, ◌∙◌, ap, subst, arith}
use Rattle.zi_shelf.specs.Told.{Told}
use Rattle.zi_shelf.specs.Shelving.{Shelving}
use Rattle.zi_session.specs.Standing.{Standing, left}
use Rattle.zi_session.specs.Stepping.{IsStep, Calls, Goes, Go, Lead, IsRun, Spends}
use Rattle.zi_session.specs.Keeping.{KeepsShelf}
use Rattle.zi_session.specs.declared.session.Session.{Session}
use Rattle.zi_session.specs.declared.step.Step.{Step}
use Rattle.zi_session.specs.declared.step.Step.TheVariants.{More}
use Rattle.zi_session.proofs.FittingLemmas.{left_along}
use Rattle.zi_session.proofs.KeepingLemmas.{none_keeps, keeps_on}

-- what the loop keeps: so many steps, each with the answer More, led from the first state to this one
pub record Ran (x : Standing) (before : Shelving) (y : Standing) (now : Shelving) : Type 0 where
  pub number : ℕ
  pub gone : Go number x y
  pub led : (s : Told) → before.honest → before.told ≡ Some s → (t : Told) × (now.told ≡ Some t) × (n : ℕ) × Lead n x s y t
  pub keeps : KeepsShelf x before More y now

pub ran_start : (x : Standing) (seen : Shelving) → Ran x seen x seen
ran_start x seen = record { number = 0; gone = refl; led = λ s honest told. (s, told, 0, (refl, refl)); keeps = none_keeps x seen More refl }

-- a step, whatever the shelf
goes_of : (x y : Standing) (before after : Shelving) (step : Step) → IsStep x before step y after → Goes x step y
goes_of x y before after step c = record { call = c.call; next = c.next; reply = c.reply; does = tt; goes = c.goes; says = c.says }

-- a step, by what the shelf tells
calls_of : (x y : Standing) (before after : Shelving) (step : Step) (s : Told) → IsStep x before step y after → before.honest → before.told ≡ Some s → (t : Told) × (after.told ≡ Some t) × Calls x s step y t
calls_of x y before after step s c honest told =
    let l = c.does.leads s honest told in
    (l.0, l.1, record { call = c.call; next = c.next; reply = c.reply; does = l.2; goes = c.goes; says = c.says })

-- the name and the calls that fill stay
same_name : (n : ℕ) (x y : Standing) → Go n x y → y.name ≡ x.name
same_name zero x y e = ap (λ (z : Standing). z.name) e
same_name (suc n) x y (m, g, c) = ap (λ (z : Standing). z.name) c.goes ∙ same_name n x m g

same_works : (n : ℕ) (x y : Standing) → Go n x y → y.works ≡ x.works
same_works zero x y e = ap (λ (z : Standing). z.works) e
same_works (suc n) x y (m, g, c) = ap (λ (z : Standing). z.works) c.goes ∙ same_works n x m g

-- what is kept of the shelf, by a step more
pub keeps_more : (x y z : Standing) (before now after : Shelving) (step : Step) → (before.sure → before.honest) → Ran x before y now → KeepsShelf y now step z after → KeepsShelf x before step z after
keeps_more x y z before now after step honest r k =
    keeps_on x y z before now after step r.keeps k (same_name r.number x y r.gone) (same_works r.number x y r.gone)
    (λ s sure told own.
    let l = r.led s (honest sure) told in
    (l.0, l.1, left_along l.2 x y s l.0 l.3 own))

pub ran_on : (x y z : Standing) (before now after : Shelving) (step : Step) → (before.sure → before.honest) → step ≡ More → Ran x before y now → IsStep y now step z after → KeepsShelf y now step z after → Ran x before z after
ran_on x y z before now after step honest more r c k = record {
  number = suc r.number;
  gone = (y, r.gone, subst (λ a. Goes y a z) more (goes_of y z now after step c));
  led = λ s h told.
      let l = r.led s h told in
      let last = calls_of y z now after step l.0 c (r.keeps.stays.honest h) l.1 in
      (last.0, last.1, suc l.2, (y, l.0, l.3, subst (λ a. Calls y l.0 a z last.0) more last.2));
  keeps = subst (λ a. KeepsShelf x before a z after) more (keeps_more x y z before now after step honest r k);
}

pub ran_run : (x y z : Standing) (before now after : Shelving) (step : Step) → Ran x before y now → IsStep y now step z after → IsRun x before step z after
ran_run x y z before now after step r c = record {
  goes = record { number = r.number; there = y; first = r.gone; last = goes_of y z now after step c };
  calls = λ s h told.
      let l = r.led s h told in
      let last = calls_of y z now after step l.0 c (r.keeps.stays.honest h) l.1 in
      (last.0, last.1, record { number = l.2; there = y; told = l.0; first = l.3; last = last.2 });
}

-- a step with the answer More comes nearer to the end
pub spent : (x y : Session) (step : Step) → step ≡ More → y.number < 10000 → Spends x step y → (10000 - y.number) + left y < (10000 - x.number) + left x
spent x y step is few s =
    let t : (left y + x.number + 1 ≤ left x + y.number) × (x.number ≤ y.number) = subst (λ a. Spends x a y) is s in
    let a : left y + x.number + 1 ≤ left x + y.number = t.0 in
    let b : x.number ≤ y.number = t.1 in
    omega arith
