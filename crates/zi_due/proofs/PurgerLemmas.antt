-- Where each temporary name is taken a purger takes nothing away; where nothing is to go it finds none taken.
use Rattle.std.proofs.Common.{◌≡◌, ◌≢◌, ℕ, zero, suc, ◌+◌, ◌<◌, nat_lt, Bool, true, false, List, [], ◌∷◌, length, refl, sym, ap, subst, ◌∙◌, arith, rules, Option, Some, None, if◌then◌else◌, slice_get}
use Rattle.std.specs.Prelude.{IsSome}
use Rattle.std.proofs.lemmas.Bool.{ltb-true}
use Rattle.zi_tree.specs.Dir.{Dir}
use Rattle.zi_shelf.specs.Names.{Name}
use Rattle.zi_shelf.specs.Shelved.{Shelved, Call, Rename, SettleTop, Reply, Did, Exists, Failed, Memory, Answers}
use Rattle.zi_shelf.specs.Filling.{Work, trees}
use Rattle.zi_shelf.specs.Told.{Told}
use Rattle.zi_session.specs.Phases.{tmp_name}
use Rattle.zi_purge.specs.Machine.{Phase, Moving, Closing, Ended, Done, Fault, Crowded, purged, moving, next_call, next_phase}
use Rattle.zi_purge.specs.Stepping.{Standing, at_start, SaysOn, IsReplyTo, Calls}
use Rattle.zi_purge.specs.declared.step.PurgeStep.{PurgeStep}
use Rattle.zi_purge.specs.declared.step.PurgeStep.TheVariants.{More, Done as SaysDone, Crowded as SaysCrowded, Fault as SaysFault, Memory as SaysMemory}
use Rattle.zi_purging.specs.Running.{Lead, CallsToEnd}
use Rattle.zi_due.specs.Adding.{AreTaken}
use Rattle.zi_due.proofs.CrowdedLemmas.{none_some}

-- one try: it isn't done, and where it goes on it is at the next name, and nothing has changed
pub record Tries (n : ℕ) (old new : Shelved Dir) (q : Phase) (step : PurgeStep) : Type 0 where
  pub done : step ≢ SaysDone
  pub more : step ≡ More → (n + 1 < 10000) × (q ≡ Moving 0 (n + 1)) × (new ≡ old)

ends_with : (n : ℕ) (old new : Shelved Dir) (q : Phase) (step ended : PurgeStep) → step ≡ ended → ended ≢ SaysDone → ended ≢ More → Tries n old new q step
ends_with n old new q step ended e d m = record { done = λ f. d (sym e ∙ f); more = λ f. absurd (m (sym e ∙ f)) }

found_taken : (n : ℕ) (old new : Shelved Dir) (step : PurgeStep) (b : Bool) → nat_lt (n + 1) 10000 ≡ b → new ≡ old → SaysOn (Moving 0 n) Exists (if b then Moving 0 (n + 1) else Ended Crowded) step
    → Tries n old new (if b then Moving 0 (n + 1) else Ended Crowded) step
found_taken n old new step true e f s = record { done = λ g. absurd (cc (s, g)); more = λ g. (ltb-true (n + 1) 10000 e, refl, f) }
found_taken n old new step false e f s = ends_with n old new (Ended Crowded) step (SaysCrowded 10000) s (λ g. absurd (cc g)) (λ g. absurd (cc g))

by_reply : (n all : ℕ) (d : Name) (r : Reply) (old new : Shelved Dir) (step : PurgeStep) → Answers trees old (Rename d (tmp_name n)) r new → IsSome (old.tops (tmp_name n))
    → SaysOn (Moving 0 n) r (next_phase 10000 all (Moving 0 n) r) step → Tries n old new (next_phase 10000 all (Moving 0 n) r) step
by_reply n all d Memory old new step a taken s = ends_with n old new (Moving 0 n) step SaysMemory s (λ g. absurd (cc g)) (λ g. absurd (cc g))
by_reply n all d Failed old new step a taken s = ends_with n old new (Ended Fault) step (SaysFault (Some n)) s (λ g. absurd (cc g)) (λ g. absurd (cc g))
by_reply n all d Did old new step a taken s = absurd (none_some (old.tops (tmp_name n)) a.2 taken)
by_reply n all d Exists old new step a taken s = found_taken n old new step (nat_lt (n + 1) 10000) refl a.2 s

some_call : (d : Name) (n : ℕ) (call : Call Work) → Some (Rename d (tmp_name n)) ≡ Some call → Rename d (tmp_name n) ≡ call
some_call d n call e = cc

-- a purger looks for a free name for its first one
pub record Looks (s : Told) (d : Name) (ds : List Name) (x : Standing) (t : Told) : Type 0 where
  pub names : x.names ≡ d ∷ ds
  pub number : ℕ
  pub few : number < 10000
  pub phase : x.phase ≡ Moving 0 number
  pub same : t.shelf ≡ s.shelf

module _ (s : Told) (taken : AreTaken s) (d : Name) (ds : List Name) where
  tries : (x y : Standing) (t u : Told) (step : PurgeStep) (l : Looks s d ds x t) → Calls x t step y u → Tries l.number t.shelf u.shelf y.phase step
  tries x y t u step l c =
      let next : next_call tmp_name (d ∷ ds) (Moving 0 l.number) ≡ Some c.call =
      subst (λ ns. next_call tmp_name ns (Moving 0 l.number) ≡ Some c.call) l.names (subst (λ p. next_call tmp_name x.names p ≡ Some c.call) l.phase c.next) in
      let is : Rename d (tmp_name l.number) ≡ c.call = some_call d l.number c.call next in
      let answers : Answers trees t.shelf (Rename d (tmp_name l.number)) c.reply u.shelf = subst (λ call. Answers trees t.shelf call c.reply u.shelf) (sym is) c.does.answers in
      let there : IsSome (t.shelf.tops (tmp_name l.number)) = subst (λ (h : Shelved Dir). IsSome (h.tops (tmp_name l.number))) (sym l.same) (taken l.number l.few) in
      let to : y.phase ≡ next_phase 10000 (length x.names) (Moving 0 l.number) c.reply =
      ap (λ (z : Standing). z.phase) c.goes ∙ ap (λ p. next_phase 10000 (length x.names) p c.reply) l.phase in
      let says : SaysOn (Moving 0 l.number) c.reply (next_phase 10000 (length x.names) (Moving 0 l.number) c.reply) step =
      subst (λ q. SaysOn (Moving 0 l.number) c.reply q step) to (subst (λ p. SaysOn p c.reply y.phase step) l.phase c.says) in
      subst (λ q. Tries l.number t.shelf u.shelf q step) (sym to) (by_reply l.number (length x.names) d c.reply t.shelf u.shelf step answers there says)

  looks_on : (x y : Standing) (t u : Told) → Looks s d ds x t → Calls x t More y u → Looks s d ds y u
  looks_on x y t u l c =
      let m = (tries x y t u More l c).more refl in
      record { names = ap (λ (z : Standing). z.names) c.goes ∙ l.names; number = l.number + 1; few = m.0; phase = m.1; same = m.2 ∙ l.same }

  lead_looks : (n : ℕ) (x y : Standing) (r t : Told) → Looks s d ds x r → Lead n x r y t → Looks s d ds y t
  lead_looks zero x y r t l (e, f) =
      subst (λ (z : Standing). Looks s d ds z t) (sym e) (subst (λ (u : Told). Looks s d ds x u) (sym f) l)
  lead_looks (suc n) x y r t l (mid, between, first, last) = looks_on mid y between t (lead_looks n x mid r between l first) last

  pub never_done : (x y : Standing) (r t : Told) → Looks s d ds x r → CallsToEnd x r SaysDone y t → ⊥
  never_done x y r t l c = (tries c.there y c.told t SaysDone (lead_looks c.number x c.there r c.told l c.first) c.last).done refl

-- there is a first one
lt_true : (a b : ℕ) → a < b → nat_lt a b ≡ true
lt_true a b h = search (rules, h)

moving_first : (n : ℕ) → moving (suc n) 0 ≡ Moving 0 0
moving_first n = ap (λ b. if b then Moving 0 0 else Closing) (lt_true 0 (suc n) (omega arith))

-- a purger of some names, over what the store held
pub taken_not_done : (s mid : Told) (kept there : List Name) (d : Name) (ds : List Name) (y : Standing) (t : Told) → AreTaken s → purged kept there ≡ d ∷ ds → mid.shelf ≡ s.shelf
    → CallsToEnd (at_start kept there) mid SaysDone y t → ⊥
taken_not_done s mid kept there d ds y t taken e same c =
    never_done s taken d ds (at_start kept there) y mid t
    (record { names = e; number = 0; few = omega arith; phase = ap (λ (ns : List Name). moving (length ns) 0) e ∙ moving_first (length ds); same = same }) c

-- where nothing is to go its one call is that of the top

by_settling : (all : ℕ) (r : Reply) (step : PurgeStep) → IsReplyTo SettleTop r → SaysOn Closing r (next_phase 10000 all Closing r) step → (step ≢ More) × ((tried : ℕ) → step ≢ SaysCrowded tried)
by_settling all Memory step h s = (λ f. absurd (cc (s, f)), λ n f. absurd (cc (s, f)))
by_settling all Failed step h s = (λ f. absurd (cc (s, f)), λ n f. absurd (cc (s, f)))
by_settling all Did step h s = (λ f. absurd (cc (s, f)), λ n f. absurd (cc (s, f)))
by_settling all Exists step h s = absurd h

settle_call : (call : Call Work) → Some SettleTop ≡ Some call → SettleTop ≡ call
settle_call call e = cc

closing_ends : (x y : Standing) (t u : Told) (step : PurgeStep) → x.phase ≡ Closing → Calls x t step y u → (step ≢ More) × ((tried : ℕ) → step ≢ SaysCrowded tried)
closing_ends x y t u step e c =
    let is : SettleTop ≡ c.call = settle_call c.call (subst (λ p. next_call tmp_name x.names p ≡ Some c.call) e c.next) in
    let replies : IsReplyTo SettleTop c.reply = subst (λ call. IsReplyTo call c.reply) (sym is) c.replies in
    let to : y.phase ≡ next_phase 10000 (length x.names) Closing c.reply = ap (λ (z : Standing). z.phase) c.goes ∙ ap (λ p. next_phase 10000 (length x.names) p c.reply) e in
    let says : SaysOn Closing c.reply (next_phase 10000 (length x.names) Closing c.reply) step =
    subst (λ q. SaysOn Closing c.reply q step) to (subst (λ p. SaysOn p c.reply y.phase step) e c.says) in
    by_settling (length x.names) c.reply step replies says

no_lead : (n : ℕ) (x y : Standing) (s t : Told) → x.phase ≡ Closing → Lead (suc n) x s y t → ⊥
no_lead zero x y s t e (mid, between, (f, g), last) = (closing_ends mid y between t More (ap (λ (z : Standing). z.phase) f ∙ e) last).0 refl
no_lead (suc n) x y s t e (mid, between, first, last) = no_lead n x mid s between e first

closing_not_crowded : (x y : Standing) (s t : Told) (tried : ℕ) → x.phase ≡ Closing → CallsToEnd x s (SaysCrowded tried) y t → ⊥
closing_not_crowded x y s t tried e c = by c.number c.first
  where
    by : (n : ℕ) → Lead n x s c.there c.told → ⊥
    by zero (f, g) = (closing_ends c.there y c.told t (SaysCrowded tried) (ap (λ (z : Standing). z.phase) f ∙ e) c.last).1 tried refl
    by (suc n) l = no_lead n x c.there s c.told e l

pub none_not_crowded : (mid : Told) (kept there : List Name) (y : Standing) (t : Told) (tried : ℕ) → purged kept there ≡ [] → CallsToEnd (at_start kept there) mid (SaysCrowded tried) y t → ⊥
none_not_crowded mid kept there y t tried e c = closing_not_crowded (at_start kept there) y mid t tried (ap (λ (ns : List Name). moving (length ns) 0) e) c
