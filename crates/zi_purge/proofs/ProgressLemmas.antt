-- How far a purger comes by a step.
use Rattle.std.proofs.Common.{◌≡◌, ◌≢◌, ◌<◌, ℕ, ◌+◌, Bool, true, false, nat_lt, if◌then◌else◌, List, length, Some, refl, sym, ◌∙◌, ap, subst, arith}
use Rattle.std.proofs.lemmas.Bool.{ltb-true}
use Rattle.zi_shelf.specs.Names.{Name}
use Rattle.zi_shelf.specs.Shelved.{Call, SettleTop, RemoveTop, Reply, Did, Exists, Failed, Memory}
use Rattle.zi_shelf.specs.Filling.{Work}
use Rattle.zi_shelf.specs.Shelving.{Shelving}
use Rattle.zi_session.specs.Phases.{tmp_name}
use Rattle.zi_purge.specs.Machine.{Phase, Moving, Sealing, Clearing, Closing, Ended, Stopped, Done, Crowded, Fault, moving, next_call, next_phase}
use Rattle.zi_purge.specs.Phases.{phase_of}
use Rattle.zi_purge.specs.Stepping.{Standing, standing, Says, SaysOn, gone_after, moved, IsReplyTo, IsStep}
use Rattle.zi_purge.specs.Progress.{has_ended, left_from, calls_left, Advances}
use Rattle.zi_purge.specs.declared.phase.Phase.{Phase as KeptPhase}
use Rattle.zi_purge.specs.declared.phase.Phase.TheVariants.{Moves, Seals, Clears, Closes, IsDone, IsCrowded, IsStuck, IsFaulty}
use Rattle.zi_purge.specs.declared.purge.Purge.{Purge}
use Rattle.zi_purge.specs.declared.step.PurgeStep.{PurgeStep}

-- the temporary name that is tried is one of the first 10,000
abbrev pub IsFew : Phase → Type 0
IsFew (Moving k n) = n < 10000
IsFew p = Unit {0}

is_few : (p : KeptPhase) (k n : ℕ) → n < 10000 → IsFew (phase_of p k n)
is_few Moves k n few = few
is_few Seals k n few = tt
is_few Clears k n few = tt
is_few Closes k n few = tt
is_few IsDone k n few = tt
is_few IsCrowded k n few = tt
is_few IsStuck k n few = tt
is_few IsFaulty k n few = tt

-- what isn't one of the phases that name a call is an end
pub over_now : (p : KeptPhase) (k n : ℕ) → p ≢ Moves → p ≢ Seals → p ≢ Clears → p ≢ Closes → has_ended (phase_of p k n) ≡ true
over_now Moves k n a b c d = absurd (a refl)
over_now Seals k n a b c d = absurd (b refl)
over_now Clears k n a b c d = absurd (c refl)
over_now Closes k n a b c d = absurd (d refl)
over_now IsDone k n a b c d = refl
over_now IsCrowded k n a b c d = refl
over_now IsStuck k n a b c d = refl
over_now IsFaulty k n a b c d = refl

pub not_over : (p q : KeptPhase) (k n : ℕ) {A : Type 0} → p ≡ q → has_ended (phase_of q k n) ≡ false → has_ended (phase_of p k n) ≡ true → A
not_over p q k n e going over = let f : has_ended (phase_of q k n) ≡ true = subst (λ x. has_ended (phase_of x k n) ≡ true) e over in absurd (cc (going, f))

fewer_tries : (all k n : ℕ) (b : Bool) → n < 10000 → has_ended (if b then Moving k (n + 1) else Ended Crowded) ≡ false → left_from all (if b then Moving k (n + 1) else Ended Crowded) < left_from all (Moving k n)
fewer_tries all k n true few more = omega (arith, few)
fewer_tries all k n false few more = absurd (cc more)

fewer_names : (all k n : ℕ) → left_from all (moving all (k + 1)) < left_from all (Clearing k n)
fewer_names all k n = elim (nat_lt (k + 1) all) as (λ b. nat_lt (k + 1) all ≡ b → left_from all (if b then Moving (k + 1) 0 else Closing) < left_from all (Clearing k n)) [
  | true ↦ λ e. (let less : k + 1 < all = ltb-true (k + 1) all e in omega (arith, less))
  | false ↦ λ e. omega arith
] refl

-- where others are to come, fewer are left
fewer : (names : List Name) (p : Phase) (reply : Reply) (call : Call Work) → next_call tmp_name names p ≡ Some call → IsFew p → IsReplyTo call reply → reply ≢ Memory
    → has_ended (next_phase 10000 (length names) p reply) ≡ false → left_from (length names) (next_phase 10000 (length names) p reply) < left_from (length names) p
fewer names p Memory call m few r given more = absurd (given refl)
fewer names p Failed call m few r given more = absurd (cc more)
fewer names (Moving k n) Did call m few r given more = let less : n < 10000 = few in omega (arith, less)
fewer names (Moving k n) Exists call m few r given more = fewer_tries (length names) k n (nat_lt (n + 1) 10000) few more
fewer names (Sealing k n) Did call m few r given more = omega arith
fewer names (Sealing k n) Exists call m few r given more = let e : call ≡ SettleTop = cc m in absurd (subst (λ c. IsReplyTo c Exists) e r)
fewer names (Clearing k n) Did call m few r given more = fewer_names (length names) k n
fewer names (Clearing k n) Exists call m few r given more = let e : call ≡ RemoveTop (tmp_name n) = cc m in absurd (subst (λ c. IsReplyTo c Exists) e r)
fewer names Closing Did call m few r given more = absurd (cc more)
fewer names Closing Exists call m few r given more = let e : call ≡ SettleTop = cc m in absurd (subst (λ c. IsReplyTo c Exists) e r)
fewer names (Ended a) reply call m few r given more = absurd (cc m)
fewer names Stopped reply call m few r given more = absurd (cc m)

by_phase : (x y : Standing) (step : PurgeStep) (q : Phase) → y.phase ≡ q → Says x.phase q step → (has_ended q ≡ false → calls_left y < calls_left x) → Advances x step y
by_phase x y step (Moving k n) e says less = subst (λ s. Advances x s y) (sym says) (ap has_ended e, less refl)
by_phase x y step (Sealing k n) e says less = subst (λ s. Advances x s y) (sym says) (ap has_ended e, less refl)
by_phase x y step (Clearing k n) e says less = subst (λ s. Advances x s y) (sym says) (ap has_ended e, less refl)
by_phase x y step Closing e says less = subst (λ s. Advances x s y) (sym says) (ap has_ended e, less refl)
by_phase x y step (Ended Done) e says less = subst (λ s. Advances x s y) (sym says) e
by_phase x y step (Ended Crowded) e says less = subst (λ s. Advances x s y) (sym says) (refl, e)
by_phase x y step (Ended Fault) e says less = subst (λ s. Advances x s y) (sym says) (refl, e)
by_phase x y step Stopped e says less = absurd says

gone_stays : (names : List Name) (p : Phase) (gone : List Name) → gone_after names p Memory gone ≡ gone
gone_stays names (Moving k n) gone = refl
gone_stays names (Sealing k n) gone = refl
gone_stays names (Clearing k n) gone = refl
gone_stays names Closing gone = refl
gone_stays names (Ended a) gone = refl
gone_stays names Stopped gone = refl

waits : (x : Standing) → moved x Memory ≡ x
waits x = ap (λ g. let y : Standing = record { names = x.names; phase = x.phase; gone = g } in y) (gone_stays x.names x.phase x.gone)

goes_on : (x y : Standing) (step : PurgeStep) (call : Call Work) (reply : Reply) → IsFew x.phase → next_call tmp_name x.names x.phase ≡ Some call → IsReplyTo call reply → reply ≢ Memory
    → y ≡ moved x reply → Says x.phase y.phase step → Advances x step y
goes_on x y step call reply few m r given goes says =
    let to = ap (λ (z : Standing). z.phase) goes in
    by_phase x y step (next_phase 10000 (length x.names) x.phase reply) to (subst (λ q. Says x.phase q step) to says)
    (λ more. subst (λ (z : Standing). calls_left z < calls_left x) (sym goes) (fewer x.names x.phase reply call m few r given more))

by_reply : (x y : Standing) (step : PurgeStep) (call : Call Work) (reply : Reply) → IsFew x.phase → next_call tmp_name x.names x.phase ≡ Some call → IsReplyTo call reply → y ≡ moved x reply
    → SaysOn x.phase reply y.phase step → Advances x step y
by_reply x y step call Did few m r goes says = goes_on x y step call Did few m r (λ e. absurd (cc e)) goes says
by_reply x y step call Exists few m r goes says = goes_on x y step call Exists few m r (λ e. absurd (cc e)) goes says
by_reply x y step call Failed few m r goes says = goes_on x y step call Failed few m r (λ e. absurd (cc e)) goes says
by_reply x y step call Memory few m r goes says = subst (λ s. Advances x s y) (sym says) (goes ∙ waits x)

pub step_advances : (x : Purge) (y : Standing) (before after : Shelving) (step : PurgeStep) → IsStep (standing x) before step y after → Advances (standing x) step y
step_advances x y before after step c = by_reply (standing x) y step c.call c.reply (is_few x.phase x.place x.number x.few) c.next c.replies c.goes c.says

-- along a list of steps

few_tries : (k n : ℕ) (b : Bool) → nat_lt (n + 1) 10000 ≡ b → IsFew (if b then Moving k (n + 1) else Ended Crowded)
few_tries k n true e = ltb-true (n + 1) 10000 e
few_tries k n false e = tt

pub few_moving : (all k : ℕ) → IsFew (moving all k)
few_moving all k = elim (nat_lt k all) as (λ b. IsFew (if b then Moving k 0 else Closing)) [ true ↦ omega arith | false ↦ tt ]

pub few_next : (all : ℕ) (p : Phase) (reply : Reply) → IsFew p → IsFew (next_phase 10000 all p reply)
few_next all p Memory few = few
few_next all p Failed few = tt
few_next all (Moving k n) Did few = tt
few_next all (Moving k n) Exists few = few_tries k n (nat_lt (n + 1) 10000) refl
few_next all (Sealing k n) Did few = tt
few_next all (Sealing k n) Exists few = tt
few_next all (Clearing k n) Did few = few_moving all (k + 1)
few_next all (Clearing k n) Exists few = tt
few_next all Closing Did few = tt
few_next all Closing Exists few = tt
few_next all (Ended a) Did few = tt
few_next all (Ended a) Exists few = tt
few_next all Stopped Did few = tt
few_next all Stopped Exists few = tt
