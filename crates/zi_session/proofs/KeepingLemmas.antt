-- A step keeps the invariant of the machine and what else it owes the shelf, and so do steps one after the other.
use Rattle.std.proofs.Common.{◌≡◌, ◌≤◌, ◌+◌, ℕ, zero, suc, true, false, nat_lt, if◌then◌else◌, List, [], ◌∷◌, length, Some, refl, sym, ◌∙◌, ap, subst, slice_get, slice_set, is_some, inr, arith}
use Rattle.zi_tree.specs.Dir.{Dir}
use Rattle.zi_shelf.specs.Names.{Name}
use Rattle.zi_shelf.specs.Shelved.{Call, Reply, Did, Exists, Failed, Memory}
use Rattle.zi_shelf.specs.Filling.{Work, trees}
use Rattle.zi_shelf.specs.Told.{Told, HasCause}
use Rattle.zi_shelf.specs.Shelving.{Shelving, Stays, Does}
use Rattle.zi_session.specs.Machine.{Adder, Phase, Making, Filling, Settling, Renaming, Storing, Removing, Leaving, Ended, Stopped, Stored, Present, Crowded, Fault, filling, next_call, next_phase}
use Rattle.zi_session.specs.Made.{made}
use Rattle.zi_session.specs.Phases.{tmp_name}
use Rattle.zi_session.specs.Standing.{Standing}
use Rattle.zi_session.specs.Tie.{StandsFor}
use Rattle.zi_session.specs.Stepping.{named, Says, SaysOn, IsStep, Calls, IsAsLeft}
use Rattle.zi_session.specs.Keeping.{IsShared, KeepsInvariant, CountFits, KeepsShelf}
use Rattle.zi_session.specs.declared.step.Step.{Step}
use Rattle.zi_session.specs.declared.step.Step.TheVariants.{More, Stored as SaysStored, Present as SaysPresent, Crowded as SaysCrowded, Fault as SaysFault, Memory as SaysMemory}
use Rattle.zi_session.proofs.FittingLemmas.{next_call_fits}
use Rattle.zi_session.proofs.TiedLemmas.{keeps}

-- what stands there is written once more
set_same : {V : Type 0} (xs : List V) (i : ℕ) (v : V) → slice_get xs i ≡ Some v → slice_set xs i v ≡ xs
set_same [] i v h = refl
set_same (x ∷ xs) zero v h = let e : x ≡ v = cc h in ap (λ y. y ∷ xs) (sym e)
set_same (x ∷ xs) (suc i) v h = ap (λ ys. x ∷ ys) (set_same xs i v h)

-- a second write in one place hides the first
set_set : {V : Type 0} (xs : List V) (i : ℕ) (v w : V) → slice_set (slice_set xs i v) i w ≡ slice_set xs i w
set_set [] i v w = refl
set_set (x ∷ xs) zero v w = refl
set_set (x ∷ xs) (suc i) v w = ap (λ ys. x ∷ ys) (set_set xs i v w)

get_set : {V : Type 0} (xs : List V) (i : ℕ) (v u : V) → slice_get xs i ≡ Some u → slice_get (slice_set xs i v) i ≡ Some v
get_set [] i v u h = absurd (cc h)
get_set (x ∷ xs) zero v u h = refl
get_set (x ∷ xs) (suc i) v u h = get_set xs i v u h

abbrev in_phase : Adder Dir → Phase → Adder Dir
in_phase a p = record a { phase = p }

-- the machine's invariant

-- an adder in the phase in which it is
none_moves : (adders : List (Adder Dir)) (i : ℕ) (a : Adder Dir) (p : Phase) → slice_get adders i ≡ Some a → a.phase ≡ p → slice_set adders i (in_phase a p) ≡ adders
none_moves adders i a p at e =
    let same : in_phase a p ≡ a = ap (λ x. in_phase a x) (sym e) in
    ap (λ x. slice_set adders i x) same ∙ set_same adders i a at

-- where nothing changed
still_sound : (x : Standing) (seen : Shelving) → KeepsInvariant x seen x seen
still_sound x seen = record {
  keeps = λ adders i a shared at stands.
      let all : slice_set adders i (in_phase a x.phase) ≡ adders = none_moves adders i a x.phase at stands.phase in
      subst (λ xs. IsShared seen xs) (sym all) shared;
}

step_sound : (x y : Standing) (before after : Shelving) (step : Step) → IsStep x before step y after → KeepsInvariant x before y after
step_sound x y before after step c = record {
  keeps = λ adders i a shared at stands.
      let l = c.does.leads shared.now shared.honest shared.tells in
      let told : Calls x shared.now step y l.0 = record { call = c.call; next = c.next; reply = c.reply; does = l.2; goes = c.goes; says = c.says } in
      record {
        honest = c.does.stays.honest shared.honest;
        now = l.0;
        tells = l.1;
        invariant = keeps adders i a x y shared.now l.0 step stands at told shared.invariant;
      };
}

-- one after the other
sound_on : (x y z : Standing) (first mid last : Shelving) → KeepsInvariant x first y mid → KeepsInvariant y mid z last → y.name ≡ x.name → y.works ≡ x.works → KeepsInvariant x first z last
sound_on x y z first mid last before after name works = record {
  keeps = λ adders i a shared at stands.
      let there : IsShared mid (slice_set adders i (in_phase a y.phase)) = before.keeps adders i a shared at stands in
      let stands_there : StandsFor y (in_phase a y.phase) = record { named = stands.named ∙ sym name; makes = stands.makes ∙ sym works; phase = refl } in
      let end : IsShared last (slice_set (slice_set adders i (in_phase a y.phase)) i (in_phase a z.phase)) =
      after.keeps (slice_set adders i (in_phase a y.phase)) i (in_phase a y.phase) there (get_set adders i (in_phase a y.phase) a at) stands_there in
      subst (λ xs. IsShared last xs) (set_set adders i (in_phase a y.phase) (in_phase a z.phase)) end;
}

-- the count

-- no call led here that failed
abbrev IsCalm : Phase → Type 0
IsCalm (Ended Fault) = ⊥
IsCalm p = Unit {0}

calm_filling : (n all k : ℕ) → IsCalm (filling n all k)
calm_filling n all k = elim (nat_lt k all) as (λ b. IsCalm (if b then Filling n k else Settling n)) [ true ↦ tt | false ↦ tt ]

calm_tries : (n : ℕ) → IsCalm (if nat_lt (n + 1) 10000 then Making (n + 1) else Ended Crowded)
calm_tries n = elim (nat_lt (n + 1) 10000) as (λ b. IsCalm (if b then Making (n + 1) else Ended Crowded)) [ true ↦ tt | false ↦ tt ]

did_calm : (works : List Work) (name : Name) (p : Phase) (call : Call Work) → next_call tmp_name works name p ≡ Some call → IsCalm (next_phase 10000 (length works) p Did)
did_calm works name (Making n) call m = calm_filling n (length works) 0
did_calm works name (Filling n k) call m = calm_filling n (length works) (k + 1)
did_calm works name (Settling n) call m = tt
did_calm works name (Renaming n) call m = tt
did_calm works name Storing call m = tt
did_calm works name (Removing n) call m = tt
did_calm works name Leaving call m = tt
did_calm works name (Ended a) call m = absurd (cc m)
did_calm works name Stopped call m = absurd (cc m)

exists_calm : (works : List Work) (name : Name) (p : Phase) (call : Call Work) → next_call tmp_name works name p ≡ Some call → IsCalm (next_phase 10000 (length works) p Exists)
exists_calm works name (Making n) call m = calm_tries n
exists_calm works name (Filling n k) call m = tt
exists_calm works name (Settling n) call m = tt
exists_calm works name (Renaming n) call m = tt
exists_calm works name Storing call m = tt
exists_calm works name (Removing n) call m = tt
exists_calm works name Leaving call m = tt
exists_calm works name (Ended a) call m = absurd (cc m)
exists_calm works name Stopped call m = absurd (cc m)

fits_as : (step other : Step) (f g : ℕ) → step ≡ other → CountFits other f g → CountFits step f g
fits_as step other f g e h = subst (λ s. CountFits s f g) (sym e) h

fits_by : (p q : Phase) (step : Step) (f g : ℕ) → IsCalm q → Says p q step → g ≡ f → CountFits step f g
fits_by p (Making n) step f g calm says e = fits_as step More f g says e
fits_by p (Filling n k) step f g calm says e = fits_as step More f g says e
fits_by p (Settling n) step f g calm says e = fits_as step More f g says e
fits_by p (Renaming n) step f g calm says e = fits_as step More f g says e
fits_by p Storing step f g calm says e = fits_as step More f g says e
fits_by p (Removing n) step f g calm says e = fits_as step More f g says e
fits_by p Leaving step f g calm says e = fits_as step More f g says e
fits_by p (Ended Stored) step f g calm says e = fits_as step SaysStored f g says e
fits_by p (Ended Present) step f g calm says e = fits_as step SaysPresent f g says e
fits_by p (Ended Crowded) step f g calm says e = fits_as step (SaysCrowded 10000) f g says e
fits_by p (Ended Fault) step f g calm says e = absurd calm
fits_by p Stopped step f g calm says e = absurd says

fits_on : (works : List Work) (name : Name) (p : Phase) (reply : Reply) (call : Call Work) (step : Step) (f g : ℕ) → next_call tmp_name works name p ≡ Some call
    → SaysOn p reply (next_phase 10000 (length works) p reply) step → HasCause f g reply → CountFits step f g
fits_on works name p Did call step f g m says h = fits_by p (next_phase 10000 (length works) p Did) step f g (did_calm works name p call m) says (h.did refl)
fits_on works name p Exists call step f g m says h = fits_by p (next_phase 10000 (length works) p Exists) step f g (exists_calm works name p call m) says (h.exists refl)
fits_on works name p Failed call step f g m says h = fits_as step (SaysFault (named p)) f g says (h.failed refl)
fits_on works name p Memory call step f g m says h = fits_as step SaysMemory f g says (h.memory refl)

pub stays_same : (seen : Shelving) → Stays seen seen
stays_same seen = record { honest = λ h. h; sure = λ h. h; in_memory = λ h. h; root = refl; plan = refl }

stays_on : (first mid last : Shelving) → Stays first mid → Stays mid last → Stays first last
stays_on first mid last a b = record {
  honest = λ h. b.honest (a.honest h);
  sure = λ h. b.sure (a.sure h);
  in_memory = λ h. b.in_memory (a.in_memory h);
  root = b.root ∙ a.root;
  plan = b.plan ∙ a.plan;
}

later_on : (a b c : ℕ) → a ≤ b → b ≤ c → a ≤ c
later_on a b c p q = omega arith

pub not_later : (a : ℕ) → a ≤ a
not_later a = omega arith

-- what is kept of the shelf

-- by one step
pub step_keeps : (x y : Standing) (before after : Shelving) (step : Step) → is_some (made trees x.works (length x.works) trees.empty) ≡ true → IsStep x before step y after → KeepsShelf x before step y after
step_keeps x y before after step fit c = record {
  sound = step_sound x y before after step c;
  cause = fits_on x.works x.name x.phase c.reply c.call step before.faults after.faults c.next (subst (λ (z : Standing). SaysOn x.phase c.reply z.phase step) c.goes c.says) c.does.cause;
  later = c.does.cause.later;
  no_rise = λ s sure told own. (c.does.no_rise sure).no_rise s told (next_call_fits x.works x.name x.phase s.shelf c.call fit c.next own);
  stays = c.does.stays;
}

-- where nothing changed
pub none_keeps : (x : Standing) (seen : Shelving) (step : Step) → CountFits step seen.faults seen.faults → KeepsShelf x seen step x seen
none_keeps x seen step fits = record {
  sound = still_sound x seen;
  cause = fits;
  later = not_later seen.faults;
  no_rise = λ s sure told own. refl;
  stays = stays_same seen;
}

-- one after the other, where the entry is then as the session left it
pub keeps_on : (x y z : Standing) (first mid last : Shelving) (step : Step) → KeepsShelf x first More y mid → KeepsShelf y mid step z last → y.name ≡ x.name → y.works ≡ x.works
    → ((s : Told) → first.sure → first.told ≡ Some s → IsAsLeft x.works x.phase s.shelf → (t : Told) × (mid.told ≡ Some t) × IsAsLeft y.works y.phase t.shelf) → KeepsShelf x first step z last
keeps_on x y z first mid last step a b name works own = record {
  sound = sound_on x y z first mid last a.sound b.sound name works;
  cause = subst (λ f. CountFits step f last.faults) a.cause b.cause;
  later = later_on first.faults mid.faults last.faults a.later b.later;
  no_rise = λ s sure told is.
      let there = own s sure told is in
      b.no_rise there.0 (a.stays.sure sure) there.1 there.2 ∙ a.no_rise s sure told is;
  stays = stays_on first mid last a.stays b.stays;
}

-- a call that isn't made for want of memory is as one with the reply Memory
pub no_call : (seen : Shelving) (call : Call Work) → Does seen call Memory seen
no_call seen call = record {
  leads = λ s honest told. (s, told, record { answers = refl; calls = refl });
  cause = record { later = not_later seen.faults; failed = λ e. absurd (cc e); did = λ e. refl; exists = λ e. refl; memory = λ e. refl };
  planned = record { fails = λ s told planned. inr refl };
  no_rise = λ sure. record { no_rise = λ s told fits. refl };
  only = λ s held told e. absurd (cc e);
  unchanged = λ s t held told telling e. absurd (cc e);
  stays = stays_same seen;
}

pub waits : (x : Standing) (seen : Shelving) (call : Call Work) → next_call tmp_name x.works x.name x.phase ≡ Some call → IsStep x seen SaysMemory x seen
waits x seen call next = record { call = call; next = next; reply = Memory; does = no_call seen call; goes = refl; says = refl }
