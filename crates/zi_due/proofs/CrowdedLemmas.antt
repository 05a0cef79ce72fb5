-- Where each temporary name is taken, a session finds no place for its tree.
use Rattle.std.proofs.Common.{◌≡◌, ◌≢◌, ℕ, zero, suc, ◌+◌, ◌<◌, nat_lt, Bool, true, false, length, refl, sym, ap, subst, ◌∙◌, arith, Option, Some, None, if◌then◌else◌}
use Rattle.std.specs.Prelude.{IsSome, ltb}
use Rattle.std.proofs.lemmas.Bool.{ltb-true}
use Rattle.zi_digest.specs.declared.DigestName.{DigestName}
use Rattle.zi_tree.specs.Dir.{Dir}
use Rattle.zi_shelf.specs.Shelved.{Shelved, Call, MakeTop, Reply, Did, Exists, Failed, Memory, Answers}
use Rattle.zi_shelf.specs.Filling.{Work, trees}
use Rattle.zi_shelf.specs.Told.{Told}
use Rattle.zi_session.specs.Machine.{Phase, Making, Ended, Fault, Crowded, next_call, next_phase}
use Rattle.zi_session.specs.Phases.{tmp_name}
use Rattle.zi_session.specs.Standing.{Standing}
use Rattle.zi_session.specs.Begun.{at_start}
use Rattle.zi_session.specs.Stepping.{named, SaysOn, Calls, Lead, CallsToEnd}
use Rattle.zi_session.specs.declared.step.Step.{Step}
use Rattle.zi_session.specs.declared.step.Step.TheVariants.{More, Stored, Present, Crowded as SaysCrowded, Fault as SaysFault, Memory as SaysMemory}
use Rattle.zi_due.specs.Adding.{AreTaken}
use Rattle.zi_due.specs.Laws.{TakenFindsNone}

pub none_some : {A : Type 0} (o : Option A) → o ≡ None → IsSome o → ⊥
none_some None e is = absurd (cc is)
none_some (Some x) e is = absurd (cc e)

-- one try: it stores nothing, and where it goes on it is at the next name, and nothing has changed
pub record Tries (n : ℕ) (old new : Shelved Dir) (q : Phase) (step : Step) : Type 0 where
  pub stored : step ≢ Stored
  pub present : step ≢ Present
  pub more : step ≡ More → (n + 1 < 10000) × (q ≡ Making (n + 1)) × (new ≡ old)

ends_with : (n : ℕ) (old new : Shelved Dir) (q : Phase) (step ended : Step) → step ≡ ended → ended ≢ Stored → ended ≢ Present → ended ≢ More → Tries n old new q step
ends_with n old new q step ended e s p m = record { stored = λ f. s (sym e ∙ f); present = λ f. p (sym e ∙ f); more = λ f. absurd (m (sym e ∙ f)) }

found_taken : (n : ℕ) (old new : Shelved Dir) (step : Step) (b : Bool) → nat_lt (n + 1) 10000 ≡ b → new ≡ old → SaysOn (Making n) Exists (if b then Making (n + 1) else Ended Crowded) step
    → Tries n old new (if b then Making (n + 1) else Ended Crowded) step
found_taken n old new step true e f s = record { stored = λ g. absurd (cc (s, g)); present = λ g. absurd (cc (s, g)); more = λ g. (ltb-true (n + 1) 10000 e, refl, f) }
found_taken n old new step false e f s = ends_with n old new (Ended Crowded) step (SaysCrowded 10000) s (λ g. absurd (cc g)) (λ g. absurd (cc g)) (λ g. absurd (cc g))

by_reply : (n all : ℕ) (r : Reply) (old new : Shelved Dir) (step : Step) → Answers trees old (MakeTop (tmp_name n)) r new → IsSome (old.tops (tmp_name n))
    → SaysOn (Making n) r (next_phase 10000 all (Making n) r) step → Tries n old new (next_phase 10000 all (Making n) r) step
by_reply n all Memory old new step a taken s = ends_with n old new (Making n) step SaysMemory s (λ g. absurd (cc g)) (λ g. absurd (cc g)) (λ g. absurd (cc g))
by_reply n all Failed old new step a taken s = ends_with n old new (Ended Fault) step (SaysFault (Some n)) s (λ g. absurd (cc g)) (λ g. absurd (cc g)) (λ g. absurd (cc g))
by_reply n all Did old new step a taken s = absurd (none_some (old.tops (tmp_name n)) a.0 taken)
by_reply n all Exists old new step a taken s = found_taken n old new step (nat_lt (n + 1) 10000) refl a.1 s

some_call : (n : ℕ) (call : Call Work) → Some (MakeTop (tmp_name n)) ≡ Some call → MakeTop (tmp_name n) ≡ call
some_call n call e = cc

-- a session looks for a free name, over what was there from the start
pub record Looks (s : Told) (x : Standing) (t : Told) : Type 0 where
  pub number : ℕ
  pub few : number < 10000
  pub phase : x.phase ≡ Making number
  pub same : t.shelf ≡ s.shelf

module _ (s : Told) (taken : AreTaken s) where
  tries : (x y : Standing) (t u : Told) (step : Step) (l : Looks s x t) → Calls x t step y u → Tries l.number t.shelf u.shelf y.phase step
  tries x y t u step l c =
      let is : MakeTop (tmp_name l.number) ≡ c.call = some_call l.number c.call (subst (λ p. next_call tmp_name x.works x.name p ≡ Some c.call) l.phase c.next) in
      let answers : Answers trees t.shelf (MakeTop (tmp_name l.number)) c.reply u.shelf = subst (λ call. Answers trees t.shelf call c.reply u.shelf) (sym is) c.does.answers in
      let there : IsSome (t.shelf.tops (tmp_name l.number)) = subst (λ (h : Shelved Dir). IsSome (h.tops (tmp_name l.number))) (sym l.same) (taken l.number l.few) in
      let to : y.phase ≡ next_phase 10000 (length x.works) (Making l.number) c.reply =
      ap (λ (z : Standing). z.phase) c.goes ∙ ap (λ p. next_phase 10000 (length x.works) p c.reply) l.phase in
      let says : SaysOn (Making l.number) c.reply (next_phase 10000 (length x.works) (Making l.number) c.reply) step =
      subst (λ q. SaysOn (Making l.number) c.reply q step) to (subst (λ p. SaysOn p c.reply y.phase step) l.phase c.says) in
      subst (λ q. Tries l.number t.shelf u.shelf q step) (sym to) (by_reply l.number (length x.works) c.reply t.shelf u.shelf step answers there says)

  looks_on : (x y : Standing) (t u : Told) → Looks s x t → Calls x t More y u → Looks s y u
  looks_on x y t u l c =
      let m = (tries x y t u More l c).more refl in
      record { number = l.number + 1; few = m.0; phase = m.1; same = m.2 ∙ l.same }

  lead_looks : (n : ℕ) (x y : Standing) (t : Told) → Looks s x s → Lead n x s y t → Looks s y t
  lead_looks zero x y t l (e, f) =
      subst (λ (z : Standing). Looks s z t) (sym e) (subst (λ (u : Told). Looks s x u) (sym f) l)
  lead_looks (suc n) x y t l (mid, between, first, last) = looks_on mid y between t (lead_looks n x mid between l first) last

  pub ends_taken : (name : DigestName) (tree : Dir) (step : Step) (y : Standing) (t : Told) → CallsToEnd (at_start name tree) s step y t → (step ≢ Stored) × (step ≢ Present)
  ends_taken name tree step y t c =
      let begins : Looks s (at_start name tree) s = record { number = 0; few = omega arith; phase = refl; same = refl } in
      let l : Looks s c.there c.told = lead_looks c.number (at_start name tree) c.there c.told begins c.first in
      let last = tries c.there y c.told t step l c.last in
      (last.stored, last.present)

pub taken_finds_none : TakenFindsNone
taken_finds_none name tree s step y t taken c = ends_taken s taken name tree step y t c
