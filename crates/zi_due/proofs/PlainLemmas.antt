-- Ends that follow at once: no call failed, and a text was printed or memory was refused.
use Rattle.std.proofs.Common.{◌≡◌, ◌≢◌, ℕ, ◌<◌, ◌≤◌, ◌⊎◌, inl, inr, false, List, [], ◌∷◌, refl, sym, ap, subst, ◌∙◌, arith}
use Rattle.zi_text.specs.Count.{Rose}
use Rattle.zi_outside.specs.Views.{Sinking}
use Rattle.zi_shelf.specs.Names.{Name}
use Rattle.zi_shelf.specs.Shelving.{Shelving}
use Rattle.zi_store.specs.Stores.{Each, SomeFails}
use Rattle.zi_outcome.specs.declared.outcome.Outcome.{Outcome}
use Rattle.zi_outcome.specs.declared.outcome.Outcome.TheVariants.{StoreFault, SinkFault, Memory}
use Rattle.zi_outcome.specs.Writing.{PrintsThen}
use Rattle.zi_world.specs.StoreRead.{StopsAt}
use Rattle.zi_due.specs.Due.{Due, plainly, Ends}
use Rattle.zi_due.specs.Held.{StandsStill}

-- no store failed, so none of them did
pub never_fails : (before after : List Shelving) → Each StandsStill before after → SomeFails before after → ⊥
never_fails [] [] still f = f
never_fails [] (a ∷ as_) still f = f
never_fails (b ∷ bs) [] still f = f
never_fails (b ∷ bs) (a ∷ as_) still (inl f) = still.0 f.0
never_fails (b ∷ bs) (a ∷ as_) still (inr f) = never_fails bs as_ still.1 f

pub memory_ends : (due : Due) → Ends due Memory
memory_ends due = inr (inl refl)

-- the stores weren't to be read, which is for want of memory
pub stopped_ends : (top : Name) (before after : List Shelving) (outcome : Outcome) (due : Due) → Each StandsStill before after → StopsAt top before after outcome → Ends due outcome
stopped_ends top before after (StoreFault name) due still s = absurd (never_fails before after still s.1)
stopped_ends top before after Memory due still s = memory_ends due
stopped_ends top before after other due still s = absurd s

-- what comes is what is due
pub plain_ends : (due : Due) (outcome : Outcome) → due ≡ plainly outcome → Ends due outcome
plain_ends due outcome e = subst (λ (d : Due). Ends d outcome) (sym e) (inl refl)

pub same_ends : (outcome due : Outcome) → outcome ≡ due → Ends (plainly due) outcome
same_ends outcome due e = inl e

-- a text is printed, and what is due then
pub printed_ends : (text : List ℕ) (ending due : Outcome) (old new : Sinking) (outcome : Outcome) → ¬ Rose old.faults new.faults → due ≡ ending → PrintsThen text ending old new outcome
    → Ends (plainly due) outcome
printed_ends text ending due old new outcome still e (inl p) = inl (p.1 ∙ sym e)
printed_ends text ending due old new outcome still e (inr (inl p)) = absurd (still p.0.failed)
printed_ends text ending due old new outcome still e (inr (inr p)) = inr (inl p.1)

-- a number isn't less than another that is at most it
pub clash : (a b : ℕ) → a < b → b ≤ a → ⊥
clash a b lt le = omega (arith, lt, le)
