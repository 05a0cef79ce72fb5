-- That it is done where nothing stands in the way follows from what is due.
use Rattle.std.proofs.Common.{◌≡◌, ℕ, ◌⊎◌, inl, inr, Bool, true, false, List, refl, sym, subst, Ok}
use Rattle.zi_outside.specs.declared.var.Var.{Var}
use Rattle.zi_universe.specs.declared.types.Interface.{Interface}
use Rattle.zi_choice.specs.Choice.{Choice}
use Rattle.zi_choice.specs.Valid.{IsValid, NoneIsValid}
use Rattle.zi_words.specs.declared.request.Request.{Request}
use Rattle.zi_words.specs.declared.request.Request.TheVariants as request
use Rattle.zi_words.specs.Words.{Right}
use Rattle.zi_outcome.specs.declared.outcome.Outcome.{Outcome}
use Rattle.zi_outcome.specs.declared.outcome.Outcome.TheVariants.{Done, NoSolution, Spent, Memory, Child}
use Rattle.zi_world.specs.Surroundings.{Surroundings}
use Rattle.zi_choosing.specs.declared.asked.Asked.{Asked}
use Rattle.zi_choosing.specs.declared.chosen.Chosen.{Chosen}
use Rattle.zi_choosing.specs.Wanted.{requirement_of, asked_in}
use Rattle.zi_choosing.specs.Loaded.{AreFew}
use Rattle.zi_due.specs.Due.{Due, End, Comes, Refutes, Starts, plainly, IsEnd, IsSpent, Ends}
use Rattle.zi_due.specs.Held.{Held, AreHeld, NoneFailed}
use Rattle.zi_due.specs.Knowing.{ComesTo}
use Rattle.zi_due.specs.Choosing.{EndsSelect}
use Rattle.zi_due.specs.Fetching.{EndsDocument, EndsProgram}
use Rattle.zi_due.specs.Chosen.{OfPicked, FindsThen, EndsChosen}
use Rattle.zi_due.specs.Demands.{IsDueOf, EndsAsDue}
use Rattle.zi_due.specs.Complete.{CanChoose, IsClear, HasChosen, HasRun, HasStarted, HasCounted, HasDone, IsDone, Completes}

-- what ended as Done was due
done_of : (outcome : Outcome) → Ends (plainly Done) outcome → HasDone outcome
done_of outcome (inl e) = subst HasDone (sym e) tt
done_of outcome (inr (inl e)) = subst HasDone (sym e) tt
done_of outcome (inr (inr s)) = absurd s

abbrev searched : Outcome → Due
searched outcome = record { searched = true; end = Comes outcome }

abbrev refuted : Due
refuted = record { searched = true; end = Refutes }

spent_chosen : (outcome : Outcome) → IsSpent true outcome → HasChosen outcome
spent_chosen (Spent p count) s = tt
spent_chosen other s = absurd s

spent_counted : (outcome : Outcome) → IsSpent true outcome → HasCounted outcome
spent_counted (Spent p count) s = tt
spent_counted other s = absurd s

refuted_chosen : (outcome : Outcome) → IsEnd Refutes outcome → HasChosen outcome
refuted_chosen (NoSolution p) e = tt
refuted_chosen other e = absurd e

counted_of : (outcome : Outcome) → Ends (searched Done) outcome → HasCounted outcome
counted_of outcome (inl e) = subst HasCounted (sym e) tt
counted_of outcome (inr (inl e)) = subst HasCounted (sym e) tt
counted_of outcome (inr (inr s)) = spent_counted outcome s

chosen_of : (outcome : Outcome) → Ends (searched Done) outcome → HasChosen outcome
chosen_of outcome (inl e) = subst HasChosen (sym e) tt
chosen_of outcome (inr (inl e)) = subst HasChosen (sym e) tt
chosen_of outcome (inr (inr s)) = spent_chosen outcome s

none_of : (outcome : Outcome) → Ends refuted outcome → HasChosen outcome
none_of outcome (inl e) = refuted_chosen outcome e
none_of outcome (inr (inl e)) = subst HasChosen (sym e) tt
none_of outcome (inr (inr s)) = spent_chosen outcome s

-- It is one of these outcomes or none of them.
abbrev Decided : Outcome → Type 0
Decided outcome = HasChosen outcome ⊎ (¬ HasChosen outcome)

decided : (outcome : Outcome) → Decided outcome
decided Done = inl tt
decided (NoSolution p) = inl tt
decided (Spent p count) = inl tt
decided Memory = inl tt
decided other = inr (λ h. h)

-- Whether a choice is valid or none is, it has been chosen: were it not so, no choice would be valid, and that would be due.
choosing : (asked : Asked) (held : Held) (outcome : Outcome) → ((due : Due) → EndsSelect asked held due → Ends due outcome) → CanChoose asked held → HasChosen outcome
choosing asked held outcome ends (u, comes, few) = by (decided outcome)
  where
    with_valid : (s : Choice) → IsValid u (requirement_of asked.ask) s → HasChosen outcome
    with_valid s v = chosen_of outcome (ends (searched Done) (Ok u, comes, inr (few, tt, (s, v, refl))))

    with_none : NoneIsValid u (requirement_of asked.ask) → HasChosen outcome
    with_none none = none_of outcome (ends refuted (Ok u, comes, inr (few, tt, none)))

    by : Decided outcome → HasChosen outcome
    by (inl h) = h
    by (inr n) = with_none (λ s v. n (with_valid s v))

-- The same where something is done with the best choice: if that comes to this end where some choice is valid, it has come to one of these outcomes.
module _ (asked : Asked) (held : Held) (outcome : Outcome) (Then : Chosen → End → Type 0) (Is : Outcome → Type 0) (decides : Is outcome ⊎ (¬ Is outcome))
    (ends : (due : Due) → EndsChosen asked held Then due → Ends due outcome) (refuses : Ends refuted outcome → Is outcome) where
  behind : (end : End) → ((u : List Interface) (s : Choice) → IsValid u (requirement_of asked.ask) s → FindsThen (requirement_of asked.ask) (OfPicked asked held Then) u end)
      → (Ends (record { searched = true; end = end }) outcome → Is outcome) → CanChoose asked held → Is outcome
  behind end finds some (u, comes, few) = by decides
    where
      with_valid : (s : Choice) → IsValid u (requirement_of asked.ask) s → Is outcome
      with_valid s v = some (ends (record { searched = true; end = end }) (Ok u, comes, inr (few, tt, finds u s v)))

      with_none : NoneIsValid u (requirement_of asked.ask) → Is outcome
      with_none none = refuses (ends refuted (Ok u, comes, inr (few, tt, none)))

      by : Is outcome ⊎ (¬ Is outcome) → Is outcome
      by (inl h) = h
      by (inr n) = with_none (λ s v. n (with_valid s v))

decided_run : (outcome : Outcome) → HasRun outcome ⊎ (¬ HasRun outcome)
decided_run (Child status) = inl tt
decided_run (NoSolution p) = inl tt
decided_run (Spent p count) = inl tt
decided_run Memory = inl tt
decided_run other = inr (λ h. h)

abbrev starting : Bool → Due
starting searched = record { searched = searched; end = Starts }

started : (outcome : Outcome) → IsEnd Starts outcome → HasStarted outcome
started (Child status) e = tt
started other e = absurd e

started_of : (outcome : Outcome) → Ends (starting false) outcome → HasStarted outcome
started_of outcome (inl e) = started outcome e
started_of outcome (inr (inl e)) = subst HasStarted (sym e) tt
started_of outcome (inr (inr s)) = absurd s

started_run : (outcome : Outcome) → HasStarted outcome → HasRun outcome
started_run (Child status) h = tt
started_run Memory h = tt
started_run other h = absurd h

spent_run : (outcome : Outcome) → IsSpent true outcome → HasRun outcome
spent_run (Spent p count) s = tt
spent_run other s = absurd s

refuted_run : (outcome : Outcome) → IsEnd Refutes outcome → HasRun outcome
refuted_run (NoSolution p) e = tt
refuted_run other e = absurd e

run_of : (outcome : Outcome) → Ends (starting true) outcome → HasRun outcome
run_of outcome (inl e) = started_run outcome (started outcome e)
run_of outcome (inr (inl e)) = subst HasRun (sym e) tt
run_of outcome (inr (inr s)) = spent_run outcome s

none_run : (outcome : Outcome) → Ends refuted outcome → HasRun outcome
none_run outcome (inl e) = refuted_run outcome e
none_run outcome (inr (inl e)) = subst HasRun (sym e) tt
none_run outcome (inr (inr s)) = spent_run outcome s

module _ (vars : List Var) (held : Held) (outcome : Outcome) where
  of_request : (asked : Request) → ((due : Due) → IsDueOf asked vars held due → Ends due outcome) → IsClear asked vars held → IsDone asked outcome
  of_request (request.Select ask proof) ends clear = choosing (asked_in vars ask) held outcome ends clear
  of_request (request.Why ask) ends clear = choosing (asked_in vars ask) held outcome ends clear
  of_request (request.Conflict ask) ends clear = choosing (asked_in vars ask) held outcome ends clear
  of_request (request.Download ask) ends (can, picks) =
      behind (asked_in vars ask) held outcome (EndsDocument held) HasChosen (decided outcome) ends (none_of outcome) (Comes Done) (λ u s v. ((s, v), picks)) (chosen_of outcome) can
  of_request (request.Run ask user) ends (can, picks) =
      behind (asked_in vars ask) held outcome (EndsProgram vars user held) HasRun (decided_run outcome) ends (none_run outcome) Starts (λ u s v. ((s, v), picks)) (run_of outcome) can
  of_request (request.Launch file user) ends clear = started_of outcome (ends (starting false) (refl, clear))
  of_request (request.Check ask sels proof) ends clear = done_of outcome (ends (plainly Done) (Done, refl, clear))
  of_request (request.Refute ask proof) ends clear = done_of outcome (ends (plainly Done) (Done, refl, clear))
  of_request (request.Manifest algorithm name) ends clear = done_of outcome (ends (plainly Done) (Done, refl, clear))
  of_request (request.Verify name) ends clear = done_of outcome (ends (plainly Done) (Done, refl, clear))
  of_request (request.Add name files) ends clear = done_of outcome (ends (plainly Done) (Done, refl, clear))
  of_request (request.Purge files) ends clear = done_of outcome (ends (plainly Done) (Done, refl, clear))
  of_request request.Names ends clear = done_of outcome (ends (plainly Done) refl)
  of_request request.Help ends clear = done_of outcome (ends (plainly Done) refl)
  of_request request.Version ends clear = done_of outcome (ends (plainly Done) refl)
  of_request other ends clear = absurd clear

pub completes : (words : List (List ℕ)) (vars : List Var) (before after : Surroundings) (outcome : Outcome) → EndsAsDue words vars before after outcome → Completes words vars before after outcome
completes words vars before after outcome ends =
    λ asked held right are none clear. of_request vars held outcome asked (λ due h. ends held due are none (inl (asked, right, h))) clear
