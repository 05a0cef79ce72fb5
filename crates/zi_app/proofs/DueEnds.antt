-- What the work comes to is what is due.
use Rattle.std.proofs.Common.{◌≡◌, ℕ, ◌⊎◌, inl, inr, List, refl, sym, ap, subst, ◌∙◌}
use Rattle.zi_text.specs.Count.{Rose}
use Rattle.zi_outside.specs.Views.{Sinking}
use Rattle.zi_outside.specs.declared.var.Var.{Var}
use Rattle.zi_words.specs.declared.request.Request.{Request}
use Rattle.zi_words.specs.declared.request.Request.TheVariants as request
use Rattle.zi_words.specs.Words.{Right, AreRight}
use Rattle.zi_outcome.specs.declared.outcome.Outcome.{Outcome}
use Rattle.zi_outcome.specs.declared.outcome.Outcome.TheVariants.{Done, Usage, Spent, SinkFault, Memory}
use Rattle.zi_outcome.specs.Line.{Tells}
use Rattle.zi_world.specs.World.{World}
use Rattle.zi_world.specs.Meets.{world_of}
use Rattle.zi_world.specs.Surroundings.{Surroundings, meets_of, NothingDoneAround}
use Rattle.zi_choosing.specs.declared.shows.Shows.TheVariants as form
use Rattle.zi_choosing.specs.Wanted.{asked_in}
use Rattle.zi_choosing.specs.Select.{shown_by}
use Rattle.zi_app.specs.declared.help.TheConstants.{HELP, VERSION}
use Rattle.zi_app.specs.Answers.{Does, AreDone, AreWrong, Works}
use Rattle.zi_due.specs.Due.{Due, Comes, plainly, Ends}
use Rattle.zi_due.specs.Held.{Held, AreHeld, NoneFailed}
use Rattle.zi_due.specs.Demands.{Plainly, IsDueOf, IsDue, EndsAsDue}
use Rattle.zi_due.proofs.PlainLemmas.{memory_ends, plain_ends, printed_ends}
use Rattle.zi_due.proofs.FilesLemmas.{one_place}
use Rattle.zi_due.proofs.StoringEnds.{IsQuietWorld, list_ends, manifest_ends, verify_ends}
use Rattle.zi_due.proofs.KnowingEnds.{IsQuietAll}
use Rattle.zi_due.proofs.CrowdedLemmas.{taken_finds_none}
use Rattle.zi_due.proofs.AddingEnds.{add_command}
use Rattle.zi_due.proofs.PurgingEnds.{purge_command}
use Rattle.zi_due.proofs.CommandEnds.{DueLaws, select_command, refute_command, check_command}
use Rattle.zi_due.proofs.LaunchEnds.{launch_ends}
use Rattle.zi_due.proofs.ChosenEnds.{ended_due, download_command, run_command}

-- where no search is made
plainly_due : (Is : Outcome → Type 0) (due : Due) (outcome : Outcome) → ((o : Outcome) → Is o → Ends (plainly o) outcome) → Plainly Is due → Ends due outcome
plainly_due Is due outcome by (o, e, is) = subst (λ d. Ends d outcome) (sym e) (by o is)

module _ (laws : DueLaws) (vars : List Var) (before after : Surroundings) (held : Held) (are : AreHeld before held) (none : NoneFailed before after) where
  quiet : IsQuietWorld (world_of (meets_of before)) (world_of (meets_of after))
  quiet = record { stores = none.stores; out = none.out }

  quiet_all : IsQuietAll (world_of (meets_of before)) (world_of (meets_of after))
  quiet_all = record { world = quiet; feeds = none.feeds }

  does_due : (asked : Request) (outcome : Outcome) (due : Due) → Does asked vars before after outcome → IsDueOf asked vars held due → Ends due outcome
  does_due (request.Select ask proof) outcome due d h =
      select_command laws (asked_in vars ask) (world_of (meets_of before)) (world_of (meets_of after)) held outcome are.stores are.feeds quiet_all (shown_by proof) due h d.does.does
  does_due (request.Why ask) outcome due d h =
      select_command laws (asked_in vars ask) (world_of (meets_of before)) (world_of (meets_of after)) held outcome are.stores are.feeds quiet_all form.Reasons due h d.does.does
  does_due (request.Conflict ask) outcome due d h =
      select_command laws (asked_in vars ask) (world_of (meets_of before)) (world_of (meets_of after)) held outcome are.stores are.feeds quiet_all form.Conflict due h d.does.does
  does_due (request.Download ask) outcome due d h =
      download_command laws taken_finds_none (asked_in vars ask) (meets_of before) (meets_of after) held are.stores are.feeds are.web quiet_all none.web due outcome h d.does
  does_due (request.Run ask user) outcome due d h = run_command laws taken_finds_none (asked_in vars ask) vars user before after held are none due outcome d h
  does_due (request.Launch file user) outcome due d h =
      ended_due due outcome (launch_ends laws.launches.plan laws.launches.shims taken_finds_none laws.texts.sels file vars user before after held are none due.end h.1 outcome d)
  does_due (request.Check ask sels proof) outcome due d h =
      plainly_due _ due outcome
      (λ o is. check_command laws (asked_in vars ask) (world_of (meets_of before)) (world_of (meets_of after)) held outcome are.stores are.feeds quiet_all sels proof o is d.does.does) h
  does_due (request.Refute ask proof) outcome due d h =
      plainly_due _ due outcome
      (λ o is. refute_command laws (asked_in vars ask) (world_of (meets_of before)) (world_of (meets_of after)) held outcome are.stores are.feeds quiet_all proof o is d.does.does) h
  does_due (request.Manifest algorithm name) outcome due d h =
      plainly_due _ due outcome
      (λ o is. manifest_ends algorithm name (world_of (meets_of before)) (world_of (meets_of after)) held.stores are.stores quiet o outcome is d.does.does) h
  does_due (request.Verify name) outcome due d h =
      plainly_due _ due outcome (λ o is. verify_ends name (world_of (meets_of before)) (world_of (meets_of after)) held.stores are.stores quiet o outcome is d.does.does) h
  does_due (request.Add name files) outcome due d h =
      plainly_due _ due outcome
      (λ o is. add_command taken_finds_none name files (world_of (meets_of before)) (world_of (meets_of after)) held.feeds held.stores outcome o are.stores are.feeds quiet_all is d.does.does) h
  does_due (request.Purge files) outcome due d h =
      plainly_due _ due outcome
      (λ o is. purge_command laws.texts.sels files (world_of (meets_of before)) (world_of (meets_of after)) held.feeds held.stores outcome o are.stores are.feeds quiet_all is d.does.does) h
  does_due request.Names outcome due d h =
      subst (λ d. Ends d outcome) (sym h) (list_ends (world_of (meets_of before)) (world_of (meets_of after)) outcome quiet d.does.does)
  does_due request.Help outcome due d h =
      subst (λ d. Ends d outcome) (sym h) (printed_ends HELP.now Done Done before.out after.out outcome none.out refl d.does.does.out)
  does_due request.Version outcome due d h =
      subst (λ d. Ends d outcome) (sym h) (printed_ends VERSION.now Done Done before.out after.out outcome none.out refl d.does.does.out)
  does_due other outcome due d h = absurd h

  done_words : (words : List (List ℕ)) (outcome : Outcome) (due : Due) → AreDone words vars before after outcome → IsDue words vars held due → Ends due outcome
  done_words words outcome due done (inl (asked, right, h)) =
      does_due asked outcome due (subst (λ r. Does r vars before after outcome) (laws.texts.request words done.asked asked done.right right) done.does) h
  done_words words outcome due done (inr (wrong, h)) = absurd (wrong (done.asked, done.right))

  wrong_words : (words : List (List ℕ)) (outcome : Outcome) (due : Due) → AreWrong words before after outcome → IsDue words vars held due → Ends due outcome
  wrong_words words outcome due w (inl (asked, right, h)) = absurd (w.wrong (asked, right))
  wrong_words words outcome due w (inr (wrong, (index, stops, e))) =
      let same : index ≡ w.index = one_place AreRight words index w.index stops w.stops in
      plain_ends due outcome (e ∙ ap (λ i. plainly (Usage i)) same ∙ ap plainly (sym w.usage))

  works_due : (words : List (List ℕ)) (outcome : Outcome) (due : Due) → Works words vars before after outcome → IsDue words vars held due → Ends due outcome
  works_due words outcome due (inl done) h = done_words words outcome due done h
  works_due words outcome due (inr (inl wrong)) h = wrong_words words outcome due wrong h
  works_due words outcome due (inr (inr m)) h = subst (λ o. Ends due o) (sym m.0) (memory_ends due)

-- and so is what is told
told_due : (work outcome : Outcome) (old new : Sinking) (due : Due) → Tells work old new outcome → Ends due work → Ends due outcome
told_due work outcome old new due (inl t) h = subst (λ o. Ends due o) (sym t.1) h
told_due work outcome old new due (inr (inl t)) h = subst (λ o. Ends due o) (sym t.1) h
told_due work outcome old new due (inr (inr t)) h = subst (λ o. Ends due o) (sym t.1) (memory_ends due)

pub ends_as_due : DueLaws → (words : List (List ℕ)) (vars : List Var) (before after : Surroundings) (work outcome : Outcome) (old new : Sinking) → Works words vars before after work → Tells work old new outcome
    → EndsAsDue words vars before after outcome
ends_as_due laws words vars before after work outcome old new w t =
    λ held due are none h. told_due work outcome old new due t (works_due laws vars before after held are none words work due w h)
