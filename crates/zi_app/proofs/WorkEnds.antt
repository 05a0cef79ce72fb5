-- What was written and whose calls failed, whatever the words.
use Rattle.std.proofs.Common.{◌≡◌, ℕ, inl, inr, List, [], sym, subst}
use Rattle.zi_outside.specs.Views.{Sinking}
use Rattle.zi_outside.specs.declared.var.Var.{Var}
use Rattle.zi_words.specs.declared.request.Request.{Request}
use Rattle.zi_words.specs.declared.request.Request.TheVariants as request
use Rattle.zi_outcome.specs.declared.outcome.Outcome.{Outcome}
use Rattle.zi_outcome.specs.declared.outcome.Outcome.TheVariants.{Usage, Memory}
use Rattle.zi_world.specs.World.{World, all_stores}
use Rattle.zi_world.specs.Meets.{Within, world_of}
use Rattle.zi_world.specs.Surroundings.{Surroundings, meets_of}
use Rattle.zi_choosing.specs.declared.shows.Shows.TheVariants as form
use Rattle.zi_choosing.specs.Table.{table_in}
use Rattle.zi_choosing.specs.Wanted.{asked_in}
use Rattle.zi_choosing.specs.Select.{shown_by}
use Rattle.zi_app.specs.Showing.{ShowsText, ShowsDemo}
use Rattle.zi_app.specs.Answers.{Apart, Does, Works}
use Rattle.zi_app.proofs.EndLemmas.{EndsIn, Ends, apart, calm_in, untouched_calm, nothing_ends, unwritten, prints}
use Rattle.zi_app.proofs.ChoosingEnds.{select_ends, refute_ends, check_ends, demo_ends}
use Rattle.zi_app.proofs.StoringEnds.{list_ends, manifest_ends, verify_ends, add_ends, purge_ends}
use Rattle.zi_app.proofs.FetchingEnds.{download_ends}
use Rattle.zi_app.proofs.LaunchingEnds.{run_ends, launch_ends}
use Rattle.zi_app.proofs.ScriptingEnds.{script_ends, script_file_ends}
use Rattle.zi_app.proofs.ShowingEnds.{show_ends}

shows_ends : (text : List ℕ) (o : Outcome) (before after : World) → ShowsText text before after o → EndsIn o before after
shows_ends text o before after s = calm_in o before after s.feeds (untouched_calm (all_stores before) (all_stores after) s.stores) (prints text before.out after.out o s.out)

shows_demo_ends : (n : ℕ) (o : Outcome) (before after : World) → ShowsDemo n before after o → EndsIn o before after
shows_demo_ends n o before after s = calm_in o before after s.feeds (untouched_calm (all_stores before) (all_stores after) s.stores) (demo_ends n before.out after.out o s.out)

-- of a command that meets neither web nor spawner
module _ (o : Outcome) (before after : Surroundings) where
  within : (P : World → World → Outcome → Type 0) → Apart P before after o → ((b a : World) → P b a o → EndsIn o b a) → Ends o before after
  within P d by = apart o before after (by (world_of (meets_of before)) (world_of (meets_of after)) d.does.does) d.does.web d.started

  does_end : (asked : Request) (vars : List Var) → Does asked vars before after o → Ends o before after
  does_end (request.Select ask proof) vars d = within _ d (select_ends (table_in vars) ask (shown_by proof) o)
  does_end (request.Why ask) vars d = within _ d (select_ends (table_in vars) ask form.Reasons o)
  does_end (request.Conflict ask) vars d = within _ d (select_ends (table_in vars) ask form.Conflict o)
  does_end (request.Download ask) vars d = download_ends (asked_in vars ask) o before after d.does d.started
  does_end (request.Run ask user) vars d = run_ends (asked_in vars ask) vars user o before after d
  does_end (request.Launch file user) vars d = launch_ends file vars user o before after d
  does_end (request.Check ask sels proof) vars d = within _ d (check_ends (table_in vars) ask sels proof o)
  does_end (request.Refute ask proof) vars d = within _ d (refute_ends (table_in vars) ask proof o)
  does_end (request.Manifest algorithm name) vars d = within _ d (manifest_ends algorithm name o)
  does_end (request.Add name files) vars d = within _ d (add_ends name files o)
  does_end (request.Purge files) vars d = within _ d (purge_ends files o)
  does_end (request.Verify name) vars d = within _ d (verify_ends name o)
  does_end request.Names vars d = within _ d (list_ends o)
  does_end (request.Script ask user) vars d = script_ends (asked_in vars ask) vars user o before after d
  does_end (request.ScriptLaunch file user) vars d = script_file_ends file vars user o before after d
  does_end (request.Show file) vars d = within _ d (show_ends file o)
  does_end (request.Demo n) vars d = within _ d (shows_demo_ends n o)
  does_end request.Help vars d = within _ d (shows_ends _ o)
  does_end request.Version vars d = within _ d (shows_ends _ o)

pub works_end : (words : List (List ℕ)) (vars : List Var) (before after : Surroundings) (o : Outcome) → Works words vars before after o → Ends o before after
works_end words vars before after o (inl done) = does_end o before after done.asked vars done.does
works_end words vars before after o (inr (inl wrong)) =
    let n = wrong.nothing in
    subst (λ x. Ends x before after) (sym wrong.usage) (nothing_ends (Usage wrong.index) before after (n.nothing.nothing.out, tt, tt, tt, tt) n)
works_end words vars before after o (inr (inr (is, n))) =
    subst (λ x. Ends x before after) (sym is) (nothing_ends Memory before after (unwritten Memory before.out after.out tt n.nothing.nothing.out, tt, tt, tt, tt) n)
