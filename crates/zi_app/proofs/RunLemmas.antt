-- The work of the words, and its outcome.
use Rattle.std.proofs.Common.{◌≡◌, ◌≢◌, inl, inr, List, ℕ, [], ◌∷◌, length, refl, sym, ap, subst, Bool}
use Rattle.std.proofs.lemmas.List.{append-nil}
use Rattle.zi_text.specs.Front.{StopsAt, stops_at_end}
use Rattle.zi_words.specs.declared.loader.Loader.{Loader}
use Rattle.zi_words.specs.declared.loader.Loader.TheVariants as loader
use Rattle.zi_words.specs.declared.request.Ask.{Ask}
use Rattle.zi_outside.specs.Views.{Sinking}
use Rattle.zi_outside.specs.declared.var.Var.{Var}
use Rattle.zi_words.specs.declared.request.Request.{Request}
use Rattle.zi_words.specs.declared.request.Request.TheVariants as request
use Rattle.zi_words.specs.Words.{request_of, Loads, Right, AreRight, FaultMeans}
use Rattle.zi_words.specs.declared.request.WordsFault.{WordsFault}
use Rattle.zi_words.specs.declared.request.WordsFault.TheVariants as fault
use Rattle.zi_words.specs.Forms.{Word}
use Rattle.zi_words.specs.Options.{ask_of, gathered}
use Rattle.zi_words.specs.Store.{AsksStore}
use Rattle.zi_words.specs.Demo.{AsksDemo}
use Rattle.zi_words.proofs.SearchLaws.{IsWithin, is_within}
use Rattle.zi_outcome.specs.declared.outcome.Outcome.{Outcome}
use Rattle.zi_outcome.specs.declared.outcome.Outcome.TheVariants.{Usage, Memory, Child}
use Rattle.zi_world.specs.World.{World, all_stores}
use Rattle.zi_world.specs.Meets.{world_of}
use Rattle.zi_world.specs.Surroundings.{Surroundings, NothingDoneAround, meets_of}
use Rattle.zi_outcome.specs.Writing.{Prints}
use Rattle.zi_due.proofs.CommandEnds.{DueLaws}
use Rattle.zi_due.proofs.CompleteLemmas.{completes}
use Rattle.zi_app.proofs.DueEnds.{ends_as_due}
use Rattle.zi_app.specs.Showing.{ShowsText, ShowsDemo}
use Rattle.zi_choosing.specs.Demo.{Demos}
use Rattle.zi_choosing.specs.Table.{table_in}
use Rattle.zi_choosing.specs.Wanted.{asked_in}
use Rattle.zi_choosing.specs.Loaded.{sources}
use Rattle.zi_choosing.proofs.KnownLemmas.{unknown_right}
use Rattle.zi_app.specs.Answers.{Does, Answers, Works, StoredStays, Runs}
use Rattle.zi_app.specs.Words.{IsInForm, words_outcome}
use Rattle.zi_world.specs.Asking.{FeedsStay}
use Rattle.zi_world.proofs.AskingLemmas.{unasked_stay}
use Rattle.zi_world.specs.Shelves.{Untouched, Lasts}
use Rattle.zi_outcome.specs.Line.{Tells}
use Rattle.zi_shelf.specs.Shelving.{Shelving}
use Rattle.zi_store.specs.Keeping.{Keeps, is_names, is_reading}
use Rattle.zi_store.specs.Stores.{Each}
use Rattle.zi_store.proofs.StoresLemmas.{each_same}
use Rattle.zi_world.proofs.ShelvesLemmas.{untouched, nothing_done, untouched_lasts, keeps_lasts, untouched_keeps}
use Rattle.zi_world.proofs.PlacesLemmas.{each_by}
use Rattle.zi_adding.proofs.HistoryLaws.{uses_keep, reading_keeps, told_keeps, names_only_read}
use Rattle.zi_app.proofs.LaunchLemmas.{ran_in, run_right, launch_right, run_quiet, launch_quiet}
use Rattle.zi_storing.proofs.AddingLemmas.{adds_use}
use Rattle.zi_storing.proofs.PurgingLemmas.{purge_lasts, purge_spares}
use Rattle.zi_storing.proofs.RightLemmas.{prints_right, lists_right, manifest_right, verify_right, add_right, purge_right}
use Rattle.zi_app.proofs.KeptLemmas.{uses_last, download_right}
use Rattle.zi_app.proofs.ScriptingEnds.{run_of, launch_of, script_right, script_file_right}
use Rattle.zi_app.proofs.ShowingEnds.{show_right}
use Rattle.zi_app.proofs.WorkEnds.{works_end}

-- right words ask for files with names, for no more lemmas than there may be, and for a demonstration that there is
abbrev IsLoading : Request → Type 0
IsLoading (request.Select ask proof) = Unit {0}
IsLoading (request.Why ask) = Unit {0}
IsLoading (request.Conflict ask) = Unit {0}
IsLoading (request.Refute ask proof) = Unit {0}
IsLoading (request.Download ask) = Unit {0}
IsLoading (request.Run ask user) = Unit {0}
IsLoading (request.Script ask user) = Unit {0}
IsLoading (request.Check ask sels proof) = Unit {0}
IsLoading other = ⊥

store_form : (ws : List (List ℕ)) (r : Request) → AsksStore ws r → IsInForm r
store_form [] r s = absurd s
store_form (w ∷ ws) r (inl (e, (name, files, are, digest, right, asked))) = subst IsInForm (sym asked) right
store_form (w ∷ ws) r (inr (inl (e, (name, are, digest, asked)))) = subst IsInForm (sym asked) tt
store_form (w ∷ ws) r (inr (inr (inl (e, (file, files, are, asked))))) = subst IsInForm (sym asked) tt
store_form (w ∷ ws) r (inr (inr (inr (e, are, asked)))) = subst IsInForm (sym asked) tt

-- of a command that loads feeds
loads_form : (ws : List (List ℕ)) (r : Request) (w : List ℕ) → Loads w ws r → IsLoading r
loads_form ws r w (l, e, asks) = subst IsLoading (sym asks.asked) (of_loader l (ask_of asks.root (gathered asks.options)) (gathered asks.options).proof asks.named)
  where
    of_loader : (l : Loader) (ask : Ask) (proof : Bool) (named : List Word) → IsLoading (request_of l ask proof named)
    of_loader loader.Select ask proof named = tt
    of_loader loader.Why ask proof named = tt
    of_loader loader.Conflict ask proof named = tt
    of_loader loader.Refute ask proof named = tt
    of_loader loader.Download ask proof named = tt
    of_loader loader.Run ask proof named = tt
    of_loader loader.Script ask proof named = tt
    of_loader loader.Check ask proof named = tt

within_form : (r : Request) → IsWithin r → IsLoading r → IsInForm r
within_form (request.Select ask proof) h l = h
within_form (request.Why ask) h l = h
within_form (request.Conflict ask) h l = h
within_form (request.Refute ask proof) h l = tt
within_form (request.Download ask) h l = h
within_form (request.Run ask user) h l = h
within_form (request.Script ask user) h l = h
within_form (request.ScriptLaunch file user) h l = tt
within_form (request.Launch file user) h l = tt
within_form (request.Check ask sels proof) h l = tt
within_form (request.Manifest algorithm name) h l = tt
within_form (request.Add name files) h l = absurd l
within_form (request.Purge files) h l = tt
within_form (request.Verify name) h l = tt
within_form request.Names h l = tt
within_form (request.Show file) h l = tt
within_form (request.Demo n) h l = h
within_form request.Help h l = tt
within_form request.Version h l = tt

-- of a demonstration
demo_form : (ws : List (List ℕ)) (r : Request) → IsWithin r → AsksDemo ws r → IsInForm r
demo_form ws r h (word, n, are, number, asked) = subst IsInForm (sym asked) (subst IsWithin asked h)

pub in_form : (words : List (List ℕ)) (r : Request) → Right words r → IsInForm r
in_form [] r right = absurd right
in_form (w ∷ ws) r (inl loads) = within_form r (is_within (w ∷ ws) r (inl loads)) (loads_form ws r w loads)
in_form (w ∷ ws) r (inr (inl (inl (e, (a, name, are, right, asked))))) = subst IsInForm (sym asked) tt
in_form (w ∷ ws) r (inr (inl (inr (e, s)))) = store_form ws r s
in_form (w ∷ ws) r (inr (inr (inl demo))) = demo_form ws r (is_within (w ∷ ws) r (inr (inr (inl demo)))) demo.1
in_form (w ∷ ws) r (inr (inr (inr (inl (inl (e, (file, user, are, asked))))))) = subst IsInForm (sym asked) tt
in_form (w ∷ ws) r (inr (inr (inr (inl (inr (inl (e, (behind, f, (file, user, are, asked))))))))) = subst IsInForm (sym asked) tt
in_form (w ∷ ws) r (inr (inr (inr (inl (inr (inr (e, (file, are, asked)))))))) = subst IsInForm (sym asked) tt
in_form (w ∷ ws) r (inr (inr (inr (inr (are, inl (e, asked)))))) = subst IsInForm (sym asked) tt
in_form (w ∷ ws) r (inr (inr (inr (inr (are, inr (e, asked)))))) = subst IsInForm (sym asked) tt

-- Right words never come to Usage.
never_usage : (asked : Request) (vars : List Var) (before after : Surroundings) (index : ℕ) → Does asked vars before after (Usage index) → ⊥
never_usage (request.Select ask proof) vars before after index d = elim d.does.does.answer [ inl f ↦ unknown_right (table_in vars) (sources (world_of (meets_of before))) (sources (world_of (meets_of after))) index f.0 | inr s ↦ s.1 ]
never_usage (request.Why ask) vars before after index d = elim d.does.does.answer [ inl f ↦ unknown_right (table_in vars) (sources (world_of (meets_of before))) (sources (world_of (meets_of after))) index f.0 | inr s ↦ s.1 ]
never_usage (request.Conflict ask) vars before after index d = elim d.does.does.answer [ inl f ↦ unknown_right (table_in vars) (sources (world_of (meets_of before))) (sources (world_of (meets_of after))) index f.0 | inr s ↦ s.1 ]
never_usage (request.Run ask user) vars before after index d = run_right (asked_in vars ask) vars user before after index d
never_usage (request.Launch file user) vars before after index d = launch_right file vars user before after index d
never_usage (request.Check ask sels proof) vars before after index d = elim d.does.does.answer [ inl f ↦ unknown_right (table_in vars) (sources (world_of (meets_of before))) (sources (world_of (meets_of after))) index f.0 | inr s ↦ s.1 ]
never_usage (request.Refute ask proof) vars before after index d = elim d.does.does.answer [ inl f ↦ unknown_right (table_in vars) (sources (world_of (meets_of before))) (sources (world_of (meets_of after))) index f.0 | inr s ↦ s.1 ]
never_usage (request.Download ask) vars before after index d = download_right (asked_in vars ask) (meets_of before) (meets_of after) index d.does
never_usage (request.Manifest algorithm name) vars before after index d = manifest_right algorithm name (world_of (meets_of before)) (world_of (meets_of after)) index d.does.does
never_usage (request.Add name files) vars before after index d = add_right name files (world_of (meets_of before)) (world_of (meets_of after)) index d.does.does
never_usage (request.Purge files) vars before after index d = purge_right files (world_of (meets_of before)) (world_of (meets_of after)) index d.does.does
never_usage (request.Verify name) vars before after index d = verify_right name (world_of (meets_of before)) (world_of (meets_of after)) index d.does.does
never_usage request.Names vars before after index d = lists_right (world_of (meets_of before)) (world_of (meets_of after)) index d.does.does
never_usage (request.Script ask user) vars before after index d = script_right (asked_in vars ask) vars user before after index d
never_usage (request.ScriptLaunch file user) vars before after index d = script_file_right file vars user before after index d
never_usage (request.Show file) vars before after index d = show_right file (world_of (meets_of before)) (world_of (meets_of after)) index d.does.does
never_usage (request.Demo n) vars before after index d = elim d.does.does.out [ inl shown ↦ shown.counts | inr m ↦ (let e = m.0 in (cc e)) ]
never_usage request.Help vars before after index d = prints_right _ before.out after.out index d.does.does.out
never_usage request.Version vars before after index d = prints_right _ before.out after.out index d.does.does.out

asked_done : (words : List (List ℕ)) (asked : Request) (vars : List Var) (before after : Surroundings) (outcome : Outcome) → Right words asked → Does asked vars before after outcome → Works words vars before after outcome
asked_done words asked vars before after outcome right does =
    inl (record { asked = asked; right = right; does = does; not_usage = λ index e. never_usage asked vars before after index (subst (λ x. Does asked vars before after x) e does) })

nothing_met : (s : Surroundings) → NothingDoneAround s s
nothing_met s = record { nothing = record { nothing = nothing_done (world_of (meets_of s)); web = refl }; started = refl }

pub answered : (words : List (List ℕ)) (asked : Request) (vars : List Var) (before after : Surroundings) (outcome : Outcome) → Right words asked → Answers asked vars before after outcome → Works words vars before after outcome
answered words asked vars before after outcome right (inl does) = asked_done words asked vars before after outcome right does
answered words asked vars before after outcome right (inr none) = inr (inr none)

pub is_done : (asked : Request) (vars : List Var) (before after : Surroundings) (outcome : Outcome) → Does asked vars before after outcome → Answers asked vars before after outcome
is_done asked vars before after outcome does = inl does

pub lacks_memory : (asked : Request) (vars : List Var) (s : Surroundings) → Answers asked vars s s Memory
lacks_memory asked vars s = inr (refl, nothing_met s)

words_wrong : (words : List (List ℕ)) (vars : List Var) (f : WordsFault) (s : Surroundings) → FaultMeans words f → Works words vars s s (words_outcome f)
words_wrong words vars (fault.Usage index) s (wrong, stops) = inr (inl (record { wrong = wrong; index = index; stops = stops; usage = refl; nothing = nothing_met s }))
words_wrong words vars fault.Memory s means = inr (inr (refl, nothing_met s))

pub words_unread : (words : List (List ℕ)) (vars : List Var) (f : WordsFault) (s : Surroundings) (outcome : Outcome) → FaultMeans words f → outcome ≡ words_outcome f → Works words vars s s outcome
words_unread words vars f s outcome means e = subst (λ x. Works words vars s s x) (sym e) (words_wrong words vars f s means)

-- the lines of a demonstration are written
pub shows_demo : (n : ℕ) (world : World) (out : Sinking) (outcome : Outcome) → Demos n world.out out outcome
    → ShowsDemo n world (record { feeds = world.feeds; shelf = world.shelf; others = world.others; out = out }) outcome
shows_demo n world out outcome d = record { feeds = refl; stores = each_same Untouched untouched (all_stores world); out = d }

-- a text is printed
pub shows : (text shown : List ℕ) (world : World) (out : Sinking) (outcome : Outcome) → shown ≡ text → Prints shown world.out out outcome
    → ShowsText text world (record { feeds = world.feeds; shelf = world.shelf; others = world.others; out = out }) outcome
shows text shown world out outcome e p = record { feeds = refl; stores = each_same Untouched untouched (all_stores world); out = subst (λ t. Prints t world.out out outcome) e p }

pub ruleset answering = (nothing_done, is_done, lacks_memory)

-- The stores that are read besides are only read.
all_read : (before after : List Shelving) → Each (Keeps is_names) before after → Each (Keeps is_reading) before after
all_read before after k = each_by (Keeps is_names) (Keeps is_reading) (λ b a h. names_only_read b a h) before after k

none_touched : (before after : List Shelving) → Each Untouched before after → Each (Keeps is_reading) before after
none_touched before after u = each_by Untouched (Keeps is_reading) (λ b a h. untouched_keeps is_reading b a h) before after u

does_read : (asked : Request) (vars : List Var) (before after : Surroundings) (outcome : Outcome) → Does asked vars before after outcome → Each (Keeps is_reading) before.others after.others
does_read (request.Select ask proof) vars before after outcome d = all_read before.others after.others d.does.does.stores.1
does_read (request.Why ask) vars before after outcome d = all_read before.others after.others d.does.does.stores.1
does_read (request.Conflict ask) vars before after outcome d = all_read before.others after.others d.does.does.stores.1
does_read (request.Run ask user) vars before after outcome d = d.others
does_read (request.Launch file user) vars before after outcome d = d.others
does_read (request.Check ask sels proof) vars before after outcome d = all_read before.others after.others d.does.does.stores.1
does_read (request.Refute ask proof) vars before after outcome d = all_read before.others after.others d.does.does.stores.1
does_read (request.Download ask) vars before after outcome d = all_read before.others after.others d.does.others
does_read (request.Manifest algorithm name) vars before after outcome d = d.does.does.stores.1
does_read (request.Add name files) vars before after outcome d = none_touched before.others after.others d.does.does.others
does_read (request.Purge files) vars before after outcome d = none_touched before.others after.others d.does.does.others
does_read (request.Verify name) vars before after outcome d = d.does.does.stores.1
does_read request.Names vars before after outcome d = all_read before.others after.others d.does.does.stores.1
does_read (request.Script ask user) vars before after outcome d = (run_of _ vars user _ _ outcome d.does).2.others
does_read (request.ScriptLaunch file user) vars before after outcome d = (launch_of file vars user _ _ outcome d.does).2.others
does_read (request.Show file) vars before after outcome d = all_read before.others after.others d.does.does.stores.1
does_read (request.Demo n) vars before after outcome d = none_touched before.others after.others d.does.does.stores.1
does_read request.Help vars before after outcome d = none_touched before.others after.others d.does.does.stores.1
does_read request.Version vars before after outcome d = none_touched before.others after.others d.does.does.stores.1

-- Feeds, stores and web can be used on.
does_last : (asked : Request) (vars : List Var) (before after : Surroundings) (outcome : Outcome) → Does asked vars before after outcome → Lasts before.shelf after.shelf
does_last (request.Select ask proof) vars before after outcome d = keeps_lasts is_names before.shelf after.shelf d.does.does.stores.0
does_last (request.Why ask) vars before after outcome d = keeps_lasts is_names before.shelf after.shelf d.does.does.stores.0
does_last (request.Conflict ask) vars before after outcome d = keeps_lasts is_names before.shelf after.shelf d.does.does.stores.0
does_last (request.Run ask user) vars before after outcome d = uses_last d.tried before.shelf after.shelf d.shelf
does_last (request.Launch file user) vars before after outcome d = uses_last d.tried before.shelf after.shelf d.shelf
does_last (request.Check ask sels proof) vars before after outcome d = keeps_lasts is_names before.shelf after.shelf d.does.does.stores.0
does_last (request.Refute ask proof) vars before after outcome d = keeps_lasts is_names before.shelf after.shelf d.does.does.stores.0
does_last (request.Download ask) vars before after outcome d = uses_last d.does.tried before.shelf after.shelf d.does.shelf
does_last (request.Manifest algorithm name) vars before after outcome d = keeps_lasts is_reading before.shelf after.shelf d.does.does.stores.0
does_last (request.Add name files) vars before after outcome d = uses_last d.does.does.tried before.shelf after.shelf (adds_use d.does.does.tried before.shelf after.shelf d.does.does.shelf)
does_last (request.Purge files) vars before after outcome d = purge_lasts files (world_of (meets_of before)) (world_of (meets_of after)) outcome d.does.does
does_last (request.Verify name) vars before after outcome d = keeps_lasts is_reading before.shelf after.shelf d.does.does.stores.0
does_last request.Names vars before after outcome d = keeps_lasts is_names before.shelf after.shelf d.does.does.stores.0
does_last (request.Script ask user) vars before after outcome d = (let r = (run_of _ vars user _ _ outcome d.does).2 in uses_last r.tried before.shelf after.shelf r.shelf)
does_last (request.ScriptLaunch file user) vars before after outcome d = (let r = (launch_of file vars user _ _ outcome d.does).2 in uses_last r.tried before.shelf after.shelf r.shelf)
does_last (request.Show file) vars before after outcome d = keeps_lasts is_names before.shelf after.shelf d.does.does.stores.0
does_last (request.Demo n) vars before after outcome d = untouched_lasts before.shelf after.shelf d.does.does.stores.0
does_last request.Help vars before after outcome d = untouched_lasts before.shelf after.shelf d.does.does.stores.0
does_last request.Version vars before after outcome d = untouched_lasts before.shelf after.shelf d.does.does.stores.0

does_stay : (asked : Request) (vars : List Var) (before after : Surroundings) (outcome : Outcome) → Does asked vars before after outcome → FeedsStay before.feeds after.feeds
does_stay (request.Select ask proof) vars before after outcome d = d.does.does.feeds
does_stay (request.Why ask) vars before after outcome d = d.does.does.feeds
does_stay (request.Conflict ask) vars before after outcome d = d.does.does.feeds
does_stay (request.Run ask user) vars before after outcome d = d.feeds
does_stay (request.Launch file user) vars before after outcome d = d.feeds
does_stay (request.Check ask sels proof) vars before after outcome d = d.does.does.feeds
does_stay (request.Refute ask proof) vars before after outcome d = d.does.does.feeds
does_stay (request.Download ask) vars before after outcome d = d.does.feeds
does_stay (request.Manifest algorithm name) vars before after outcome d = unasked_stay before.feeds after.feeds d.does.does.feeds
does_stay (request.Add name files) vars before after outcome d = d.does.does.feeds
does_stay (request.Purge files) vars before after outcome d = d.does.does.feeds
does_stay (request.Verify name) vars before after outcome d = unasked_stay before.feeds after.feeds d.does.does.feeds
does_stay request.Names vars before after outcome d = unasked_stay before.feeds after.feeds d.does.does.feeds
does_stay (request.Script ask user) vars before after outcome d = (run_of _ vars user _ _ outcome d.does).2.feeds
does_stay (request.ScriptLaunch file user) vars before after outcome d = (launch_of file vars user _ _ outcome d.does).2.feeds
does_stay (request.Show file) vars before after outcome d = d.does.does.feeds
does_stay (request.Demo n) vars before after outcome d = unasked_stay before.feeds after.feeds d.does.does.feeds
does_stay request.Help vars before after outcome d = unasked_stay before.feeds after.feeds d.does.does.feeds
does_stay request.Version vars before after outcome d = unasked_stay before.feeds after.feeds d.does.does.feeds

web_stays : (asked : Request) (vars : List Var) (before after : Surroundings) (outcome : Outcome) → Does asked vars before after outcome → FeedsStay before.web after.web
web_stays (request.Select ask proof) vars before after outcome d = unasked_stay before.web after.web d.does.web
web_stays (request.Why ask) vars before after outcome d = unasked_stay before.web after.web d.does.web
web_stays (request.Conflict ask) vars before after outcome d = unasked_stay before.web after.web d.does.web
web_stays (request.Run ask user) vars before after outcome d = d.web
web_stays (request.Launch file user) vars before after outcome d = unasked_stay before.web after.web d.web
web_stays (request.Check ask sels proof) vars before after outcome d = unasked_stay before.web after.web d.does.web
web_stays (request.Refute ask proof) vars before after outcome d = unasked_stay before.web after.web d.does.web
web_stays (request.Download ask) vars before after outcome d = d.does.web
web_stays (request.Manifest algorithm name) vars before after outcome d = unasked_stay before.web after.web d.does.web
web_stays (request.Add name files) vars before after outcome d = unasked_stay before.web after.web d.does.web
web_stays (request.Purge files) vars before after outcome d = unasked_stay before.web after.web d.does.web
web_stays (request.Verify name) vars before after outcome d = unasked_stay before.web after.web d.does.web
web_stays request.Names vars before after outcome d = unasked_stay before.web after.web d.does.web
web_stays (request.Script ask user) vars before after outcome d = (run_of _ vars user _ _ outcome d.does).2.web
web_stays (request.ScriptLaunch file user) vars before after outcome d = unasked_stay before.web after.web (launch_of file vars user _ _ outcome d.does).2.web
web_stays (request.Show file) vars before after outcome d = unasked_stay before.web after.web d.does.web
web_stays (request.Demo n) vars before after outcome d = unasked_stay before.web after.web d.does.web
web_stays request.Help vars before after outcome d = unasked_stay before.web after.web d.does.web
web_stays request.Version vars before after outcome d = unasked_stay before.web after.web d.does.web

-- The stored trees are as before, but for those that have come, or that a purge took away.
does_keep : (words : List (List ℕ)) (asked : Request) (vars : List Var) (before after : Surroundings) (outcome : Outcome) → Right words asked → Does asked vars before after outcome → StoredStays words before after
does_keep words (request.Select ask proof) vars before after outcome right d = inl (reading_keeps is_names before.shelf after.shelf d.does.does.stores.0)
does_keep words (request.Why ask) vars before after outcome right d = inl (reading_keeps is_names before.shelf after.shelf d.does.does.stores.0)
does_keep words (request.Conflict ask) vars before after outcome right d = inl (reading_keeps is_names before.shelf after.shelf d.does.does.stores.0)
does_keep words (request.Run ask user) vars before after outcome right d = inl (uses_keep d.tried before.shelf after.shelf d.shelf)
does_keep words (request.Launch file user) vars before after outcome right d = inl (uses_keep d.tried before.shelf after.shelf d.shelf)
does_keep words (request.Check ask sels proof) vars before after outcome right d = inl (reading_keeps is_names before.shelf after.shelf d.does.does.stores.0)
does_keep words (request.Refute ask proof) vars before after outcome right d = inl (reading_keeps is_names before.shelf after.shelf d.does.does.stores.0)
does_keep words (request.Download ask) vars before after outcome right d = inl (uses_keep d.does.tried before.shelf after.shelf d.does.shelf)
does_keep words (request.Manifest algorithm name) vars before after outcome right d = inl (reading_keeps is_reading before.shelf after.shelf d.does.does.stores.0)
does_keep words (request.Add name files) vars before after outcome right d = inl (uses_keep d.does.does.tried before.shelf after.shelf (adds_use d.does.does.tried before.shelf after.shelf d.does.does.shelf))
does_keep words (request.Purge files) vars before after outcome right d = elim (purge_spares files (world_of (meets_of before)) (world_of (meets_of after)) outcome d.does.does) [
  | inl u ↦ inl (told_keeps before.shelf after.shelf u.told)
  | inr s ↦ inr (files, right, s)
]
does_keep words (request.Verify name) vars before after outcome right d = inl (reading_keeps is_reading before.shelf after.shelf d.does.does.stores.0)
does_keep words request.Names vars before after outcome right d = inl (reading_keeps is_names before.shelf after.shelf d.does.does.stores.0)
does_keep words (request.Script ask user) vars before after outcome right d = (let r = (run_of _ vars user _ _ outcome d.does).2 in inl (uses_keep r.tried before.shelf after.shelf r.shelf))
does_keep words (request.ScriptLaunch file user) vars before after outcome right d = (let r = (launch_of file vars user _ _ outcome d.does).2 in inl (uses_keep r.tried before.shelf after.shelf r.shelf))
does_keep words (request.Show file) vars before after outcome right d = inl (reading_keeps is_names before.shelf after.shelf d.does.does.stores.0)
does_keep words (request.Demo n) vars before after outcome right d = inl (told_keeps before.shelf after.shelf d.does.does.stores.0.told)
does_keep words request.Help vars before after outcome right d = inl (told_keeps before.shelf after.shelf d.does.does.stores.0.told)
does_keep words request.Version vars before after outcome right d = inl (told_keeps before.shelf after.shelf d.does.does.stores.0.told)

-- After every outcome but a program's status nothing was launched.
does_quiet : (asked : Request) (vars : List Var) (before after : Surroundings) (outcome : Outcome) → Does asked vars before after outcome → ((n : ℕ) → outcome ≢ Child n) → after.spawner.ran ≡ before.spawner.ran
does_quiet (request.Select ask proof) vars before after outcome d ne = ap ran_in d.started
does_quiet (request.Why ask) vars before after outcome d ne = ap ran_in d.started
does_quiet (request.Conflict ask) vars before after outcome d ne = ap ran_in d.started
does_quiet (request.Download ask) vars before after outcome d ne = ap ran_in d.started
does_quiet (request.Run ask user) vars before after outcome d ne = run_quiet (asked_in vars ask) vars user before after outcome d ne
does_quiet (request.Launch file user) vars before after outcome d ne = launch_quiet file vars user before after outcome d ne
does_quiet (request.Check ask sels proof) vars before after outcome d ne = ap ran_in d.started
does_quiet (request.Refute ask proof) vars before after outcome d ne = ap ran_in d.started
does_quiet (request.Manifest algorithm name) vars before after outcome d ne = ap ran_in d.started
does_quiet (request.Add name files) vars before after outcome d ne = ap ran_in d.started
does_quiet (request.Purge files) vars before after outcome d ne = ap ran_in d.started
does_quiet (request.Verify name) vars before after outcome d ne = ap ran_in d.started
does_quiet request.Names vars before after outcome d ne = ap ran_in d.started
does_quiet (request.Script ask user) vars before after outcome d ne = ap ran_in d.started
does_quiet (request.ScriptLaunch file user) vars before after outcome d ne = ap ran_in d.started
does_quiet (request.Show file) vars before after outcome d ne = ap ran_in d.started
does_quiet (request.Demo n) vars before after outcome d ne = ap ran_in d.started
does_quiet request.Help vars before after outcome d ne = ap ran_in d.started
does_quiet request.Version vars before after outcome d ne = ap ran_in d.started

-- of all words
module _ (words : List (List ℕ)) (vars : List Var) (before after : Surroundings) (outcome : Outcome) where
  works_stay : Works words vars before after outcome → FeedsStay before.feeds after.feeds
  works_stay (inl done) = does_stay done.asked vars before after outcome done.does
  works_stay (inr (inl wrong)) = unasked_stay before.feeds after.feeds wrong.nothing.nothing.nothing.feeds
  works_stay (inr (inr (e, n))) = unasked_stay before.feeds after.feeds n.nothing.nothing.feeds

  works_last : Works words vars before after outcome → Lasts before.shelf after.shelf
  works_last (inl done) = does_last done.asked vars before after outcome done.does
  works_last (inr (inl wrong)) = untouched_lasts before.shelf after.shelf wrong.nothing.nothing.nothing.stores.0
  works_last (inr (inr (e, n))) = untouched_lasts before.shelf after.shelf n.nothing.nothing.stores.0

  works_read : Works words vars before after outcome → Each (Keeps is_reading) before.others after.others
  works_read (inl done) = does_read done.asked vars before after outcome done.does
  works_read (inr (inl wrong)) = none_touched before.others after.others wrong.nothing.nothing.nothing.stores.1
  works_read (inr (inr (e, n))) = none_touched before.others after.others n.nothing.nothing.stores.1

  works_web : Works words vars before after outcome → FeedsStay before.web after.web
  works_web (inl done) = web_stays done.asked vars before after outcome done.does
  works_web (inr (inl wrong)) = unasked_stay before.web after.web wrong.nothing.nothing.web
  works_web (inr (inr (e, n))) = unasked_stay before.web after.web n.nothing.web

  works_keep : Works words vars before after outcome → StoredStays words before after
  works_keep (inl done) = does_keep words done.asked vars before after outcome done.right done.does
  works_keep (inr (inl wrong)) = inl (told_keeps before.shelf after.shelf wrong.nothing.nothing.nothing.stores.0.told)
  works_keep (inr (inr (e, n))) = inl (told_keeps before.shelf after.shelf n.nothing.nothing.stores.0.told)

  works_quiet : Works words vars before after outcome → ((n : ℕ) → outcome ≢ Child n) → after.spawner.ran ≡ before.spawner.ran
  works_quiet (inl done) ne = does_quiet done.asked vars before after outcome done.does ne
  works_quiet (inr (inl wrong)) ne = ap ran_in wrong.nothing.started
  works_quiet (inr (inr (e, n))) ne = ap ran_in n.started

pub works_told : DueLaws → (words : List (List ℕ)) (vars : List Var) (before after : Surroundings) (err_before err_after : Sinking) (work outcome : Outcome) → Works words vars before after work → Tells work err_before err_after outcome
    → ((n : ℕ) → work ≡ Child n → outcome ≡ Child n) → Runs words vars before after err_before err_after outcome
works_told laws words vars before after err_before err_after work outcome done told status = record {
  work = work;
  done = done;
  told = told;
  out = (works_end words vars before after work done).out;
  blamed = (works_end words vars before after work done).blamed;
  feeds = works_stay words vars before after work done;
  stores = (works_last words vars before after work done, each_by (Keeps is_reading) Lasts (λ b a k. keeps_lasts is_reading b a k) before.others after.others (works_read words vars before after work done));
  others = works_read words vars before after work done;
  web = works_web words vars before after work done;
  stored = works_keep words vars before after work done;
  quiet = λ ne. works_quiet words vars before after work done (λ n e. ne n (status n e));
  due = ends_as_due laws words vars before after work outcome err_before err_after done told;
  complete = completes words vars before after outcome (ends_as_due laws words vars before after work outcome err_before err_after done told);
}

-- right words stop at their end
pub right_stops : (words : List (List ℕ)) (r : Request) → Right words r → StopsAt AreRight words (length words)
right_stops words r right = stops_at_end AreRight words ([], (r, subst (λ ws. Right ws r) (sym (append-nil words)) right))

pub ruleset stopping = (right_stops)
