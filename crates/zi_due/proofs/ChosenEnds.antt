-- `download` and `run` end as is due.
use Rattle.std.proofs.Common.{◌≡◌, ℕ, ◌⊎◌, inl, inr, List, [], ◌∷◌, ◌++◌, map, Some, Result, Err, refl, sym, ap, subst, ◌∙◌}
use Rattle.std.proofs.lemmas.List.{append-nil}
use Rattle.zi_text.specs.Count.{Rose}
use Rattle.zi_digest.specs.Name.{spelling}
use Rattle.zi_outside.specs.Views.{Feeding, Sinking, holding}
use Rattle.zi_outside.specs.declared.var.Var.{Var}
use Rattle.zi_shelf.specs.Told.{Told}
use Rattle.zi_universe.specs.declared.types.Interface.{Interface}
use Rattle.zi_universe.specs.declared.types.Requirement.{Requirement}
use Rattle.zi_universe.specs.Naming.{joined}
use Rattle.zi_choice.specs.Choice.{Choice}
use Rattle.zi_choice.specs.Valid.{IsValid, NoneIsValid}
use Rattle.zi_proof.specs.declared.proof.Proof.{Proof}
use Rattle.zi_sels.specs.Written.{document}
use Rattle.zi_adding.specs.Trying.{Tried, CostsAll}
use Rattle.zi_adding.specs.Gains.{Uses}
use Rattle.zi_outcome.specs.declared.outcome.Outcome.{Outcome}
use Rattle.zi_outcome.specs.declared.outcome.Outcome.TheVariants.{Done, TooLarge, NoSolution, Spent, Memory}
use Rattle.zi_outcome.specs.Writing.{Prints}
use Rattle.zi_world.specs.Places.{AreTold}
use Rattle.zi_world.specs.World.{World, all_stores}
use Rattle.zi_world.specs.Meets.{Meets, world_of}
use Rattle.zi_world.specs.Surroundings.{Surroundings, meets_of}
use Rattle.zi_choosing.specs.declared.asked.Asked.{Asked}
use Rattle.zi_choosing.specs.declared.known.Known.{Known}
use Rattle.zi_choosing.specs.declared.chosen.Chosen.{Chosen}
use Rattle.zi_choosing.specs.Wanted.{requirement_of}
use Rattle.zi_choosing.specs.Loaded.{Lent, Over, AreFew, AreMany, sources}
use Rattle.zi_choosing.specs.Loaded as loaded
use Rattle.zi_choosing.specs.Finding.{FindsNot, FindsOver}
use Rattle.zi_build.specs.Clauses.{most_literals}
use Rattle.zi_fetching.specs.Known.{Names}
use Rattle.zi_fetching.specs.Fetching.{from_chosen, tried_names, names_in}
use Rattle.zi_fetching.specs.Download.{HasChosen, FetchesThen, DownloadsTo, Downloads}
use Rattle.zi_fetching.proofs.FetchLaws.{turn_done}
use Rattle.zi_launching.specs.Launching.{Task}
use Rattle.zi_launching.specs.Run.{StopsBefore, FetchesAndLaunches, RunsTo, RunsProgram}
use Rattle.zi_due.specs.Due.{Due, End, Comes, Refutes, Starts, plainly, IsEnd, Ends}
use Rattle.zi_due.specs.Held.{Held, AreHeld, NoneFailed}
use Rattle.zi_due.specs.Knowing.{LoadsTo}
use Rattle.zi_due.specs.Choosing.{SearchesFor, SearchesBy}
use Rattle.zi_due.specs.Turns.{Addition}
use Rattle.zi_due.specs.Launching.{EndsStart}
use Rattle.zi_due.specs.Fetching.{names_with, EndsFetched, EndsDocument, EndsProgram}
use Rattle.zi_due.specs.Chosen.{IsPicked, OfPicked, FindsThen, EndsChosen, EndsDownload, EndsRun}
use Rattle.zi_due.specs.Laws.{IsQuiet, TakenFindsNone}
use Rattle.zi_due.proofs.PlainLemmas.{memory_ends, plain_ends}
use Rattle.zi_due.proofs.NamesLemmas.{names_so}
use Rattle.zi_due.proofs.LoadingEnds.{LoadingLaws, loaded_so, loaded_ends, unloaded_ends}
use Rattle.zi_due.proofs.KnowingEnds.{IsQuietAll, has_so, has_holds, unknown, known_ends}
use Rattle.zi_due.proofs.ChoosingEnds.{never_both, spent_so}
use Rattle.zi_due.proofs.CommandEnds.{DueLaws}
use Rattle.zi_due.proofs.TurnLemmas.{adds_of}
use Rattle.zi_due.proofs.StartEnds.{HasEndedSo, comes_so, over_ends}
use Rattle.zi_due.proofs.FetchEnds.{fetched_so, unfetched_so}

pub ended_due : (due : Due) (outcome : Outcome) → HasEndedSo due.end outcome → Ends due outcome
ended_due due outcome (inl e) = inl e
ended_due due outcome (inr m) = inr (inl m)

-- Of a search, by whether some choice is valid.

none_so : (req : Requirement) (Then : End → Type 0) (universe : List Interface) (p : Proof) (end : End) → NoneIsValid universe req → FindsThen req Then universe end → IsEnd end (NoSolution p)
none_so req Then universe p Refutes none h = tt
none_so req Then universe p (Comes outcome) none h = absurd (none h.0.0 h.0.1)
none_so req Then universe p Starts none h = absurd (none h.0.0 h.0.1)

some_so : (req : Requirement) (Then : End → Type 0) (universe : List Interface) (s : Choice) (end : End) → IsValid universe req s → FindsThen req Then universe end → Then end
some_so req Then universe s Refutes valid h = absurd (h s valid)
some_so req Then universe s (Comes outcome) valid h = h.1
some_so req Then universe s Starts valid h = h.1

module _ (loadings : LoadingLaws) (laws : DueLaws) (asked : Asked) (before after : World) (held : Held) (due : Due) (outcome : Outcome) (Works : Chosen → End → Type 0) (told : AreTold (all_stores before) held.stores)
    (feeds : holding before.feeds ≡ Some held.feeds) (quiet : IsQuietAll before after) (h : EndsChosen asked held Works due) where
  abbrev req : Requirement
  req = requirement_of asked.ask

  abbrev Best : End → Type 0
  Best end = OfPicked asked held Works end

  abbrev By : Result (List Interface) Outcome → Due → Type 0
  By r d = SearchesBy (FindsThen req Best) req asked.ask.search r d

  abbrev budget : ℕ
  budget = asked.ask.search

  -- Nothing is chosen.
  module _ (known : Known) (old new : Feeding) (holds : holding old ≡ Some held.feeds) (still : ¬ Rose old.faults new.faults) (result : Result (List Interface) Outcome)
      (loads : LoadsTo asked.ask held.feeds known result) (by : By result due) where
    of_loaded : (universe : List Interface) → loaded.IsLoaded known asked.ask old new universe → SearchesFor (FindsThen req Best universe) universe req budget due
    of_loaded universe l = subst (λ r. By r due) (loaded_ends loadings asked.ask known held.feeds old holds new universe result l loads) by

    many : (universe : List Interface) (limit : ℕ) → AreMany universe req limit → SearchesFor (FindsThen req Best universe) universe req budget due → Ends due (TooLarge limit)
    many universe limit m (inl e) = plain_ends due (TooLarge limit) (e.1 ∙ ap (λ n. plainly (TooLarge n)) (sym m.0))
    many universe limit m (inr e) = absurd (never_both universe req budget limit m e.0)

    none : (universe : List Interface) (p : Proof) → AreFew universe req → NoneIsValid universe req → SearchesFor (FindsThen req Best universe) universe req budget due → Ends due (NoSolution p)
    none universe p few n (inl e) = absurd (never_both universe req budget most_literals e.0 few)
    none universe p few n (inr e) = inl (none_so req Best universe p due.end n e.2)

    finds_not : (o : Outcome) → FindsNot known asked.ask old new o → Ends due o
    finds_not (TooLarge limit) c = many c.0 limit c.2 (of_loaded c.0 c.1)
    finds_not (NoSolution p) c = none c.there.universe p c.there.few c.none (of_loaded c.there.universe c.there.loaded)
    finds_not (Spent p count) c = spent (of_loaded c.there.universe c.there.loaded)
      where
        spent : SearchesFor (FindsThen req Best c.there.universe) c.there.universe req budget due → Ends due (Spent p count)
        spent (inl e) = absurd (never_both c.there.universe req budget most_literals e.0 c.there.few)
        spent (inr e) = inr (inr (spent_so c.there.universe req budget p p count due.searched c.spent e.1))
    finds_not Memory c = memory_ends due
    finds_not other c =
        let e : result ≡ Err other = unloaded_ends loadings asked.ask known held.feeds old holds new (λ f. loaded.IsRefused known asked.ask old new f) (λ f r. r) still other result c loads in
        plain_ends due other (subst (λ r. By r due) e by)

  abbrev NotFound : Over
  NotFound known old new o = FindsNot known asked.ask old.feeds new.feeds o

  not_over : (known : Known) (old new : Lent) (result : Result (List Interface) Outcome) → IsQuiet held.feeds old new → NotFound known old new outcome → LoadsTo asked.ask held.feeds known result → By result due → Ends due outcome
  not_over known old new result q f loads by = finds_not known old.feeds new.feeds q.told q.feeds result loads by outcome f

  pub found_not : FindsOver asked (sources before) (sources after) (Err outcome) → Ends due outcome
  found_not (inl u) =
      unknown laws.texts asked NotFound By before after held due outcome not_over (record { plain = λ o e. e }) told feeds quiet h.0 h.1 h.2 u
  found_not (inr (start, f)) =
      known_ends laws.texts asked NotFound By before after held due outcome not_over (record { plain = λ o e. e }) told feeds quiet h.0 h.1 h.2 start.known start.feeds start.found.0.1 start.found.1 f

  -- The best choice was made.
  module _ (c : Chosen) (chosen : HasChosen asked (all_stores before) before.feeds c after.feeds) (rest : (end : End) → Works c end → HasEndedSo end outcome) where
    picked : IsPicked asked held c
    picked = record {
      req = chosen.chosen.req;
      known = record { names = names_so (all_stores before) held.stores c.known.each told chosen.names; packages = has_so held.feeds before.feeds chosen.feeds feeds asked.table c.known.packages chosen.table };
      loaded = loaded_so loadings asked.ask c.known held.feeds chosen.feeds (has_holds held.feeds before.feeds chosen.feeds feeds asked.table c.known.packages chosen.table) after.feeds c.universe chosen.chosen.loaded;
      best = chosen.chosen.best;
      selected = chosen.chosen.selected;
    }

    abbrev Picked : Over
    Picked known old new o = (known ≡ c.known) × loaded.IsLoaded c.known asked.ask old.feeds new.feeds c.universe

    of_best : SearchesFor (FindsThen req Best c.universe) c.universe req budget due → Ends due outcome
    of_best (inl e) = absurd (never_both c.universe req budget most_literals e.0 chosen.chosen.few)
    of_best (inr e) = ended_due due outcome (rest due.end (some_so req Best c.universe c.choice.picks due.end chosen.chosen.best.valid e.2 c picked))

    picked_over : (known : Known) (old new : Lent) (result : Result (List Interface) Outcome) → IsQuiet held.feeds old new → Picked known old new outcome → LoadsTo asked.ask held.feeds known result → By result due → Ends due outcome
    picked_over known old new result q (same, l) loads by =
        of_best
        (subst (λ r. By r due)
        (loaded_ends loadings asked.ask c.known held.feeds old.feeds q.told new.feeds c.universe result l (subst (λ k. LoadsTo asked.ask held.feeds k result) same loads)) by)

    pub chosen_ends : Ends due outcome
    chosen_ends =
        known_ends laws.texts asked Picked By before after held due outcome picked_over (record { plain = λ o e. e }) told feeds quiet h.0 h.1 h.2 c.known chosen.feeds chosen.names chosen.table
        (refl, chosen.chosen.loaded)

-- the names of what was fetched
named_adds : (xs : List Tried) → map (λ (a : Addition). spelling a.name) (adds_of xs) ≡ tried_names xs
named_adds [] = refl
named_adds (x ∷ xs) = ap (λ ns. spelling x.name ∷ ns) (named_adds xs)

abbrev loadings_of : DueLaws → LoadingLaws
loadings_of laws = record { one = laws.loadings.universe; excludes = laws.loadings.excludes; once = laws.loadings.refusal }

-- `download`

printed_so : (text : List ℕ) (end : End) (old new : Sinking) (outcome : Outcome) → ¬ Rose old.faults new.faults → end ≡ Comes Done → Prints text old new outcome → HasEndedSo end outcome
printed_so text end old new outcome still e (inl p) = comes_so end Done outcome e p.1
printed_so text end old new outcome still e (inr (inl p)) = absurd (still p.0.failed)
printed_so text end old new outcome still e (inr (inr p)) = inr p.1

module _ (laws : DueLaws) (law : TakenFindsNone) (asked : Asked) (before after : Meets) (held : Held) (told : AreTold (all_stores (world_of before)) held.stores) (feeds : holding before.feeds ≡ Some held.feeds)
    (webs : holding before.web ≡ Some held.web) (quiet : IsQuietAll (world_of before) (world_of after)) (calm : ¬ Rose before.web.faults after.web.faults) (due : Due) (outcome : Outcome) where
  module _ (c : Chosen) (tried : List Tried) (uses : Uses tried before.shelf after.shelf) (cost : CostsAll tried before.shelf after.shelf) (end : End) where
    abbrev Then : List Addition → End → Type 0
    Then fetched e = e ≡ Comes Done

    written : (s : Told) (ss : List Told) → before.shelf.honest → before.shelf.told ≡ Some s → EndsFetched c held.web (s ∷ ss) Then end → FetchesThen c tried before after outcome → HasEndedSo end outcome
    written s ss honest tells t (inl (not, out)) =
        unfetched_so law c held.web before.web after.web webs calm before.shelf after.shelf s ss honest tells quiet.world.stores.0 Then end t outcome tried uses cost not
    written s ss honest tells t (inr p) =
        printed_so (document c.sels) end before.out after.out outcome quiet.world.out
        (fetched_so law c held.web before.web after.web webs calm before.shelf after.shelf s ss honest tells quiet.world.stores.0 Then end t p.stored tried []
        (subst (λ ts. Uses ts before.shelf after.shelf) (sym (append-nil tried)) uses) p.fetched)
        p.printed

    document_so : FetchesThen c tried before after outcome → EndsDocument held c end → HasEndedSo end outcome
    document_so f t = by held.stores refl
      where
        by : (stores : List Told) → held.stores ≡ stores → HasEndedSo end outcome
        by [] e = absurd (subst (AreTold (all_stores (world_of before))) e told)
        by (s ∷ ss) e =
            let here = subst (AreTold (all_stores (world_of before))) e told in
            written s ss here.0 here.1 (subst (λ x. EndsFetched c held.web x Then end) e t) f

  pub download_command : EndsDownload asked held due → Downloads asked before after outcome → Ends due outcome
  download_command h d = by d.comes
    where
      by : DownloadsTo asked d.tried before after outcome → Ends due outcome
      by (inl (found, none, out)) = found_not (loadings_of laws) laws asked (world_of before) (world_of after) held due outcome (EndsDocument held) told feeds quiet h found
      by (inr (c, chosen, cost, still, f)) =
          chosen_ends (loadings_of laws) laws asked (world_of before) (world_of after) held due outcome (EndsDocument held) told feeds quiet h c chosen
          (λ end t. document_so c d.tried d.shelf cost end f t)

-- `run`

module _ (laws : DueLaws) (law : TakenFindsNone) (asked : Asked) (vars : List Var) (user : List (List ℕ)) (before after : Surroundings) (held : Held) (are : AreHeld before held) (none : NoneFailed before after) (due : Due)
    (outcome : Outcome) (r : RunsProgram asked vars user before after outcome) where
  quiet : IsQuietAll (world_of (meets_of before)) (world_of (meets_of after))
  quiet = record { world = record { stores = none.stores; out = none.out }; feeds = none.feeds }

  module _ (c : Chosen) (end : End) where
    abbrev task_with : Names → Task
    task_with stored = record { sels = c.sels; each = c.known.each; stored = stored; vars = vars; user = user }

    abbrev Start : List Told → List Addition → End → Type 0
    Start stores fetched e = EndsStart (task_with (names_with c fetched)) held.roots stores fetched e

    ran : (s : Told) (ss : List Told) → AreTold (before.shelf ∷ before.others) (s ∷ ss) → EndsFetched c held.web (s ∷ ss) (Start (s ∷ ss)) end
        → StopsBefore c r.tried before after outcome ⊎ FetchesAndLaunches c vars user r.tried before after outcome → HasEndedSo end outcome
    ran s ss told t (inl stops) =
        unfetched_so law c held.web before.web after.web are.web none.web before.shelf after.shelf s ss told.0 told.1 none.stores.0 (Start (s ∷ ss)) end t outcome r.tried r.shelf stops.cost stops.fetches
    ran s ss told t (inr l) =
        let uses : Uses (l.done ++ l.shims) before.shelf after.shelf = subst (λ ts. Uses ts before.shelf after.shelf) l.all r.shelf in
        let start = fetched_so law c held.web before.web after.web are.web none.web before.shelf after.shelf s ss told.0 told.1 none.stores.0 (Start (s ∷ ss)) end t l.stored l.done l.shims uses l.fetched in
        let same : names_with c (adds_of l.done) ≡ l.stored = ap (joined (names_in c)) (named_adds l.done) ∙ sym l.fetched.names in
        over_ends laws.launches.plan laws.launches.shims law (task_with l.stored) before.shelf after.shelf before.others after.others s ss told.0 told.1 told.2 held.roots are.roots l.done l.shims
        (turn_done (from_chosen c) c.sels.items (names_in c) before.web l.done after.web l.fetched.in_turn) uses r.others none.stores end
        (subst (λ n. EndsStart (task_with n) held.roots (s ∷ ss) (adds_of l.done) end) same start) before.spawner after.spawner outcome none.spawner l.launches

    program_so : StopsBefore c r.tried before after outcome ⊎ FetchesAndLaunches c vars user r.tried before after outcome → EndsProgram vars user held c end → HasEndedSo end outcome
    program_so f t = by held.stores refl
      where
        by : (stores : List Told) → held.stores ≡ stores → HasEndedSo end outcome
        by [] e = absurd (subst (AreTold (before.shelf ∷ before.others)) e are.stores)
        by (s ∷ ss) e = ran s ss (subst (AreTold (before.shelf ∷ before.others)) e are.stores) (subst (λ x. EndsFetched c held.web x (Start x) end) e t) f

  pub run_command : EndsRun asked vars user held due → Ends due outcome
  run_command h = by r.comes
    where
      by : RunsTo asked vars user r.tried before after outcome → Ends due outcome
      by (inl (found, fetched, started)) =
          found_not (loadings_of laws) laws asked (world_of (meets_of before)) (world_of (meets_of after)) held due outcome (EndsProgram vars user held) are.stores are.feeds quiet h found
      by (inr (c, chosen, f)) =
          chosen_ends (loadings_of laws) laws asked (world_of (meets_of before)) (world_of (meets_of after)) held due outcome (EndsProgram vars user held) are.stores are.feeds quiet h c chosen
          (λ end t. program_so c end f t)
