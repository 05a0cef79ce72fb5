-- The choice, and what it means for the words that asked for it.
use Rattle.std.proofs.Common.{◌≡◌, ◌≢◌, ℕ, inl, inr, List, [], Option, Some, None, refl, sym, subst, ap, ◌∙◌}
use Rattle.std.proofs.lemmas.List.{append-nil}
use Rattle.zi_outside.specs.Views.{Sinking}
use Rattle.zi_words.specs.declared.request.Ask.{Ask}
use Rattle.zi_universe.specs.declared.types.Interface.{Interface}
use Rattle.zi_universe.specs.declared.types.Requirement.{Requirement}
use Rattle.zi_universe.specs.declared.fault.LoadFault.{LoadFault}
use Rattle.zi_universe.specs.declared.fault.LoadFault.TheVariants as load
use Rattle.zi_choice.specs.Choice.{Choice}
use Rattle.zi_build.specs.declared.building.BuildFault.{BuildFault}
use Rattle.zi_build.specs.declared.building.BuildFault.TheVariants as build
use Rattle.zi_build.specs.Answers.{FaultMeans}
use Rattle.zi_proof.specs.declared.proof.Proof.{Proof}
use Rattle.zi_proof.specs.declared.proof.Certificate.{Certificate}
use Rattle.zi_proof.specs.ProofText.{certificate_text}
use Rattle.zi_choice.specs.Valid.{NoneIsValid}
use Rattle.zi_certificate.specs.Certificates.{Excludes, Refutes}
use Rattle.zi_sels.specs.declared.types.Selections.{Selections}
use Rattle.zi_sels.specs.Chosen.{AreSelected}
use Rattle.zi_sels.specs.Written.{document}
use Rattle.zi_report.specs.Reported.{IsReported}
use Rattle.zi_conflict.specs.Conflict.{IsConflictText}
use Rattle.zi_outcome.specs.declared.outcome.Outcome.{Outcome}
use Rattle.zi_outcome.specs.declared.outcome.Outcome.TheVariants.{Done, TooLarge, NoSolution, Spent, SinkFault, Memory}
use Rattle.zi_outcome.specs.Refused.{outcome_of}
use Rattle.zi_outside.specs.Outside.{gained, Writes}
use Rattle.zi_outcome.specs.Writing.{Prints, PrintsThen}
use Rattle.zi_outcome.proofs.WritingLemmas.{nothing_put}
use Rattle.zi_choosing.specs.declared.known.Known.{Known}
use Rattle.zi_choosing.specs.Wanted.{requirement_of}
use Rattle.zi_choosing.specs.Loaded.{Lent, IsLoaded, IsRefused, AreFew, build_outcome}
use Rattle.zi_choosing.specs.declared.shows.Shows.{Shows}
use Rattle.zi_choosing.specs.declared.shows.Shows.TheVariants as form
use Rattle.zi_choosing.specs.Select.{refutation_text, IsNoneShown, ShowsNone, Chooses, HasNone, SelectsOver}
use Rattle.zi_choosing.specs.SelectParts.{PrintsChoice, PrintsRefutation, PrintsSome, PrintsNone, HasNoFormula, PutsNone, Search, ChoosesNothing, ChoosesBest, ChoosesNone, ChoosesFrom}

-- a certificate was printed, or there was no memory for it
pub text_printed : (wanted text : List ℕ) (old new : Sinking) (outcome : Outcome) → text ≡ wanted → Prints text old new outcome → Prints wanted old new outcome
text_printed wanted text old new outcome e w = subst (λ t. Prints t old new outcome) e w

pub text_unmade : (wanted : List ℕ) (out : Sinking) → Prints wanted out out Memory
text_unmade wanted out = inr (inr (nothing_put out wanted out refl, refl))

pub ruleset certifying = (text_printed, text_unmade)

-- what was selected was printed
pub selected_printed : (u : List Interface) (req : Requirement) (choice : Choice) (sels : Selections) (old new : Sinking) (outcome : Outcome) → AreSelected u req choice sels
    → Prints (document sels) old new outcome → PrintsChoice form.Document u req choice old new outcome
selected_printed u req choice sels old new outcome selected w = inl (document sels, (sels, selected, refl), w)

-- there was no memory for the selections
pub unselected : (u : List Interface) (req : Requirement) (choice : Choice) (out : Sinking) → PrintsChoice form.Document u req choice out out Memory
unselected u req choice out = inr (refl, refl)

pub ruleset selecting = (selected_printed, unselected)

-- a certificate was printed for the choice
pub certificate_shown : (u : List Interface) (req : Requirement) (choice : Choice) (c : Certificate) (old new : Sinking) (outcome : Outcome) → Excludes u req choice c → Prints (certificate_text c) old new outcome
    → PrintsChoice form.Certificate u req choice old new outcome
certificate_shown u req choice c old new outcome excludes w = inl (certificate_text c, (c, excludes, refl), w)

-- or a report for it
pub report_shown : (u : List Interface) (req : Requirement) (choice : Choice) (c : Certificate) (text : List ℕ) (old new : Sinking) (outcome : Outcome) → Excludes u req choice c → IsReported u req choice c text
    → Prints text old new outcome → PrintsChoice form.Reasons u req choice old new outcome
report_shown u req choice c text old new outcome excludes is w = inl (text, (c, excludes, is), w)

pub unreported : (u : List Interface) (req : Requirement) (choice : Choice) (out : Sinking) → PrintsChoice form.Reasons u req choice out out Memory
unreported u req choice out = inr (refl, refl)

-- nothing is written of a choice
gained_nothing : (told : Option (List ℕ)) → told ≡ gained told []
gained_nothing None = refl
gained_nothing (Some bytes) = ap Some (sym (append-nil bytes))

pub nothing_written : (s : Sinking) → Prints [] s s Done
nothing_written s = inl (record { written = gained_nothing s.written; faults = refl; plan = refl }, refl)

pub nothing_shown : (u : List Interface) (req : Requirement) (choice : Choice) (old new : Sinking) (outcome : Outcome) → Prints [] old new outcome → PrintsChoice form.Conflict u req choice old new outcome
nothing_shown u req choice old new outcome w = inl ([], refl, w)

-- a text was printed whole, and there is no solution
pub then_printed : (text : List ℕ) (p : Proof) (old new : Sinking) (outcome : Outcome) → outcome ≡ Done → Prints text old new outcome → PrintsThen text (NoSolution p) old new (NoSolution p)
then_printed text p old new outcome done (inl (w, e)) = inl (w, refl)
then_printed text p old new outcome done (inr (inl (w, e))) = let f : Done ≡ SinkFault = sym done ∙ e in absurd cc
then_printed text p old new outcome done (inr (inr (w, e))) = let f : Done ≡ Memory = sym done ∙ e in absurd cc

-- or it wasn't
pub then_stopped : (text : List ℕ) (p : Proof) (old new : Sinking) (outcome : Outcome) → outcome ≢ Done → Prints text old new outcome → PrintsThen text (NoSolution p) old new outcome
then_stopped text p old new outcome other (inl (w, e)) = absurd (other e)
then_stopped text p old new outcome other (inr h) = inr h

-- what is shown of there being no solution
pub refutation_put : (u : List Interface) (req : Requirement) (p : Proof) (old new : Sinking) (outcome : Outcome) → PrintsRefutation p old new outcome → PutsNone form.Document u req p old new outcome
refutation_put u req p old new outcome w = inl (Some (refutation_text p), refl, w)

pub proof_put : (u : List Interface) (req : Requirement) (p : Proof) (old new : Sinking) (outcome : Outcome) → PrintsRefutation p old new outcome → PutsNone form.Certificate u req p old new outcome
proof_put u req p old new outcome w = inl (Some (refutation_text p), refl, w)

pub no_reasons_put : (u : List Interface) (req : Requirement) (p : Proof) (out : Sinking) → PutsNone form.Reasons u req p out out (NoSolution p)
no_reasons_put u req p out = inl (None, refl, (refl, refl))

pub facts_put : (u : List Interface) (req : Requirement) (p : Proof) (text : List ℕ) (old new : Sinking) (outcome : Outcome) → IsConflictText u req p text → PrintsThen text (NoSolution p) old new outcome → PutsNone form.Conflict u req p old new outcome
facts_put u req p text old new outcome is w = inl (Some text, is, w)

pub no_facts_put : (shows : Shows) (u : List Interface) (req : Requirement) (p : Proof) (fault : BuildFault) (out : Sinking) (outcome : Outcome) → FaultMeans u req fault → outcome ≡ build_outcome fault → PutsNone shows u req p out out outcome
no_facts_put shows u req p (build.TooLarge limit) out outcome means e = subst (λ x. PutsNone shows u req p out out x) (sym e) (inr (means, refl))
no_facts_put shows u req p build.Memory out outcome means e = subst (λ x. PutsNone shows u req p out out x) (sym e) (inr (tt, refl))

no_formula_nothing : (s : Search) (u : List Interface) (outcome : Outcome) → HasNoFormula u s.req outcome → ChoosesNothing s u outcome
no_formula_nothing s u (TooLarge limit) h = h
no_formula_nothing s u Memory h = tt
no_formula_nothing s u other h = absurd h

pub none_chosen : (s : Search) (u : List Interface) (p : Proof) (old new : Sinking) (outcome : Outcome) → AreFew u s.req → Refutes u s.req p → NoneIsValid u s.req → PutsNone s.shows u s.req p old new outcome → ChoosesFrom s u old new outcome
none_chosen s u p old new outcome few refutes none (inl printed) = inr (inl (record { few = few; refutation = p; refutes = refutes; none = none; printed = printed }))
none_chosen s u p old new outcome few refutes none (inr (why, w)) = inr (inr (no_formula_nothing s u outcome why, w))

-- there was no formula
pub no_formula : (s : Search) (u : List Interface) (fault : BuildFault) (out : Sinking) (outcome : Outcome) → FaultMeans u s.req fault → outcome ≡ build_outcome fault
    → ChoosesFrom s u out out outcome
no_formula s u (build.TooLarge limit) out outcome means e = subst (λ x. ChoosesFrom s u out out x) (sym e) (inr (inr (means, refl)))
no_formula s u build.Memory out outcome means e = subst (λ x. ChoosesFrom s u out out x) (sym e) (inr (inr (tt, refl)))

pub ruleset choice_showing = (certificate_shown, report_shown, nothing_shown)

pub ruleset none_showing = (refutation_put, proof_put, no_reasons_put)

pub ruleset facts_printing = (then_printed, then_stopped)

pub ruleset facts_putting = (facts_put, no_facts_put)

-- Behind the loading.
abbrev search_of : Ask → Shows → Search
search_of ask shows = record { req = requirement_of ask; budget = ask.search; shows = shows }

module _ (ask : Ask) (shows : Shows) (known : Known) (before after : Lent) where
  chosen_as : (text : List ℕ) (outcome : Outcome) → Chooses known ask shows before.feeds after.feeds text → Prints text before.out after.out outcome
      → SelectsOver ask shows known before after outcome
  chosen_as text outcome chooses (inl (w, e)) = subst (λ x. SelectsOver ask shows known before after x) (sym e) (text, chooses, w)
  chosen_as text outcome chooses (inr (inl (w, e))) = subst (λ x. SelectsOver ask shows known before after x) (sym e) (inl (text, chooses, w))
  chosen_as text outcome chooses (inr (inr (w, e))) =
      subst (λ x. SelectsOver ask shows known before after x) (sym e) (inr (inr (inr (inl (text, chooses, w)))))

  best_as : (u : List Interface) (outcome : Outcome) → IsLoaded known ask before.feeds after.feeds u → ChoosesBest (search_of ask shows) u before.out after.out outcome
      → SelectsOver ask shows known before after outcome
  best_as u outcome loaded b = by b.printed
    where
      by : PrintsChoice shows u (requirement_of ask) b.choice before.out after.out outcome → SelectsOver ask shows known before after outcome
      by (inl (text, shown, w)) =
          chosen_as text outcome (record { there = record { universe = u; loaded = loaded; few = b.few }; choice = b.choice; best = b.best; shown = shown }) w
      by (inr (e, w)) = subst (λ x. SelectsOver ask shows known before after x) (sym e) (inr (inr (inl ((u, loaded, tt), w))))

  none_as : (u : List Interface) (outcome : Outcome) → IsLoaded known ask before.feeds after.feeds u → ChoosesNone (search_of ask shows) u before.out after.out outcome
      → SelectsOver ask shows known before after outcome
  none_as u outcome loaded n = by n.printed
    where
      has : HasNone known ask before.feeds after.feeds n.refutation
      has = record { there = record { universe = u; loaded = loaded; few = n.few }; refutes = n.refutes; none = n.none }

      of_text : (o : Option (List ℕ)) → ShowsNone known ask shows before.feeds after.feeds n.refutation o → PrintsSome o (NoSolution n.refutation) before.out after.out outcome → SelectsOver ask shows known before after outcome
      of_text None is (e, w) = subst (λ x. SelectsOver ask shows known before after x) (sym e) (None, is, w)
      of_text (Some text) is (inl (w, e)) = subst (λ x. SelectsOver ask shows known before after x) (sym e) (Some text, is, w)
      of_text (Some text) is (inr (inl (w, e))) = subst (λ x. SelectsOver ask shows known before after x) (sym e) (inr (n.refutation, text, is, w))
      of_text (Some text) is (inr (inr (w, e))) = subst (λ x. SelectsOver ask shows known before after x) (sym e) (inr (inr (inr (inr (n.refutation, text, is, w)))))

      by : PrintsNone shows u (requirement_of ask) n.refutation before.out after.out outcome → SelectsOver ask shows known before after outcome
      by (o, shown, w) = of_text o (record { has = has; shown = shown }) w

  nothing_as : (u : List Interface) (outcome : Outcome) → IsLoaded known ask before.feeds after.feeds u → ChoosesNothing (search_of ask shows) u outcome
      → after.out ≡ before.out → SelectsOver ask shows known before after outcome
  nothing_as u (TooLarge limit) loaded why w = ((u, loaded, why), w)
  nothing_as u (Spent p count) loaded why w = (record { there = record { universe = u; loaded = loaded; few = why.0 }; count_is = why.1; spent = why.2 }, w)
  nothing_as u Memory loaded why w = inr (inr (inl ((u, loaded, tt), w)))
  nothing_as u other loaded why w = absurd why

  pub chosen_over : (u : List Interface) (outcome : Outcome) → IsLoaded known ask before.feeds after.feeds u
      → ChoosesFrom (search_of ask shows) u before.out after.out outcome → SelectsOver ask shows known before after outcome
  chosen_over u outcome loaded (inl b) = best_as u outcome loaded b
  chosen_over u outcome loaded (inr (inl n)) = none_as u outcome loaded n
  chosen_over u outcome loaded (inr (inr (why, w))) = nothing_as u outcome loaded why w

  -- what a loading that was refused comes to
  pub refused_over : (e : LoadFault) (outcome : Outcome) → IsRefused known ask before.feeds after.feeds e → after.out ≡ before.out → outcome ≡ outcome_of e
      → SelectsOver ask shows known before after outcome
  refused_over e outcome r w is = subst (λ x. SelectsOver ask shows known before after x) (sym is) (by e r)
    where
      by : (e : LoadFault) → IsRefused known ask before.feeds after.feeds e → SelectsOver ask shows known before after (outcome_of e)
      by (load.FeedRead uri) r = (r, w)
      by load.NoRootFeed r = (r, w)
      by (load.BadFeed uri fault) r = (r, w)
      by (load.FeedTooLong uri limit) r = (r, w)
      by (load.TooManyFeeds limit) r = (r, w)
      by (load.TooManyInterfaces limit) r = (r, w)
      by (load.TooManyCandidates limit) r = (r, w)
      by load.Memory r = inr (inl (r, w))

-- there was no memory for the task
pub no_task : (ask : Ask) (shows : Shows) (known : Known) (lent : Lent) → SelectsOver ask shows known lent lent Memory
no_task ask shows known lent = inl refl

-- the choice from the universe that was loaded
pub selected : (ask : Ask) (shows : Shows) (known : Known) (req : Requirement) (budget : ℕ) (before after : Lent) (u : List Interface) (outcome : Outcome) → req ≡ requirement_of ask
    → budget ≡ ask.search → IsLoaded known ask before.feeds after.feeds u
    → ChoosesFrom (record { req = req; budget = budget; shows = shows }) u before.out after.out outcome → SelectsOver ask shows known before after outcome
selected ask shows known req budget before after u outcome at_req at_budget loaded chooses =
    let S : Requirement → ℕ → Search = λ r n. record { req = r; budget = n; shows = shows } in
    chosen_over ask shows known before after u outcome loaded
    (subst (λ n. ChoosesFrom (S (requirement_of ask) n) u before.out after.out outcome) at_budget
    (subst (λ r. ChoosesFrom (S r budget) u before.out after.out outcome) at_req chooses))
