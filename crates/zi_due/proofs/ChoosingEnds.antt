-- `select`, `why` and `conflict` end as is due, over what is known.
use Rattle.std.proofs.Common.{◌≡◌, ℕ, ◌^◌, ◌<◌, ◌≤◌, ◌⊎◌, inl, inr, Bool, true, false, List, refl, sym, ap, subst, ◌∙◌, Some, Result, Ok, Err}
use Rattle.zi_words.specs.declared.request.Ask.{Ask}
use Rattle.zi_outside.specs.Views.{Holding, Feeding}
use Rattle.zi_universe.specs.declared.types.Interface.{Interface}
use Rattle.zi_universe.specs.declared.types.Requirement.{Requirement}
use Rattle.zi_choice.specs.Choice.{Choice}
use Rattle.zi_choice.specs.Valid.{IsValid, NoneIsValid}
use Rattle.zi_choice.specs.Vars.{var_count}
use Rattle.zi_build.specs.Clauses.{formula, literals, most_literals}
use Rattle.zi_proof.specs.declared.proof.Proof.{Proof}
use Rattle.zi_solve.specs.Answers as solve
use Rattle.zi_outcome.specs.declared.outcome.Outcome.{Outcome}
use Rattle.zi_outcome.specs.declared.outcome.Outcome.TheVariants.{Done, TooLarge, NoSolution, Spent, SinkFault, Memory}
use Rattle.zi_choosing.specs.declared.known.Known.{Known}
use Rattle.zi_choosing.specs.declared.shows.Shows.{Shows}
use Rattle.zi_choosing.specs.Wanted.{requirement_of}
use Rattle.zi_choosing.specs.Loaded.{Lent, Refused, AreFew, AreMany}
use Rattle.zi_choosing.specs.Select.{SelectsOver}
use Rattle.zi_due.specs.Due.{Due, End, Comes, Refutes, Starts, plainly, IsEnd, IsSpent, Ends}
use Rattle.zi_due.specs.Knowing.{LoadsTo}
use Rattle.zi_due.specs.Choosing.{IsSearched, FindsEnd, ChoosesFrom, ChoosesBy}
use Rattle.zi_due.specs.Laws.{IsQuiet, SelectEndsAsDue}
use Rattle.zi_due.proofs.PlainLemmas.{memory_ends, plain_ends, clash}
use Rattle.zi_due.proofs.LoadingEnds.{LoadingLaws, loaded_ends, unloaded_ends}

module _ (universe : List Interface) (req : Requirement) (budget : ℕ) where
  pub never_both : (limit : ℕ) → AreMany universe req limit → AreFew universe req → ⊥
  never_both limit many few = clash most_literals (literals (formula universe req).constraints) many.1 few

  -- a choice is valid
  found : (choice : Choice) (end : End) → IsValid universe req choice → FindsEnd universe req end → IsEnd end Done
  found choice (Comes outcome) v h = sym h.2
  found choice Refutes v h = absurd (h choice v)
  found choice Starts v h = absurd h

  -- none is
  none_found : (p : Proof) (end : End) → NoneIsValid universe req → FindsEnd universe req end → IsEnd end (NoSolution p)
  none_found p (Comes outcome) none h = absurd (none h.0 h.1)
  none_found p Refutes none h = tt
  none_found p Starts none h = absurd h

  pub spent_so : (p proof : Proof) (count : ℕ) (searched : Bool) → solve.IsSpent universe req budget proof → IsSearched universe req budget searched → IsSpent searched (Spent p count)
  spent_so p proof count true s h = tt
  spent_so p proof count false s (inl first) = absurd (s.not_first first)
  spent_so p proof count false s (inr le) = absurd (clash budget (3 ^ var_count universe) s.less le)

  done_ends : (choice : Choice) (due : Due) → AreFew universe req → IsValid universe req choice → ChoosesFrom universe req budget due → Ends due Done
  done_ends choice due few v (inl h) = absurd (never_both most_literals h.0 few)
  done_ends choice due few v (inr h) = inl (found choice due.end v h.2)

  none_ends : (p : Proof) (due : Due) → AreFew universe req → NoneIsValid universe req → ChoosesFrom universe req budget due → Ends due (NoSolution p)
  none_ends p due few none (inl h) = absurd (never_both most_literals h.0 few)
  none_ends p due few none (inr h) = inl (none_found p due.end none h.2)

  spent_ends : (p proof : Proof) (count : ℕ) (due : Due) → AreFew universe req → solve.IsSpent universe req budget proof → ChoosesFrom universe req budget due → Ends due (Spent p count)
  spent_ends p proof count due few s (inl h) = absurd (never_both most_literals h.0 few)
  spent_ends p proof count due few s (inr h) = inr (inr (spent_so p proof count due.searched s h.1))

  many_ends : (limit : ℕ) (due : Due) → AreMany universe req limit → ChoosesFrom universe req budget due → Ends due (TooLarge limit)
  many_ends limit due many (inl h) = plain_ends due (TooLarge limit) (h.1 ∙ ap (λ n. plainly (TooLarge n)) (sym many.0))
  many_ends limit due many (inr h) = absurd (never_both limit many h.0)

module _ (laws : LoadingLaws) (ask : Ask) (shows : Shows) (known : Known) (holds : Holding) (before after : Lent) (quiet : IsQuiet holds before after) (result : Result (List Interface) Outcome)
    (loads : LoadsTo ask holds known result) (due : Due) (h : ChoosesBy (requirement_of ask) ask.search result due) where
  -- what is due of the universe that was loaded
  of_loaded : (universe : List Interface) → result ≡ Ok universe → ChoosesFrom universe (requirement_of ask) ask.search due
  of_loaded universe e = subst (λ r. ChoosesBy (requirement_of ask) ask.search r due) e h

  selects : (outcome : Outcome) → SelectsOver ask shows known before after outcome → Ends due outcome
  selects Done c =
      let there = c.1.there in
      done_ends there.universe (requirement_of ask) ask.search c.1.choice due there.few c.1.best.valid
      (of_loaded there.universe (loaded_ends laws ask known holds before.feeds quiet.told after.feeds there.universe result there.loaded loads))
  selects (TooLarge limit) c =
      many_ends c.0.0 (requirement_of ask) ask.search limit due c.0.2 (of_loaded c.0.0 (loaded_ends laws ask known holds before.feeds quiet.told after.feeds c.0.0 result c.0.1 loads))
  selects (NoSolution p) c =
      let has = c.1.has in
      none_ends has.there.universe (requirement_of ask) ask.search p due has.there.few has.none
      (of_loaded has.there.universe (loaded_ends laws ask known holds before.feeds quiet.told after.feeds has.there.universe result has.there.loaded loads))
  selects (Spent p count) c =
      let there = c.0.there in
      spent_ends there.universe (requirement_of ask) ask.search p p count due there.few c.0.spent
      (of_loaded there.universe (loaded_ends laws ask known holds before.feeds quiet.told after.feeds there.universe result there.loaded loads))
  selects SinkFault (inl c) = absurd (quiet.out c.2.failed)
  selects SinkFault (inr c) = absurd (quiet.out c.3.failed)
  selects Memory c = memory_ends due
  selects other c =
      let e : result ≡ Err other =
      unloaded_ends laws ask known holds before.feeds quiet.told after.feeds (λ f. Refused known ask before after f) (λ f r. r.0) quiet.feeds other result c loads in
      plain_ends due other (subst (λ r. ChoosesBy (requirement_of ask) ask.search r due) e h)

pub select_ends : LoadingLaws → SelectEndsAsDue
select_ends laws ask shows known holds before after outcome result due quiet c loads h = selects laws ask shows known holds before after quiet result loads due h outcome c
