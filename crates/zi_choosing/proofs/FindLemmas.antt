-- The best choice before anything is done with it, and why there is none.
use Rattle.std.proofs.Common.{◌≡◌, ℕ, inl, inr, List, refl, sym, subst, ◌∙◌, Result, Ok, Err, MatchResult}
use Rattle.zi_outside.specs.Views.{Feeding}
use Rattle.zi_words.specs.declared.request.Ask.{Ask}
use Rattle.zi_universe.specs.declared.types.Interface.{Interface}
use Rattle.zi_universe.specs.declared.types.Requirement.{Requirement}
use Rattle.zi_universe.specs.declared.fault.LoadFault.{LoadFault}
use Rattle.zi_universe.specs.declared.fault.LoadFault.TheVariants as load
use Rattle.zi_choice.specs.Best.{IsBest}
use Rattle.zi_build.specs.declared.building.BuildFault.{BuildFault}
use Rattle.zi_build.specs.declared.building.BuildFault.TheVariants as build
use Rattle.zi_build.specs.Answers.{FaultMeans}
use Rattle.zi_sels.specs.Chosen.{AreSelected}
use Rattle.zi_outcome.specs.declared.outcome.Outcome.{Outcome}
use Rattle.zi_outcome.specs.declared.outcome.Outcome.TheVariants.{TooLarge, NoSolution, Spent, Memory}
use Rattle.zi_outcome.specs.Refused.{outcome_of}
use Rattle.zi_choosing.specs.declared.asked.Asked.{Asked}
use Rattle.zi_choosing.specs.declared.known.Known.{Known}
use Rattle.zi_choosing.specs.declared.chosen.Chosen.{Chosen}
use Rattle.zi_choosing.specs.Knowing.{Sources, IsKnown}
use Rattle.zi_choosing.specs.Wanted.{requirement_of}
use Rattle.zi_choosing.specs.Loaded.{IsLoaded, IsRefused, AreFew, build_outcome}
use Rattle.zi_choosing.specs.Finding.{SolvesNot, IsChosen, FindsNot, FindsOver}

-- there was no formula
pub formula_lacks : (req : Requirement) (budget : ℕ) (u : List Interface) (fault : BuildFault) (outcome : Outcome) → FaultMeans u req fault → outcome ≡ build_outcome fault → SolvesNot req budget u outcome
formula_lacks req budget u (build.TooLarge limit) outcome means e = subst (λ x. SolvesNot req budget u x) (sym e) means
formula_lacks req budget u build.Memory outcome means e = subst (λ x. SolvesNot req budget u x) (sym e) tt

pub ruleset solving = (formula_lacks)

module _ (ask : Ask) (known : Known) (before after : Feeding) where
  unsolved_as : (u : List Interface) (outcome : Outcome) → IsLoaded known ask before after u → SolvesNot (requirement_of ask) ask.search u outcome → FindsNot known ask before after outcome
  unsolved_as u (TooLarge limit) loaded why = (u, loaded, why)
  unsolved_as u (NoSolution p) loaded why = record { there = record { universe = u; loaded = loaded; few = why.0 }; refutes = why.1; none = why.2 }
  unsolved_as u (Spent p count) loaded why = record { there = record { universe = u; loaded = loaded; few = why.0 }; count_is = why.1; spent = why.2 }
  unsolved_as u Memory loaded why = inr (inr (u, loaded, tt))
  unsolved_as u other loaded why = absurd why

  -- what a loading that was refused comes to
  pub refused_find : (e : LoadFault) (outcome : Outcome) → IsRefused known ask before after e → outcome ≡ outcome_of e → FindsNot known ask before after outcome
  refused_find e outcome r is = subst (λ x. FindsNot known ask before after x) (sym is) (by e r)
    where
      by : (e : LoadFault) → IsRefused known ask before after e → FindsNot known ask before after (outcome_of e)
      by (load.FeedRead uri) r = r
      by load.NoRootFeed r = r
      by (load.BadFeed uri fault) r = r
      by (load.FeedTooLong uri limit) r = r
      by (load.TooManyFeeds limit) r = r
      by (load.TooManyInterfaces limit) r = r
      by (load.TooManyCandidates limit) r = r
      by load.Memory r = inr (inl r)

  -- no choice from the universe that was loaded
  pub unsolved : (req : Requirement) (budget : ℕ) (u : List Interface) (outcome : Outcome) → req ≡ requirement_of ask → budget ≡ ask.search → IsLoaded known ask before after u
      → SolvesNot req budget u outcome → FindsNot known ask before after outcome
  unsolved req budget u outcome at_req at_budget loaded why =
      unsolved_as u outcome loaded (subst (λ n. SolvesNot (requirement_of ask) n u outcome) at_budget (subst (λ r. SolvesNot r budget u outcome) at_req why))

  -- memory was refused behind the loading
  pub loaded_alone : (u : List Interface) (outcome : Outcome) → IsLoaded known ask before after u → outcome ≡ Memory → FindsNot known ask before after outcome
  loaded_alone u outcome loaded e = subst (λ x. FindsNot known ask before after x) (sym e) (inr (inr (u, loaded, tt)))

  pub found : (c : Chosen) (req : Requirement) → req ≡ requirement_of ask → c.req ≡ req → c.known ≡ known → IsLoaded known ask before after c.universe → AreFew c.universe req → IsBest c.universe req c.choice.picks
      → AreSelected c.universe req c.choice.picks c.sels → IsChosen ask before c after
  found c req at_req is at loaded few best selected = record {
    req = is ∙ at_req;
    loaded = subst (λ s. IsLoaded s ask before after c.universe) (sym at) loaded;
    few = subst (λ r. AreFew c.universe r) at_req few;
    best = subst (λ r. IsBest c.universe r c.choice.picks) at_req best;
    selected = subst (λ r. AreSelected c.universe r c.choice.picks c.sels) at_req selected;
  }

-- there was no memory for the task
pub no_job : (ask : Ask) (known : Known) (feeds : Feeding) (outcome : Outcome) → outcome ≡ Memory → FindsNot known ask feeds feeds outcome
no_job ask known feeds outcome e = subst (λ x. FindsNot known ask feeds feeds x) (sym e) (inl refl)

-- over what is known
pub finds_over : (asked : Asked) (known : Known) (feeds : Feeding) (before after : Sources) (result : Result Chosen Outcome)
    → IsKnown asked.table before (record { feeds = feeds; stores = after.stores }) (Ok known)
    → MatchResult result (λ c. (c.known ≡ known) × IsChosen asked.ask feeds c after.feeds) (FindsNot known asked.ask feeds after.feeds) → FindsOver asked before after result
finds_over asked known feeds before after (Ok c) is (e, chosen) =
    (feeds, subst (λ k. IsKnown asked.table before (record { feeds = feeds; stores = after.stores }) (Ok k)) (sym e) is, chosen)
finds_over asked known feeds before after (Err outcome) is why = inr (record { known = known; feeds = feeds; found = is }, why)
