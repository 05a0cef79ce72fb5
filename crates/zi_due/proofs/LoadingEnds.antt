-- What a loading came to is what is due of it.
use Rattle.std.proofs.Common.{◌≡◌, ℕ, true, List, refl, sym, ap, subst, ◌∙◌, Some, Result, Ok, Err}
use Rattle.zi_text.specs.Count.{Rose}
use Rattle.zi_outside.specs.Views.{Holding, Feeding, holding}
use Rattle.zi_words.specs.declared.request.Ask.{Ask}
use Rattle.zi_universe.specs.declared.types.Interface.{Interface}
use Rattle.zi_universe.specs.declared.fault.LoadFault.{LoadFault}
use Rattle.zi_universe.specs.declared.fault.LoadFault.TheVariants as load
use Rattle.zi_universe.specs.Loading.{Loads, Refuses}
use Rattle.zi_universe.specs.Laws.{IsOfFeeds, HasOneUniverse, UniverseExcludes, HasOneRefusal}
use Rattle.zi_outcome.specs.declared.outcome.Outcome.{Outcome}
use Rattle.zi_outcome.specs.declared.outcome.Outcome.TheVariants.{FeedRead, NoRootFeed, BadFeed, FeedTooLong, TooManyFeeds, TooManyInterfaces, TooManyCandidates}
use Rattle.zi_outcome.specs.Refused.{outcome_of}
use Rattle.zi_choosing.specs.declared.known.Known.{Known}
use Rattle.zi_choosing.specs.Loaded as choosing
use Rattle.zi_due.specs.Knowing.{IsRefused, IsLoaded, LoadsTo}

-- the laws of loadings
pub record LoadingLaws : Type 0 where
  pub one : HasOneUniverse
  pub excludes : UniverseExcludes
  pub once : HasOneRefusal

module _ (laws : LoadingLaws) (ask : Ask) (known : Known) (holds : Holding) (before : Feeding) (told : holding before ≡ Some holds) where
  pub loaded_so : (after : Feeding) (universe : List Interface) → choosing.IsLoaded known ask before after universe → IsLoaded ask holds known universe
  loaded_so after universe l =
      subst (λ t. Loads t (choosing.task_of known ask).req (choosing.task_of known ask).policy (choosing.task_of known ask).stored universe) told l.loads

  refused_so : (after : Feeding) (fault : LoadFault) → choosing.IsRefused known ask before after fault
      → Refuses (Some holds) (choosing.task_of known ask).req (choosing.task_of known ask).policy (choosing.task_of known ask).stored fault
  refused_so after fault r =
      subst (λ t. Refuses t (choosing.task_of known ask).req (choosing.task_of known ask).policy (choosing.task_of known ask).stored fault) told r.cause

  -- it gave a universe
  pub loaded_ends : (after : Feeding) (universe : List Interface) (result : Result (List Interface) Outcome) → choosing.IsLoaded known ask before after universe → LoadsTo ask holds known result
      → result ≡ Ok universe
  loaded_ends after universe (Ok u) l h =
      ap Ok (laws.one holds (choosing.task_of known ask).req (choosing.task_of known ask).policy (choosing.task_of known ask).stored u universe h (loaded_so after universe l))
  loaded_ends after universe (Err o) l (fault, r, e) =
      absurd (laws.excludes holds (choosing.task_of known ask).req (choosing.task_of known ask).policy (choosing.task_of known ask).stored universe fault (loaded_so after universe l) r.of_feeds r.refuses)

  -- it was refused
  refused_ends : (after : Feeding) (fault : LoadFault) (result : Result (List Interface) Outcome) → IsOfFeeds fault ≡ true → choosing.IsRefused known ask before after fault → LoadsTo ask holds known result
      → result ≡ Err (outcome_of fault)
  refused_ends after fault (Ok u) of r h =
      absurd (laws.excludes holds (choosing.task_of known ask).req (choosing.task_of known ask).policy (choosing.task_of known ask).stored u fault h of (refused_so after fault r))
  refused_ends after fault (Err o) of r (other, s, e) =
      let same : other ≡ fault =
      laws.once holds (choosing.task_of known ask).req (choosing.task_of known ask).policy (choosing.task_of known ask).stored other fault s.of_feeds of s.refuses (refused_so after fault r) in
      ap Err (e ∙ ap outcome_of same)

  pub unloaded_ends : (after : Feeding) (Is : LoadFault → Type 0) → ((fault : LoadFault) → Is fault → choosing.IsRefused known ask before after fault) → ¬ Rose before.faults after.faults
      → (outcome : Outcome) (result : Result (List Interface) Outcome) → choosing.IsUnloaded Is outcome → LoadsTo ask holds known result → result ≡ Err outcome
  unloaded_ends after Is by still (FeedRead uri) result u h = absurd (still (by (load.FeedRead uri) u).count)
  unloaded_ends after Is by still NoRootFeed result u h = refused_ends after load.NoRootFeed result refl (by load.NoRootFeed u) h
  unloaded_ends after Is by still (BadFeed uri why) result u h = refused_ends after (load.BadFeed uri why) result refl (by (load.BadFeed uri why) u) h
  unloaded_ends after Is by still (FeedTooLong uri limit) result u h = refused_ends after (load.FeedTooLong uri limit) result refl (by (load.FeedTooLong uri limit) u) h
  unloaded_ends after Is by still (TooManyFeeds limit) result u h = refused_ends after (load.TooManyFeeds limit) result refl (by (load.TooManyFeeds limit) u) h
  unloaded_ends after Is by still (TooManyInterfaces limit) result u h = refused_ends after (load.TooManyInterfaces limit) result refl (by (load.TooManyInterfaces limit) u) h
  unloaded_ends after Is by still (TooManyCandidates limit) result u h = refused_ends after (load.TooManyCandidates limit) result refl (by (load.TooManyCandidates limit) u) h
  unloaded_ends after Is by still other result u h = absurd u
