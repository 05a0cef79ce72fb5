-- The hints of a call that ended so with these words: at most three lines.
use Rattle.std.specs.Prelude.{ℕ, List, ◌++◌, codes, Option, Some, None}
use Rattle.zi_usage.specs.declared.place.Place.{Place}
use Rattle.zi_usage.specs.declared.place.Place.TheVariants as place
use Rattle.zi_usage.specs.Places.{wrong_at}
use Rattle.zi_outcome.specs.declared.outcome.Outcome.{Outcome}
use Rattle.zi_outcome.specs.declared.outcome.Outcome.TheVariants as outcome
use Rattle.zi_hints.specs.Saying.{hint, told}
use Rattle.zi_hints.specs.Causes.{of_bad, of_sels, of_plan}
use Rattle.zi_hints.specs.Remedies.{remedy}
use Rattle.zi_hints.specs.WrongWords.{wrong_word, advice_for, former_for}

-- what is wrong, wrong words aside: of what is known the path of the root's feed, the first failure and the document it is about
abbrev pub cause : Outcome → List ℕ → List ℕ → List ℕ → Option (List ℕ)
cause outcome.Done path failure document = None
cause (outcome.Usage index) path failure document = None
cause (outcome.FeedRead uri) path failure document = told failure
cause outcome.NoRootFeed path failure document = Some (codes "nothing is at " ++ path ++ codes "")
cause (outcome.BadFeed uri fault) path failure document = of_bad document fault
cause (outcome.FeedTooLong uri limit) path failure document = None
cause (outcome.TooManyFeeds limit) path failure document = None
cause (outcome.TooManyInterfaces limit) path failure document = None
cause (outcome.TooManyCandidates limit) path failure document = None
cause (outcome.TooLarge limit) path failure document = None
cause (outcome.NoSolution proof) path failure document = None
cause (outcome.Spent proof count) path failure document = None
cause (outcome.NoFile name) path failure document = None
cause (outcome.BadSels fault) path failure document = of_sels document fault
cause (outcome.BadProof line) path failure document = None
cause outcome.Rejected path failure document = None
cause (outcome.Plan fault) path failure document = of_plan fault
cause (outcome.FetchRead href) path failure document = told failure
cause (outcome.NoRemote href) path failure document = None
cause (outcome.WrongSize href said got) path failure document = None
cause (outcome.Overlap at) path failure document = None
cause (outcome.NoPath at) path failure document = None
cause (outcome.Mismatch name found) path failure document = None
cause (outcome.MissingTree name) path failure document = None
cause (outcome.DamagedTree name found) path failure document = None
cause (outcome.BadName at) path failure document = None
cause (outcome.TreeTooLarge what limit) path failure document = None
cause (outcome.StoreFault name) path failure document = told failure
cause (outcome.Crowded tried) path failure document = None
cause outcome.SpawnFault path failure document = told failure
cause outcome.SinkFault path failure document = told failure
cause outcome.Memory path failure document = None
cause (outcome.BadPackages line) path failure document = None
cause (outcome.NotInstalled name) path failure document = None
cause (outcome.Child status) path failure document = None

-- which word is wrong, what to do, and what zi has for a word of 0install
abbrev pub hints_at : Place × Option (List ℕ) → List ℕ
hints_at at = hint (wrong_word at.0 at.1) ++ (hint (advice_for at.0 at.1) ++ hint (former_for at.0 at.1))

abbrev pub hints_of_words : List (List ℕ) → ℕ → List ℕ
hints_of_words words index = hints_at (wrong_at place.Command words index)

-- what is wrong and what to do; of wrong words also the third
abbrev pub hints_of : Outcome → List (List ℕ) → List ℕ → List ℕ → List ℕ → List ℕ
hints_of (outcome.Usage index) words path failure document = hints_of_words words index
hints_of o words path failure document = hint (cause o path failure document) ++ hint (remedy o)
