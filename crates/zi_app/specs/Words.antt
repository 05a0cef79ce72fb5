-- What the words are that are handed on, and those that aren't read.
use Rattle.std.specs.Prelude.{◌≡◌, ℕ, ◌≤◌, true, List}
use Rattle.std.specs.List.{list_all}
use Rattle.zi_text.specs.Front.{StopsAt}
use Rattle.zi_outside.specs.Views.{Sinking}
use Rattle.zi_words.specs.declared.request.Request.{Request}
use Rattle.zi_words.specs.declared.request.Request.TheVariants as request
use Rattle.zi_words.specs.declared.request.WordsFault.{WordsFault}
use Rattle.zi_words.specs.declared.request.WordsFault.TheVariants as fault
use Rattle.zi_words.specs.Words.{AreRight}
use Rattle.zi_words.specs.Forms.{most_lemmas}
use Rattle.zi_words.specs.Store.{is_file}
use Rattle.zi_outcome.specs.declared.outcome.Outcome.{Outcome}
use Rattle.zi_outcome.specs.declared.outcome.Outcome.TheVariants.{Usage, Memory}
use Rattle.zi_outcome.specs.Line.{Tells}

-- the search may be let learn so many lemmas, each file goes into a tree under a name, and there is a demonstration of the number
abbrev pub IsInForm : Request → Type 0
IsInForm (request.Select ask proof) = ask.search ≤ most_lemmas
IsInForm (request.Why ask) = ask.search ≤ most_lemmas
IsInForm (request.Conflict ask) = ask.search ≤ most_lemmas
IsInForm (request.Download ask) = ask.search ≤ most_lemmas
IsInForm (request.Run ask user) = ask.search ≤ most_lemmas
IsInForm (request.Script ask user) = ask.search ≤ most_lemmas
IsInForm (request.Add name files) = list_all is_file files ≡ true
IsInForm (request.Demo n) = (1 ≤ n) × (n ≤ 1000)
IsInForm other = Unit {0}

-- the outcome of words that aren't read
abbrev pub words_outcome : WordsFault → Outcome
words_outcome (fault.Usage index) = Usage index
words_outcome fault.Memory = Memory

-- What comes of words that stand before one that isn't text: as many of them as right words may begin with are counted.
abbrev pub Stops : List (List ℕ) → Outcome → Type 0
Stops words (Usage index) = StopsAt AreRight words index
Stops words Memory = Unit {0}
Stops words other = ⊥

-- and the line of that is told on err
pub record RefusesWords (words : List (List ℕ)) (err_before err_after : Sinking) (outcome : Outcome) : Type 0 where
  pub work : Outcome
  pub stops : Stops words work
  pub told : Tells work err_before err_after outcome
