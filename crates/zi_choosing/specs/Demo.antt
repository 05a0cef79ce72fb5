-- `demo`: the counts of the best choice of a demonstration.
use Rattle.std.specs.Prelude.{◌≡◌, ℕ, ◌⊎◌, ◌==◌, Bool, false, List, [], ◌∷◌, ◌++◌, length, filter, codes, decimal, Option, Some, None, is_some}
use Rattle.zi_outside.specs.Views.{Holding, Feeding, Sinking}
use Rattle.zi_outside.specs.Outside.{Writes, WritesFront}
use Rattle.zi_words.specs.declared.request.Ask.{Ask}
use Rattle.zi_words.specs.Options.{nothing, ask_of}
use Rattle.zi_demo.specs.Feeds.{feeds, Holds}
use Rattle.zi_universe.specs.declared.types.Interface.{Interface}
use Rattle.zi_universe.specs.declared.fault.LoadFault.TheVariants as load
use Rattle.zi_universe.specs.Whole.{candidates_in}
use Rattle.zi_choice.specs.Choice.{Choice}
use Rattle.zi_choice.specs.Best.{IsBest}
use Rattle.zi_proof.specs.declared.proof.Certificate.{Certificate}
use Rattle.zi_certificate.specs.Certificates.{Excludes}
use Rattle.zi_outcome.specs.declared.outcome.Outcome.{Outcome}
use Rattle.zi_outcome.specs.declared.outcome.Outcome.TheVariants.{Done, TooLarge, NoSolution, Spent, SinkFault, Memory}
use Rattle.zi_outcome.specs.Writing.{StopsShort}
use Rattle.zi_choosing.specs.declared.known.Known.{Known}
use Rattle.zi_choosing.specs.declared.counting.Counts.{Counts}
use Rattle.zi_choosing.specs.Table.{no_packages}
use Rattle.zi_choosing.specs.Wanted.{requirement_of}
use Rattle.zi_choosing.specs.Loaded.{Lent, Refused, AreMany, IsUnloaded}
use Rattle.zi_choosing.specs.Select.{IsThere, HasNone, WasSpent, OfLoaded}

-- what is asked for: what the words ask without options, but no command, and 20,000 lemmas at most
unfoldable pub demo_ask : Ask
demo_ask = record (ask_of (codes "/demo/root.xml") nothing) { command = None; search = 20000 }

-- the first candidate is chosen
abbrev pub is_first : Option ℕ → Bool
is_first None = false
is_first (Some c) = c == 0

-- How many interfaces and candidates a universe has, how many interfaces have a candidate chosen, and how many their first.
abbrev pub counts_of : List Interface → Choice → Counts
counts_of universe choice = record {
  interfaces = length universe;
  candidates = candidates_in universe;
  selections = length (filter is_some choice);
  first = length (filter is_first choice);
}

-- a word, a space, a number, LF
abbrev pub count_line : List ℕ → ℕ → List ℕ
count_line word number = word ++ 32 ∷ (decimal number ++ 10 ∷ [])

-- the five lines
unfoldable pub lines : Counts → List ℕ
lines counts =
    count_line (codes "interfaces") counts.interfaces
    ++ (count_line (codes "candidates") counts.candidates
    ++ (count_line (codes "selections") counts.selections
    ++ (count_line (codes "first") counts.first
    ++ codes "checked yes\n")))

-- no store is asked, and there are no packages
abbrev pub none_known : Known
none_known = record { each = []; packages = no_packages }

-- The universe is there, a choice is the best one from it, a certificate shows that of every other, and these are the lines of it.
pub record IsCounted (before after : Feeding) (text : List ℕ) : Type 0 where
  pub there : IsThere none_known demo_ask before after
  pub choice : Choice
  pub best : IsBest there.universe (requirement_of demo_ask) choice
  pub checked : (c : Certificate) × Excludes there.universe (requirement_of demo_ask) choice c
  pub shown : text ≡ lines (counts_of there.universe choice)

-- over feeds, no tree being stored
abbrev pub CountsOver : Lent → Lent → Outcome → Type 0
-- the best choice was found and checked, and its lines were written
CountsOver before after Done = (text : List ℕ) × IsCounted before.feeds after.feeds text × Writes before.out text after.out
CountsOver before after (TooLarge limit) =
    OfLoaded none_known demo_ask before.feeds after.feeds (λ universe. AreMany universe (requirement_of demo_ask) limit) × (after.out ≡ before.out)
-- no choice is valid
CountsOver before after (NoSolution p) = HasNone none_known demo_ask before.feeds after.feeds p × (after.out ≡ before.out)
-- the 20,000 lemmas are spent
CountsOver before after (Spent p count) = WasSpent none_known demo_ask before.feeds after.feeds p count × (after.out ≡ before.out)
-- the output failed in the lines
CountsOver before after SinkFault = (text : List ℕ) × IsCounted before.feeds after.feeds text × WritesFront before.out text after.out
-- memory was refused before the loading, in it, behind it, or in the lines
CountsOver before after Memory =
    (after ≡ before)
    ⊎ (Refused none_known demo_ask before after load.Memory
    ⊎ ((OfLoaded none_known demo_ask before.feeds after.feeds (λ universe. Unit {0}) × (after.out ≡ before.out))
    ⊎ ((text : List ℕ) × IsCounted before.feeds after.feeds text × StopsShort before.out text after.out)))
-- the loading was refused
CountsOver before after other = IsUnloaded (Refused none_known demo_ask before after) other

-- feeds that hold those of the demonstration of this number and nothing else, none of them asked for yet, and never fail
abbrev pub AreDemo : ℕ → Feeding → Type 0
AreDemo n feeding =
    (holds : Holding) × Holds (feeds n) holds × (feeding ≡ record { told = Some (record { holds = holds; asked = [] }); faults = 0; plan = [] })

-- How it ends over these feeds: the lines were written, the lemmas are spent, memory was refused, or the output failed. So the loading is
-- never refused, the constraints are few enough, and some choice is valid.
abbrev pub EndsDemo : Outcome → Type 0
EndsDemo Done = Unit {0}
EndsDemo (Spent p count) = Unit {0}
EndsDemo SinkFault = Unit {0}
EndsDemo Memory = Unit {0}
EndsDemo other = ⊥

-- these feeds were made, and over them the counts are written
pub record Demonstrates (n : ℕ) (old new : Sinking) (outcome : Outcome) : Type 0 where
  pub before : Feeding
  pub after : Feeding
  pub made : AreDemo n before
  -- they never fail
  pub sure : after.faults ≡ 0
  pub counts : CountsOver (record { feeds = before; out = old }) (record { feeds = after; out = new }) outcome
  -- nothing stood in the way
  pub ends : EndsDemo outcome

-- The best choice of the demonstration of this number is counted; or there was no memory for its feeds, and nothing was written.
abbrev pub Demos : ℕ → Sinking → Sinking → Outcome → Type 0
Demos n old new outcome = Demonstrates n old new outcome ⊎ ((outcome ≡ Memory) × (new ≡ old))
