-- How many calls a purger makes at most, and what it has found where it ends as Crowded.
use Rattle.std.specs.Prelude.{◌≡◌, ◌≢◌, ◌≤◌, ℕ, zero, suc, ◌+◌, ◌*◌, List, [], ◌∷◌, length, Some}
use Rattle.zi_tree.specs.Dir.{Dir}
use Rattle.zi_shelf.specs.Names.{Name}
use Rattle.zi_shelf.specs.Shelved.{Shelved, Call, Rename, Reply, Exists, Memory, Answers}
use Rattle.zi_shelf.specs.Filling.{Work, trees}
use Rattle.zi_shelf.specs.Told.{Told}
use Rattle.zi_session.specs.Phases.{tmp_name}
use Rattle.zi_purge.specs.Machine.{next_call}
use Rattle.zi_purge.specs.Stepping.{Standing, at_start, moved, SaysOn, Calls}
use Rattle.zi_purge.specs.declared.step.PurgeStep.{PurgeStep}
use Rattle.zi_purge.specs.declared.step.PurgeStep.TheVariants.{Crowded as SaysCrowded, Memory as SaysMemory}

-- a step that made a call
pub record Made : Type 0 where
  pub call : Call Work
  pub reply : Reply
  pub answer : PurgeStep

-- By this step a purger makes its next call. The reply is one that an honest shelf may give, and isn't the one for want of memory.
pub record Makes (old : Standing) (m : Made) (new : Standing) : Type 0 where
  pub makes : next_call tmp_name old.names old.phase ≡ Some m.call
  pub given : m.reply ≢ Memory
  pub before : Shelved Dir
  pub after : Shelved Dir
  pub answers : Answers trees before m.call m.reply after
  pub goes : new ≡ moved old m.reply
  pub says : SaysOn old.phase m.reply new.phase m.answer

-- These steps, the newest first, lead it from one standing to the other. Between them others may change the shelf, and steps may
-- answer Memory.
abbrev pub HasMade : Standing → List Made → Standing → Type 0
HasMade old [] new = new ≡ old
HasMade old (m ∷ made) new = (mid : Standing) × HasMade old made mid × Makes mid m new

abbrev pub one_taken : Reply → ℕ
one_taken Exists = 1
one_taken reply = 0

-- so many of them found a temporary name taken
abbrev pub taken : List Made → ℕ
taken [] = 0
taken (m ∷ made) = one_taken m.reply + taken made

-- from its beginning a purger makes at most three calls for each of its names, one more, and one for each temporary name found taken
abbrev pub FewCalls : Type 0
FewCalls = (kept there : List Name) (made : List Made) (new : Standing)
    → HasMade (at_start kept there) made new → length made ≤ 3 * length (at_start kept there).names + 1 + taken made

-- the newest of the steps renamed this name to the temporary names of the numbers below this one, in their order, and found each taken
abbrev pub AllTaken : Name → ℕ → List Made → Type 0
AllTaken d zero made = Unit {0}
AllTaken d (suc n) [] = ⊥
AllTaken d (suc n) (m ∷ made) = (m.call ≡ Rename d (tmp_name n)) × (m.reply ≡ Exists) × AllTaken d n made

-- for one name 10,000 temporary names, one after the other, were found taken
pub record FoundTaken (made : List Made) : Type 0 where
  pub name : Name
  pub all : AllTaken name 10000 made

-- a step answers Crowded exactly where it and those before it found them taken
pub record CrowdsWhere (m : Made) (made : List Made) : Type 0 where
  pub only : (tried : ℕ) → m.answer ≡ SaysCrowded tried → (tried ≡ 10000) × FoundTaken (m ∷ made)
  pub there : FoundTaken (m ∷ made) → m.answer ≡ SaysCrowded 10000

abbrev pub Crowds : Type 0
Crowds = (kept there : List Name) (m : Made) (made : List Made) (new : Standing)
    → HasMade (at_start kept there) (m ∷ made) new → CrowdsWhere m made

-- a step over an honest shelf is one of these, if it doesn't answer Memory
abbrev pub StepIsMade : Type 0
StepIsMade = (old new : Standing) (s t : Told) (step : PurgeStep)
    → Calls old s step new t → step ≢ SaysMemory → (m : Made) × (m.answer ≡ step) × Makes old m new
