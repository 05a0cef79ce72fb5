-- Trees that are added to a shelf, one behind the other, each by a session that nobody else disturbs.
use Rattle.std.specs.Prelude.{◌≡◌, ◌≤◌, ◌⊎◌, List, [], ◌∷◌, Some, None, All}
use Rattle.zi_digest.specs.declared.DigestName.{DigestName}
use Rattle.zi_digest.specs.Name.{spelling, algorithm_of}
use Rattle.zi_tree.specs.Dir.{Dir}
use Rattle.zi_manifest.specs.Manifest.{first_bad, digest_of}
use Rattle.zi_shelf.specs.Shelving.{Shelving, Stays}
use Rattle.zi_text.specs.Count.{Rose}
use Rattle.zi_shelf.specs.Told.{Told}
use Rattle.zi_session.specs.Begun.{at_start}
use Rattle.zi_session.specs.Standing.{Standing}
use Rattle.zi_session.specs.Stepping.{HasGone, CallsToEnd}
use Rattle.zi_session.specs.Alone.{EndsAlone}
use Rattle.zi_session.specs.declared.step.Step.{Step}
use Rattle.zi_session.specs.declared.step.Step.TheVariants as step

-- A tree that a session began to add under a name, and what the session's last step answered.
pub record Tried : Type 0 where
  pub name : DigestName
  pub tree : Dir
  pub answer : Step

abbrev pub one : DigestName → Dir → Step → List Tried
one name tree answer = record { name = name; tree = tree; answer = answer } ∷ []

-- no name of the tree is bad, and its digest is the name
abbrev pub IsRight : DigestName → Dir → Type 0
IsRight name tree = (first_bad tree ≡ None) × (digest_of (algorithm_of name) tree ≡ name)

-- its session was right to begin, and went from its first step to its last
pub record HasEnded (a : Tried) : Type 0 where
  pub right : IsRight a.name a.tree
  pub end : Standing
  pub goes : HasGone (at_start a.name a.tree) a.answer end

-- its session ran over a shelf that told s before the first step, and that tells t after the last
pub record RunsAlone (a : Tried) (s t : Told) : Type 0 where
  pub end : Standing
  pub calls : CallsToEnd (at_start a.name a.tree) s a.answer end t
  pub leaves : EndsAlone (spelling a.name) a.tree s a.answer t

-- their sessions ran one behind the other
abbrev pub RunInTurn : List Tried → Told → Told → Type 0
RunInTurn [] s t = t ≡ s
RunInTurn (a ∷ rest) s t = (mid : Told) × RunsAlone a s mid × RunInTurn rest mid t

-- it stands under its name
abbrev pub IsDone : Tried → Type 0
IsDone a = (a.answer ≡ step.Stored) ⊎ (a.answer ≡ step.Present)

-- a fault is answered where the shelf failed, as a sure one never does, and any other answer where no call of it did
abbrev pub Costs : Step → Shelving → Shelving → Type 0
Costs (step.Fault tmp) before after = Rose before.faults after.faults × (before.sure → ⊥)
Costs other before after = after.faults ≡ before.faults

-- the last of them decides that, since none goes on behind a fault
abbrev pub CostsAll : List Tried → Shelving → Shelving → Type 0
CostsAll [] before after = after.faults ≡ before.faults
CostsAll (a ∷ []) before after = Costs a.answer before after
CostsAll (a ∷ b ∷ rest) before after = CostsAll (b ∷ rest) before after

-- Their sessions had their steps, one session behind the other, and these are all that was done to the shelf.
pub record Adds (tried : List Tried) (before after : Shelving) : Type 0 where
  pub ended : All HasEnded tried
  -- an honest shelf that told what it held tells it at the end, and that is what the sessions made of it
  pub alone : (s : Told) → before.honest → before.told ≡ Some s → (t : Told) × (after.told ≡ Some t) × RunInTurn tried s t
  pub cost : CostsAll tried before after
  pub later : before.faults ≤ after.faults
  pub idle : tried ≡ [] → after.told ≡ before.told
  pub stays : Stays before after
