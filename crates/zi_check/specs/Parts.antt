-- The parts of a valid choice, as each is looked at.
use Rattle.std.specs.Prelude.{◌≡◌, ℕ, ◌<◌, List, Some, IsSome, IfSome, IsSomeAnd, true}
use Rattle.zi_policy.specs.declared.types.Width.{Width}
use Rattle.zi_policy.specs.declared.types.Width.TheVariants.{Bits32, Bits64}
use Rattle.zi_universe.specs.declared.types.Requirement.{Requirement}
use Rattle.zi_parts.specs.declared.types.Dep.{Dep}
use Rattle.zi_parts.specs.declared.types.DepKind.TheVariants.{Essential}
use Rattle.zi_universe.specs.declared.types.Candidate.{Candidate}
use Rattle.zi_universe.specs.declared.types.Interface.{Interface}
use Rattle.zi_choice.specs.Choice.{Choice, pick, chosen, command_at, candidate_at, needs_of}
use Rattle.zi_choice.specs.Walk.{Place, Use}
use Rattle.zi_choice.specs.Valid.{Has, AreMet, group}
use Rattle.zi_check.specs.declared.meeting.Setting.{Setting}
use Rattle.zi_numbering.specs.Listing.{comes_to}

abbrev pub universe_of : Setting → List Interface
universe_of on = on.names.now

abbrev pub picks_of : Setting → Choice
picks_of on = on.picks.now

abbrev pub IsEssential : Dep → Type 0
IsEssential d = d.kind ≡ Essential

-- what a used command needs is met
abbrev pub IsUseMet : Setting → Use → Type 0
IsUseMet on x =
    IfSome (command_at (universe_of on) (picks_of on) x.interface x.command) (λ m. AreMet (universe_of on) (picks_of on) (needs_of m))

-- what the candidate needs is met that is chosen for an interface
abbrev pub IsCandidateMet : Setting → ℕ → Type 0
IsCandidateMet on i = IfSome (chosen (universe_of on) (picks_of on) i) (λ c. AreMet (universe_of on) (picks_of on) c.imp.deps)

-- the candidate that is chosen for an interface is of a bit group
abbrev pub IsOf : Setting → Width → ℕ → Type 0
IsOf on width i = (c : Candidate) × (chosen (universe_of on) (picks_of on) i ≡ Some c) × (group c ≡ width)

-- one of the first interfaces is
abbrev pub SomeAre : Setting → ℕ → Width → Type 0
SomeAre on n width = (i : ℕ) × (i < n) × IsOf on width i

-- it is so of each number below one
abbrev pub Below : ℕ → (ℕ → Type 0) → Type 0
Below n P = (i : ℕ) → i < n → P i

-- what is picked for an interface is one of its candidates
abbrev pub IsThere : List Interface → Choice → ℕ → Type 0
IsThere u s i = (c : ℕ) → pick s i ≡ Some c → IsSome (candidate_at u i c)

-- what is picked is on the walk
abbrev pub IsOn : List Place → Choice → ℕ → Type 0
IsOn ps s i = IsSome (pick s i) → comes_to ps i ≡ true

-- All is right with a choice, but for its walk: the root, what each chosen candidate needs, and the bit groups.
pub record IsRight (on : Setting) (req : Requirement) (n : ℕ) : Type 0 where
  pub root : IsSomeAnd (chosen (universe_of on) (picks_of on) 0) (λ c. IfSome req.command (λ name. Has c name))
  pub met : Below n (IsCandidateMet on)
  pub apart : SomeAre on n Bits32 → SomeAre on n Bits64 → ⊥
