-- What the adding of a tree answers, and what was tried.
use Rattle.std.specs.Prelude.{◌≡◌, ◌≢◌, ◌⊎◌, ℕ, List, [], Option, Some, None, Result, Ok, Err}
use Rattle.zi_digest.specs.declared.DigestName.{DigestName}
use Rattle.zi_digest.specs.Name.{spelling, algorithm_of}
use Rattle.zi_tree.specs.Dir.{Dir}
use Rattle.zi_manifest.specs.Manifest.{first_bad, digest_of}
use Rattle.zi_shelf.specs.Shelving.{Shelving}
use Rattle.zi_session.specs.Phases.{blamed_name}
use Rattle.zi_session.specs.declared.step.Step.{Step}
use Rattle.zi_session.specs.declared.step.Step.TheVariants as step
use Rattle.zi_adding.specs.declared.adding.Added.{Added}
use Rattle.zi_adding.specs.declared.adding.Added.TheVariants as added
use Rattle.zi_adding.specs.declared.adding.AddFault.{AddFault}
use Rattle.zi_adding.specs.declared.adding.AddFault.TheVariants as fault
use Rattle.zi_adding.specs.Trying.{Tried, one, Adds}

-- The answer says why no session began, or what its last step was.
abbrev pub Ends : DigestName → Dir → Result Added AddFault → List Tried → Type 0
Ends name tree (Ok added.Stored) tried = tried ≡ one name tree step.Stored
Ends name tree (Ok added.Present) tried = tried ≡ one name tree step.Present
-- a name of the tree is bad
Ends name tree (Err (fault.BadName path)) tried = (tried ≡ []) × (first_bad tree ≡ Some path)
-- none is, and the digest isn't the name
Ends name tree (Err (fault.Mismatch wanted found)) tried =
    (tried ≡ []) × (first_bad tree ≡ None) × (digest_of (algorithm_of name) tree ≢ name)
    × (wanted ≡ spelling name) × (found ≡ spelling (digest_of (algorithm_of name) tree))
Ends name tree (Err (fault.Crowded number)) tried = (number ≡ 10000) × (tried ≡ one name tree (step.Crowded number))
Ends name tree (Err (fault.Failed blamed)) tried = (tmp : Option ℕ) × (blamed ≡ blamed_name tmp) × (tried ≡ one name tree (step.Fault tmp))
-- memory was refused before a session began, or in a step that was then the last
Ends name tree (Err fault.Memory) tried = (tried ≡ []) ⊎ (tried ≡ one name tree step.Memory)

-- A tree is added under a name, or it isn't, and this was tried.
pub record AddsTree (name : DigestName) (tree : Dir) (before after : Shelving) (result : Result Added AddFault) : Type 0 where
  pub tried : List Tried
  pub ends : Ends name tree result tried
  pub adds : Adds tried before after

-- Parts of the work.

-- the last step of a session may answer this, and after a fault the text names what the call named
abbrev pub IsEnd : Step → List ℕ → Type 0
IsEnd step.More blamed = ⊥
IsEnd step.Over blamed = ⊥
IsEnd (step.Crowded tried) blamed = tried ≡ 10000
IsEnd (step.Fault tmp) blamed = blamed ≡ blamed_name tmp
IsEnd answer blamed = Unit {0}

-- what it comes to
abbrev pub Closes : Step → Result Added AddFault → Type 0
Closes step.Stored result = result ≡ Ok added.Stored
Closes step.Present result = result ≡ Ok added.Present
Closes (step.Crowded tried) result = (tried ≡ 10000) × (result ≡ Err (fault.Crowded tried))
Closes (step.Fault tmp) result = result ≡ Err (fault.Failed (blamed_name tmp))
Closes step.Memory result = result ≡ Err fault.Memory
Closes step.More result = ⊥
Closes step.Over result = ⊥

-- the fault of another digest
abbrev pub Mismatches : DigestName → DigestName → AddFault → Type 0
Mismatches name found f = (f ≡ fault.Mismatch (spelling name) (spelling found)) ⊎ (f ≡ fault.Memory)
