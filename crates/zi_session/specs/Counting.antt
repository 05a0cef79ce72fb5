-- How many calls an adder makes at most.
use Rattle.std.specs.Prelude.{◌≡◌, ◌≢◌, ◌≤◌, ℕ, zero, suc, ◌+◌, List, length, Some}
use Rattle.zi_digest.specs.declared.DigestName.{DigestName}
use Rattle.zi_digest.specs.Name.{spelling}
use Rattle.zi_tree.specs.Dir.{Dir, Nothing, AFile, ALink, AFolder}
use Rattle.zi_manifest.specs.Manifest.{manifest}
use Rattle.zi_shelf.specs.Names.{Name}
use Rattle.zi_shelf.specs.Shelved.{Shelved, Call, Reply, Exists, Memory, Answers}
use Rattle.zi_shelf.specs.Filling.{Work, trees}
use Rattle.zi_session.specs.Machine.{Phase, Making, next_call, next_phase}
use Rattle.zi_session.specs.Phases.{tmp_name}
use Rattle.zi_session.specs.Works.{pieces}
use Rattle.zi_session.specs.StoreWorks.{algorithm_in}
use Rattle.zi_session.specs.Standing.{standing}
use Rattle.zi_session.specs.Begun.{IsBegun}
use Rattle.zi_session.specs.declared.session.Session.{Session}

-- the files, links and folders of a tree, at every depth
abbrev pub nodes : Dir → ℕ
nodes Nothing = 0
nodes (AFile n b e t rest) = 1 + nodes rest
nodes (ALink n t rest) = 1 + nodes rest
nodes (AFolder n inside rest) = 1 + nodes inside + nodes rest

-- the pieces of its files, of which an empty one has one
abbrev pub file_pieces : Dir → ℕ
file_pieces Nothing = 0
file_pieces (AFile n b e t rest) = length (pieces b) + file_pieces rest
file_pieces (ALink n t rest) = file_pieces rest
file_pieces (AFolder n inside rest) = file_pieces inside + file_pieces rest

-- the pieces that an adder of this name and tree writes: those of its files, and those of its manifest
abbrev pub all_pieces : Name → Dir → ℕ
all_pieces name tree = file_pieces tree + length (pieces (manifest (algorithm_in name) tree))

-- one where the reply is that the temporary name was taken
abbrev pub found_taken : Phase → Reply → ℕ
found_taken (Making n) Exists = 1
found_taken p reply = 0

-- A call that an adder with this name and these calls that fill makes in phase p, and a reply that an honest shelf may give, other
-- than the one for want of memory, lead it to phase q.
pub record MakesCall (name : Name) (works : List Work) (p q : Phase) (taken : ℕ) : Type 0 where
  pub call : Call Work
  pub makes : next_call tmp_name works name p ≡ Some call
  pub reply : Reply
  pub given : reply ≢ Memory
  pub before : Shelved Dir
  pub after : Shelved Dir
  pub answers : Answers trees before call reply after
  pub phase : q ≡ next_phase 10000 (length works) p reply
  pub finds : taken ≡ found_taken p reply

-- So many calls, one after the other, lead it from phase p to phase q, and so many temporary names were found taken. Between them
-- others may change the shelf.
abbrev pub MakesCalls : Name → List Work → ℕ → Phase → Phase → ℕ → Type 0
MakesCalls name works zero p q taken = (q ≡ p) × (taken ≡ 0)
MakesCalls name works (suc n) p q taken =
    (m : Phase) × (first : ℕ) × (last : ℕ) × MakesCalls name works n p m first × MakesCall name works m q last × (taken ≡ first + last)

abbrev pub FewCalls : Type 0
FewCalls = (name : DigestName) (tree : Dir) (x : Session) (n taken : ℕ) (q : Phase)
    → IsBegun name tree x → MakesCalls (standing x).name (standing x).works n (standing x).phase q taken
    → n ≤ 6 + nodes tree + all_pieces (spelling name) tree + taken
