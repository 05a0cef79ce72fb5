-- What a session is at its beginning.
use Rattle.std.specs.Prelude.{◌≡◌, [], ◌∷◌, ◌++◌, None}
use Rattle.zi_digest.specs.declared.DigestName.{DigestName}
use Rattle.zi_digest.specs.Name.{spelling}
use Rattle.zi_tree.specs.Dir.{Dir}
use Rattle.zi_session.specs.Machine.{Adder, World, Making, Begin, Leads}
use Rattle.zi_session.specs.StoreRules.{rules}
use Rattle.zi_session.specs.StoreWorks.{store_works}
use Rattle.zi_session.specs.Tie.{StandsFor}
use Rattle.zi_session.specs.Standing.{Standing, standing}
use Rattle.zi_session.specs.declared.session.Session.{Session}

-- an adder of this name and tree before its first call
abbrev pub first : DigestName → Dir → Adder Dir
first name tree = record { name = spelling name; tree = tree; phase = Making 0 }

-- where a session of this name and tree stands before its first call
abbrev pub at_start : DigestName → Dir → Standing
at_start name tree = record { name = spelling name; works = store_works (spelling name) tree; phase = Making 0; residue = None }

-- The beginning of a session is the event that an adder begins, and the session stands for it.
pub record IsBegun (name : DigestName) (tree : Dir) (s : Session) : Type 0 where
  pub leads : (w : World Dir) → Leads rules w (Begin (spelling name) tree) (record { shelf = w.shelf; adders = w.adders ++ first name tree ∷ [] })
  pub stands : StandsFor (standing s) (first name tree)
  pub starts : standing s ≡ at_start name tree
