-- What is seen of a session: what it is about, and where it stands.
use Rattle.std.specs.Prelude.{ℕ, List, map, length, Option}
use Rattle.zi_shelf.specs.Names.{Name}
use Rattle.zi_shelf.specs.Filling.{Work}
use Rattle.zi_session.specs.Machine.{Phase}
use Rattle.zi_session.specs.Works.{work_of}
use Rattle.zi_session.specs.Phases.{phase_of, residue_of, blamed_of, left_in}
use Rattle.zi_session.specs.declared.session.Session.{Session}

pub record Standing : Type 0 where
  -- the text of the digest name
  pub name : Name
  -- the calls that fill its temporary entry, in their order
  pub works : List Work
  -- where it is in its list of calls
  pub phase : Phase
  -- the number of the temporary name of an entry that it made, and that wasn't renamed or removed
  pub residue : Option ℕ

abbrev pub standing : Session → Standing
standing x = record { name = x.name; works = map work_of x.works.items; phase = phase_of x.phase x.number x.done; residue = residue_of x.phase x.number }

-- the number of the temporary name that the call named at which the shelf failed; none where it named none, and without a fault
abbrev pub blamed : Session → Option ℕ
blamed x = blamed_of x.phase x.number

-- at most so many steps are left, those for temporary names found taken and waits for memory aside
abbrev pub left : Session → ℕ
left x = left_in x.phase x.done (length x.works.items)
