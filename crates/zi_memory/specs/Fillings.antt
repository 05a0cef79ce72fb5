-- The calls that fill a top entry, as the shelf in memory tells them apart.
use Rattle.std.specs.Prelude.{ℕ, List}
use Rattle.zi_shelf.specs.Filling.{Work, MakeFolder, Append, FinishFile, MakeLink}
use Rattle.zi_memory.specs.declared.filling.Filling.{Filling}
use Rattle.zi_memory.specs.declared.filling.Filling.TheVariants as filling

-- the call at this path
abbrev pub work_at : List (List ℕ) → Filling → Work
work_at path filling.MakeFolder = MakeFolder path
work_at path (filling.Append bytes) = Append path bytes.now
work_at path (filling.FinishFile exec mtime) = FinishFile path exec mtime
work_at path (filling.MakeLink target) = MakeLink path target.now
