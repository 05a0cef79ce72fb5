use Rattle.std.proofs.Common.{take}
use Rattle.zi_opening.proofs.FilesLemmas.{Read}
use Rattle.zi_opening.proofs.files.digests_of_files.Given as goal

abbrev pub invariant-loop-file : goal.invariant-loop-file
invariant-loop-file g l = Read (take l.file-index l.files) (g.F.Feeds.seen l.fn.feeds) (g.F.Feeds.seen l.feeds) l.digests
