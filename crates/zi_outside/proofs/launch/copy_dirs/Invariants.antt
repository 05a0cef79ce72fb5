use Rattle.std.proofs.Common.{◌≡◌, take}
use Rattle.zi_outside.proofs.launch.copy_dirs.Given as goal

abbrev pub invariant-loop-dir : goal.invariant-loop-dir
invariant-loop-dir l = l.copy ≡ take l.dir-index l.dirs
