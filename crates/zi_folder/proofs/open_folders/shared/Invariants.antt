use Rattle.std.proofs.Common.{map}
use Rattle.zi_folder.specs.Opened.{IsFront}
use Rattle.zi_folder.proofs.open_folders.shared.Given as goal

abbrev pub invariant-loop-number : goal.invariant-loop-number
invariant-loop-number l = IsFront l.number (map (λ folder. folder.name) l.folders) l.parts
