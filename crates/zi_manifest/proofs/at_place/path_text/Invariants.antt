use Rattle.std.proofs.Common.{◌≡◌, drop}
use Rattle.zi_manifest.specs.AtPlace.{joined_all, path_text}
use Rattle.zi_manifest.proofs.at_place.path_text.Given as goal

abbrev pub invariant-loop-part : goal.invariant-loop-part
invariant-loop-part l = joined_all l.text (drop l.part-index l.part-items) ≡ path_text l.path
