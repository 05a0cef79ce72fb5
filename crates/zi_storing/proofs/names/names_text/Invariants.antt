use Rattle.std.proofs.Common.{◌≡◌, take}
use Rattle.zi_storing.specs.StoreList.{names_text}
use Rattle.zi_storing.proofs.names.names_text.Given as goal

abbrev pub invariant-loop-name : goal.invariant-loop-name
invariant-loop-name l = l.text.items ≡ names_text (take l.name-index l.names)
