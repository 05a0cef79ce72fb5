use Rattle.std.proofs.Common.{◌≡◌, List, ℕ, take}
use Rattle.zi_packages.specs.Table.{is_listed}
use Rattle.zi_packages.specs.Natives.{ids_of}
use Rattle.zi_packages.proofs.picking.ids_of.Given as goal

abbrev pub invariant-loop-imp : goal.invariant-loop-imp
invariant-loop-imp l = (t : List ℕ) → is_listed t l.ids.keys ≡ is_listed t (ids_of (take l.imp-index l.impls))
