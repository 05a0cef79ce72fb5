use Rattle.std.specs.Prelude.{◌≡◌, ◌++◌, take}
use Rattle.std.specs.List.{flat_map}
use Rattle.zi_sels.specs.declared.types.Selection.{Selection}
use Rattle.zi_opening.proofs.files.add_digests.Given as goal

abbrev pub invariant-loop-item : goal.invariant-loop-item
invariant-loop-item l = l.digests ≡ l.fn.digests ++ flat_map (λ (x : Selection). x.digests) (take l.item-index l.item-items)
