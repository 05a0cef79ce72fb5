use Rattle.std.proofs.Common.{◌≡◌, ℕ, List, take}
use Rattle.std.specs.Prelude.{◌==◌, ◌&&◌, bytes_eq}
use Rattle.std.specs.List.{list_any}
use Rattle.zi_choice.specs.Walk.{is_used}
use Rattle.zi_sels.specs.Using.{walk_with}
use Rattle.zi_sels.proofs.used.UsedTable.of.Given as goal

abbrev pub invariant-loop-x : goal.invariant-loop-x
invariant-loop-x l =
    (i : ℕ) → (name : List ℕ) → list_any (λ k. i == k.interface && bytes_eq name k.command.now) l.keys.keys ≡ is_used (walk_with (take l.x-index l.used)) i name
