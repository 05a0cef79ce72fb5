use Rattle.std.proofs.Common.{◌≡◌, true, false, map, filter}
use Rattle.std.specs.List.{list_any, list_all}
use Rattle.zi_tree.specs.Order.{is_name}
use Rattle.zi_tree.specs.Parts.{is_kept, is_up}
use Rattle.zi_tree.proofs.path.RelPath.parse.Given as goal

abbrev pub invariant-loop-part : goal.invariant-loop-part
invariant-loop-part l =
    (goal.iterator-loop-part).can_next l.part-iterator ×
    (goal.iterator-loop-part).is_finite l.part-iterator ×
    (l.parts ≡ filter is_kept (map (λ x. x.now) l.yielded)) ×
    (list_any is_up (map (λ x. x.now) l.yielded) ≡ false) ×
    (list_all is_name l.parts ≡ true)
