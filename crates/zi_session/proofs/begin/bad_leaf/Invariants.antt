use Rattle.std.proofs.Common.{◌≡◌, []}
use Rattle.zi_manifest.specs.Manifest.{leaf_bad}
use Rattle.zi_tree.specs.Paths.{after}
use Rattle.zi_session.proofs.begin.bad_leaf.Given as goal

abbrev pub invariant-loop-i : goal.invariant-loop-i
invariant-loop-i l = leaf_bad [] l.tree ≡ leaf_bad [] (after l.i l.tree)
