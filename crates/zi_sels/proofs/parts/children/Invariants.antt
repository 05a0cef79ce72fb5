use Rattle.std.proofs.Common.{◌≡◌, ◌++◌, drop}
use Rattle.zi_elements.specs.Forest.{elements, nodes_view}
use Rattle.zi_reading.specs.Views.{views}
use Rattle.zi_sels.proofs.parts.children.Given as goal

abbrev pub invariant-loop-node : goal.invariant-loop-node
invariant-loop-node l = views l.found.items ++ elements (nodes_view (drop l.node-index l.node-items)) ≡ elements (nodes_view l.fn.e.children)
