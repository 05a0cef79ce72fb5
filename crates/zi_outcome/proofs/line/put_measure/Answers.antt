use Rattle.zi_outcome.proofs.line.put_measure.Goals as goal

pub returns-in-Size : goal.returns-in-Size
returns-in-Size g c = rw c.in-Size.is c.put_around.ensures

pub returns-in-Nodes : goal.returns-in-Nodes
returns-in-Nodes g c = rw c.in-Nodes.is c.put_around-in-Nodes.ensures

pub returns-in-Depth : goal.returns-in-Depth
returns-in-Depth g c = rw c.in-Depth.is c.put_around-in-Depth.ensures
