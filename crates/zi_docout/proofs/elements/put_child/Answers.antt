use Rattle.zi_docout.proofs.AddingLemmas.{pushed}
use Rattle.zi_docout.proofs.elements.put_child.Goals as goal

pub returns : goal.returns
returns c = pushed c.push.result c.args.children.now c.push.new.self c.args.child c.push.ensures.ok
