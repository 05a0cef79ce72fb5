use Rattle.std.proofs.Common.{sym}
use Rattle.zi_memory.specs.Picked.{pick_of}
use Rattle.zi_memory.proofs.OutcomeLemmas.{stays_as, crashes, on_ok_two}
use Rattle.zi_memory.proofs.memory_shelf.MemoryShelf.crash.Goals as goal

pub returns-clause-outcome : goal.returns-clause-outcome
returns-clause-outcome c =
    let e = c.crash.ensures in
    on_ok_two c.crash.result e.picked e.settled (λ p s. crashes c.args.self.now.held c.crash.new.self (pick_of c.args.pick) p s e.calls e.root e.fail e.faults)

pub returns-clause-stays : goal.returns-clause-stays
returns-clause-stays c = stays_as c.args.self.now.held c.crash.new.self c.crash.ensures.root c.crash.ensures.fail
