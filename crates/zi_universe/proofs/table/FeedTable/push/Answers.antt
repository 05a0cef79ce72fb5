use Rattle.zi_universe.proofs.TableLemmas.{grows}
use Rattle.zi_universe.proofs.table.FeedTable.push.Goals as goal

pub invariant_of-self-2 : goal.invariant_of-self-2
invariant_of-self-2 c =
    (grows c.self.inside.feeds c.insert.new.self c.args.self.now c.in_ok-uri.uri c.args.read c.self.invariant c.self.view_is c.in_ok-uri.ensures c.requires.shared c.requires.new c.in_ok-insert.ensures.entries).placed

pub returns : goal.returns
returns c =
    (grows c.self.inside.feeds c.insert.new.self c.args.self.now c.in_ok-uri.uri c.args.read c.self.invariant c.self.view_is c.in_ok-uri.ensures c.requires.shared c.requires.new c.in_ok-insert.ensures.entries).grown
