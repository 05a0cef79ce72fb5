use Rattle.zi_universe.proofs.OfferingLemmas.{one_more, numbered_one}
use Rattle.zi_universe.proofs.offers.Offers.push.Goals as goal

pub returns-clause-held : goal.returns-clause-held
returns-clause-held c = one_more c.args.self.now.offered.items c.push.new.self.items c.args.one c.in_ok-push.ensures.items

pub returns-clause-numbered : goal.returns-clause-numbered
returns-clause-numbered c = numbered_one c.args.self.now.feeds c.args.self.now.offered.items c.push.new.self.items c.args.one c.in_ok-push.ensures.items c.requires
