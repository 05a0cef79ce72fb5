use Rattle.zi_universe.specs.Loading.{names_of}
use Rattle.zi_universe.proofs.StopsLemmas.{refuses_first}
use Rattle.zi_choosing.specs.Knowing.{all_names}
use Rattle.zi_choosing.proofs.known.load_over.Goals as goal

pub returns-in-Some-clause-loads : goal.returns-in-Some-clause-loads
returns-in-Some-clause-loads g c = rw c.as_slice-each.ensures at (rw c.in-Some.ensures at c.load.ensures.loads)

pub returns-in-Some-clause-refuses : goal.returns-in-Some-clause-refuses
returns-in-Some-clause-refuses g c = rw c.as_slice-each.ensures at (rw c.in-Some.ensures at c.load.ensures.refuses)

pub returns-in_default-all_names-clause-refuses : goal.returns-in_default-all_names-clause-refuses
returns-in_default-all_names-clause-refuses g c =
    refuses_first (record { req = c.args.job.now.req; policy = c.args.job.now.policy; stored = names_of (all_names c.args.known.now.each) c.args.known.now.packages }) (g.F.Feeds.seen c.args.feeds.now)
