use Rattle.zi_outside.proofs.PairedLemmas.{paired-push}
use Rattle.zi_outside.proofs.log.Log.push.Goals as goal

pub returns-in-Ok-clause-ok : goal.returns-in-Ok-clause-ok
returns-in-Ok-clause-ok c =
    rw (← c.self.view_is, c.in-Ok.ensures.ok, c.in_ok-push.ensures.ok)
    (paired-push c.self.inside.launches c.self.inside.answers c.args.launch c.args.status c.self.invariant)
