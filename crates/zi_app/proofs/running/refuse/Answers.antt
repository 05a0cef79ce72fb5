use Rattle.zi_app.proofs.running.refuse.Goals as goal

pub returns : goal.returns
returns g c = record { work = c.stopped-outcome.result; stops = c.stopped-outcome.ensures; told = c.told.ensures.tells }
