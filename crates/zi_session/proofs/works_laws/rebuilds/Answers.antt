use Rattle.zi_session.proofs.Remade.{rebuilds}
use Rattle.zi_session.proofs.works_laws.rebuilds.Goals as goal

pub returns : goal.returns
returns c = rebuilds
