use Rattle.zi_session.proofs.Small.{pieces_law}
use Rattle.zi_session.proofs.works_laws.pieces.Goals as goal

pub returns : goal.returns
returns c = pieces_law
