use Rattle.zi_storing.proofs.checked.put_difference.Goals as goal

pub returns-in-NoManifest : goal.returns-in-NoManifest
returns-in-NoManifest g c = rw c.in-NoManifest.is c.put_piece.ensures

pub returns-in-Agrees : goal.returns-in-Agrees
returns-in-Agrees g c = rw c.in-Agrees.is c.put_piece-in-Agrees.ensures

pub returns-in-FirstIn : goal.returns-in-FirstIn
returns-in-FirstIn g c = rw c.in-FirstIn.is c.put_around.ensures
