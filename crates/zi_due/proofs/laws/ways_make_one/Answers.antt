use Rattle.zi_due.proofs.FetchEnds.{made_so, first_so}
use Rattle.zi_due.proofs.laws.ways_make_one.Goals as goal

pub returns : goal.returns
returns c = λ web m old new told. (λ t h. made_so web m old new t told h, λ e h. first_so web m old new e told h)
