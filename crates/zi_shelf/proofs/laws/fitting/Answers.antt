use Rattle.zi_shelf.proofs.FillingLemmas.{folder_fits, link_fits, append_fits, finish_fits}
use Rattle.zi_shelf.proofs.laws.fitting.Goals as goal

pub returns : goal.returns
returns c = record { folder = folder_fits; link = link_fits; bytes = append_fits; finish = finish_fits }
