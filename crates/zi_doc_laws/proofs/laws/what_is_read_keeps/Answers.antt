use Rattle.std.proofs.Common.{arith}
use Rattle.zi_doc_laws.proofs.TreeLaws.{spelled}
use Rattle.zi_doc_laws.proofs.laws.what_is_read_keeps.Goals as goal

pub returns : goal.returns
returns c = record {
  deep = λ w t h. let k = (spelled w t h).fine.deep in omega (arith, k);
  texts = λ w t h. (spelled w t h).fine.texts;
  order = λ w t h. (spelled w t h).order;
  tags = λ w t h. (spelled w t h).fine.tags;
  chars = λ w t h. (spelled w t h).fine.carried;
}
