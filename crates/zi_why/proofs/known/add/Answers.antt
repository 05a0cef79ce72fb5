use Rattle.zi_why.proofs.KnownLaws.{row_more}
use Rattle.zi_why.proofs.known.add.Goals as goal

pub returns-in-Ok-clause-ok : goal.returns-in-Ok-clause-ok
returns-in-Ok-clause-ok c = row_more c.args.rows.now.items c.args.i c.args.owned c.index_mut.result.now c.push.new.self c.requires c.index_mut.ensures.value c.in-Ok.ensures.items
