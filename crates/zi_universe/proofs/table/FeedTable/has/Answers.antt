use Rattle.std.proofs.Common.{◌∙◌, ap}
use Rattle.std.specs.Prelude.{is_some}
use Rattle.zi_universe.proofs.TableLemmas.{is_found, lent_there}
use Rattle.zi_universe.proofs.table.FeedTable.has.Goals as goal

pub returns : goal.returns
returns c = c.is_some.ensures ∙ lent_there c.find.result ∙ ap is_some c.find.ensures.feed ∙ is_found c.args.self.now c.args.uri.now
