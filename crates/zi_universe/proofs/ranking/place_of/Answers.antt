use Rattle.std.proofs.lemmas.Result.{IfOk-weaker}
use Rattle.zi_universe.specs.Offering.{texts_of}
use Rattle.zi_universe.proofs.KeyLemmas.{finds_grown}
use Rattle.zi_universe.proofs.ranking.place_of.Goals as goal

pub returns-in-None-clause-finds : goal.returns-in-None-clause-finds
returns-in-None-clause-finds c = IfOk-weaker c.add_version.result _ _ (λ n g.
    finds_grown c.args.feeds.now c.args.known.now.entries (texts_of c.args.versions.now.items) (texts_of c.add_version.new.versions.items) g c.requires.finds) c.add_version.ensures.grows
