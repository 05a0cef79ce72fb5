use Rattle.std.proofs.Common.{refl, sym, ◌∙◌}
use Rattle.std.proofs.lemmas.List.{length-map}
use Rattle.zi_feed.proofs.ShareLaws.{at_new, grows_by}
use Rattle.zi_universe.specs.Offering.{texts_of}
use Rattle.zi_universe.proofs.KeyLemmas.{texts_more}
use Rattle.zi_universe.proofs.ranking.add_version.Goals as goal

pub returns-clause-grows : goal.returns-clause-grows
returns-clause-grows c =
    grows_by (texts_of c.args.versions.now.items) (texts_of c.push.new.self.items) c.args.one.now.candidate.standing.version (texts_more c.args.versions.now.items c.push.new.self.items _ c.in_ok-push.ensures.items)

pub returns-clause-at : goal.returns-clause-at
returns-clause-at c =
    at_new (texts_of c.args.versions.now.items) (texts_of c.push.new.self.items) c.len-place.result c.args.one.now.candidate.standing.version
    (texts_more c.args.versions.now.items c.push.new.self.items _ c.in_ok-push.ensures.items) (c.len-place.ensures ∙ (c.args.versions.now.ok.0 ∙ sym (length-map c.args.versions.now.items _)))
