use Rattle.std.proofs.Common.{sym, ◌∙◌}
use Rattle.std.proofs.lemmas.List.{length-map}
use Rattle.zi_feed.proofs.ShareLaws.{grows_not, grows_by}
use Rattle.zi_universe.specs.Offering.{texts_of}
use Rattle.zi_universe.proofs.KeyLemmas.{versions_more, version_there, texts_more}
use Rattle.zi_universe.proofs.ranking.place_by.Goals as goal

pub returns-in-Some-clause-grows : goal.returns-in-Some-clause-grows
returns-in-Some-clause-grows c = grows_not (texts_of c.args.versions.now.items)

pub returns-in-Some-clause-finds : goal.returns-in-Some-clause-finds
returns-in-Some-clause-finds c = c.requires.finds

pub returns-in-Some-clause-at : goal.returns-in-Some-clause-at
returns-in-Some-clause-at c =
    c.requires.finds _ c.in-Some.place.now (sym c.in-Some.ensures.value) c.args.one.now.candidate.standing.version (version_there c.args.feeds.now c.args.one.now c.args.number c.requires.there c.requires.number)

pub returns-clause-grows : goal.returns-clause-grows
returns-clause-grows c =
    grows_by (texts_of c.args.versions.now.items) (texts_of c.push.new.self.items) c.args.one.now.candidate.standing.version (texts_more c.args.versions.now.items c.push.new.self.items _ c.in_ok-push.ensures.items)

pub returns-clause-finds : goal.returns-clause-finds
returns-clause-finds c =
    (versions_more c.args.feeds.now _ c.args.known.now.entries c.insert.new.self.entries (texts_of c.args.versions.now.items) (texts_of c.push.new.self.items) c.args.one.now.candidate.standing.version c.len-place.result
    (version_there c.args.feeds.now c.args.one.now c.args.number c.requires.there c.requires.number) (texts_more c.args.versions.now.items c.push.new.self.items _ c.in_ok-push.ensures.items) (c.len-place.ensures ∙ (c.args.versions.now.ok.0 ∙ sym (length-map c.args.versions.now.items _)))
    c.in_ok-insert.ensures.updates.0 c.requires.finds).0

pub returns-clause-at : goal.returns-clause-at
returns-clause-at c =
    (versions_more c.args.feeds.now _ c.args.known.now.entries c.insert.new.self.entries (texts_of c.args.versions.now.items) (texts_of c.push.new.self.items) c.args.one.now.candidate.standing.version c.len-place.result
    (version_there c.args.feeds.now c.args.one.now c.args.number c.requires.there c.requires.number) (texts_more c.args.versions.now.items c.push.new.self.items _ c.in_ok-push.ensures.items) (c.len-place.ensures ∙ (c.args.versions.now.ok.0 ∙ sym (length-map c.args.versions.now.items _)))
    c.in_ok-insert.ensures.updates.0 c.requires.finds).1 c.args.one.now.candidate.standing.version (version_there c.args.feeds.now c.args.one.now c.args.number c.requires.there c.requires.number)
