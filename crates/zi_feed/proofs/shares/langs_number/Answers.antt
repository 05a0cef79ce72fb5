use Rattle.std.proofs.Common.{ap, ◌∙◌, Some}
use Rattle.zi_feed.proofs.ShareLaws.{grows_not, grows_by, at_new}
use Rattle.zi_feed.proofs.shares.langs_number.Goals as goal

pub returns-then-not-says-clause-grows : goal.returns-then-not-says-clause-grows
returns-then-not-says-clause-grows c = grows_not c.args.langs.now

pub returns-then-not-says-clause-at : goal.returns-then-not-says-clause-at
returns-then-not-says-clause-at c = c.requires c.if-not-says.true

pub returns-clause-grows : goal.returns-clause-grows
returns-clause-grows c = grows_by c.args.langs.now c.push.new.self c.in_ok-shared.shared c.in_ok-push.ensures.ok

pub returns-clause-at : goal.returns-clause-at
returns-clause-at c = at_new c.args.langs.now c.push.new.self _ c.in_ok-shared.shared c.in_ok-push.ensures.ok c.len-new.ensures ∙ ap (λ q. Some q) c.in_ok-shared.ensures
