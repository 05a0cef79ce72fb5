use Rattle.zi_feed.proofs.ShareLaws.{gathers_native}
use Rattle.zi_feed.proofs.shares.Gathered.push_native.Goals as goal

pub returns-clause-shares : goal.returns-clause-shares
returns-clause-shares c =
    gathers_native c.args.self.now c.push.new.self c.push-2.new.self c.args.numbers c.args.native c.in_ok-push.ensures.ok c.in_ok-push-2.ensures.ok c.requires.shared c.requires.fit
