use Rattle.std.proofs.Common.{List, Option, length, inl, subst}
use Rattle.std.proofs.lemmas.Result.{err_from_is_err_and}
use Rattle.zi_policy.specs.declared.types.Policy.{Policy}
use Rattle.zi_outside.specs.Views.{holding}
use Rattle.zi_universe.specs.declared.types.Requirement.{Requirement}
use Rattle.zi_universe.specs.Loading.{store_of}
use Rattle.zi_universe.specs.Stages.{HasListed}
use Rattle.zi_universe.specs.Asked.{LeavesListing}
use Rattle.zi_universe.proofs.NextLemmas.{looks}
use Rattle.zi_universe.proofs.loading.look_for.Goals as goal

pub returns-in_err-here-clause-gathers : goal.returns-in_err-here-clause-gathers
returns-in_err-here-clause-gathers g c =
    let seen = g.F.Feeds.seen c.args.feeds.now in
    let q = err_from_is_err_and c.from_residual.result c.from_residual.ensures.1 in
    let P : Requirement → Type 0 = λ r. LeavesListing (holding seen) r.interface c.policy.result.now c.args.uri.now c.args.table.now seen c.in_err-here.field-0.0 (g.F.Feeds.seen c.list_feeds.new.feeds) in
    let Q : Policy → Type 0 = λ p. LeavesListing (holding seen) c.args.wanted.now.req.interface p c.args.uri.now c.args.table.now seen c.in_err-here.field-0.0 (g.F.Feeds.seen c.list_feeds.new.feeds) in
    rw (q.1, q.2) (inl (subst Q c.policy.ensures (subst P c.req.ensures c.in_err-here.ensures.listed)))

pub returns-clause-gathers : goal.returns-clause-gathers
returns-clause-gathers g c =
    let seen = g.F.Feeds.seen c.args.feeds.now in
    let here = c.in_ok-here.here.keys in
    let P : Requirement → Type 0 = λ r. HasListed (holding seen) r.interface c.policy.result.now c.args.uri.now c.args.table.now here (length here) c.list_feeds.new.table in
    let Q : Policy → Type 0 = λ p. HasListed (holding seen) c.args.wanted.now.req.interface p c.args.uri.now c.args.table.now here (length here) c.list_feeds.new.table in
    looks (holding seen) c.args.wanted.now.req c.args.wanted.now.policy (store_of c.args.wanted.now) c.args.uri.now c.args.table.now c.list_feeds.new.table here c.as_slice.result.now seen (g.F.Feeds.seen c.list_feeds.new.feeds)
    c.as_slice.ensures.keys (subst Q c.policy.ensures (subst P c.req.ensures c.in_ok-here.ensures.listed)) c.in_ok-here.ensures.asks c.gather.result c.gather.ensures.held
