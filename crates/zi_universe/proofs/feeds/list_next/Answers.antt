use Rattle.std.proofs.lemmas.Result.{err_from_is_err_and}
use Rattle.zi_outside.specs.Views.{holding}
use Rattle.zi_universe.proofs.AskedLemmas.{leaves_once, ends_followed}
use Rattle.zi_universe.proofs.feeds.list_next.Goals as goal

pub returns-in_err-get_once-clause-next : goal.returns-in_err-get_once-clause-next
returns-in_err-get_once-clause-next g c =
    let seen = g.F.Feeds.seen c.args.feeds.now in
    let q = err_from_is_err_and c.from_residual-in_err-get_once.result c.from_residual-in_err-get_once.ensures.1 in
    rw (q.1, q.2)
    (leaves_once (holding seen) c.args.root.now c.args.place c.args.here.now.keys c.args.table.now c.in_ok-uri.uri c.in_ok-uri.ensures
    seen (g.F.Feeds.seen c.get_once.new.feeds) c.in_err-get_once.field-0.0 c.in_err-get_once.ensures.got c.in_err-get_once.ensures.asks)

pub returns-in_err-follow-clause-next : goal.returns-in_err-follow-clause-next
returns-in_err-follow-clause-next g c =
    let seen = g.F.Feeds.seen c.args.feeds.now in
    let q = err_from_is_err_and c.from_residual-in_err-follow.result c.from_residual-in_err-follow.ensures.1 in
    rw (q.1, q.2)
    (ends_followed (holding seen) c.args.root.now c.args.place c.args.here.now.keys c.args.table.now c.in_ok-uri.uri c.in_ok-uri.ensures
    c.args.policy.now c.get_once.new.table seen (g.F.Feeds.seen c.get_once.new.feeds) c.requires.few c.in_ok-get_once.ensures.got c.in_ok-get_once.ensures.asks)

pub returns-clause-next : goal.returns-clause-next
returns-clause-next g c = record {
  uri = c.in_ok-uri.uri;
  turn = c.in_ok-uri.ensures;
  gets = c.in_ok-get_once.ensures.got;
  more = c.in_ok-follow.ensures;
}
