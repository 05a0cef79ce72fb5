use Rattle.std.proofs.Common.{List, sym, subst}
use Rattle.std.proofs.lemmas.Result.{err_from_is_err_and}
use Rattle.zi_outside.specs.Views.{holding}
use Rattle.zi_universe.specs.declared.types.Interface.{Interface}
use Rattle.zi_universe.specs.Loading.{store_of}
use Rattle.zi_universe.specs.Loading.{Task, names_of, LoadsAsking, RefusesAsking}
use Rattle.zi_universe.specs.Whole.{BeginsWith}
use Rattle.zi_universe.proofs.WholeLemmas.{begins, task, whole}
use Rattle.zi_universe.proofs.StopsLemmas.{refuses_first}
use Rattle.zi_universe.proofs.loading.load.Goals as goal

pub returns-in_err-wanted-clause-refuses : goal.returns-in_err-wanted-clause-refuses
returns-in_err-wanted-clause-refuses g c =
    let q = err_from_is_err_and c.from_residual.result c.from_residual.ensures.1 in
    rw (q.1, q.2) (refuses_first (task c.args.req.now c.args.policy.now (names_of c.args.stored.now c.args.packages.now)) (g.F.Feeds.seen c.args.feeds.now))

pub returns-in_err-interfaces-clause-refuses : goal.returns-in_err-interfaces-clause-refuses
returns-in_err-interfaces-clause-refuses g c =
    let q = err_from_is_err_and c.from_residual-in_err-interfaces.result c.from_residual-in_err-interfaces.ensures.1 in
    let P : Task → Type 0 = λ t. RefusesAsking t (g.F.Feeds.seen c.args.feeds.now) c.in_err-interfaces.field-0.0 (g.F.Feeds.seen c.load_all.new.feeds) in
    rw (q.1, q.2) (subst P c.in_ok-wanted.ensures c.in_err-interfaces.ensures.all)

pub from_whole-requires : goal.from_whole-requires
from_whole-requires g c =
    whole (holding (g.F.Feeds.seen c.args.feeds.now)) c.in_ok-wanted.wanted.req c.in_ok-wanted.wanted.policy (store_of c.in_ok-wanted.wanted) c.in_ok-interfaces.interfaces c.in_ok-interfaces.ensures.all.loads

pub returns-clause-loads : goal.returns-clause-loads
returns-clause-loads g c =
    let seen = g.F.Feeds.seen c.args.feeds.now in
    let new = g.F.Feeds.seen c.load_all.new.feeds in
    let P : Task → Type 0 = λ t. LoadsAsking t seen c.in_ok-interfaces.interfaces new in
    let Q : List Interface → Type 0 = λ is. LoadsAsking (task c.args.req.now c.args.policy.now (names_of c.args.stored.now c.args.packages.now)) seen is new in
    subst Q (sym c.from_whole.ensures) (subst P c.in_ok-wanted.ensures c.in_ok-interfaces.ensures.all)

pub returns-clause-rooted : goal.returns-clause-rooted
returns-clause-rooted g c =
    let wanted = c.in_ok-wanted.wanted in
    let P : List Interface → Type 0 = λ is. BeginsWith is c.args.req.now.interface in
    let Q : Task → Type 0 = λ t. BeginsWith c.in_ok-interfaces.interfaces t.req.interface in
    subst P (sym c.from_whole.ensures) (subst Q c.in_ok-wanted.ensures
    (begins (holding (g.F.Feeds.seen c.args.feeds.now)) wanted.req wanted.policy (store_of wanted) c.in_ok-interfaces.interfaces c.in_ok-interfaces.ensures.all.loads))
