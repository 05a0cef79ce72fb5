use Rattle.std.proofs.Common.{◌≡◌, false, ◌∷◌, map, subst}
use Rattle.zi_outside.specs.Views.{holding}
use Rattle.zi_store.specs.Keeping.{Keeps, is_names}
use Rattle.zi_universe.specs.Loading.{names_of as store_names}
use Rattle.zi_choosing.specs.Wanted.{requirement_of}
use Rattle.zi_choosing.specs.Knowing.{all_names}
use Rattle.zi_fetching.specs.Known.{is_known}
use Rattle.zi_fetching.specs.Fetching.{tried_names}
use Rattle.zi_fetching.proofs.FetchableLaws.{all_fetchable}
use Rattle.zi_launching.proofs.LaunchLaws.{names_for}
use Rattle.zi_launching.proofs.PlacesLaws.{new_behind}
use Rattle.zi_launching.proofs.RunLaws.{unfound_run, unfetched_run, fetched_run}
use Rattle.zi_launching.specs.Run.{RunsProgram}
use Rattle.zi_launching.proofs.StartLaws.{launched_then, unstarted_then}
use Rattle.zi_launching.proofs.running.prepare_run.Goals as goal

pub fetch_all-requires : goal.fetch_all-requires
fetch_all-requires g c =
    all_fetchable c.args.asked.ask c.in-Ok.ensures.answer.0 (g.F.Feeds.seen c.find_best.new.feeds) c.in-Ok.chosen c.interfaces-whole.ensures.whole c.in-Ok.ensures.answer.2

pub prepared-requires-clause-stores : goal.prepared-requires-clause-stores
prepared-requires-clause-stores g c =
    names_for g.R.Shelf.seen (Keeps is_names) (g.K.Shelf.seen c.args.shelf.now) (g.K.Shelf.seen c.find_best.new.shelf) c.args.others.now c.find_best.new.others c.in-Ok.chosen.known.each
    c.in-Ok.ensures.answer.1.0.1 c.in-Ok.ensures.stores

pub prepared-requires-clause-names : goal.prepared-requires-clause-names
prepared-requires-clause-names g c =
    let f = c.in-Ok.ensures.answer in
    let chosen = c.in-Ok.chosen in
    c.names_of_shims_are_right.ensures.chosen (holding f.0) (requirement_of c.args.asked.ask) c.args.asked.ask.policy (store_names (all_names chosen.known.each) chosen.known.packages) chosen.universe chosen.choice.picks chosen.sels
    f.2.loaded.loads f.2.selected

pub prepared-requires-clause-fresh : goal.prepared-requires-clause-fresh
prepared-requires-clause-fresh g c d new =
    let f = c.in-Ok-fetch_all.ensures in
    new_behind c.in-Ok.chosen.known.each (tried_names f.tried) d (subst (λ n. is_known n d ≡ false) f.fetches.names new)

pub returns-in-Err : goal.returns-in-Err
returns-in-Err g c = λ out spawner then outcome h.
    let fed = g.F.Feeds.seen c.args.feeds.now in
    let new = g.F.Feeds.seen c.find_best.new.feeds in
    let shelf = g.K.Shelf.seen c.args.shelf.now in
    let mid = g.K.Shelf.seen c.find_best.new.shelf in
    let others = map g.R.Shelf.seen c.args.others.now in
    let thens = map g.R.Shelf.seen c.find_best.new.others in
    let web = g.W.Web.seen c.args.web.now in
    unstarted_then
    (λ s o. RunsProgram c.args.asked c.args.vars.now c.args.user.now (record { feeds = fed; shelf = shelf; others = others; web = web; spawner = spawner; out = out })
    (record { feeds = new; shelf = mid; others = thens; web = web; spawner = s; out = out }) o)
    c.in-Err.outcome spawner then outcome
    (unfound_run c.args.asked c.args.vars.now c.args.user.now fed new shelf mid others thens web spawner out c.in-Err.outcome c.in-Err.ensures) h

pub returns-in-Ok-fetch_all : goal.returns-in-Ok-fetch_all
returns-in-Ok-fetch_all g c = λ out spawner then outcome h.
    fetched_run c.args.asked c.args.vars.now c.args.user.now (g.F.Feeds.seen c.args.feeds.now) (g.F.Feeds.seen c.find_best.new.feeds) (g.K.Shelf.seen c.args.shelf.now) (g.K.Shelf.seen c.find_best.new.shelf)
    (map g.R.Shelf.seen c.args.others.now) (map g.R.Shelf.seen c.find_best.new.others) c.in-Ok.chosen c.in-Ok.ensures (g.W.Web.seen c.args.web.now) (g.W.Web.seen c.fetch_all.new.web) (g.K.Shelf.seen c.fetch_all.new.shelf)
    (g.K.Shelf.seen c.prepared.new.shelf) (map g.R.Shelf.seen c.prepared.new.others) spawner then out c.in-Ok-fetch_all.stored outcome
    c.in-Ok-fetch_all.ensures
    (c.commands_of_shims_are_there.ensures (holding c.in-Ok.ensures.answer.0) (requirement_of c.args.asked.ask) c.args.asked.ask.policy (store_names (all_names c.in-Ok.chosen.known.each) c.in-Ok.chosen.known.packages)
    c.in-Ok.chosen.universe c.in-Ok.chosen.choice.picks c.in-Ok.chosen.sels c.in-Ok.ensures.answer.2.loaded.loads c.in-Ok.ensures.answer.2.best.valid c.in-Ok.ensures.answer.2.selected)
    (launched_then (record { sels = c.in-Ok.chosen.sels; each = c.in-Ok.chosen.known.each; stored = c.in-Ok-fetch_all.stored; vars = c.args.vars.now; user = c.args.user.now })
    (g.K.Shelf.seen c.fetch_all.new.shelf ∷ map g.R.Shelf.seen c.find_best.new.others) (g.K.Shelf.seen c.prepared.new.shelf ∷ map g.R.Shelf.seen c.prepared.new.others)
    c.prepared.result spawner then outcome c.prepared.ensures h)

pub returns : goal.returns
returns g c = λ out spawner then outcome h.
    let fed = g.F.Feeds.seen c.args.feeds.now in
    let new = g.F.Feeds.seen c.find_best.new.feeds in
    let shelf = g.K.Shelf.seen c.args.shelf.now in
    let mid = g.K.Shelf.seen c.find_best.new.shelf in
    let after = g.K.Shelf.seen c.fetch_all.new.shelf in
    let others = map g.R.Shelf.seen c.args.others.now in
    let thens = map g.R.Shelf.seen c.find_best.new.others in
    let web = g.W.Web.seen c.args.web.now in
    let got = g.W.Web.seen c.fetch_all.new.web in
    unstarted_then
    (λ s o. RunsProgram c.args.asked c.args.vars.now c.args.user.now (record { feeds = fed; shelf = shelf; others = others; web = web; spawner = spawner; out = out })
    (record { feeds = new; shelf = after; others = thens; web = got; spawner = s; out = out }) o)
    c.in-Err-fetch_all.outcome spawner then outcome
    (unfetched_run c.args.asked c.args.vars.now c.args.user.now fed new shelf mid others thens c.in-Ok.chosen c.in-Ok.ensures web got after spawner out c.in-Err-fetch_all.outcome c.in-Err-fetch_all.ensures) h
