use Rattle.std.proofs.Common.{◌≡◌, ap, sym, ◌∙◌}
use Rattle.std.specs.Prelude.{slice_get}
use Rattle.std.proofs.lemmas.Option.{slice_get_within}
use Rattle.zi_feed.specs.declared.shares.Shares.{Shares}
use Rattle.zi_feed.specs.Shares.{deps_at}
use Rattle.zi_universe.proofs.KeyLemmas.{one_value}
use Rattle.zi_feed.proofs.ShareLaws.{deps_within}
use Rattle.zi_universe.proofs.naming.level_at.Goals as goal

pub shares_at-shares-requires : goal.shares_at-shares-requires
shares_at-shares-requires c = slice_get_within c.args.feeds.now c.args.key.feed c.requires.shares c.requires.there

pub at-requires : goal.at-requires
at-requires c =
    let same : c.shares_at-shares.result.now ≡ c.requires.shares = one_value (slice_get c.args.feeds.now c.args.key.feed) _ _ c.shares_at-shares.ensures c.requires.there in
    deps_within c.shares_at-shares.result.now.levels c.args.key.number c.requires.deps (ap (λ (q : Shares). deps_at q.levels c.args.key.number) same ∙ c.requires.at)

pub returns : goal.returns
returns c = λ s there.
    let same : c.shares_at-shares.result.now ≡ s = one_value (slice_get c.args.feeds.now c.args.key.feed) _ _ c.shares_at-shares.ensures there in
    ap (λ (q : Shares). slice_get q.levels c.args.key.number) (sym same) ∙ c.at.ensures
