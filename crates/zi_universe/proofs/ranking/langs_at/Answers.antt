use Rattle.std.proofs.Common.{Some, sym, ap, ◌∙◌}
use Rattle.std.specs.Prelude.{slice_get}
use Rattle.std.proofs.lemmas.Option.{slice_get_within}
use Rattle.zi_feed.specs.declared.shares.Shares.{Shares}
use Rattle.zi_universe.proofs.KeyLemmas.{feed_within, langs_in, langs_out}
use Rattle.zi_universe.proofs.ranking.langs_at.Goals as goal

pub shares_at-shares-requires : goal.shares_at-shares-requires
shares_at-shares-requires c = feed_within c.args.feeds.now c.args.key.feed (λ (s : Shares). slice_get s.langs c.args.key.number) c.requires.0 c.requires.1

pub at-langs-requires : goal.at-langs-requires
at-langs-requires c =
    slice_get_within c.shares_at-shares.result.now.langs c.args.key.number c.requires.0
    (langs_in c.args.feeds.now c.args.key c.shares_at-shares.result.now c.requires.0 c.shares_at-shares.ensures c.requires.1)

pub returns : goal.returns
returns c =
    langs_out c.args.feeds.now c.args.key c.shares_at-shares.result.now c.as_ref.result.now c.shares_at-shares.ensures (c.at-langs.ensures ∙ ap (λ q. Some q) (sym c.as_ref.ensures))
