use Rattle.std.proofs.Common.{ap, refl, ◌∙◌, Some, None}
use Rattle.zi_feed.proofs.ShareLaws.{none_shared, no_natives, at_first, first_levels, first_deps}
use Rattle.zi_feed.proofs.shares.Shares.nothing.Goals as goal

pub returns-clause-none : goal.returns-clause-none
returns-clause-none c = none_shared _ (c.from_vec-of.ensures ∙ c.in_ok-room.ensures.items) (first_levels c.new-levels.result c.push-3.new.self _ c.new-levels.ensures c.in_ok-push-3.ensures.ok refl)

pub returns-clause-no_natives : goal.returns-clause-no_natives
returns-clause-no_natives c = no_natives _ c.new-of_natives.ensures

pub returns-clause-fit : goal.returns-clause-fit
returns-clause-fit c = record {
  version = at_first c.new-versions.result c.push.new.self None c.new-versions.ensures c.in_ok-push.ensures.ok;
  langs = at_first c.new-langs.result c.push-2.new.self c.in_ok-none.none c.new-langs.ensures c.in_ok-push-2.ensures.ok ∙ ap (λ q. Some q) (c.in_ok-none.ensures ∙ c.new-empty.ensures);
  level = first_deps c.new-levels.result c.push-3.new.self _ _ c.new-levels.ensures c.in_ok-push-3.ensures.ok c.new-deps.ensures;
}
