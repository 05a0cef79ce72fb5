use Rattle.std.proofs.Common.{refl, sym, ap, ◌∙◌, option_copied}
use Rattle.zi_elements.specs.declared.element.Element.{Element}
use Rattle.zi_elements.specs.Forest.{element_view}
use Rattle.zi_feed.specs.Active.{kept_feed}
use Rattle.zi_feed.specs.Feeds.{feed_fault, feed_of}
use Rattle.zi_feed.proofs.FindingLaws.{kept_whole}
use Rattle.zi_feed.proofs.ShareLaws.{read_impls, read_natives}
use Rattle.zi_feed.proofs.from_tree.from_root.Goals as goal

pub returns-clause-reads : goal.returns-clause-reads
unfolding feed_of
returns-clause-reads c = (
  ap (λ (e : Element). feed_fault (element_view e) c.args.uri.now) (sym c.new-root.ensures) ∙ (sym c.in_ok-fault.ensures ∙ c.in_default.is),
  c.in_ok-shared_feed.ensures.feed
      ∙ (kept_whole (option_copied c.args.policy) (feed_of (element_view c.new-root.result) c.args.uri.now) _ _ _ _ refl c.in_ok-imports.ensures c.in_ok-found.ensures.impls c.in_ok-found.ensures.natives
      ∙ ap (λ (e : Element). kept_feed (option_copied c.args.policy) (feed_of (element_view e) c.args.uri.now)) c.new-root.ensures),
)

pub returns-clause-shares : goal.returns-clause-shares
returns-clause-shares c =
    read_impls c.in_ok-shared_feed.field-0 c.in_ok-found.found.gathered _ refl c.in_ok-shared_feed.ensures.feed c.in_ok-shared_feed.ensures.shares c.in_ok-found.ensures.shares

pub returns-clause-natives : goal.returns-clause-natives
returns-clause-natives c =
    read_natives c.in_ok-shared_feed.field-0 c.in_ok-found.found.gathered _ refl c.in_ok-shared_feed.ensures.feed c.in_ok-shared_feed.ensures.shares c.in_ok-found.ensures.shares
