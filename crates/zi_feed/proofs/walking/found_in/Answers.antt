use Rattle.std.proofs.Common.{List, map, ◌++◌, sym, ap, subst, arith, ◌∙◌}
use Rattle.zi_elements.specs.Forest.{element_view, nodes_view}
use Rattle.zi_reading.specs.Ways.{InFeed}
use Rattle.zi_faults.specs.Carrying.{said_by, seen_view, carried_sites, AreChecked}
use Rattle.zi_faults.specs.declared.carrying.Seen.{Seen}
use Rattle.zi_feed.specs.Inward.{made_of, IsAdded}
use Rattle.zi_feed.proofs.AddedLaws.{none_added}
use Rattle.zi_parts.specs.declared.types.Impl.{Impl}
use Rattle.zi_parts.specs.declared.types.Native.{Native}
use Rattle.zi_feed.specs.Shares.{AreShared, NativesAreShared}
use Rattle.zi_feed.proofs.ImplLaws.{impls_are}
use Rattle.zi_feed.proofs.NativeLaws.{natives_are}
use Rattle.zi_feed.proofs.ShareLaws.{nothing_fits}
use Rattle.zi_feed.proofs.walking.found_in.Goals as goal

pub gather-requires-clause-added : goal.gather-requires-clause-added
gather-requires-clause-added c = subst IsAdded (sym c.in_ok-around.ensures.added) none_added

pub gather-requires-clause-made : goal.gather-requires-clause-made
gather-requires-clause-made c = c.in_ok-around.ensures.made ∙ ap (made_of (InFeed c.args.uri.now)) (sym c.in_ok-around.ensures.said)

pub gather-requires-clause-shared : goal.gather-requires-clause-shared
gather-requires-clause-shared c =
    let P : List Impl → Type 0 = λ q. AreShared c.in_ok-shares.shares q in
    let Q : List Native → Type 0 = λ q. NativesAreShared c.in_ok-shares.shares q in
    record {
      impls = subst P (sym (c.from_vec-impls.ensures ∙ c.in_ok-room.ensures.items)) c.in_ok-shares.ensures.none;
      natives = subst Q (sym c.new-natives.ensures) c.in_ok-shares.ensures.no_natives;
    }

pub gather-requires-clause-fit : goal.gather-requires-clause-fit
gather-requires-clause-fit c =
    nothing_fits (InFeed c.args.uri.now) c.in_ok-shares.shares c.in_ok-around.around.numbers c.in_ok-around.around.made c.in_ok-around.around.added
    c.in_ok-around.ensures.numbers c.in_ok-around.ensures.made c.in_ok-around.ensures.added c.in_ok-shares.ensures.fit

pub gather-requires-clause-checked : goal.gather-requires-clause-checked
gather-requires-clause-checked c = c.in_ok-around.ensures.checked

pub returns-clause-seen : goal.returns-clause-seen
returns-clause-seen c =
    let inside = nodes_view c.args.root.now.children in
    c.in_ok-gather.ensures.seen
    ∙ (ap (λ v. map seen_view v ++ carried_sites (InFeed c.args.uri.now) (said_by c.in_ok-around.around.said) c.args.root.now.name inside) c.new-seen.ensures.items
    ∙ ap (λ s. carried_sites (InFeed c.args.uri.now) s c.args.root.now.name inside) c.in_ok-around.ensures.said)

pub returns-clause-checked : goal.returns-clause-checked
returns-clause-checked c =
    let P : List Seen → Type 0 = λ v. AreChecked (InFeed c.args.uri.now) v in
    c.in_ok-gather.ensures.checked (subst P (sym c.new-seen.ensures.items) (λ k d h. absurd (omega (arith, h))))

pub returns-clause-shares : goal.returns-clause-shares
returns-clause-shares c = c.in_ok-gather.ensures.shares.right

pub returns-clause-impls : goal.returns-clause-impls
returns-clause-impls c =
    impls_are (element_view c.args.root.now) _ _ c.from_vec-impls.result _ (said_by c.in_ok-around.around.said) _
    (c.from_vec-impls.ensures ∙ c.in_ok-room.ensures.items) c.in_ok-around.ensures.said c.in_ok-around.ensures.added c.in_ok-gather.ensures.impls

pub returns-clause-natives : goal.returns-clause-natives
returns-clause-natives c =
    natives_are (element_view c.args.root.now) _ _ c.new-natives.result _ (said_by c.in_ok-around.around.said) _ c.new-natives.ensures c.in_ok-around.ensures.said c.in_ok-around.ensures.added
    c.in_ok-gather.ensures.natives
