use Rattle.std.proofs.Common.{◌≡◌, ◌||◌, ◌++◌, map, codes, refl, sym, ap, arith, ◌∙◌}
use Rattle.std.proofs.lemmas.Result.{IfOk-weaker}
use Rattle.zi_elements.specs.declared.element.Element.{Element}
use Rattle.zi_elements.specs.Forest.{element_view, nodes_view}
use Rattle.zi_reading.specs.Ways.{ways_of}
use Rattle.zi_reading.specs.Reading.{is, is_closed}
use Rattle.zi_faults.specs.Faults.{is_impl}
use Rattle.zi_faults.specs.Carrying.{said_by, seen_view}
use Rattle.zi_feed.specs.Natives.{is_package}
use Rattle.zi_faults.proofs.SeenLaws.{seen_next, seen_end, checked_more, open_seen}
use Rattle.zi_faults.proofs.SizeLaws.{size, size_at}
use Rattle.zi_feed.proofs.GatherLaws.{is_open, is_second}
use Rattle.zi_feed.proofs.ImplLaws.{impls_next, impls_end, no_impls_at, no_impls_in, impls_in_group, impls_at_one, read_sites}
use Rattle.zi_feed.proofs.NativeLaws.{natives_next, natives_end, no_natives_at, no_natives_in, natives_in_group, natives_at_one}
use Rattle.zi_feed.proofs.ShareLaws.{tables_on, fit_grown, gathered_grown}
use Rattle.zi_feed.proofs.walking.+gathering.Goals as goal

pub gather-gather_node-requires : goal.gather-gather_node-requires
gather-gather_node-requires t c =
    let s = size_at c.as_slice-node-items.result.now c.loop-node.node-index c.node-item.result c.loop-node-test.true c.node-item.is in
    let e = ap (λ ns. size (nodes_view ns)) (c.as_slice-node-items.ensures ∙ ap (λ (d : Element). d.children) c.element.ensures) in (
      omega (arith, s, e),
      (
        c.requires.checked,
        (
          c.requires.added,
          (
            c.requires.made,
            (
              c.loop-node.invariant.right,
              fit_grown c.args.found.now.gathered.shares c.loop-node.found.gathered.shares c.args.around.now.numbers c.args.around.now.made.version c.args.around.now.made.langs
                  c.args.around.now.added.deps c.loop-node.invariant.tables c.requires.fit,
            ),
          ),
        ),
      ),
    )

pub gather-loop-node-preserved : goal.gather-loop-node-preserved
gather-loop-node-preserved t c = record {
  checked = λ h. c.in_ok-gather_node.ensures.checked (c.loop-node.invariant.checked h);
  seen = seen_next _ _ _ _ _ _ _ _ _ _ c.loop-node-test.true c.node-item.is refl c.in_ok-gather_node.ensures.seen c.loop-node.invariant.seen;
  impls = impls_next _ _ _ _ _ _ _ _ _ _ _ c.loop-node-test.true c.node-item.is refl c.in_ok-gather_node.ensures.impls c.loop-node.invariant.impls;
  natives = natives_next _ _ _ _ _ _ _ _ _ _ _ c.loop-node-test.true c.node-item.is refl c.in_ok-gather_node.ensures.natives c.loop-node.invariant.natives;
  tables = tables_on _ _ _ c.loop-node.invariant.tables c.in_ok-gather_node.ensures.shares.tables;
  right = c.in_ok-gather_node.ensures.shares.right;
}

pub gather-returns-clause-seen : goal.gather-returns-clause-seen
gather-returns-clause-seen t c = seen_end _ _ _ _ _ _ _ c.loop-node-test.false c.loop-node.invariant.seen

pub gather-returns-clause-impls : goal.gather-returns-clause-impls
gather-returns-clause-impls t c = impls_end _ _ _ _ _ _ _ _ c.loop-node-test.false c.loop-node.invariant.impls

pub gather-returns-clause-natives : goal.gather-returns-clause-natives
gather-returns-clause-natives t c = natives_end _ _ _ _ _ _ _ _ c.loop-node-test.false c.loop-node.invariant.natives

pub gather_at-returns-then-not-branch-clause-impls : goal.gather_at-returns-then-not-branch-clause-impls
gather_at-returns-then-not-branch-clause-impls t c = no_impls_at _ _ _ _ (element_view c.args.e.now) _ (sym c.in_ok-stands.ensures ∙ c.if-not-branch.true)

pub gather_at-returns-then-not-branch-clause-natives : goal.gather_at-returns-then-not-branch-clause-natives
gather_at-returns-then-not-branch-clause-natives t c = no_natives_at _ _ _ _ (element_view c.args.e.now) _ (sym c.in_ok-stands.ensures ∙ c.if-not-branch.true)

pub gather_at-returns-then-not-branch-2-clause-impls : goal.gather_at-returns-then-not-branch-2-clause-impls
gather_at-returns-then-not-branch-2-clause-impls t c =
    IfOk-weaker c.see.result _ _ (λ x h. no_impls_in _ _ _ _ (element_view c.args.e.now) _ (sym c.in_ok-gathers.ensures ∙ c.if-not-branch-2.true)) c.see.ensures.checked

pub gather_at-returns-then-not-branch-2-clause-natives : goal.gather_at-returns-then-not-branch-2-clause-natives
gather_at-returns-then-not-branch-2-clause-natives t c =
    IfOk-weaker c.see.result _ _ (λ x h. no_natives_in _ _ _ _ (element_view c.args.e.now) _ (sym c.in_ok-gathers.ensures ∙ c.if-not-branch-2.true)) c.see.ensures.checked

pub gather_at-gather-requires : goal.gather_at-gather-requires
gather_at-gather-requires t c = (
  omega arith,
  (
    c.in_ok-inner.ensures.checked,
    (
      c.in_ok-inner.ensures.latest,
      (
        c.in_ok-inner.ensures.made,
        (
          gathered_grown c.args.found.now.gathered c.around_with.new.shares c.in_ok-inner.ensures.adds c.requires.shared,
          c.in_ok-inner.ensures.fit,
        ),
      ),
    ),
  ),
)

pub gather_at-returns-then-is-clause-checked : goal.gather_at-returns-then-is-clause-checked
gather_at-returns-then-is-clause-checked t c =
    IfOk-weaker c.gather.result _ _
    (λ x g. λ h. g (checked_more (ways_of c.args.ways) _ _ _ c.in_ok-push.ensures.items h c.in_ok-inner.ensures.checked)) c.gather.ensures.checked

pub gather_at-returns-then-is-clause-seen : goal.gather_at-returns-then-is-clause-seen
gather_at-returns-then-is-clause-seen t c =
    IfOk-weaker c.gather.result _ _
    (λ x h. open_seen _ _ c.args.e.now _ _ _ _ c.again.ensures c.in_ok-push.ensures.items c.in_ok-inner.ensures.said
    (is_open (is (codes "group") (element_view c.args.e.now)) (is_impl (element_view c.args.e.now) || is_package (element_view c.args.e.now)) (is_closed (element_view c.args.e.now)) (sym c.in_ok-gathers.ensures ∙ c.if-not-branch-2.false)) h
    ∙ ap (λ v. map seen_view c.args.found.now.seen.items ++ v) (sym (read_sites _ _ _ _ (sym c.in_ok-stands.ensures ∙ c.if-not-branch.false)))) c.gather.ensures.seen

pub gather_at-returns-then-is-clause-impls : goal.gather_at-returns-then-is-clause-impls
gather_at-returns-then-is-clause-impls t c =
    IfOk-weaker c.gather.result _ _
    (λ x h. impls_in_group _ _ _ _ (element_view c.args.e.now) _ _ (said_by c.in_ok-inner.inner.said) _
    (sym c.in_ok-stands.ensures ∙ c.if-not-branch.false) (is_open (is (codes "group") (element_view c.args.e.now)) (is_impl (element_view c.args.e.now) || is_package (element_view c.args.e.now)) (is_closed (element_view c.args.e.now)) (sym c.in_ok-gathers.ensures ∙ c.if-not-branch-2.false)) (sym c.is.ensures ∙ c.if-is.true)
    c.in_ok-inner.ensures.said c.in_ok-inner.ensures.added h) c.gather.ensures.impls

pub gather_at-returns-then-is-clause-natives : goal.gather_at-returns-then-is-clause-natives
gather_at-returns-then-is-clause-natives t c =
    IfOk-weaker c.gather.result _ _
    (λ x h. natives_in_group _ _ _ _ (element_view c.args.e.now) _ _ (said_by c.in_ok-inner.inner.said) _
    (sym c.in_ok-stands.ensures ∙ c.if-not-branch.false) (is_open (is (codes "group") (element_view c.args.e.now)) (is_impl (element_view c.args.e.now) || is_package (element_view c.args.e.now)) (is_closed (element_view c.args.e.now)) (sym c.in_ok-gathers.ensures ∙ c.if-not-branch-2.false)) (sym c.is.ensures ∙ c.if-is.true)
    c.in_ok-inner.ensures.said c.in_ok-inner.ensures.added h) c.gather.ensures.natives

pub gather_at-returns-then-is-clause-shares : goal.gather_at-returns-then-is-clause-shares
gather_at-returns-then-is-clause-shares t c =
    IfOk-weaker c.gather.result _ _ (λ x g. record { tables = tables_on _ _ _ c.in_ok-inner.ensures.adds.tables g.tables; right = g.right }) c.gather.ensures.shares

pub gather_at-add_at-requires-clause-one : goal.gather_at-add_at-requires-clause-one
gather_at-add_at-requires-clause-one t c =
    is_second (is (codes "group") (element_view c.args.e.now)) (is_impl (element_view c.args.e.now) || is_package (element_view c.args.e.now)) (is_closed (element_view c.args.e.now)) (sym c.in_ok-gathers.ensures ∙ c.if-not-branch-2.false) (sym c.is.ensures ∙ c.if-is.false)

pub gather_at-add_at-requires-clause-read : goal.gather_at-add_at-requires-clause-read
gather_at-add_at-requires-clause-read t c =
    is_open (is (codes "group") (element_view c.args.e.now)) (is_impl (element_view c.args.e.now) || is_package (element_view c.args.e.now)) (is_closed (element_view c.args.e.now)) (sym c.in_ok-gathers.ensures ∙ c.if-not-branch-2.false)

pub gather_at-add_at-requires-clause-shared : goal.gather_at-add_at-requires-clause-shared
gather_at-add_at-requires-clause-shared t c =
    gathered_grown c.args.found.now.gathered c.around_with.new.shares c.in_ok-inner.ensures.adds c.requires.shared

pub gather_at-returns-clause-checked : goal.gather_at-returns-clause-checked
gather_at-returns-clause-checked t c =
    IfOk-weaker c.add_at.result _ _
    (λ x g. λ h. c.in_ok-walk.ensures.checked (checked_more (ways_of c.args.ways) _ _ _ c.in_ok-push.ensures.items h c.in_ok-inner.ensures.checked)) c.add_at.ensures.shares

pub gather_at-returns-clause-seen : goal.gather_at-returns-clause-seen
gather_at-returns-clause-seen t c =
    IfOk-weaker c.add_at.result _ _
    (λ x h. open_seen _ _ c.args.e.now _ _ _ _ c.again.ensures c.in_ok-push.ensures.items c.in_ok-inner.ensures.said
    (is_open (is (codes "group") (element_view c.args.e.now)) (is_impl (element_view c.args.e.now) || is_package (element_view c.args.e.now)) (is_closed (element_view c.args.e.now)) (sym c.in_ok-gathers.ensures ∙ c.if-not-branch-2.false)) c.in_ok-walk.ensures.seen
    ∙ ap (λ v. map seen_view c.args.found.now.seen.items ++ v) (sym (read_sites _ _ _ _ (sym c.in_ok-stands.ensures ∙ c.if-not-branch.false)))) c.add_at.ensures.shares

pub gather_at-returns-clause-impls : goal.gather_at-returns-clause-impls
gather_at-returns-clause-impls t c =
    IfOk-weaker c.add_at.result _ _
    (λ x h. impls_at_one _ _ _ _ (element_view c.args.e.now) _ _ (said_by c.in_ok-inner.inner.said) _
    (sym c.in_ok-stands.ensures ∙ c.if-not-branch.false) (is_open (is (codes "group") (element_view c.args.e.now)) (is_impl (element_view c.args.e.now) || is_package (element_view c.args.e.now)) (is_closed (element_view c.args.e.now)) (sym c.in_ok-gathers.ensures ∙ c.if-not-branch-2.false))
    (is_second (is (codes "group") (element_view c.args.e.now)) (is_impl (element_view c.args.e.now) || is_package (element_view c.args.e.now)) (is_closed (element_view c.args.e.now)) (sym c.in_ok-gathers.ensures ∙ c.if-not-branch-2.false) (sym c.is.ensures ∙ c.if-is.false))
    c.in_ok-inner.ensures.said c.in_ok-inner.ensures.added h) c.add_at.ensures.impls

pub gather_at-returns-clause-natives : goal.gather_at-returns-clause-natives
gather_at-returns-clause-natives t c =
    IfOk-weaker c.add_at.result _ _
    (λ x h. natives_at_one _ _ _ _ (element_view c.args.e.now) _ _ (said_by c.in_ok-inner.inner.said) _
    (sym c.in_ok-stands.ensures ∙ c.if-not-branch.false) (is_open (is (codes "group") (element_view c.args.e.now)) (is_impl (element_view c.args.e.now) || is_package (element_view c.args.e.now)) (is_closed (element_view c.args.e.now)) (sym c.in_ok-gathers.ensures ∙ c.if-not-branch-2.false))
    (is_second (is (codes "group") (element_view c.args.e.now)) (is_impl (element_view c.args.e.now) || is_package (element_view c.args.e.now)) (is_closed (element_view c.args.e.now)) (sym c.in_ok-gathers.ensures ∙ c.if-not-branch-2.false) (sym c.is.ensures ∙ c.if-is.false))
    c.in_ok-inner.ensures.said c.in_ok-inner.ensures.added h) c.add_at.ensures.natives

pub gather_at-returns-clause-shares : goal.gather_at-returns-clause-shares
gather_at-returns-clause-shares t c =
    IfOk-weaker c.add_at.result _ _ (λ x g. record { tables = tables_on _ _ _ c.in_ok-inner.ensures.adds.tables g.tables; right = g.right }) c.add_at.ensures.shares
