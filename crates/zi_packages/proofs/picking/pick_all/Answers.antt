use Rattle.std.proofs.Common.{◌++◌, List, ap, sym, subst, ◌∙◌, append-nil, arith}
use Rattle.std.specs.Prelude.{fold}
use Rattle.std.proofs.lemmas.List.{take_all}
use Rattle.zi_parts.specs.declared.types.Impl.{Impl}
use Rattle.zi_packages.specs.Natives.{with_new}
use Rattle.zi_packages.specs.Picks.{HasPicked, made_named, all_named, all_picked}
use Rattle.zi_packages.proofs.RowLaws.{flat_next}
use Rattle.zi_packages.proofs.PickLaws.{no_items, none_picked, none_at, at_turn}
use Rattle.zi_packages.proofs.picking.pick_all.Goals as goal

pub returns-then-is_empty-clause-are : goal.returns-then-is_empty-clause-are
returns-then-is_empty-clause-are c =
    ap (λ q. fold with_new c.args.impls.now (all_named q)) (no_items c.args.named.now c.if-is_empty.ensures)
    ∙ sym (ap (λ q. c.args.impls.now ++ all_picked q) c.new-picks.ensures.items ∙ append-nil c.args.impls.now)

pub returns-then-is_empty-clause-at : goal.returns-then-is_empty-clause-at
returns-then-is_empty-clause-at c = λ ns h. none_at ns c.new-picks.result.items c.new-picks.ensures.items

pub loop-one-init : goal.loop-one-init
loop-one-init c = record {
  picks = none_picked c.args.impls.now c.in_ok-ids.ids.keys c.new-picks.result.items c.new-picks.ensures.items c.in_ok-ids.ensures;
  at = λ ns h. none_at ns c.new-picks.result.items c.new-picks.ensures.items;
}

pub loop-one-preserved : goal.loop-one-preserved
loop-one-preserved c = record {
  picks =
      let P : List Impl → Type 0 = λ q. HasPicked c.args.impls.now c.pick_rows.new.ids.keys c.pick_rows.new.picks.items q in
      subst P (sym (flat_next made_named c.args.named.now c.loop-one.one-index c.one-item.result c.args.impls.now c.loop-one-test.true c.one-item.is))
      (c.in_ok-pick_rows.ensures.picks c.args.impls.now _ c.loop-one.invariant.picks);
  at = λ ns h. c.in_ok-pick_rows.ensures.at ns (at_turn ns c.args.named.now c.loop-one.one-index c.one-item.result c.loop-one-test.true c.one-item.is h) (c.loop-one.invariant.at ns h);
}

pub returns-clause-are : goal.returns-clause-are
returns-clause-are c =
    ap (λ q. fold with_new c.args.impls.now (all_named q)) (sym (take_all c.loop-one.one-index c.args.named.now (let f = c.loop-one-test.false in omega (arith, f)))) ∙ c.loop-one.invariant.picks.are

pub returns-clause-at : goal.returns-clause-at
returns-clause-at c = c.loop-one.invariant.at
