use Rattle.std.proofs.Common.{List, ap, subst, arith}
use Rattle.std.specs.Prelude.{fold}
use Rattle.std.proofs.lemmas.List.{take_all}
use Rattle.zi_parts.specs.declared.types.Impl.{Impl}
use Rattle.zi_packages.specs.Natives.{made_by, with_new}
use Rattle.zi_packages.specs.Picks.{HasPicked}
use Rattle.zi_packages.proofs.PickLaws.{rows_more}
use Rattle.zi_packages.proofs.picking.pick_rows.Goals as goal

pub loop-row-init : goal.loop-row-init
loop-row-init c = record { picks = λ is all h. h; at = λ ns there h. h }

pub loop-row-preserved : goal.loop-row-preserved
loop-row-preserved c = record {
  picks = λ is all h.
      let P : List Impl → Type 0 = λ q. HasPicked is c.pick_row.new.ids.keys c.pick_row.new.picks.items q in
      subst P (rows_more c.args.named.now.native.now c.args.named.now.rows.now c.loop-row.row-index c.row-item.result all c.loop-row-test.true c.row-item.is)
      (c.in_ok-pick_row.ensures.picks is _ (c.loop-row.invariant.picks is all h));
  at = λ ns there h. c.in_ok-pick_row.ensures.at ns there (c.loop-row.invariant.at ns there h);
}

pub returns-clause-picks : goal.returns-clause-picks
returns-clause-picks c = λ is all h.
    let P : List Impl → Type 0 = λ q. HasPicked is c.loop-row.ids.keys c.loop-row.picks.items q in
    subst P (ap (λ q. fold with_new all (made_by c.args.named.now.native.now q)) (take_all c.loop-row.row-index c.args.named.now.rows.now (let f = c.loop-row-test.false in omega (arith, f)))) (c.loop-row.invariant.picks is all h)

pub returns-clause-at : goal.returns-clause-at
returns-clause-at c = c.loop-row.invariant.at
