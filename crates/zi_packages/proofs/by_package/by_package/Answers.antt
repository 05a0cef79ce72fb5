use Rattle.std.proofs.Common.{List, refl, take, subst, arith}
use Rattle.std.proofs.lemmas.List.{take_all}
use Rattle.zi_packages.specs.declared.types.PackageRow.{PackageRow}
use Rattle.zi_packages.specs.Picks.{FindsRows}
use Rattle.zi_packages.proofs.PickLaws.{finds_none, finds_more}
use Rattle.zi_packages.proofs.by_package.by_package.Goals as goal

pub loop-row-init : goal.loop-row-init
loop-row-init c = finds_none (take 0 c.args.rows.now) c.new-found.result.entries refl c.new-found.ensures.empty

pub loop-row-preserved : goal.loop-row-preserved
loop-row-preserved c = finds_more c.args.rows.now c.loop-row.row-index c.row-item.result _ _ c.loop-row-test.true c.row-item.is c.in_ok-add_row.ensures c.loop-row.invariant

pub returns : goal.returns
returns c =
    let P : List PackageRow → Type 0 = λ q. FindsRows q c.loop-row.found.entries in
    subst P (take_all c.loop-row.row-index c.args.rows.now (let f = c.loop-row-test.false in omega (arith, f))) c.loop-row.invariant
