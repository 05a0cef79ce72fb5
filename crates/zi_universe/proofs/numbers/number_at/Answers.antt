use Rattle.std.proofs.Common.{◌-◌, List, ap, sym, ◌∙◌, arith}
use Rattle.std.specs.Ordering.{is_lt}
use Rattle.std.specs.Prelude.{if◌then◌else◌}
use Rattle.zi_version.specs.Value.{version_cmp}
use Rattle.zi_version.specs.First.{first_cmp}
use Rattle.zi_universe.specs.declared.numbers.PlacedVersion.{PlacedVersion}
use Rattle.zi_universe.proofs.NumberLemmas.{cmp_there, first_counted, next_counted}
use Rattle.zi_universe.proofs.numbers.number_at.Goals as goal

pub returns-then-at-eq0 : goal.returns-then-at-eq0
returns-then-at-eq0 c = λ p e. first_counted c.args.order.now c.args.at p c.requires.sorted c.if-at-eq0.true e

pub returns : goal.returns
returns c = λ p e.
    let ps : List PlacedVersion = c.args.order.now in
    let x : PlacedVersion = c.index-order-at.result in
    let y : PlacedVersion = c.index-order-at-2.result in
    next_counted ps c.args.at c.args.before _ x y p c.requires.sorted c.requires.within (let z = c.if-at-eq0.false in omega (arith, z))
    c.index-order-at.is c.index-order-at-2.is e
    (c.behind.ensures ∙ ap (λ b. if b then c.args.at else c.args.before.first) (c.is_lt.ensures ∙ ap is_lt (c.first_cmp.ensures ∙ cmp_there first_cmp ps (c.args.at - 1) c.args.at x y c.index-order-at.is c.index-order-at-2.is)))
    (c.behind-2.ensures ∙ ap (λ b. if b then c.args.at else c.args.before.whole) (c.is_lt-2.ensures ∙ ap is_lt (c.cmp.ensures ∙ cmp_there version_cmp ps (c.args.at - 1) c.args.at x y c.index-order-at.is c.index-order-at-2.is))) c.requires.before
