use Rattle.std.proofs.Common.{◌≡◌, ◌&&◌, [], true, false, sym, ◌∙◌, ap, arith, add-one}
use Rattle.zi_manifest.specs.Manifest.{is_bad, leaf_bad}
use Rattle.zi_tree.specs.Paths.{after}
use Rattle.zi_tree.proofs.After.{after_none, after_all}
use Rattle.zi_session.specs.AtPlace.{is_leaf}
use Rattle.zi_session.proofs.BeginLemmas.{bad_here, good_here}
use Rattle.zi_session.proofs.begin.bad_leaf.Goals as goal

pub loop-i-init : goal.loop-i-init
loop-i-init c = ap (leaf_bad []) (sym (after_none c.args.tree.now))

pub loop-i-preserved : goal.loop-i-preserved
loop-i-preserved c =
    let d = c.args.tree.now in
    let i = c.loop-i.i in
    let n = c.name_at-name.result.now in
    let x = c.node_at.result.now in
    let good : (is_leaf x && is_bad n) ≡ false = ap (λ m. is_leaf x && is_bad m) (sym c.as_str.ensures) ∙ sym c.is_bad_leaf.ensures ∙ c.if-is_bad_leaf.false in
    c.loop-i.invariant ∙ good_here d i n x c.name_at-name.ensures c.node_at.ensures good ∙ ap (λ j. leaf_bad [] (after j d)) (sym (add-one i))

pub returns-then-is_bad_leaf : goal.returns-then-is_bad_leaf
returns-then-is_bad_leaf c =
    let d = c.args.tree.now in
    let i = c.loop-i.i in
    let n = c.name_at-name.result.now in
    let x = c.node_at.result.now in
    let bad : (is_leaf x && is_bad n) ≡ true = ap (λ m. is_leaf x && is_bad m) (sym c.as_str.ensures) ∙ sym c.is_bad_leaf.ensures ∙ c.if-is_bad_leaf.true in
    sym (c.loop-i.invariant ∙ bad_here d i n x c.name_at-name.ensures c.node_at.ensures bad)

pub returns : goal.returns
returns c = sym (c.loop-i.invariant ∙ ap (leaf_bad []) (after_all c.args.tree.now c.loop-i.i (omega arith)))
