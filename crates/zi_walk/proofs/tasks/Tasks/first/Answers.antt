use Rattle.std.proofs.Common.{◌≡◌, ◌+◌, ◌-◌, ◌∷◌, ◌∙◌, length, ap, sym, subst, arith}
use Rattle.std.specs.Prelude.{slice_get, Some}
use Rattle.zi_choice.proofs.TaskLaws.{slice_some}
use Rattle.zi_walk.specs.Lists.{list_at, lists_of}
use Rattle.zi_walk.proofs.ListLaws.{list_none, length-lists, list_of}
use Rattle.zi_walk.proofs.tasks.Tasks.first.Goals as goal

pub returns-then-list-eq0-clause-none : goal.returns-then-list-eq0-clause-none
returns-then-list-eq0-clause-none c =
    ap (list_at c.args.self.now) c.if-list-eq0.true ∙ ap (λ ls. list_at ls 0) (sym c.self.view_is) ∙ list_none c.self.inside.nodes.items

pub index-node-requires : goal.index-node-requires
index-node-requires c =
    let v = c.self.inside.nodes in
    let e : length c.args.self.now ≡ length v.items + 1 = ap length (sym c.self.view_is) ∙ length-lists v.items in
    let k = v.ok.0 in
    let r = c.requires in
    let z = c.if-list-eq0.false in
    omega (arith, e, k, r, z)

pub returns-clause-some : goal.returns-clause-some
returns-clause-some c =
    let xs = c.self.inside.nodes.items in
    let x = c.index-node.result.now in
    let e : length c.args.self.now ≡ length xs + 1 = ap length (sym c.self.view_is) ∙ length-lists xs in
    let r = c.requires in
    let z = c.if-list-eq0.false in
    let at : slice_get xs (c.args.list - 1) ≡ Some x = slice_some xs (c.args.list - 1) x (omega (arith, e, r, z)) c.index-node.ensures in
    let l = c.self.invariant (c.args.list - 1) x at in
    let n : 1 + (c.args.list - 1) ≡ c.args.list = omega (arith, z) in (
      subst (λ ls. list_at ls c.args.list ≡ x.task ∷ list_at ls x.later) c.self.view_is
          (subst (λ m. list_at (lists_of xs) m ≡ x.task ∷ list_at (lists_of xs) x.later) n (list_of xs (c.args.list - 1) x c.self.invariant at)),
      omega (arith, e, r, z, l),
    )
