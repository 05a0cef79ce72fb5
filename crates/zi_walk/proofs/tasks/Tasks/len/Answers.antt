use Rattle.std.proofs.Common.{◌≡◌, ◌+◌, ◌∙◌, length, ap, sym, arith}
use Rattle.zi_walk.proofs.ListLaws.{length-lists}
use Rattle.zi_walk.proofs.tasks.Tasks.len.Goals as goal

pub returns : goal.returns
returns c =
    let v = c.self.inside.nodes in
    let e : length c.args.self.now ≡ length v.items + 1 = ap length (sym c.self.view_is) ∙ length-lists v.items in
    let n = c.len.ensures in
    let k = v.ok.0 in
    omega (arith, e, n, k)
