use Rattle.std.proofs.Common.{◌≡◌, ◌+◌, ◌≤◌, ◌∙◌, ◌++◌, ◌∷◌, [], length, length-append, ap, sym, subst, arith}
use Rattle.zi_walk.specs.declared.tasks.Node.{Node}
use Rattle.zi_walk.specs.Lists.{list_at, lists_of, AreEarlier}
use Rattle.zi_walk.proofs.ListLaws.{length-lists, lists_last, earlier-last}
use Rattle.zi_walk.proofs.tasks.Tasks.add.Goals as goal

pub invariant_of-self-2 : goal.invariant_of-self-2
invariant_of-self-2 c =
    let xs = c.self.inside.nodes.items in
    let x : Node = record { task = c.args.task; later = c.args.later } in
    let n : length c.args.self.now ≡ length xs + 1 = ap length (sym c.self.view_is) ∙ length-lists xs in
    let r = c.requires in
    let l : c.args.later ≤ length xs = omega (arith, n, r) in
    subst AreEarlier (sym c.in_ok-push.ensures.items) (earlier-last xs x c.self.invariant l)

pub returns-clause-added : goal.returns-clause-added
returns-clause-added c =
    let xs = c.self.inside.nodes.items in
    let x : Node = record { task = c.args.task; later = c.args.later } in
    let n : length c.args.self.now ≡ length xs + 1 = ap length (sym c.self.view_is) ∙ length-lists xs in
    let m : length (lists_of c.push.new.self.items) ≡ length (xs ++ x ∷ []) + 1 = length-lists c.push.new.self.items ∙ ap (λ ys. length ys + 1) c.in_ok-push.ensures.items in
    let k : length (xs ++ x ∷ []) ≡ length xs + 1 = length-append xs (x ∷ []) in
    let l = c.len.ensures in
    record {
      lists = ap lists_of c.in_ok-push.ensures.items ∙ lists_last xs x ∙ ap (λ ls. ls ++ (c.args.task ∷ list_at ls c.args.later) ∷ []) c.self.view_is;
      number = omega (arith, n, m, k, l);
    }
