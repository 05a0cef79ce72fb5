use Rattle.std.proofs.Common.{◌≡◌, ◌∙◌, sym, ap, reverse, take, drop}
use Rattle.zi_tree.specs.Paths.{found, removed}
use Rattle.zi_tree.specs.Ways.{joined, way}
use Rattle.zi_tree.proofs.Rests.{none_removed}
use Rattle.zi_tree.proofs.tree.Tree.take.Goals as goal

pub returns-clause-none : goal.returns-clause-none
returns-clause-none c =
    let front : c.split_at.result.0.now ≡ take c.go_down-depth.result c.as_slice-parts.result.now = c.split_at.ensures.front in
    let back : c.split_at.result.1.now ≡ drop c.go_down-depth.result c.as_slice-parts.result.now = c.split_at.ensures.back in
    let new : c.go_up.new.here ≡ removed c.as_slice-parts.result.now c.args.self.now =
    c.go_up.ensures ∙ ap (λ w. joined (reverse w) c.go_down-depth.new.above c.take_out-taken.new.tree) front
    ∙ ap (joined (way c.as_slice-parts.result.now c.go_down-depth.result) c.go_down-depth.new.above) (c.take_out-taken.ensures.left ∙ ap (λ r. removed r c.go_down-depth.new.here) back)
    ∙ sym c.go_down-depth.ensures.leads.removes in
    λ h. new ∙ none_removed c.as_slice-parts.result.now c.args.self.now (c.go_down-depth.ensures.leads.finds ∙ ap (λ r. found r c.go_down-depth.new.here) (sym back) ∙ sym c.take_out-taken.ensures.taken ∙ h)
