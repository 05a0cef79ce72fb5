use Rattle.std.proofs.Common.{sym, ◌∙◌, ◌++◌, ap, map}
use Rattle.std.proofs.lemmas.List.{append-nil}
use Rattle.zi_plan.specs.Placed.{placed_for}
use Rattle.zi_plan.specs.Steps.{placed_seen, bound_seen}
use Rattle.zi_plan.proofs.BindingLaws.{dep_found, dep_absent}
use Rattle.zi_plan.proofs.binding.put_dep.Goals as goal

pub returns-in-Some : goal.returns-in-Some
returns-in-Some c =
    let found = dep_found c.args.table.now c.args.dep.now (placed_seen c.in-Some.x) (c.in-Some.ensures ∙ ap (placed_for c.args.table.now) c.as_str.ensures) in
    rw found (rw c.as_slice.ensures at c.put_all.ensures)

pub returns-in-None : goal.returns-in-None
returns-in-None c =
    sym (append-nil (map bound_seen c.args.out.now.items))
    ∙ ap (λ bs. map bound_seen c.args.out.now.items ++ bs) (sym (dep_absent c.args.table.now c.args.dep.now (c.in-None.ensures ∙ ap (placed_for c.args.table.now) c.as_str.ensures)))
