use Rattle.std.proofs.Common.{◌∷◌, [], ◌∙◌, ap, subst, refl, Vec, Global}
use Rattle.zi_formula.specs.declared.formula.Lit.{Lit}
use Rattle.zi_formula.specs.declared.formula.Constraint.TheVariants.{Clause}
use Rattle.zi_build.specs.declared.writing.Writer.{Writer}
use Rattle.zi_build.specs.Writing.{Puts}
use Rattle.zi_build.proofs.WriteLaws.{puts_beside}
use Rattle.zi_build.proofs.writing.put_clause.Goals as goal

pub returns : goal.returns
returns c =
    let v : Writer = c.args.w.now in
    let x : Writer = record { size = v.size; constraints = v.constraints; lits = c.replace-lits.new.dest } in
    let y : Writer = c.put.new.w in
    let w : Writer = record { size = y.size; constraints = y.constraints; lits = c.replace-lits.result } in
    let same = c.as_slice.ensures.value ∙ ap (λ (ls : Vec Lit Global). ls.items) c.replace-lits.ensures.value in
    puts_beside c.args.plan.now.keeps v x y w (Clause v.lits.items ∷ []) refl refl refl refl (subst (λ ls. Puts c.args.plan.now.keeps x (Clause ls ∷ []) y) same c.in_ok-put.ensures)
