use Rattle.std.proofs.Common.{rules, ◌≡◌, ◌+◌, ◌∷◌, [], ◌++◌, ◌∙◌, length, ap}
use Rattle.zi_formula.specs.declared.formula.Constraint.TheVariants.{Clause}
use Rattle.zi_formula.specs.declared.constraints.End.TheVariants as end
use Rattle.zi_formula.proofs.Flat.{clause_pushed}
use Rattle.zi_formula.proofs.constraints.Constraints.push_clause.Goals as goal

pub invariant_of-self-2 : goal.invariant_of-self-2
invariant_of-self-2 c =
    let a = c.self.inside in
    let n : c.len.result ≡ length a.lits.items = search rules in
    let p = clause_pushed a.lits.items c.args.lits.now c.extend_from_slice.new.self.items a.variables.items a.groups.items a.ends.items c.push_reserved.new.self.items c.in_ok-end.end c.self.invariant.stand c.self.invariant.last
    c.in_ok-extend_from_slice.ensures.items (c.push_reserved.ensures.items ∙ ap (λ es. es ++ end.Clause c.in_ok-end.end ∷ []) c.in_ok-reserve.ensures.items) (c.in_ok-end.ensures ∙ ap (λ k. k + length c.args.lits.now) n) in
    record { stand = p.stand; last = p.last }

pub returns-clause-ok : goal.returns-clause-ok
returns-clause-ok c =
    let a = c.self.inside in
    let n : c.len.result ≡ length a.lits.items = search rules in
    let p = clause_pushed a.lits.items c.args.lits.now c.extend_from_slice.new.self.items a.variables.items a.groups.items a.ends.items c.push_reserved.new.self.items c.in_ok-end.end c.self.invariant.stand c.self.invariant.last
    c.in_ok-extend_from_slice.ensures.items (c.push_reserved.ensures.items ∙ ap (λ es. es ++ end.Clause c.in_ok-end.end ∷ []) c.in_ok-reserve.ensures.items) (c.in_ok-end.ensures ∙ ap (λ k. k + length c.args.lits.now) n) in
    p.list ∙ ap (λ cs. cs ++ Clause c.args.lits.now ∷ []) c.self.view_is
