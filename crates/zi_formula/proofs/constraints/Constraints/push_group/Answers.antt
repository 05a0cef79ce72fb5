use Rattle.std.proofs.Common.{rules, ◌≡◌, ◌∷◌, [], ◌++◌, ◌∙◌, length, ap, arith}
use Rattle.zi_formula.specs.declared.formula.Constraint.TheVariants.{AtMostOne}
use Rattle.zi_formula.specs.declared.constraints.End.TheVariants as end
use Rattle.zi_formula.specs.declared.constraints.Group.{Group}
use Rattle.zi_formula.proofs.Flat.{group_pushed}
use Rattle.zi_formula.proofs.constraints.Constraints.push_group.Goals as goal

pub invariant_of-self-2 : goal.invariant_of-self-2
invariant_of-self-2 c =
    let a = c.self.inside in
    let x : Group = record { lits = c.in_ok-lits.lits; start = c.in_ok-start.start; end = c.in_ok-end.end } in
    let groups : c.len.result ≡ length a.groups.items = search rules in
    let lits : c.len-2.result ≡ length a.lits.items = search rules in
    let before : c.len-3.result ≡ length a.variables.items = search rules in
    let same : c.len-4.result ≡ length a.variables.items = search rules in
    let p = group_pushed a.lits.items a.variables.items c.args.variables.now c.extend_from_slice.new.self.items a.groups.items c.push_reserved.new.self.items a.ends.items c.push_reserved-2.new.self.items x c.in_ok-number.number c.self.invariant.stand c.self.invariant.last
    c.in_ok-extend_from_slice.ensures.items (c.push_reserved.ensures.items ∙ ap (λ gs. gs ++ x ∷ []) c.in_ok-reserve-2.ensures.items) (c.push_reserved-2.ensures.items ∙ ap (λ es. es ++ end.AtMostOne c.in_ok-number.number ∷ []) c.in_ok-reserve.ensures.items)
    (omega (arith, c.in_ok-number.ensures, groups)) (omega (arith, c.in_ok-lits.ensures, lits)) (omega (arith, c.in_ok-start.ensures, before)) (omega (arith, c.in_ok-end.ensures, same)) in
    record { stand = p.stand; last = p.last }

pub returns-clause-ok : goal.returns-clause-ok
returns-clause-ok c =
    let a = c.self.inside in
    let x : Group = record { lits = c.in_ok-lits.lits; start = c.in_ok-start.start; end = c.in_ok-end.end } in
    let groups : c.len.result ≡ length a.groups.items = search rules in
    let lits : c.len-2.result ≡ length a.lits.items = search rules in
    let before : c.len-3.result ≡ length a.variables.items = search rules in
    let same : c.len-4.result ≡ length a.variables.items = search rules in
    let p = group_pushed a.lits.items a.variables.items c.args.variables.now c.extend_from_slice.new.self.items a.groups.items c.push_reserved.new.self.items a.ends.items c.push_reserved-2.new.self.items x c.in_ok-number.number c.self.invariant.stand c.self.invariant.last
    c.in_ok-extend_from_slice.ensures.items (c.push_reserved.ensures.items ∙ ap (λ gs. gs ++ x ∷ []) c.in_ok-reserve-2.ensures.items) (c.push_reserved-2.ensures.items ∙ ap (λ es. es ++ end.AtMostOne c.in_ok-number.number ∷ []) c.in_ok-reserve.ensures.items)
    (omega (arith, c.in_ok-number.ensures, groups)) (omega (arith, c.in_ok-lits.ensures, lits)) (omega (arith, c.in_ok-start.ensures, before)) (omega (arith, c.in_ok-end.ensures, same)) in
    p.list ∙ ap (λ cs. cs ++ AtMostOne c.args.variables.now ∷ []) c.self.view_is
