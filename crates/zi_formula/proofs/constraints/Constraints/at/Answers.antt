use Rattle.std.proofs.Common.{◌≡◌, ◌≤◌, length, ap, subst, sym, arith}
use Rattle.zi_formula.specs.Flat.{constraints_from}
use Rattle.zi_formula.proofs.Flat.{as_many, there_all, clause_part, group_part, clause_here, group_here}
use Rattle.zi_formula.proofs.constraints.Constraints.at.Goals as goal

pub prove-unreachable-requires : goal.prove-unreachable-requires
prove-unreachable-requires c =
    let a = c.self.inside in
    let many : length (constraints_from a.lits.items a.variables.items a.groups.items 0 a.ends.items) ≡ length a.ends.items = as_many a.lits.items a.variables.items a.groups.items 0 a.ends.items in
    let all : length (constraints_from a.lits.items a.variables.items a.groups.items 0 a.ends.items) ≡ length c.args.self.now = ap length c.self.view_is in
    let ends : length c.as_slice-ends.result.now ≡ length a.ends.items = ap length c.as_slice-ends.ensures.value in
    omega (arith, many, all, ends, c.requires)

pub lits_before-start-requires-clause-there : goal.lits_before-start-requires-clause-there
lits_before-start-requires-clause-there c =
    let a = c.self.inside in
    there_all (length a.lits.items) (length a.variables.items) a.groups.items c.as_slice-groups.result.now a.ends.items c.as_slice-ends.result.now c.as_slice-groups.ensures.value c.as_slice-ends.ensures.value c.self.invariant.stand

pub part-requires-clause-low : goal.part-requires-clause-low
part-requires-clause-low c =
    let a = c.self.inside in
    (clause_part (length a.lits.items) (length a.variables.items) a.groups.items c.as_slice-groups.result.now a.ends.items c.as_slice-ends.result.now c.args.i c.in-Clause.end c.lits_before-start.result c.as_slice-groups.ensures.value c.as_slice-ends.ensures.value c.self.invariant.stand (omega arith) c.in-Clause.is c.lits_before-start.ensures).0

pub part-requires-clause-high : goal.part-requires-clause-high
part-requires-clause-high c =
    let a = c.self.inside in
    let h = (clause_part (length a.lits.items) (length a.variables.items) a.groups.items c.as_slice-groups.result.now a.ends.items c.as_slice-ends.result.now c.args.i c.in-Clause.end c.lits_before-start.result c.as_slice-groups.ensures.value c.as_slice-ends.ensures.value c.self.invariant.stand (omega arith) c.in-Clause.is c.lits_before-start.ensures).1 in
    subst (λ z. c.in-Clause.end ≤ length z) (sym c.as_slice.ensures.value) h

pub bounds-groups-number : goal.bounds-groups-number
bounds-groups-number c =
    let a = c.self.inside in
    (group_part (length a.lits.items) (length a.variables.items) a.groups.items c.as_slice-groups.result.now a.ends.items c.as_slice-ends.result.now c.args.i c.in-AtMostOne.number c.as_slice-groups.ensures.value c.as_slice-ends.ensures.value c.self.invariant.stand (omega arith) c.in-AtMostOne.is).0

pub part-requires-in-AtMostOne-clause-low : goal.part-requires-in-AtMostOne-clause-low
part-requires-in-AtMostOne-clause-low c =
    let a = c.self.inside in
    (group_part (length a.lits.items) (length a.variables.items) a.groups.items c.as_slice-groups.result.now a.ends.items c.as_slice-ends.result.now c.args.i c.in-AtMostOne.number c.as_slice-groups.ensures.value c.as_slice-ends.ensures.value c.self.invariant.stand (omega arith) c.in-AtMostOne.is).1

pub part-requires-in-AtMostOne-clause-high : goal.part-requires-in-AtMostOne-clause-high
part-requires-in-AtMostOne-clause-high c =
    let a = c.self.inside in
    let h = (group_part (length a.lits.items) (length a.variables.items) a.groups.items c.as_slice-groups.result.now a.ends.items c.as_slice-ends.result.now c.args.i c.in-AtMostOne.number c.as_slice-groups.ensures.value c.as_slice-ends.ensures.value c.self.invariant.stand (omega arith) c.in-AtMostOne.is).2 in
    let v = ap length c.as_slice-in-AtMostOne.ensures.value in
    omega (arith, h, v)

pub returns-in-Clause : goal.returns-in-Clause
returns-in-Clause c =
    let a = c.self.inside in
    clause_here a.lits.items c.as_slice.result.now a.variables.items a.groups.items c.as_slice-groups.result.now a.ends.items c.as_slice-ends.result.now c.args.self.now c.args.i c.in-Clause.end c.lits_before-start.result c.part.result.now c.as_slice.ensures.value c.as_slice-groups.ensures.value c.as_slice-ends.ensures.value c.self.view_is (omega arith) c.in-Clause.is c.lits_before-start.ensures c.part.ensures

pub returns-in-AtMostOne : goal.returns-in-AtMostOne
returns-in-AtMostOne c =
    let a = c.self.inside in
    group_here a.lits.items a.variables.items c.as_slice-in-AtMostOne.result.now a.groups.items c.as_slice-groups.result.now a.ends.items c.as_slice-ends.result.now c.args.self.now c.args.i c.in-AtMostOne.number c.part-in-AtMostOne.result.now c.as_slice-in-AtMostOne.ensures.value c.as_slice-groups.ensures.value c.as_slice-ends.ensures.value c.self.view_is (omega arith) c.in-AtMostOne.is c.part-in-AtMostOne.ensures
