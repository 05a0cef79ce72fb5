use Rattle.std.proofs.Common.{◌<◌, ◌+◌, ◌∙◌, length, get_or, ap, sym, subst, arith}
use Rattle.zi_choice.specs.Vars.{Cand, Cmd, var_number}
use Rattle.zi_build.specs.There.{Listed}
use Rattle.zi_build.specs.Writing.{as_var}
use Rattle.zi_build.proofs.WriteLaws.{first_within, first_at, row_within, command_within, command_at_place}
use Rattle.zi_build.proofs.writing.number.Goals as goal

pub bounds-as_slice-i : goal.bounds-as_slice-i
bounds-as_slice-i c =
    let there : Listed c.args.plan.now.universe.now (Cand c.in-Choosing.i c.in-Choosing.c) = subst (λ x. Listed c.args.plan.now.universe.now (as_var x)) c.in-Choosing.is c.requires.there in
    first_within c.args.plan.now.universe.now c.args.plan.now.table.now c.as_slice.result.now c.in-Choosing.i c.in-Choosing.c c.requires.tabled there c.as_slice.ensures

pub overflow_add-result : goal.overflow_add-result
overflow_add-result c =
    let there : Listed c.args.plan.now.universe.now (Cand c.in-Choosing.i c.in-Choosing.c) = subst (λ x. Listed c.args.plan.now.universe.now (as_var x)) c.in-Choosing.is c.requires.there in
    let h = (first_at c.args.plan.now.universe.now c.args.plan.now.table.now c.as_slice.result.now c.in-Choosing.i c.in-Choosing.c c.requires.tabled there c.as_slice.ensures).high in
    omega (arith, h)

pub returns-in-Choosing : goal.returns-in-Choosing
returns-in-Choosing c =
    let there : Listed c.args.plan.now.universe.now (Cand c.in-Choosing.i c.in-Choosing.c) = subst (λ x. Listed c.args.plan.now.universe.now (as_var x)) c.in-Choosing.is c.requires.there in
    (first_at c.args.plan.now.universe.now c.args.plan.now.table.now c.as_slice.result.now c.in-Choosing.i c.in-Choosing.c c.requires.tabled there c.as_slice.ensures).is ∙ ap (λ x. var_number c.args.plan.now.universe.now (as_var x)) (sym c.in-Choosing.is)

pub bounds-as_slice-i-in-Using : goal.bounds-as_slice-i-in-Using
bounds-as_slice-i-in-Using c =
    let there : Listed c.args.plan.now.universe.now (Cmd c.in-Using.i c.in-Using.c c.in-Using.m) = subst (λ x. Listed c.args.plan.now.universe.now (as_var x)) c.in-Using.is c.requires.there in
    row_within c.args.plan.now.universe.now c.args.plan.now.table.now c.as_slice-in-Using.result.now c.in-Using.i c.in-Using.c c.in-Using.m c.requires.tabled there c.as_slice-in-Using.ensures

pub bounds-as_slice-c : goal.bounds-as_slice-c
bounds-as_slice-c c =
    let there : Listed c.args.plan.now.universe.now (Cmd c.in-Using.i c.in-Using.c c.in-Using.m) = subst (λ x. Listed c.args.plan.now.universe.now (as_var x)) c.in-Using.is c.requires.there in
    subst (λ r. c.in-Using.c < length r) (sym c.as_slice-in-Using-2.ensures) (command_within c.args.plan.now.universe.now c.args.plan.now.table.now c.as_slice-in-Using.result.now c.index-as_slice-i.result c.in-Using.i c.in-Using.c c.in-Using.m c.requires.tabled there c.as_slice-in-Using.ensures c.index-as_slice-i.is)

pub overflow_add-result-in-Using : goal.overflow_add-result-in-Using
overflow_add-result-in-Using c =
    let there : Listed c.args.plan.now.universe.now (Cmd c.in-Using.i c.in-Using.c c.in-Using.m) = subst (λ x. Listed c.args.plan.now.universe.now (as_var x)) c.in-Using.is c.requires.there in
    let h = (command_at_place c.args.plan.now.universe.now c.args.plan.now.table.now c.as_slice-in-Using.result.now c.index-as_slice-i.result c.in-Using.i c.in-Using.c c.in-Using.m c.requires.tabled there c.as_slice-in-Using.ensures c.index-as_slice-i.is).high in
    let e = ap (λ r. get_or r c.in-Using.c 0) c.as_slice-in-Using-2.ensures in
    omega (arith, h, e)

pub returns-in-Using : goal.returns-in-Using
returns-in-Using c =
    let there : Listed c.args.plan.now.universe.now (Cmd c.in-Using.i c.in-Using.c c.in-Using.m) = subst (λ x. Listed c.args.plan.now.universe.now (as_var x)) c.in-Using.is c.requires.there in
    ap (λ r. get_or r c.in-Using.c 0 + c.in-Using.m) c.as_slice-in-Using-2.ensures
    ∙ (command_at_place c.args.plan.now.universe.now c.args.plan.now.table.now c.as_slice-in-Using.result.now c.index-as_slice-i.result c.in-Using.i c.in-Using.c c.in-Using.m c.requires.tabled there c.as_slice-in-Using.ensures c.index-as_slice-i.is).is
    ∙ ap (λ x. var_number c.args.plan.now.universe.now (as_var x)) (sym c.in-Using.is)
