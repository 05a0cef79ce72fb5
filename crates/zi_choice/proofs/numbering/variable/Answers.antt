use Rattle.std.proofs.Common.{◌≡◌, ◌+◌, ◌<◌, ◌≤◌, length, take, get_or, arith, subst, ap, ◌∙◌}
use Rattle.zi_choice.specs.Vars.{before, own_candidates}
use Rattle.zi_choice.proofs.SumLaws.{further, sum_fits, number_fits, at_end, none_before}
use Rattle.zi_choice.proofs.numbering.variable.Goals as goal

pub loop-x-init : goal.loop-x-init
loop-x-init c = none_before c.args.u.now

pub overflow_add-before : goal.overflow_add-before
overflow_add-before c =
    let now : c.interfaces.result.now ≡ c.args.u.now = c.interfaces.ensures.interfaces in
    let sum : c.loop-x.before ≡ before own_candidates c.args.u.now c.loop-x.x-index = c.loop-x.invariant in
    let next : before own_candidates c.args.u.now (c.loop-x.x-index + 1) ≡ before own_candidates c.args.u.now c.loop-x.x-index + length c.x-item.result.candidates =
    further c.args.u.now c.args.interface c.loop-x.x-index c.x-item.result (subst (λ u. c.loop-x.x-index < length (take c.args.interface u)) now c.loop-x-test.true) (subst (λ u. c.x-item.result ≡ get_or (take c.args.interface u) c.loop-x.x-index c.x-item.result) now c.x-item.is) in
    let few : before own_candidates c.args.u.now (c.loop-x.x-index + 1) ≤ 65536 = sum_fits c.args.u.now (c.loop-x.x-index + 1) c.interfaces.ensures.whole in
    let len = c.len.ensures in
    omega (arith, sum, next, few, len)

pub loop-x-preserved : goal.loop-x-preserved
loop-x-preserved c =
    let now : c.interfaces.result.now ≡ c.args.u.now = c.interfaces.ensures.interfaces in
    let sum : c.loop-x.before ≡ before own_candidates c.args.u.now c.loop-x.x-index = c.loop-x.invariant in
    let next : before own_candidates c.args.u.now (c.loop-x.x-index + 1) ≡ before own_candidates c.args.u.now c.loop-x.x-index + length c.x-item.result.candidates =
    further c.args.u.now c.args.interface c.loop-x.x-index c.x-item.result (subst (λ u. c.loop-x.x-index < length (take c.args.interface u)) now c.loop-x-test.true) (subst (λ u. c.x-item.result ≡ get_or (take c.args.interface u) c.loop-x.x-index c.x-item.result) now c.x-item.is) in
    let len = c.len.ensures in
    let done : c.loop-x.before + c.len.result ≡ before own_candidates c.args.u.now (c.loop-x.x-index + 1) = omega (arith, sum, next, len) in
    done

pub overflow_add-result : goal.overflow_add-result
overflow_add-result c =
    let sum : c.loop-x.before ≡ before own_candidates c.args.u.now c.loop-x.x-index = c.loop-x.invariant in
    let few : before own_candidates c.args.u.now c.loop-x.x-index ≤ 65536 = sum_fits c.args.u.now c.loop-x.x-index c.interfaces.ensures.whole in
    omega (arith, sum, few)

pub overflow_add-result-2 : goal.overflow_add-result-2
overflow_add-result-2 c =
    let now : c.interfaces.result.now ≡ c.args.u.now = c.interfaces.ensures.interfaces in
    let sum : c.loop-x.before ≡ before own_candidates c.args.u.now c.loop-x.x-index = c.loop-x.invariant in
    let few : before own_candidates c.args.u.now c.args.interface + c.args.candidate < 65536 = number_fits c.args.u.now c.args.interface c.args.candidate c.interfaces.ensures.whole c.requires in
    let end : c.loop-x.x-index ≡ c.args.interface = at_end c.args.u.now c.args.interface c.args.candidate c.loop-x.x-index c.requires (subst (λ u. c.loop-x.x-index ≤ length (take c.args.interface u)) now c.loop-x.auto.x-index-end) (subst (λ u. length (take c.args.interface u) ≤ c.loop-x.x-index) now c.loop-x-test.false) in
    let sum2 : c.loop-x.before ≡ before own_candidates c.args.u.now c.args.interface = sum ∙ ap (λ n. before own_candidates c.args.u.now n) end in
    omega (arith, sum2, few)

pub returns : goal.returns
returns c =
    let now : c.interfaces.result.now ≡ c.args.u.now = c.interfaces.ensures.interfaces in
    let sum : c.loop-x.before ≡ before own_candidates c.args.u.now c.loop-x.x-index = c.loop-x.invariant in
    let end : c.loop-x.x-index ≡ c.args.interface = at_end c.args.u.now c.args.interface c.args.candidate c.loop-x.x-index c.requires (subst (λ u. c.loop-x.x-index ≤ length (take c.args.interface u)) now c.loop-x.auto.x-index-end) (subst (λ u. length (take c.args.interface u) ≤ c.loop-x.x-index) now c.loop-x-test.false) in
    let sum2 : c.loop-x.before ≡ before own_candidates c.args.u.now c.args.interface = sum ∙ ap (λ n. before own_candidates c.args.u.now n) end in
    omega (arith, sum2)
