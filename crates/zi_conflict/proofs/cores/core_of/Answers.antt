use Rattle.std.proofs.Common.{◌≡◌, ◌∙◌, true, [], length, ap, sym, subst, arith}
use Rattle.zi_formula.specs.declared.formula.Formula.{Formula}
use Rattle.zi_proof.specs.Accepted.{follows}
use Rattle.zi_conflict.specs.Core.{AreUsed}
use Rattle.zi_conflict.specs.Ground.{formula_of}
use Rattle.zi_conflict.specs.Resting.{numbers_to, IsCoreOf}
use Rattle.zi_conflict.proofs.PartLaws.{first_is, used_part, core_more}
use Rattle.zi_conflict.proofs.CoreLaws.{core_is}
use Rattle.zi_conflict.proofs.GroundLaws.{built_few}
use Rattle.zi_conflict.proofs.cores.core_of.Goals as goal

pub overflow_cast-count : goal.overflow_cast-count
overflow_cast-count c =
    let a = built_few c.args.on.now.universe.now c.args.on.now.req.now (formula_of c.args.on.now) c.requires.ground.built in
    let b = c.len-count.ensures in
    omega (arith, a, b)

pub least-requires-clause-core : goal.least-requires-clause-core
least-requires-clause-core c =
    let f = formula_of c.args.on.now in
    let p = c.args.p.now in
    let follow : follows f p.lemmas ≡ true = subst (λ (g : Formula). follows g p.lemmas ≡ true) (sym c.requires.ground.built.is) c.requires.refutes.0 in
    (first_is f p c.as_slice.result.now c.in_ok-numbers.numbers.items (c.as_slice.ensures.value ∙ c.in_ok-all.ensures ∙ ap numbers_to c.len-count.ensures) follow c.requires.refutes.1 c.in_ok-numbers.ensures).0

pub returns-clause-core : goal.returns-clause-core
returns-clause-core c =
    let f = formula_of c.args.on.now in
    let p = c.args.p.now in
    let follow : follows f p.lemmas ≡ true = subst (λ (g : Formula). follows g p.lemmas ≡ true) (sym c.requires.ground.built.is) c.requires.refutes.0 in
    let first = first_is f p c.as_slice.result.now c.in_ok-numbers.numbers.items (c.as_slice.ensures.value ∙ c.in_ok-all.ensures ∙ ap numbers_to c.len-count.ensures) follow c.requires.refutes.1 c.in_ok-numbers.ensures in
    let core = core_more f (numbers_to (length f.constraints)) c.in_ok-numbers.numbers.items c.least.new.kept.items first.0 c.in_ok-least.ensures in
    core_is c.args.on.now.universe.now c.args.on.now.req.now f c.least.new.kept.items c.requires.ground.built.is core.0 core.1

pub returns-clause-used : goal.returns-clause-used
returns-clause-used c =
    let f = formula_of c.args.on.now in
    let p = c.args.p.now in
    let follow : follows f p.lemmas ≡ true = subst (λ (g : Formula). follows g p.lemmas ≡ true) (sym c.requires.ground.built.is) c.requires.refutes.0 in
    let first = first_is f p c.as_slice.result.now c.in_ok-numbers.numbers.items (c.as_slice.ensures.value ∙ c.in_ok-all.ensures ∙ ap numbers_to c.len-count.ensures) follow c.requires.refutes.1 c.in_ok-numbers.ensures in
    used_part p c.in_ok-numbers.numbers.items c.least.new.kept.items c.in_ok-least.ensures.0 first.1
