use Rattle.std.proofs.Common.{◌≡◌, ◌∙◌, ◌<◌, true, [], length, ap, sym, subst}
use Rattle.std.specs.Prelude.{IfSome}
use Rattle.std.specs.List.{All}
use Rattle.zi_formula.specs.declared.formula.Formula.{Formula}
use Rattle.zi_proof.specs.declared.proof.Proof.{Proof}
use Rattle.zi_proof.specs.Accepted.{follows, proves}
use Rattle.zi_conflict.specs.Ground.{formula_of}
use Rattle.zi_conflict.specs.Core.{only}
use Rattle.zi_conflict.specs.Resting.{numbers_to, RestsOn}
use Rattle.zi_conflict.proofs.PartLaws.{less_is, part_own, part_trans}
use Rattle.zi_conflict.proofs.GroundLaws.{part_formed, part_few}
use Rattle.zi_conflict.proofs.cores.less.Goals as goal

pub only-requires : goal.only-requires
only-requires c =
    let f = formula_of c.args.on.now in
    subst (λ xs. All (λ n. n < length f.constraints) xs) (sym c.as_slice.ensures.value)
    (part_own f c.in_ok-others.others.items (part_trans c.in_ok-others.others.items c.args.numbers.now (numbers_to (length f.constraints)) c.in_ok-others.ensures c.requires.own))

pub refutation-requires-clause-formed : goal.refutation-requires-clause-formed
refutation-requires-clause-formed c =
    let f = formula_of c.args.on.now in
    part_formed c.args.on.now.universe.now c.args.on.now.req.now f c.in_ok-g.g c.in_ok-others.others.items c.requires.ground.built (part_trans c.in_ok-others.others.items c.args.numbers.now (numbers_to (length f.constraints)) c.in_ok-others.ensures c.requires.own) (c.in_ok-g.ensures ∙ ap (only f) c.as_slice.ensures.value)

pub refutation-requires-clause-few : goal.refutation-requires-clause-few
refutation-requires-clause-few c =
    let f = formula_of c.args.on.now in
    part_few c.args.on.now.universe.now c.args.on.now.req.now f c.in_ok-g.g c.in_ok-others.others.items c.requires.ground.built (part_trans c.in_ok-others.others.items c.args.numbers.now (numbers_to (length f.constraints)) c.in_ok-others.ensures c.requires.own) (c.in_ok-g.ensures ∙ ap (only f) c.as_slice.ensures.value)

pub returns : goal.returns
returns c =
    let f = formula_of c.args.on.now in
    let os = c.in_ok-others.others.items in
    let R : Formula → Proof → Type 0 = λ g p. (follows g p.lemmas ≡ true) × (proves [] p.lemmas ≡ true) in
    let r : R (only f os) c.in-Some.p = subst (λ g. R g c.in-Some.p) (c.in_ok-g.ensures ∙ ap (only f) c.as_slice.ensures.value) (subst (λ o. IfSome o (R c.in_ok-g.g)) c.in-Some.is c.in_ok-p.ensures) in
    less_is f c.in-Some.p c.args.numbers.now os c.in_ok-rest.rest.items c.in_ok-others.ensures r.0 r.1 (subst (λ xs. RestsOn c.in-Some.p xs c.in_ok-rest.rest.items) c.as_slice-2.ensures.value c.in_ok-rest.ensures)
