use Rattle.std.proofs.Common.{◌<◌, ◌≤◌, List, length, ◌∙◌, sym, subst}
use Rattle.std.specs.List.{All}
use Rattle.zi_formula.specs.declared.formula.Lit.{Lit}
use Rattle.zi_proof.specs.Accepted.{citable}
use Rattle.zi_proof.specs.Known.{nothing}
use Rattle.zi_sat.specs.Trail.{learn}
use Rattle.zi_walk.proofs.Replay.{replay}
use Rattle.zi_solve.specs.Making.{formula_of, lemmas_of, entries_of}
use Rattle.zi_solve.proofs.AddLaws.{knows_same, given_within}
use Rattle.zi_solve.proofs.blocks.hints_for.Goals as goal

pub hints_from-requires-clause-knows : goal.hints_from-requires-clause-knows
hints_from-requires-clause-knows c =
    knows_same (formula_of c.args.on.now) (lemmas_of c.args.on.now) c.as_slice-lemmas.result.now c.args.marks.now c.check_block.new.marks c.as_slice-lemmas.ensures c.requires.may.knows c.check_block.ensures.len

pub hints_from-requires-clause-within : goal.hints_from-requires-clause-within
hints_from-requires-clause-within c =
    let within = given_within (formula_of c.args.on.now) (lemmas_of c.args.on.now) c.args.made.now.before.items (replay (citable (formula_of c.args.on.now).constraints (lemmas_of c.args.on.now)) (learn nothing c.args.made.now.before.items) (entries_of c.args.on.now)) (length c.check_block.new.marks) (c.check_block.ensures.len ∙ c.requires.may.knows.made) c.requires.given in
    subst (λ (ls : List Lit). All (λ l. (1 ≤ l.variable) × (l.variable < length c.check_block.new.marks)) ls) (sym c.as_slice-assumed.ensures.value) within
