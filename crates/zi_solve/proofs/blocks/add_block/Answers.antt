use Rattle.std.proofs.Common.{◌∙◌, [], ◌∷◌, ◌++◌, ap, refl}
use Rattle.zi_proof.specs.declared.proof.Block.{Block}
use Rattle.zi_solve.proofs.AddLaws.{adds_one}
use Rattle.zi_solve.proofs.blocks.add_block.Goals as goal

pub hints_for-requires-clause-given : goal.hints_for-requires-clause-given
hints_for-requires-clause-given c = c.requires.asked.0

pub returns : goal.returns
returns c =
    let b : Block = record { place = c.args.place; candidate = c.args.candidate; hints = c.in_ok-hints.hints } in
    record {
      same = c.hints_for.ensures.same;
      before = c.hints_for.ensures.before;
      added = adds_one c.args.on.now (record { place = c.args.place; candidate = c.args.candidate; assumed = c.args.made.now.before.items }) b c.args.made.now.blocks c.push.new.self (c.in_ok-push.ensures.ok ∙ ap (λ z. z ++ b ∷ []) c.hints_for.ensures.blocks) refl refl c.in_ok-hints.ensures.accepted;
    }
