use Rattle.std.proofs.Common.{ap, refl, ◌∙◌}
use Rattle.std.specs.List.{flat_map}
use Rattle.zi_universe.specs.Candidates.{asked_by_command}
use Rattle.zi_universe.specs.Naming.{joined}
use Rattle.zi_universe.proofs.PieceLemmas.{items_of, pieces_next, pieces_end, commands-append}
use Rattle.zi_universe.proofs.naming.add_inherited_commands.Goals as goal

pub loop-piece-preserved : goal.loop-piece-preserved
loop-piece-preserved c =
    pieces_next (flat_map asked_by_command) commands-append _ _ _ _ _ _ c.loop-piece-test.true c.piece-item.is c.in_ok-add_commands.ensures c.loop-piece.invariant

pub returns : goal.returns
returns c =
    pieces_end (flat_map asked_by_command) commands-append _ _ _ _ c.loop-piece-test.false refl c.loop-piece.invariant
    ∙ ap (λ q. joined c.args.names.now.keys (flat_map asked_by_command q)) (ap items_of c.as_slice-piece-items.ensures.value ∙ c.in_ok-pieces.ensures)
