use Rattle.std.proofs.Common.{List, ap, refl, ◌∙◌}
use Rattle.zi_parts.specs.declared.types.Binding.{Binding}
use Rattle.zi_sels.proofs.PieceLaws.{items_of, piece_next, piece_end}
use Rattle.zi_sels.proofs.copies.copy_inherited.Goals as goal

pub loop-piece-preserved : goal.loop-piece-preserved
loop-piece-preserved c =
    piece_next (λ (xs : List Binding). xs) (λ xs ys. refl) _ _ _ _ _ _ c.loop-piece-test.true c.piece-item.is c.in_ok-add_bindings.ensures c.loop-piece.invariant

pub returns : goal.returns
returns c =
    piece_end (λ (xs : List Binding). xs) (λ xs ys. refl) _ _ _ _ c.loop-piece-test.false refl c.loop-piece.invariant
    ∙ ap (λ (xs : List Binding). xs) (ap items_of c.as_slice-piece-items.ensures.value ∙ c.in_ok-pieces.ensures)
