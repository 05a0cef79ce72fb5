use Rattle.std.proofs.Common.{◌≡◌, ◌++◌, List, map, length, Bor, ap, ◌∙◌, arith}
use Rattle.std.specs.List.{flat_map}
use Rattle.zi_parts.specs.declared.types.Command.{Command}
use Rattle.zi_reading.specs.Words.{latest}
use Rattle.zi_feed.specs.Impls.{are_alike}
use Rattle.zi_feed.proofs.LatestLaws.{piece_next, piece_end, none_replaced}
use Rattle.zi_feed.proofs.along.replaced.Goals as goal

pub loop-piece-preserved : goal.loop-piece-preserved
loop-piece-preserved c =
    piece_next _ _ _ _ _ _ c.loop-piece-test.true c.piece-item.is c.in_ok-add_lent.ensures c.loop-piece.invariant

pub returns-then-len : goal.returns-then-len
returns-then-len c =
    let lent : List (Bor Command) = c.add_lent-2.new.lent.items in
    let kept : List (Bor Command) = c.in_ok-kept.kept.items in
    let outer : map (λ r. r.now) c.loop-piece.lent.items ≡ c.args.outer.now =
    piece_end _ _ _ _ c.loop-piece-test.false c.loop-piece.invariant ∙ (ap (flat_map (λ s. s.now)) c.as_slice-piece-items.ensures.value ∙ c.in_ok-pieces.ensures) in
    let all : map (λ r. r.now) lent ≡ c.args.outer.now ++ c.args.own.now = c.in_ok-add_lent-2.ensures ∙ ap (λ v. v ++ c.args.own.now) outer in
    let many : length kept ≡ length lent = omega (arith, c.in_ok-kept.kept.ok.0, c.add_lent-2.new.lent.ok.0, c.len.ensures, c.len-2.ensures, c.if-len.true) in
    none_replaced kept lent c.args.outer.now c.args.own.now (c.in_ok-kept.ensures ∙ ap (λ v. latest are_alike (map (λ r. r.now) v)) c.as_slice.ensures.value) all many
