use Rattle.std.proofs.Common.{ℕ, List}
use Rattle.std.specs.Prelude.{IsSome}
use Rattle.zi_choice.specs.Choice.{command_at}
use Rattle.zi_check.specs.Parts.{universe_of, picks_of}
use Rattle.zi_check.proofs.MeetLaws.{tells_items, suits_not, suits_unasked, suits_each}
use Rattle.zi_check.proofs.meeting.suits.Goals as goal

pub returns-then-not-is_admitted : goal.returns-then-not-is_admitted
returns-then-not-is_admitted c = suits_not c.args.dep.now c.args.k.now c.is_admitted.result c.is_admitted.ensures c.if-not-is_admitted.true

pub returns-then-not-asks : goal.returns-then-not-asks
returns-then-not-asks c = suits_unasked c.args.dep.now c.args.k.now c.is_admitted.result c.asks.result c.is_admitted.ensures c.if-not-is_admitted.false c.asks.ensures c.if-not-asks.true

pub returns : goal.returns
returns c =
    suits_each (universe_of c.args.on.now) (picks_of c.args.on.now) c.args.i c.args.dep.now c.args.k.now c.is_admitted.result c.asks.result c.has_each.result c.requires.chosen c.is_admitted.ensures c.if-not-is_admitted.false c.asks.ensures c.if-not-asks.false
    (tells_items (λ (name : List ℕ). IsSome (command_at (universe_of c.args.on.now) (picks_of c.args.on.now) c.args.i name)) c.has_each.result c.as_slice.result.now c.args.dep.now.commands c.as_slice.ensures c.has_each.ensures)
