use Rattle.std.proofs.Common.{arith, ◌<◌, ◌≤◌, length}
use Rattle.zi_numbering.proofs.ListingLaws.{marked, passed}
use Rattle.zi_numbering.proofs.listing.mark.Goals as goal

pub returns-then-i-len : goal.returns-then-i-len
returns-then-i-len c =
    let ok = c.args.marks.now.ok in
    let len = c.len.ensures in
    let less = c.if-i-len.true in
    marked c.args.marks.now.items c.args.interface (omega (arith, ok, len, less))

pub returns-else-i-len : goal.returns-else-i-len
returns-else-i-len c =
    let ok = c.args.marks.now.ok in
    let len = c.len.ensures in
    let more = c.if-i-len.false in
    passed c.args.marks.now.items c.args.interface (omega (arith, ok, len, more))
