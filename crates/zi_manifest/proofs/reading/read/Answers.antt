use Rattle.std.proofs.Common.{reverse, subst, arith}
use Rattle.zi_manifest.specs.Listing.{IsBadAt}
use Rattle.zi_manifest.specs.Reading.{NextLine, IsRead}
use Rattle.zi_manifest.proofs.Built.{built_rises}
use Rattle.zi_manifest.proofs.LinesRead.{read_whole}
use Rattle.zi_manifest.proofs.TurnLemmas.{line_read, few_read, ends_inside, stops_at, is_nothing, is_something}
use Rattle.zi_manifest.proofs.reading.read.Goals as goal

pub returns-in_default-clause-bad : goal.returns-in_default-clause-bad
returns-in_default-clause-bad c = λ k e.
    let l = c.loop-rest in
    subst (IsBadAt c.args.a c.args.bytes.now) (cc e)
    (ends_inside c.args.a c.args.bytes.now l.rest.now l.number l.lines (reverse l.folders.items) l.invariant c.in_default.ensures (is_something l.rest.now c.loop-rest-test.ensures))

pub next_line-requires-clause-rising : goal.next_line-requires-clause-rising
next_line-requires-clause-rising c = built_rises c.args.a (reverse c.loop-rest.folders.items) c.loop-rest.invariant.placed c.loop-rest.invariant.built

pub returns-in_default-2-clause-bad : goal.returns-in_default-2-clause-bad
returns-in_default-2-clause-bad c = λ k e.
    let l = c.loop-rest in
    let cs = reverse l.folders.items in
    let ds = reverse c.next_line.new.folders.items in
    let none = subst (λ o. NextLine c.args.a c.in-Some.line.now cs o ds) c.in_default-2.is c.in_ok-next.ensures in
    subst (IsBadAt c.args.a c.args.bytes.now) (cc e)
    (stops_at c.args.a c.args.bytes.now l.rest.now c.in-Some.line.now c.in-Some.behind.now l.number l.lines cs ds l.invariant c.in-Some.ensures.0 c.in-Some.ensures.1 none)

pub overflow_add-number : goal.overflow_add-number
overflow_add-number c =
    let l = c.loop-rest in
    let few = few_read c.args.a c.args.bytes.now l.rest.now l.number l.lines (reverse l.folders.items) l.invariant in
    omega (arith, few)

pub loop-rest-preserved : goal.loop-rest-preserved
loop-rest-preserved c =
    let l = c.loop-rest in
    let cs = reverse l.folders.items in
    let ds = reverse c.next_line.new.folders.items in
    let some = subst (λ o. NextLine c.args.a c.in-Some.line.now cs o ds) c.in-Some-2.is c.in_ok-next.ensures in
    line_read c.args.a c.args.bytes.now l.rest.now c.in-Some.line.now c.in-Some.behind.now l.number l.lines c.push.new.self cs ds c.in-Some-2.next l.invariant c.in-Some.ensures.0 some c.in_ok-push.ensures.ok

pub returns-clause-ok : goal.returns-clause-ok
returns-clause-ok c =
    let l = c.loop-rest in
    let cs = reverse l.folders.items in
    read_whole c.args.a c.args.bytes.now l.number l.lines cs (subst (λ t. IsRead c.args.a c.args.bytes.now t l.number l.lines cs) (is_nothing l.rest.now c.loop-rest-test.ensures) l.invariant)
