use Rattle.std.proofs.Common.{sym}
use Rattle.zi_edge.proofs.LineLemmas.{put_ended, held_ended, put_open_tried, held_open_tried}
use Rattle.zi_edge.proofs.line_sink.LineSink.show.Goals as goal

pub returns-in_ok-show_bytes-clause-written : goal.returns-in_ok-show_bytes-clause-written
returns-in_ok-show_bytes-clause-written g c =
    put_ended _ _ _ c.args.self.now.held c.args.bytes.now c.in-Some.front.now c.in-Some.last.now c.in-Some.ensures.cases.0 c.if-last-eq10.true c.in_ok-show_held.ensures.written
    c.in_ok-show_bytes.ensures

pub returns-in_ok-show_bytes-clause-held : goal.returns-in_ok-show_bytes-clause-held
returns-in_ok-show_bytes-clause-held g c =
    sym (held_ended c.args.self.now.held c.args.bytes.now c.in-Some.front.now c.in-Some.last.now c.in-Some.ensures.cases.0 c.if-last-eq10.true)

pub returns-else-last-eq10-clause-written : goal.returns-else-last-eq10-clause-written
returns-else-last-eq10-clause-written g c =
    put_open_tried c.show_bytes-else-last-eq10.result _ _ _ c.args.self.now.held c.args.bytes.now c.in-Some.front.now c.in-Some.last.now c.in-Some.ensures.cases.0
    c.if-last-eq10.false c.in_ok-show_held.ensures.written c.show_bytes-else-last-eq10.ensures

pub returns-else-last-eq10-clause-held : goal.returns-else-last-eq10-clause-held
returns-else-last-eq10-clause-held g c =
    held_open_tried c.show_bytes-else-last-eq10.result c.show_held.new.self.held c.args.self.now.held c.args.bytes.now c.in-Some.front.now c.in-Some.last.now
    c.in-Some.ensures.cases.0 c.if-last-eq10.false c.in_ok-show_held.ensures.none
