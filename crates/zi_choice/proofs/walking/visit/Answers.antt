use Rattle.std.proofs.Common.{refl}
use Rattle.zi_choice.specs.Tasks.{universe_of, picks_of, stops_of}
use Rattle.zi_choice.proofs.TaskLaws.{visit_old, visit_none, visit_some, lent_none, lent_some, less_came}
use Rattle.zi_choice.proofs.walking.visit.Goals as goal

pub returns-then-not-branch-clause-steps : goal.returns-then-not-branch-clause-steps
returns-then-not-branch-clause-steps c =
    let h = c.in_ok-note_interface.ensures.old c.if-not-branch.true in
    visit_old (universe_of c.args.on.now) (picks_of c.args.on.now) c.args.i c.args.tasks.now.items (stops_of c.args.way.now) (stops_of c.note_interface.new.way) h.0 h.1

pub returns-then-not-branch-clause-old : goal.returns-then-not-branch-clause-old
returns-then-not-branch-clause-old c is = (refl, (c.in_ok-note_interface.ensures.old c.if-not-branch.true).1)

pub returns-clause-steps : goal.returns-clause-steps
returns-clause-steps c =
    let h = c.in_ok-note_interface.ensures.new c.if-not-branch.false in
    λ v r. visit_some (universe_of c.args.on.now) (picks_of c.args.on.now) c.args.i c.in-Some.k.now c.args.tasks.now.items (stops_of c.args.way.now) (stops_of c.note_interface.new.way) h.0 h.1
    (lent_some c.chosen.result c.in-Some.k _ c.chosen.ensures c.in-Some.is) v (c.in_ok-add_follows.ensures c.note_interface.new.way v r)

pub returns-clause-new : goal.returns-clause-new
returns-clause-new c is =
    let h = c.in_ok-note_interface.ensures.new c.if-not-branch.false in
    less_came (universe_of c.args.on.now) (picks_of c.args.on.now) c.args.i (stops_of c.args.way.now) (stops_of c.note_interface.new.way) c.requires h.0 h.1

pub returns-in_default-clause-steps : goal.returns-in_default-clause-steps
returns-in_default-clause-steps c =
    let h = c.in_ok-note_interface.ensures.new c.if-not-branch.false in
    visit_none (universe_of c.args.on.now) (picks_of c.args.on.now) c.args.i c.args.tasks.now.items (stops_of c.args.way.now) (stops_of c.note_interface.new.way) h.0 h.1
    (lent_none c.chosen.result _ c.chosen.ensures c.in_default.is)

pub returns-in_default-clause-new : goal.returns-in_default-clause-new
returns-in_default-clause-new c is =
    let h = c.in_ok-note_interface.ensures.new c.if-not-branch.false in
    less_came (universe_of c.args.on.now) (picks_of c.args.on.now) c.args.i (stops_of c.args.way.now) (stops_of c.note_interface.new.way) c.requires h.0 h.1
