use Rattle.std.proofs.Common.{refl, ◌≡◌, subst, Some, None}
use Rattle.zi_choice.specs.Choice.{command_at}
use Rattle.zi_choice.specs.Tasks.{universe_of, picks_of, stops_of}
use Rattle.zi_choice.proofs.TaskLaws.{Noted, Known, no_candidate, its_command, need_lacks, need_old, need_new, lent_none, lent_some, less_needed}
use Rattle.zi_choice.proofs.walking.need.Goals as goal

pub returns-in_default-clause-steps : goal.returns-in_default-clause-steps
returns-in_default-clause-steps c =
    need_lacks (universe_of c.args.on.now) (picks_of c.args.on.now) c.args.i c.args.name.now c.args.tasks.now.items (stops_of c.args.way.now)
    (no_candidate (universe_of c.args.on.now) (picks_of c.args.on.now) c.args.i c.args.name.now (lent_none c.chosen.result _ c.chosen.ensures c.in_default.is))

pub returns-in_default-command_of-clause-steps : goal.returns-in_default-command_of-clause-steps
returns-in_default-command_of-clause-steps c =
    need_lacks (universe_of c.args.on.now) (picks_of c.args.on.now) c.args.i c.args.name.now c.args.tasks.now.items (stops_of c.args.way.now)
    (its_command (universe_of c.args.on.now) (picks_of c.args.on.now) c.args.i c.args.name.now c.in-Some.k.now None (lent_some c.chosen.result c.in-Some.k _ c.chosen.ensures c.in-Some.is) (lent_none c.command_of.result _ c.command_of.ensures c.in_default-command_of.is))

pub returns-then-not-branch-clause-steps : goal.returns-then-not-branch-clause-steps
returns-then-not-branch-clause-steps c =
    let h = subst (Known c.args.i (stops_of c.args.way.now) (stops_of c.note_command.new.way)) c.in_ok-command.ensures (c.in_ok-note_command.ensures.old c.if-not-branch.true) in
    need_old (universe_of c.args.on.now) (picks_of c.args.on.now) c.args.i c.args.name.now c.args.tasks.now.items (stops_of c.args.way.now) (stops_of c.note_command.new.way) h.0 h.1

pub returns-then-not-branch-clause-old : goal.returns-then-not-branch-clause-old
returns-then-not-branch-clause-old c is = (refl, (c.in_ok-note_command.ensures.old c.if-not-branch.true).1)

pub returns-clause-steps : goal.returns-clause-steps
returns-clause-steps c =
    let h = subst (Noted c.args.i (stops_of c.args.way.now) (stops_of c.note_command.new.way)) c.in_ok-command.ensures (c.in_ok-note_command.ensures.new c.if-not-branch.false) in
    let m : command_at (universe_of c.args.on.now) (picks_of c.args.on.now) c.args.i c.args.name.now ≡ Some c.in-Some-command_of.m.now =
    its_command (universe_of c.args.on.now) (picks_of c.args.on.now) c.args.i c.args.name.now c.in-Some.k.now (Some c.in-Some-command_of.m.now) (lent_some c.chosen.result c.in-Some.k _ c.chosen.ensures c.in-Some.is) (lent_some c.command_of.result c.in-Some-command_of.m _ c.command_of.ensures c.in-Some-command_of.is) in
    λ v r. need_new (universe_of c.args.on.now) (picks_of c.args.on.now) c.args.i c.args.name.now c.in-Some-command_of.m.now c.args.tasks.now.items (stops_of c.args.way.now) (stops_of c.note_command.new.way) m h.0 h.1 v (c.in_ok-add_needs.ensures v r)

pub returns-clause-new : goal.returns-clause-new
returns-clause-new c is =
    let h = subst (Noted c.args.i (stops_of c.args.way.now) (stops_of c.note_command.new.way)) c.in_ok-command.ensures (c.in_ok-note_command.ensures.new c.if-not-branch.false) in
    let m : command_at (universe_of c.args.on.now) (picks_of c.args.on.now) c.args.i c.args.name.now ≡ Some c.in-Some-command_of.m.now =
    its_command (universe_of c.args.on.now) (picks_of c.args.on.now) c.args.i c.args.name.now c.in-Some.k.now (Some c.in-Some-command_of.m.now) (lent_some c.chosen.result c.in-Some.k _ c.chosen.ensures c.in-Some.is) (lent_some c.command_of.result c.in-Some-command_of.m _ c.command_of.ensures c.in-Some-command_of.is) in
    less_needed (universe_of c.args.on.now) (picks_of c.args.on.now) c.args.i c.args.name.now c.in-Some-command_of.m.now (stops_of c.args.way.now) (stops_of c.note_command.new.way) m h.0 h.1
