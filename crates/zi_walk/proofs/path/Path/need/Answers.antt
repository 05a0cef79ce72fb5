use Rattle.std.proofs.Common.{◌≡◌, ◌∙◌, ◌++◌, ◌∷◌, [], ap, sym, Some, false, true, if◌then◌else◌}
use Rattle.std.specs.List.{list_any}
use Rattle.zi_choice.proofs.TaskLaws.{same_use, a_used, named, lent_some}
use Rattle.zi_walk.specs.Kept.{stand_of, command_in}
use Rattle.zi_walk.proofs.StepLaws.{IsUsedNow, IsCommand, need_old_steps, need_new_steps, picks_command}
use Rattle.zi_walk.proofs.path.Path.need.Goals as goal

pub returns-then-not-branch-clause-steps : goal.returns-then-not-branch-clause-steps
returns-then-not-branch-clause-steps c =
    let us = c.args.self.now.used.keys in
    let h : IsUsedNow c.args.i c.args.name.now us c.insert.new.self.keys false = record {
      added = sym c.if-not-branch.true ∙ c.in_ok-insert.ensures.added ∙ ap (λ n. named c.args.i n us) c.in_ok-command.ensures;
      keys = c.in_ok-insert.ensures.keys ∙ ap (λ n. if list_any (same_use c.args.i n) us then us else us ++ a_used c.args.i n ∷ []) c.in_ok-command.ensures;
    } in
    need_old_steps c.args.names.now c.args.i c.args.name.now (stand_of c.args.self.now) c.insert.new.self.keys c.requires h

pub returns-clause-steps : goal.returns-clause-steps
returns-clause-steps c =
    let us = c.args.self.now.used.keys in
    let h : IsUsedNow c.args.i c.args.name.now us c.insert.new.self.keys true = record {
      added = sym c.if-not-branch.false ∙ c.in_ok-insert.ensures.added ∙ ap (λ n. named c.args.i n us) c.in_ok-command.ensures;
      keys = c.in_ok-insert.ensures.keys ∙ ap (λ n. if list_any (same_use c.args.i n) us then us else us ++ a_used c.args.i n ∷ []) c.in_ok-command.ensures;
    } in
    let m : command_in c.args.names.now c.args.i c.args.name.now (Some c.in-Some.pick) ≡ Some c.in-Some-command.m.now = lent_some c.command.result c.in-Some-command.m _ c.command.ensures c.in-Some-command.is in
    let is : IsCommand c.args.names.now c.args.i c.args.name.now (stand_of c.args.self.now) (Some c.in-Some-command.m.now) = picks_command c.args.names.now c.args.i c.args.name.now (stand_of c.args.self.now) (Some c.in-Some.pick) (Some c.in-Some-command.m.now) c.in-Some.ensures m in
    need_new_steps c.args.names.now c.args.i c.args.name.now c.in-Some-command.m.now (stand_of c.args.self.now) c.insert.new.self.keys c.add_needs.new.tasks c.in_ok-self.field-0 c.requires is h c.in_ok-self.ensures.needs
