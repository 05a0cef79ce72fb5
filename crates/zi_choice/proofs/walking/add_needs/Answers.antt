use Rattle.std.proofs.Common.{ap, refl, ◌∙◌, ◌++◌, ◌∷◌, [], ◌≡◌, subst}
use Rattle.zi_choice.specs.declared.walking.Task.TheVariants.{Follow}
use Rattle.zi_choice.specs.Tasks.{universe_of, picks_of, stops_of}
use Rattle.zi_choice.proofs.TaskLaws.{needs_alone, needs_runner}
use Rattle.zi_choice.proofs.walking.add_needs.Goals as goal
use Rattle.zi_choice.proofs.walking.add_needs.Goals.{in-Some+in_ok-push, in_default}

pub returns : goal.returns
returns c = elim c.match-m.branch [
  | in-Some+in_ok-push w ↦
      needs_runner (universe_of c.args.on.now) (picks_of c.args.on.now) c.args.m.now w.in-Some.runner c.args.tasks.now.items c.match-m.tasks.items c.push-2.new.self.items c.as_slice.result _ (stops_of c.args.way.now)
      w.in-Some.is refl c.as_slice.ensures (ap (λ v. v.items) w.tasks-is ∙ w.in_ok-push.ensures.items) c.in_ok-push-2.ensures.items
  | in_default w ↦
      needs_alone (universe_of c.args.on.now) (picks_of c.args.on.now) c.args.m.now c.args.tasks.now.items c.push-2.new.self.items c.as_slice.result (stops_of c.args.way.now)
      w.in_default.is c.as_slice.ensures (subst (λ v. c.push-2.new.self.items ≡ v.items ++ Follow c.as_slice.result ∷ []) w.tasks-is c.in_ok-push-2.ensures.items)
]
