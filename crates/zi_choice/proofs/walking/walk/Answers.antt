use Rattle.std.proofs.Common.{sym, subst, [], ◌∷◌}
use Rattle.zi_choice.specs.Walk.{wanted}
use Rattle.zi_choice.specs.Stops.{VisitStops, NeedEachStops, no_name, a_name}
use Rattle.zi_choice.specs.Tasks.{universe_of, picks_of, stops_of}
use Rattle.zi_choice.proofs.walking.walk.Goals as goal
use Rattle.zi_choice.proofs.walking.walk.Goals.{in-Some+in_ok-need_all, in_default}

pub returns : goal.returns
returns c =
    let s = picks_of c.args.on.now in
    let u = universe_of c.args.on.now in
    let from = stops_of c.visit_all.new.way in
    let need : NeedEachStops u s 0 (wanted c.args.command.now) from (stops_of c.match-command.way') =
    elim c.match-command.branch [
      | in-Some+in_ok-need_all w ↦
          subst (λ o. NeedEachStops u s 0 (wanted o) from (stops_of c.match-command.way')) (sym w.in-Some.is)
          (subst (λ v. NeedEachStops u s 0 (w.in-Some.name ∷ []) from (stops_of v)) (sym w.way'-is) (a_name w.in_ok-need_all.ensures no_name))
      | in_default w ↦
          subst (λ o. NeedEachStops u s 0 (wanted o) from (stops_of c.match-command.way')) (sym w.in_default.is)
          (subst (λ v. NeedEachStops u s 0 [] from (stops_of v)) (sym w.way'-is) no_name)
    ] in
    record {
      from_root = from;
      visit = subst (λ a. VisitStops u s 0 a from) c.new.ensures.empty c.in_ok-visit_all.ensures;
      need = need;
    }
