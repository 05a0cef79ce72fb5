use Rattle.std.proofs.Common.{◌∙◌, None, Some, length, refl, sym, ap, arith}
use Rattle.std.proofs.lemmas.Bool.Decides.{Decides-ltb}
use Rattle.zi_universe.specs.declared.types.Interface.{Interface}
use Rattle.zi_check.proofs.ValidLaws.{pick_at, tells_there_none, tells_there, candidates_here}
use Rattle.zi_check.proofs.validity.is_there.Goals as goal

pub returns-in-None : goal.returns-in-None
returns-in-None c = tells_there_none c.args.u.now c.args.picks.now c.args.i (pick_at c.args.picks.now c.args.i None c.requires.within c.in-None.is)

pub returns-in-Some : goal.returns-in-Some
returns-in-Some c =
    let same = c.requires.same in
    let within = c.requires.within in
    tells_there c.args.u.now c.args.picks.now c.args.i c.in-Some.c c.len.result _ (pick_at c.args.picks.now c.args.i (Some c.in-Some.c) c.requires.within c.in-Some.is)
    (c.len.ensures ∙ ap (λ (x : Interface). length x.candidates) (sym c.index-u-i.is) ∙ sym (ap length (candidates_here c.args.u.now c.args.u.now c.args.i c.index-u-i.result refl (omega (arith, same, within)) c.index-u-i.is)))
    (Decides-ltb c.in-Some.c c.len.result)
