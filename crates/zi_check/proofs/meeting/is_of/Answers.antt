use Rattle.std.proofs.Common.{◌≡◌, sym, ap, ◌∙◌, subst, Decides}
use Rattle.std.specs.Prelude.{option_copied}
use Rattle.zi_check.specs.Parts.{universe_of, picks_of}
use Rattle.zi_check.proofs.MeetLaws.{no_group, tells_group, tells_width}
use Rattle.zi_check.proofs.meeting.is_of.Goals as goal

pub returns-in-None : goal.returns-in-None
returns-in-None c = no_group (universe_of c.args.on.now) (picks_of c.args.on.now) c.args.i c.args.width (sym c.chosen.ensures ∙ ap option_copied c.in-None.is)

pub returns-in-Some : goal.returns-in-Some
returns-in-Some c = tells_group (universe_of c.args.on.now) (picks_of c.args.on.now) c.args.i c.in-Some.k.now c.args.width c.eq.result (sym c.chosen.ensures ∙ ap option_copied c.in-Some.is) (subst (λ w. Decides c.eq.result (w ≡ c.args.width)) c.group.ensures (tells_width c.group.result c.args.width c.eq.result c.eq.ensures))
