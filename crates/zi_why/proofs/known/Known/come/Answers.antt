use Rattle.std.proofs.Common.{refl, ◌∙◌, ap, cond, Some, None}
use Rattle.std.specs.Option.{option_or}
use Rattle.zi_why.specs.Known.{universe_of, picks_of}
use Rattle.zi_why.proofs.KnownLaws.{come_none, come_some}
use Rattle.zi_why.proofs.known.Known.come.Goals as goal

pub returns-in_default : goal.returns-in_default
returns-in_default c xs h =
    come_none (universe_of c.args.on.now) (picks_of c.args.on.now) xs c.args.i c.args.self.now (record c.args.self.now { came = c.insert.new.self }) c.in_default.ensures refl refl refl c.in_ok-insert.ensures.keys h

pub returns : goal.returns
returns c xs h =
    come_some (universe_of c.args.on.now) (picks_of c.args.on.now) xs c.args.i c.in-Some.p.is.now c.args.self.now (record { bearing = c.own_all.new.rows; came = c.insert.new.self; narrow = c.first_with-self.result; wide = c.first_with-self-2.result })
    c.in-Some.ensures.1 c.own_all.ensures.len c.in_ok-own_all.ensures.ok
    (c.first_with-self.ensures ∙ ap (λ b. option_or c.args.self.now.narrow (cond b (Some c.args.i) None)) c.is_narrow.ensures)
    (c.first_with-self-2.ensures ∙ ap (λ b. option_or c.args.self.now.wide (cond b (Some c.args.i) None)) c.is_wide.ensures)
    c.in_ok-insert.ensures.keys h
