use Rattle.std.proofs.Common.{inl, inr, refl}
use Rattle.zi_outcome.specs.declared.outcome.Outcome.TheVariants.{Child}
use Rattle.zi_scripting.specs.Scripting.{nothing_taken, this_taken}
use Rattle.zi_scripting.proofs.ScriptingLaws.{starts_taken}
use Rattle.zi_scripting.proofs.scripting.script.Goals as goal

pub returns-in-Ok : goal.returns-in-Ok
returns-in-Ok g c =
    let launch = c.in-Ok.launch in
    inr (launch, c.in-Ok.ensures (g.O.Sink.seen c.args.out.now) nothing_taken (this_taken launch) (Child 0) (starts_taken launch), c.write_script.ensures)

pub returns-in-Err : goal.returns-in-Err
returns-in-Err g c = inl (c.in-Err.ensures (g.O.Sink.seen c.args.out.now) nothing_taken nothing_taken c.in-Err.outcome (refl, refl), refl)
