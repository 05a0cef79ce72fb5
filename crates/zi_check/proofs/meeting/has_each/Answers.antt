use Rattle.std.proofs.Common.{ℕ, List, rules, tests}
use Rattle.std.proofs.lemmas.Iterator.{cases_from_all, YieldsList-from_slice}
use Rattle.std.specs.Prelude.{IsSome}
use Rattle.zi_choice.specs.Choice.{command_at}
use Rattle.zi_check.specs.Parts.{universe_of, picks_of}
use Rattle.zi_check.proofs.MeetLaws.{tells_all}
use Rattle.zi_check.proofs.meeting.has_each.Goals as goal

pub returns : goal.returns
returns c =
    tells_all (λ (name : List ℕ). IsSome (command_at (universe_of c.args.on.now) (picks_of c.args.on.now) c.args.i name)) c.all.result c.args.names.now
    (cases_from_all _ _ _ (λ (name : List ℕ). IsSome (command_at (universe_of c.args.on.now) (picks_of c.args.on.now) c.args.i name)) (λ x. (λ (name : List ℕ). IsSome (command_at (universe_of c.args.on.now) (picks_of c.args.on.now) c.args.i name)) x → ⊥) c.all.ensures.ran (YieldsList-from_slice c.args.names.now cc) (λ x q k. search (rules, tests)) (λ x q k. search (rules, tests)))
