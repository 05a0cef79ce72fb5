use Rattle.std.proofs.Common.{◌≡◌, ◌≤◌, sym, subst, true, is_ok}
use Rattle.zi_proof.specs.Known.{is_open}
use Rattle.zi_sat.specs.Trail.{known_from}
use Rattle.zi_sat.proofs.CutLaws.{said_is, said_within, said_added, spoken_ok}
use Rattle.zi_sat.proofs.watches.say.Goals as goal

pub push-requires-clause-low : goal.push-requires-clause-low
push-requires-clause-low c =
    subst (λ l. 1 ≤ l.variable) (sym (said_is (known_from c.args.t.now.entries) c.args.lits.now _ c.requires.speaks)) (said_within c.args.t.now.variables (known_from c.args.t.now.entries) c.args.lits.now c.requires.speaks c.requires.within).0

pub push-requires-clause-high : goal.push-requires-clause-high
push-requires-clause-high c =
    subst (λ l. l.variable ≤ c.args.t.now.variables) (sym (said_is (known_from c.args.t.now.entries) c.args.lits.now _ c.requires.speaks)) (said_within c.args.t.now.variables (known_from c.args.t.now.entries) c.args.lits.now c.requires.speaks c.requires.within).1

pub push-requires-clause-undecided : goal.push-requires-clause-undecided
push-requires-clause-undecided c =
    subst (λ l. is_open (known_from c.args.t.now.entries l.variable) ≡ true) (sym (said_is (known_from c.args.t.now.entries) c.args.lits.now _ c.requires.speaks)) c.requires.speaks.undecided

pub returns-clause-added : goal.returns-clause-added
returns-clause-added c =
    λ all f. said_added all c.args.t.now.entries c.push.new.self.entries c.args.hint c.args.lits.now _ (is_ok c.push.result) c.requires.speaks c.push.ensures.entries f

pub returns-clause-spoke : goal.returns-clause-spoke
returns-clause-spoke c =
    spoken_ok c.args.t.now.entries c.push.new.self.entries c.args.hint c.args.lits.now _ c.push.result c.push.ensures.entries
