use Rattle.std.proofs.Common.{[], ◌≡◌, refl, arith, length, subst, ◌<◌, ◌≤◌, ◌^◌}
use Rattle.std.proofs.lemmas.Bool.Decides.{nat_tests}
use Rattle.zi_proof.specs.Accepted.{citable}
use Rattle.zi_sat.specs.Trail.{lits_of}
use Rattle.zi_sat.specs.Marking.{lesson}
use Rattle.zi_proof.proofs.Cites.{follows_within}
use Rattle.zi_sat.proofs.FewLaws.{log_few}
use Rattle.zi_sat.proofs.EndLaws.{no_model_here, lawful_grown, lawful_back, some_entry}
use Rattle.zi_sat.proofs.ChainLaws.{chained}
use Rattle.zi_sat.proofs.LearnLaws.{learned_follows, learned_lean, learned_fresh, learned_filled, learned_hushed, learned_cut, refuted_follows, refuted_lean, refuted_fresh, refuted_proves}
use Rattle.zi_sat.proofs.BehindLaws.{longer_none, longer_same, longer_one}
use Rattle.zi_sat.proofs.rounds.resolve.Goals as goal

pub learn_all-requires-clause-earlier : goal.learn_all-requires-clause-earlier
learn_all-requires-clause-earlier g c = follows_within c.args.f.now [] c.args.proof.now.lemmas c.requires.log

pub learn_all-requires-clause-chained : goal.learn_all-requires-clause-chained
learn_all-requires-clause-chained g c =
    chained (citable c.args.f.now.constraints c.args.proof.now.lemmas) c.args.f.now.constraints (g.D.Decider.chooses c.args._d.now c.args.f.now.variables) c.args.t.now.entries c.requires.lawful c.are_new.ensures.undecided

pub learn-requires-clause-earlier : goal.learn-requires-clause-earlier
learn-requires-clause-earlier g c = follows_within c.args.f.now [] c.args.proof.now.lemmas c.requires.log

pub learn-requires-clause-chained : goal.learn-requires-clause-chained
learn-requires-clause-chained g c =
    chained (citable c.args.f.now.constraints c.args.proof.now.lemmas) c.args.f.now.constraints (g.D.Decider.chooses c.args._d.now c.args.f.now.variables) c.args.t.now.entries c.requires.lawful c.are_new.ensures.undecided

pub returns-then-len-budget-clause-end : goal.returns-then-len-budget-clause-end
returns-then-len-budget-clause-end g c =
    let full : length c.args.proof.now.lemmas ≡ c.args.budget = grind (arith, nat_tests) in
    (refl, full, no_model_here c.args.f.now c.args.proof.now.lemmas c.args.t.now.entries c.args.hint c.requires.log c.requires.conflict, c.requires.filled, subst (λ n. n < 3 ^ c.args.f.now.variables) full (log_few c.args.f.now c.args.proof.now.lemmas c.requires.log c.requires.fresh c.requires.filled))

pub returns-in_ok-learn_all-in-None-clause-log : goal.returns-in_ok-learn_all-in-None-clause-log
returns-in_ok-learn_all-in-None-clause-log g c =
    refuted_follows c.args.f.now c.args.t.now.variables c.args.proof.now.lemmas c.learn_all.new.proof.lemmas c.args.t.now.entries c.requires.same c.requires.log (chained (citable c.args.f.now.constraints c.args.proof.now.lemmas) c.args.f.now.constraints (g.D.Decider.chooses c.args._d.now c.args.f.now.variables) c.args.t.now.entries c.requires.lawful c.are_new.ensures.undecided) c.are_new.ensures.undecided c.are_new.ensures.within c.in_ok-learn_all-in-None.ensures.ok

pub returns-in_ok-learn_all-in-None-clause-lean : goal.returns-in_ok-learn_all-in-None-clause-lean
returns-in_ok-learn_all-in-None-clause-lean g c =
    refuted_lean c.args.f.now.constraints c.args.proof.now.lemmas c.learn_all.new.proof.lemmas c.args.t.now.entries c.requires.lean (chained (citable c.args.f.now.constraints c.args.proof.now.lemmas) c.args.f.now.constraints (g.D.Decider.chooses c.args._d.now c.args.f.now.variables) c.args.t.now.entries c.requires.lawful c.are_new.ensures.undecided) c.are_new.ensures.undecided c.in_ok-learn_all-in-None.ensures.ok

pub returns-in_ok-learn_all-in-None-clause-fresh : goal.returns-in_ok-learn_all-in-None-clause-fresh
returns-in_ok-learn_all-in-None-clause-fresh g c =
    refuted_fresh c.args.f.now.constraints c.args.proof.now.lemmas c.learn_all.new.proof.lemmas c.args.t.now.entries c.requires.fresh c.requires.filled c.are_new.ensures.undecided c.in_ok-learn_all-in-None.ensures.ok

pub returns-in_ok-learn_all-in-None-clause-lawful : goal.returns-in_ok-learn_all-in-None-clause-lawful
returns-in_ok-learn_all-in-None-clause-lawful g c =
    let l = c.in_ok-learn_all-in-None.ensures.ok in
    lawful_grown c.args.f.now.constraints c.args.proof.now.lemmas c.learn_all.new.proof.lemmas (lesson l.marked (lits_of c.args.t.now.entries) l.hints) (g.D.Decider.chooses c.args._d.now c.args.f.now.variables) c.args.t.now.entries l.added c.requires.lawful

pub returns-in_ok-learn_all-in-None-clause-end : goal.returns-in_ok-learn_all-in-None-clause-end
returns-in_ok-learn_all-in-None-clause-end g c =
    refuted_proves c.args.f.now.constraints c.args.proof.now.lemmas c.learn_all.new.proof.lemmas c.args.t.now.entries c.are_new.ensures.undecided c.in_ok-learn_all-in-None.ensures.ok

pub returns-in_ok-keep-in-Some-clause-log : goal.returns-in_ok-keep-in-Some-clause-log
returns-in_ok-keep-in-Some-clause-log g c =
    learned_follows c.args.f.now c.args.t.now.variables c.args.proof.now.lemmas c.learn.new.proof.lemmas c.args.t.now.entries c.in-Some.start c.in_ok-keep-in-Some.keep c.requires.same c.requires.log (chained (citable c.args.f.now.constraints c.args.proof.now.lemmas) c.args.f.now.constraints (g.D.Decider.chooses c.args._d.now c.args.f.now.variables) c.args.t.now.entries c.requires.lawful c.are_new.ensures.undecided) c.are_new.ensures.undecided c.are_new.ensures.within c.in_ok-keep-in-Some.ensures.ok

pub returns-in_ok-keep-in-Some-clause-lean : goal.returns-in_ok-keep-in-Some-clause-lean
returns-in_ok-keep-in-Some-clause-lean g c =
    learned_lean c.args.f.now.constraints c.args.proof.now.lemmas c.learn.new.proof.lemmas c.args.t.now.entries c.in-Some.start c.in_ok-keep-in-Some.keep c.requires.lean (chained (citable c.args.f.now.constraints c.args.proof.now.lemmas) c.args.f.now.constraints (g.D.Decider.chooses c.args._d.now c.args.f.now.variables) c.args.t.now.entries c.requires.lawful c.are_new.ensures.undecided) c.are_new.ensures.undecided c.in_ok-keep-in-Some.ensures.ok

pub returns-in_ok-keep-in-Some-clause-fresh : goal.returns-in_ok-keep-in-Some-clause-fresh
returns-in_ok-keep-in-Some-clause-fresh g c =
    learned_fresh c.args.f.now.constraints c.args.proof.now.lemmas c.learn.new.proof.lemmas c.args.t.now.entries c.in-Some.start c.in_ok-keep-in-Some.keep some_entry c.requires.once c.requires.filled c.requires.fresh c.requires.hushed c.in-Some.ensures.0 (c.in-Some.ensures.1 some_entry) c.are_new.ensures.undecided c.in_ok-keep-in-Some.ensures.ok

pub returns-in_ok-keep-in-Some-clause-filled : goal.returns-in_ok-keep-in-Some-clause-filled
returns-in_ok-keep-in-Some-clause-filled g c =
    learned_filled c.args.f.now.constraints c.args.proof.now.lemmas c.learn.new.proof.lemmas c.args.t.now.entries c.in-Some.start c.in_ok-keep-in-Some.keep some_entry c.requires.once c.requires.filled c.requires.hushed c.in-Some.ensures.0 (c.in-Some.ensures.1 some_entry) c.are_new.ensures.undecided c.in_ok-keep-in-Some.ensures.ok

pub returns-in_ok-keep-in-Some-clause-hushed : goal.returns-in_ok-keep-in-Some-clause-hushed
returns-in_ok-keep-in-Some-clause-hushed g c =
    learned_hushed c.args.f.now.constraints c.args.proof.now.lemmas c.learn.new.proof.lemmas c.args.t.now.entries c.truncate.new.self.entries c.in-Some.start c.in_ok-keep-in-Some.keep c.requires.hushed c.are_new.ensures.undecided c.in_ok-keep-in-Some.ensures.ok c.truncate.ensures.entries

pub returns-in_ok-keep-in-Some-clause-lawful : goal.returns-in_ok-keep-in-Some-clause-lawful
returns-in_ok-keep-in-Some-clause-lawful g c =
    let l = c.in_ok-keep-in-Some.ensures.ok in
    let lt : c.in_ok-keep-in-Some.keep < length c.args.t.now.entries = let a : c.in_ok-keep-in-Some.keep ≤ c.in-Some.start = l.bound in let b : c.in-Some.start < length c.args.t.now.entries = c.in-Some.ensures.0 in omega arith in
    lawful_back c.args.f.now.constraints c.args.proof.now.lemmas c.learn.new.proof.lemmas (lesson l.marked (lits_of c.args.t.now.entries) l.hints) (g.D.Decider.chooses c.args._d.now c.args.f.now.variables) c.args.t.now.entries c.truncate.new.self.entries c.in_ok-keep-in-Some.keep some_entry l.added c.truncate.ensures.entries lt (l.decided some_entry) c.requires.lawful

pub returns-in_ok-keep-in-Some-clause-grown : goal.returns-in_ok-keep-in-Some-clause-grown
returns-in_ok-keep-in-Some-clause-grown g c =
    let l = c.in_ok-keep-in-Some.ensures.ok in
    record {
      lemma = lesson l.marked (lits_of c.args.t.now.entries) l.hints;
      added = l.added;
      cut = learned_cut (citable c.args.f.now.constraints c.args.proof.now.lemmas) c.args.proof.now.lemmas c.learn.new.proof.lemmas c.args.t.now.entries c.truncate.new.self.entries c.in-Some.start c.in_ok-keep-in-Some.keep c.are_new.ensures.undecided c.in-Some.ensures.0 l c.truncate.ensures.entries;
    }

pub returns-then-len-budget-clause-longer : goal.returns-then-len-budget-clause-longer
returns-then-len-budget-clause-longer g c = longer_none c.args.proof.now.lemmas

pub returns-in_ok-learn_all-in-None-clause-longer : goal.returns-in_ok-learn_all-in-None-clause-longer
returns-in_ok-learn_all-in-None-clause-longer g c =
    let l = c.in_ok-learn_all-in-None.ensures.ok in
    longer_one c.args.proof.now.lemmas c.learn_all.new.proof.lemmas (lesson l.marked (lits_of c.args.t.now.entries) l.hints) l.added

pub returns-in_ok-keep-in-Some-clause-longer : goal.returns-in_ok-keep-in-Some-clause-longer
returns-in_ok-keep-in-Some-clause-longer g c =
    let l = c.in_ok-keep-in-Some.ensures.ok in
    longer_one c.args.proof.now.lemmas c.learn.new.proof.lemmas (lesson l.marked (lits_of c.args.t.now.entries) l.hints) l.added

pub returns-in_err-learn_all-in-None-clause-longer : goal.returns-in_err-learn_all-in-None-clause-longer
returns-in_err-learn_all-in-None-clause-longer g c =
    longer_same c.args.proof.now.lemmas c.learn_all.new.proof.lemmas c.in_err-learn_all-in-None.ensures.err

pub returns-in_err-keep-in-Some-clause-longer : goal.returns-in_err-keep-in-Some-clause-longer
returns-in_err-keep-in-Some-clause-longer g c =
    longer_same c.args.proof.now.lemmas c.learn.new.proof.lemmas c.in_err-keep-in-Some.ensures.err
