use Rattle.std.proofs.Common.{◌∙◌, sym}
use Rattle.zi_proof.specs.Cells.{known_by}
use Rattle.zi_proof.specs.Accepted.{citable}
use Rattle.zi_solve.proofs.ReplayLaws.{hinted_goes, hinted_ends}
use Rattle.zi_solve.proofs.replaying.add_hint.Goals as goal

pub returns-in-Goes : goal.returns-in-Goes
returns-in-Goes c = record {
  same = c.take_hint.ensures.len;
  hints = hinted_goes (citable c.args.f.now.constraints c.args.lemmas.now) (known_by c.args.marks.now) (known_by c.take_hint.new.marks) c.args.lit c.args.hint c.args.hints.now c.push.new.self c.requires.new c.in_ok-push.ensures.ok (sym c.in-Goes.is ∙ c.take_hint.ensures.kind) c.take_hint.ensures.after;
}

pub returns-in-Contradiction : goal.returns-in-Contradiction
returns-in-Contradiction c = record {
  same = c.take_hint.ensures.len;
  hints = hinted_ends (citable c.args.f.now.constraints c.args.lemmas.now) (known_by c.args.marks.now) (known_by c.take_hint.new.marks) c.args.lit c.args.hint c.args.hints.now c.push.new.self c.take_hint.result (λ g. (let is = c.in-Contradiction.is in cc)) c.requires.new c.in_ok-push.ensures.ok c.take_hint.ensures.kind;
}

pub returns-in-Fails : goal.returns-in-Fails
returns-in-Fails c = record {
  same = c.take_hint.ensures.len;
  hints = hinted_ends (citable c.args.f.now.constraints c.args.lemmas.now) (known_by c.args.marks.now) (known_by c.take_hint.new.marks) c.args.lit c.args.hint c.args.hints.now c.push.new.self c.take_hint.result (λ g. (let is = c.in-Fails.is in cc)) c.requires.new c.in_ok-push.ensures.ok c.take_hint.ensures.kind;
}
