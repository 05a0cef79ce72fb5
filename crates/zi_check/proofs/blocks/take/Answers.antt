use Rattle.std.proofs.Common.{◌≡◌, ◌∙◌, refl, sym, subst, true}
use Rattle.std.proofs.lemmas.Bool.{false≢true}
use Rattle.zi_proof.specs.Accepted.{accepted}
use Rattle.zi_check.specs.Taking.{formula_of, lemmas_of}
use Rattle.zi_check.proofs.TakeLaws.{took_yes, took_no, took_none}
use Rattle.zi_check.proofs.blocks.take.Goals as goal

pub returns-in_default : goal.returns-in_default
returns-in_default c = record {
  took = took_none c.args.on.now (record { place = c.args.place; candidate = c.args.candidate; assumed = c.args.assumed.now }) c.args.next.now c.args.next.now c.in_default.ensures.lookup.3;
  same = refl;
}

pub returns-then-block-place : goal.returns-then-block-place
returns-then-block-place c = record {
  took = took_no c.args.on.now (record { place = c.args.place; candidate = c.args.candidate; assumed = c.args.assumed.now }) c.in-Some.block.now c.args.next.now c.args.next.now c.in-Some.ensures.lookup.3.0 c.in-Some.ensures.lookup.1 (λ p q r. c.if-block-place.true p);
  same = refl;
}

pub returns-then-block-candidate : goal.returns-then-block-candidate
returns-then-block-candidate c = record {
  took = took_no c.args.on.now (record { place = c.args.place; candidate = c.args.candidate; assumed = c.args.assumed.now }) c.in-Some.block.now c.args.next.now c.args.next.now c.in-Some.ensures.lookup.3.0 c.in-Some.ensures.lookup.1 (λ p q r. c.if-block-candidate.true q);
  same = refl;
}

pub returns-then-not-check_block : goal.returns-then-not-check_block
returns-then-not-check_block c = record {
  took = took_no c.args.on.now (record { place = c.args.place; candidate = c.args.candidate; assumed = c.args.assumed.now }) c.in-Some.block.now c.args.next.now c.args.next.now c.in-Some.ensures.lookup.3.0 c.in-Some.ensures.lookup.1
      (λ p q r. false≢true (sym c.if-not-check_block.true ∙ c.check_block.ensures.value ∙ subst (λ hs. accepted (formula_of c.args.on.now) (lemmas_of c.args.on.now) c.args.assumed.now hs ≡ true) (sym c.as_slice.ensures) r));
  same = c.check_block.ensures.len;
}

pub returns : goal.returns
returns c = record {
  took = took_yes c.args.on.now (record { place = c.args.place; candidate = c.args.candidate; assumed = c.args.assumed.now }) c.in-Some.block.now c.args.next.now c.in-Some.ensures.lookup.3.0 c.in-Some.ensures.lookup.1 c.if-block-place.false c.if-block-candidate.false
      (subst (λ hs. accepted (formula_of c.args.on.now) (lemmas_of c.args.on.now) c.args.assumed.now hs ≡ true) c.as_slice.ensures (sym c.check_block.ensures.value ∙ c.if-not-check_block.false));
  same = c.check_block.ensures.len;
}
