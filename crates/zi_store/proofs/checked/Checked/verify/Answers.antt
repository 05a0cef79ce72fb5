use Rattle.std.proofs.Common.{◌≡◌, ◌⊎◌, inl, inr, refl, subst, Ok, rules}
use Rattle.zi_store.specs.Verdicts.{Verifies}
use Rattle.zi_store.specs.declared.verdicts.Verdict.{Verdict}
use Rattle.zi_store.specs.declared.verdicts.Verdict.TheVariants as verdict
use Rattle.zi_store.proofs.KeptLemmas.{is_under, found_under, says_sound, kept_now}
use Rattle.zi_store.proofs.checked.Checked.verify.Goals as goal

pub returns-then-is_one-clause-verdict : goal.returns-then-is_one-clause-verdict
returns-then-is_one-clause-verdict g c s honest tells sound = says_sound c.args.name.now s.shelf (sound (is_under c.args.self.now.sound c.args.name.now c.in_ok-spelled.spelled _ c.in_ok-spelled.ensures c.get.ensures.value (c.is_one.ensures.yes c.if-is_one.true)))

pub returns-then-is_one-clause-sound : goal.returns-then-is_one-clause-sound
returns-then-is_one-clause-sound g c e = (is_under c.args.self.now.sound c.args.name.now c.in_ok-spelled.spelled _ c.in_ok-spelled.ensures c.get.ensures.value (c.is_one.ensures.yes c.if-is_one.true))

pub returns-in_err-verdict-clause-once : goal.returns-in_err-verdict-clause-once
returns-in_err-verdict-clause-once g c kept = absurd (c.is_one.ensures.no c.if-is_one.false (found_under c.args.self.now.sound c.args.name.now c.in_ok-spelled.spelled _ c.in_ok-spelled.ensures c.get.ensures.value kept))

pub returns-then-not-is_sound-clause-once : goal.returns-then-not-is_sound-clause-once
returns-then-not-is_sound-clause-once g c kept = absurd (c.is_one.ensures.no c.if-is_one.false (found_under c.args.self.now.sound c.args.name.now c.in_ok-spelled.spelled _ c.in_ok-spelled.ensures c.get.ensures.value kept))

pub returns-in_err-keep-clause-once : goal.returns-in_err-keep-clause-once
returns-in_err-keep-clause-once g c kept = absurd (c.is_one.ensures.no c.if-is_one.false (found_under c.args.self.now.sound c.args.name.now c.in_ok-spelled.spelled _ c.in_ok-spelled.ensures c.get.ensures.value kept))

pub returns-clause-once : goal.returns-clause-once
returns-clause-once g c kept = absurd (c.is_one.ensures.no c.if-is_one.false (found_under c.args.self.now.sound c.args.name.now c.in_ok-spelled.spelled _ c.in_ok-spelled.ensures c.get.ensures.value kept))

pub returns-clause-only : goal.returns-clause-only
returns-clause-only g c n h = kept_now (c.in_ok-keep.ensures.only n h) refl

pub returns-then-not-is_sound-clause-sound : goal.returns-then-not-is_sound-clause-sound
returns-then-not-is_sound-clause-sound g c e =
    let same : c.in_ok-verdict.verdict ≡ verdict.Sound = cc e in
    absurd (c.is_sound.ensures.no (search (rules, c.if-not-is_sound.true)) same)

pub returns-in_err-keep-clause-only : goal.returns-in_err-keep-clause-only
returns-in_err-keep-clause-only g c n h = elim (c.in_err-keep.ensures.only n h) [ inl x ↦ inl x | inr q ↦ absurd (cc q.1) ]

pub returns-clause-verdict : goal.returns-clause-verdict
returns-clause-verdict g c s honest tells sound =
    subst (λ (v : Verdict). Verifies c.args.name.now (Ok v) s.shelf) (c.is_sound.ensures.yes (search (rules, c.if-not-is_sound.false))) (c.in_ok-verdict.ensures.verdict s honest tells)
