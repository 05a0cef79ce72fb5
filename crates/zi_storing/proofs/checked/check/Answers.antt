use Rattle.std.proofs.Common.{IfOk, Ok, ◌∙◌}
use Rattle.zi_store.proofs.KeepingLemmas.{keeps_then, rose_later}
use Rattle.zi_store.specs.Keeping.{is_reading}
use Rattle.zi_store.specs.declared.verdicts.Verdict.TheVariants as verdict
use Rattle.zi_store.specs.Verdicts.{Verifies}
use Rattle.zi_storing.specs.StoreVerify.{ChecksAs}
use Rattle.zi_storing.proofs.StoreLemmas.{held_later, damaged_told, sound_told, missing_told, bad_told, large_told}
use Rattle.zi_storing.proofs.checked.check.Goals as goal

pub returns-in-Ok-Damaged-clause-checks : goal.returns-in-Ok-Damaged-clause-checks
returns-in-Ok-Damaged-clause-checks g c =
    λ s h e. held_later is_reading (g.K.Shelf.seen c.args.shelf.now) (g.K.Shelf.seen c.verify.new.k) (λ x. Verifies c.args.name.now (Ok (verdict.Damaged c.in-Ok-Damaged.found)) x) (λ x. IfOk c.damaged.result (λ r. ChecksAs c.args.name.now r x)) c.verify.ensures.keeps c.damaged.ensures.checks s h e
    (damaged_told _ _ _ _ (cc (c.in-Ok-Damaged.is, c.in-Ok-Damaged.field-0-is)) (c.verify.ensures.verdict s h e))

pub returns-in-Ok-Sound-clause-checks : goal.returns-in-Ok-Sound-clause-checks
returns-in-Ok-Sound-clause-checks g c = λ s h e. sound_told _ _ _ (cc (c.in-Ok-Sound.is, c.in-Ok-Sound.field-0-is)) (c.verify.ensures.verdict s h e)

pub returns-in-Ok-Missing-clause-checks : goal.returns-in-Ok-Missing-clause-checks
returns-in-Ok-Missing-clause-checks g c = λ s h e. missing_told _ _ _ (cc (c.in-Ok-Missing.is, c.in-Ok-Missing.field-0-is)) (c.verify.ensures.verdict s h e)

pub returns-in-Ok-BadName-clause-checks : goal.returns-in-Ok-BadName-clause-checks
returns-in-Ok-BadName-clause-checks g c = λ s h e. bad_told _ _ _ _ (cc (c.in-Ok-BadName.is, c.in-Ok-BadName.field-0-is)) (c.verify.ensures.verdict s h e)

pub returns-in-Ok-TooLarge-clause-checks : goal.returns-in-Ok-TooLarge-clause-checks
returns-in-Ok-TooLarge-clause-checks g c = λ s h e. large_told _ _ _ _ _ (cc (c.in-Ok-TooLarge.is, c.in-Ok-TooLarge.field-0-is)) (c.verify.ensures.verdict s h e)

pub returns-in-Ok-Damaged-clause-keeps : goal.returns-in-Ok-Damaged-clause-keeps
returns-in-Ok-Damaged-clause-keeps g c = keeps_then c.verify.ensures.keeps c.damaged.ensures.keeps

pub returns-in-Ok-Damaged-clause-cause : goal.returns-in-Ok-Damaged-clause-cause
returns-in-Ok-Damaged-clause-cause g c = λ e. rose_later _ _ _ c.verify.ensures.keeps.later (c.damaged.ensures.cause e)

pub returns-in-Ok-Damaged-clause-count : goal.returns-in-Ok-Damaged-clause-count
returns-in-Ok-Damaged-clause-count g c = λ ne. c.damaged.ensures.count ne ∙ c.verify.ensures.count (λ e. absurd (cc (c.in-Ok-Damaged.is, e)))

pub returns-in-Ok-Damaged-clause-sure : goal.returns-in-Ok-Damaged-clause-sure
returns-in-Ok-Damaged-clause-sure g c = λ s e. c.damaged.ensures.sure (c.verify.ensures.keeps.stays.sure s) e
