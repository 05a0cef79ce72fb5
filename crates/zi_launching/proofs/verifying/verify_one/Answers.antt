use Rattle.std.proofs.Common.{refl}
use Rattle.zi_store.specs.KeptNames.{IsKept}
use Rattle.zi_store.proofs.KeptLemmas.{kept_now}
use Rattle.zi_launching.proofs.LaunchLaws.{sound_one, not_kept}
use Rattle.zi_launching.proofs.verifying.verify_one.Goals as goal

pub returns-in-Ok-Sound-clause-verifies : goal.returns-in-Ok-Sound-clause-verifies
returns-in-Ok-Sound-clause-verifies g c =
    sound_one (IsKept c.args.checked.now c.args.name.now) c.args.name.now (g.K.Shelf.seen c.args.shelf.now) (g.K.Shelf.seen c.verify.new.k) c.verify.ensures.keeps (c.in-Ok-Sound.ensures.count (λ e. cc e))
    (rw c.in-Ok-Sound.field-0-is at c.in-Ok-Sound.ensures.verdict)

pub returns-in-Ok-Sound-clause-only : goal.returns-in-Ok-Sound-clause-only
returns-in-Ok-Sound-clause-only g c n h = kept_now (c.verify.ensures.only n h) refl

pub returns-in-Ok-Missing-clause-only : goal.returns-in-Ok-Missing-clause-only
returns-in-Ok-Missing-clause-only g c n h = not_kept (c.verify.ensures.only n h) (λ r. cc (r, c.in-Ok-Missing.is, c.in-Ok-Missing.field-0-is))

pub returns-in-Ok-Damaged-clause-only : goal.returns-in-Ok-Damaged-clause-only
returns-in-Ok-Damaged-clause-only g c n h = not_kept (c.verify.ensures.only n h) (λ r. cc (r, c.in-Ok-Damaged.is, c.in-Ok-Damaged.field-0-is))

pub returns-in-Ok-BadName-clause-only : goal.returns-in-Ok-BadName-clause-only
returns-in-Ok-BadName-clause-only g c n h = not_kept (c.verify.ensures.only n h) (λ r. cc (r, c.in-Ok-BadName.is, c.in-Ok-BadName.field-0-is))

pub returns-in-Ok-TooLarge-clause-only : goal.returns-in-Ok-TooLarge-clause-only
returns-in-Ok-TooLarge-clause-only g c n h = not_kept (c.verify.ensures.only n h) (λ r. cc (r, c.in-Ok-TooLarge.is, c.in-Ok-TooLarge.field-0-is))

pub returns-in-Err-Failed-clause-only : goal.returns-in-Err-Failed-clause-only
returns-in-Err-Failed-clause-only g c n h = not_kept (c.verify.ensures.only n h) (λ r. cc (r, c.in-Err-Failed.is))

pub returns-in-Err-Memory-clause-only : goal.returns-in-Err-Memory-clause-only
returns-in-Err-Memory-clause-only g c n h = not_kept (c.verify.ensures.only n h) (λ r. cc (r, c.in-Err-Memory.is))
