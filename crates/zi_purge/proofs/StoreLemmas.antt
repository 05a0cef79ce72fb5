-- The laws at the rules of the store.
use Rattle.std.proofs.Common.{refl}
use Rattle.zi_session.specs.StoreRules.{rules}
use Rattle.zi_session.proofs.TiedLemmas.{lawful}
use Rattle.zi_purge.specs.Machine.{Purge}
use Rattle.zi_purge.specs.Tie.{beside}
use Rattle.zi_purge.specs.StoreLaws.{StepIsEvent, StepKeeps, EventsKeep, PurgeLaw, DoneLaw}
use Rattle.zi_purge.proofs.TieLemmas.{is_event}
use Rattle.zi_purge.proofs.KeptLemmas.{is_kept, is_law}
use Rattle.zi_purge.proofs.DoneLemmas.{is_done}

pub step_is_event : StepIsEvent
step_is_event = is_event rules (record { trees = refl; tmp = refl; tries = refl })

pub step_keeps : StepKeeps
step_keeps adders p x y s t step stands c inv =
    is_kept rules lawful (beside s.shelf adders p) (beside t.shelf adders (record p { phase = y.phase })) Purge inv (step_is_event adders p x y s t step stands c)

pub events_keep : EventsKeep
events_keep = is_kept rules lawful

pub purge_law : PurgeLaw
purge_law = is_law rules lawful

pub done_law : DoneLaw
done_law = is_done rules lawful
