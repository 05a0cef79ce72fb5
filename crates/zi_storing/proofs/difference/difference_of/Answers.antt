use Rattle.std.proofs.Common.{IfOk, ◌∙◌}
use Rattle.zi_store.proofs.KeepingLemmas.{keeps_then, rose_later}
use Rattle.zi_store.specs.Keeping.{is_reading}
use Rattle.zi_storing.specs.StoreVerify.{HasDigest, HasOwnManifest, DiffersBy}
use Rattle.zi_storing.proofs.StoreLemmas.{own_none, own_some, two_later}
use Rattle.zi_storing.proofs.difference.difference_of.Goals as goal

pub returns-in-Ok-Some-clause-differs : goal.returns-in-Ok-Some-clause-differs
returns-in-Ok-Some-clause-differs g c =
    λ s h e d. two_later is_reading (g.K.Shelf.seen c.args.shelf.now) (g.K.Shelf.seen c.own_manifest.new.shelf) (HasDigest c.args.top.now) (λ x. HasOwnManifest c.args.a c.args.top.now x c.in-Ok-Some.own) (λ x. IfOk c.against.result (λ d. DiffersBy c.args.a c.args.top.now d x)) c.own_manifest.ensures.keeps (rw c.as_slice.ensures at c.against.ensures.differs) s h e d
    (own_some _ _ _ _ _ (cc (c.in-Ok-Some.is, c.in-Ok-Some.field-0-is)) (c.own_manifest.ensures.own s h e))

pub returns-in-Ok-None-clause-differs : goal.returns-in-Ok-None-clause-differs
returns-in-Ok-None-clause-differs g c = λ s h e d. own_none _ _ _ _ (cc (c.in-Ok-None.is, c.in-Ok-None.field-0-is)) (c.own_manifest.ensures.own s h e)

pub returns-in-Ok-Some-clause-keeps : goal.returns-in-Ok-Some-clause-keeps
returns-in-Ok-Some-clause-keeps g c = keeps_then c.own_manifest.ensures.keeps c.against.ensures.keeps

pub returns-in-Ok-Some-clause-cause : goal.returns-in-Ok-Some-clause-cause
returns-in-Ok-Some-clause-cause g c = λ e. rose_later _ _ _ c.own_manifest.ensures.keeps.later (c.against.ensures.cause e)

pub returns-in-Ok-Some-clause-count : goal.returns-in-Ok-Some-clause-count
returns-in-Ok-Some-clause-count g c = λ ne. c.against.ensures.count ne ∙ c.own_manifest.ensures.count (λ e. absurd (cc (c.in-Ok-Some.is, e)))

pub returns-in-Ok-Some-clause-sure : goal.returns-in-Ok-Some-clause-sure
returns-in-Ok-Some-clause-sure g c = λ s e. c.against.ensures.sure (c.own_manifest.ensures.keeps.stays.sure s) e
