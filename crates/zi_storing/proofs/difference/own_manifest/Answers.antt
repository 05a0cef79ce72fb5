use Rattle.zi_storing.proofs.StoreLemmas.{own_read, own_missing, own_long}
use Rattle.zi_storing.proofs.difference.own_manifest.Goals as goal

pub returns-in-Ok-Read-clause-own : goal.returns-in-Ok-Read-clause-own
returns-in-Ok-Read-clause-own g c =
    λ s h e. own_read _ _ _ _ _ _ c.in-Ok.ensures (cc (c.in-Ok-Read.is, c.in-Ok-Read.field-0-is)) (c.read_file.ensures.file s h e) c.where_manifest.result c.where_manifest.ensures.own

pub returns-in-Ok-Missing-clause-own : goal.returns-in-Ok-Missing-clause-own
returns-in-Ok-Missing-clause-own g c =
    λ s h e. own_missing _ _ _ _ _ c.in-Ok.ensures (cc (c.in-Ok-Missing.is, c.in-Ok-Missing.field-0-is)) (c.read_file.ensures.file s h e)

pub returns-in-Ok-TooLong-clause-own : goal.returns-in-Ok-TooLong-clause-own
returns-in-Ok-TooLong-clause-own g c =
    λ s h e. own_long _ _ _ _ _ c.in-Ok.ensures (cc (c.in-Ok-TooLong.is, c.in-Ok-TooLong.field-0-is)) (c.read_file.ensures.file s h e)
