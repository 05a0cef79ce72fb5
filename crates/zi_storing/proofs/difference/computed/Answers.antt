use Rattle.std.proofs.Common.{refl}
use Rattle.zi_storing.proofs.StoreLemmas.{manifest_at, computed_read, computed_not}
use Rattle.zi_storing.proofs.difference.computed.Goals as goal

pub returns-in-Ok-Read-clause-text : goal.returns-in-Ok-Read-clause-text
returns-in-Ok-Read-clause-text g c =
    λ s h e d. computed_read c.args.a c.args.top.now s.shelf c.in-Ok-Read.text (manifest_at c.args.a c.args.top.now c.args.top.now s.shelf c.manifest_of.result _ _ c.in-Ok-Read.is c.in-Ok-Read.field-0-is refl (c.manifest_of.ensures.manifest s h e))

pub returns-in-Ok-Missing-clause-text : goal.returns-in-Ok-Missing-clause-text
returns-in-Ok-Missing-clause-text g c =
    λ s h e d. computed_not c.args.a c.args.top.now s.shelf c.manifest_of.result _ _ c.in-Ok-Missing.is c.in-Ok-Missing.field-0-is tt (c.manifest_of.ensures.manifest s h e) d

pub returns-in-Ok-BadName-clause-text : goal.returns-in-Ok-BadName-clause-text
returns-in-Ok-BadName-clause-text g c =
    λ s h e d. computed_not c.args.a c.args.top.now s.shelf c.manifest_of.result _ _ c.in-Ok-BadName.is c.in-Ok-BadName.field-0-is tt (c.manifest_of.ensures.manifest s h e) d

pub returns-in-Ok-TooLarge-clause-text : goal.returns-in-Ok-TooLarge-clause-text
returns-in-Ok-TooLarge-clause-text g c =
    λ s h e d. computed_not c.args.a c.args.top.now s.shelf c.manifest_of.result _ _ c.in-Ok-TooLarge.is c.in-Ok-TooLarge.field-0-is tt (c.manifest_of.ensures.manifest s h e) d
