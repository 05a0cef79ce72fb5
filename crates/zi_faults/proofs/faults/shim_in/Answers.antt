use Rattle.std.proofs.Common.{ap, ◌∙◌, map, sym}
use Rattle.std.specs.List.{filter}
use Rattle.std.specs.Prelude.{codes}
use Rattle.zi_faults.specs.declared.fault.FeedKind.TheVariants.{BadPart}
use Rattle.zi_reading.specs.Kinds.{name_of}
use Rattle.zi_reading.specs.Reading.{those}
use Rattle.zi_reading.specs.Words.{listed}
use Rattle.zi_reading.specs.Views.{views, part_views}
use Rattle.zi_faults.specs.Faults.{fault_at, least, is_bad_shim}
use Rattle.zi_faults.proofs.RepeatLaws.{all_shims}
use Rattle.zi_faults.proofs.faults.shim_in.Goals as goal

pub returns : goal.returns
returns c =
    let there = ap part_views c.as_slice-2.ensures.value ∙ c.in_ok-parts.ensures in
    c.least_bad_shim.ensures
    ∙ all_shims _ _ (views c.in_ok-shims.shims.items) _ (sym c.takes_shims.ensures ∙ c.if-not-takes_shims.false)
    (c.in_ok-shims.ensures ∙ (ap (λ v. those (map name_of v) (part_views c.as_slice-2.result.now)) c.as_slice.ensures ∙ ap (those (listed (codes "executable-in-var executable-in-path"))) there))
    (ap (λ v. least (map (λ r. fault_at r BadPart) (filter is_bad_shim (views v)))) c.as_slice-3.ensures.value)
