use Rattle.std.proofs.Common.{map}
use Rattle.zi_elements.specs.Forest.{element_view}
use Rattle.zi_faults.specs.Carrying.{seen_view}
use Rattle.zi_feed.proofs.FindingLaws.{imports_are, imports_end}
use Rattle.zi_feed.proofs.finding.imports_of.Goals as goal

pub returns : goal.returns
returns c =
    imports_are (element_view c.args.root.now) _ (map seen_view c.args.seen.now) _ c.requires
    (imports_end _ _ _ _ _ c.loop-site-test.false c.loop-site.invariant)
