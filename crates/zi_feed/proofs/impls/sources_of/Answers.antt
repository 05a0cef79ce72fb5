use Rattle.std.proofs.Common.{ap, sym, ◌∙◌, option_copied}
use Rattle.std.specs.List.{filter_map}
use Rattle.zi_elements.specs.declared.element.Element.{Element}
use Rattle.zi_elements.specs.Forest.{element_view}
use Rattle.zi_parts.specs.Digests.{digests_of}
use Rattle.zi_parts.specs.Methods.{method_of}
use Rattle.zi_reading.specs.Reading.{parts}
use Rattle.zi_reading.specs.Ways.{ways_of}
use Rattle.zi_reading.specs.Views.{part_views}
use Rattle.zi_feed.proofs.impls.sources_of.Goals as goal

pub digests_of-requires : goal.digests_of-requires
digests_of-requires c =
    ap part_views c.as_slice.ensures.value
    ∙ (c.in_ok-parts.ensures ∙ ap (λ (d : Element). parts (ways_of c.args.ways) (element_view d)) (sym c.element-e.ensures))

pub returns : goal.returns
returns c =
    let counted = ap part_views c.as_slice-2.ensures.value ∙ c.in_ok-parts.ensures in
    let digests = c.in_ok-digests_of.ensures ∙ ap (λ (d : Element). digests_of (ways_of c.args.ways) (element_view d)) c.element-e.ensures in
    λ i. record {
      digests = digests i;
      methods = (c.in_ok-methods_of.ensures ∙ ap (filter_map (method_of (ways_of c.args.ways))) counted) i;
    }
