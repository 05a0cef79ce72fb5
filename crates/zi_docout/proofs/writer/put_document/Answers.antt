use Rattle.std.specs.Prelude.{codes, flat_map}
use Rattle.std.proofs.Common.{◌≡◌, ◌++◌, ◌∷◌, [], false, ap, sym, ◌∙◌}
use Rattle.zi_elements.specs.Forest.{element_view}
use Rattle.zi_docout.specs.Canonical.{attr_text, declaring, rest_text, lines_text}
use Rattle.zi_docout.specs.Amiss.{is_amiss, standing_of}
use Rattle.zi_docout.proofs.WalkLemmas.{element_walk, document_put}
use Rattle.zi_docout.proofs.writer.put_document.Goals as goal

pub returns : goal.returns
returns c =
    let v = element_view c.args.root.now in
    let right : is_amiss (standing_of 0 v) ≡ false = sym c.in_ok-is_amiss.ensures ∙ c.if-branch.false in
    let named : c.as_bytes.result.now ≡ v.name = cc in
    let attrs : c.as_slice.result.now ≡ v.attrs = cc in
    let b = c.put-2.new.text.items in
    let d = c.put_declaring.new.text.items in (
      element_walk 0 0 v right ∙ c.in_ok-next.ensures.0,
      document_put c.args.text.now.items c.put.new.text.items b c.put-3.new.text.items d c.put_attrs.new.text.items c.put_rest.new.text.items c.put-4.new.text.items
          (codes "<?xml version=\"1.0\" encoding=\"utf-8\"?>" ++ 10 ∷ []) v.name (attr_text declaring) (flat_map attr_text v.attrs) (rest_text 0 v.name v.inside (lines_text 1 v.inside))
          c.in_ok-put.ensures c.in_ok-put-2.ensures (c.in_ok-put-3.ensures ∙ ap (λ w. b ++ w) named) c.in_ok-put_declaring.ensures
          (c.in_ok-put_attrs.ensures ∙ ap (λ w. d ++ flat_map attr_text w) attrs) c.in_ok-next.ensures.1 c.in_ok-put-4.ensures,
    )
