use Rattle.std.proofs.Common.{◌≡◌, ◌++◌, ap, sym, ◌∙◌, encode_utf8}
use Rattle.zi_doc.proofs.TextLemmas.{encodes_take}
use Rattle.zi_doc.proofs.texts.letters_of.Goals as goal

pub loop-c-preserved : goal.loop-c-preserved
loop-c-preserved c =
    c.in_ok-push.ensures.ok ∙ (ap (λ v. v ++ encode_utf8 c.c-item.result) c.loop-c.invariant ∙ sym (encodes_take c.args.chars.now c.loop-c.c-index c.c-item.result c.loop-c-test.true c.c-item.is))
