use Rattle.std.proofs.Common.{map-id, ◌∙◌, sym, subst}
use Rattle.std.proofs.lemmas.Iterator.{YieldsList-from_chars}
use Rattle.std.proofs.lemmas.Iterator.Consumers.{YieldsList-end}
use Rattle.std.specs.List.{flat_map}
use Rattle.std.specs.Io.KnownBytes.{Appends}
use Rattle.std.specs.Str.{encode_utf8_all}
use Rattle.zi_shown.specs.Shown.{visible, shown}
use Rattle.zi_shown.proofs.ShownLemmas.{grown}
use Rattle.zi_shown.proofs.show_chars.Goals as goal

pub loop-c-preserved : goal.loop-c-preserved
loop-c-preserved g c = grown _ _ _ c.loop-c.yielded c.in-Some.c c.loop-c.invariant c.in_ok-show_char.ensures

pub returns : goal.returns
unfolding shown
returns g c =
    let end = YieldsList-end (YieldsList-from_chars c.args.text.now c.utf8.text cc) c.loop-c.yielded _ c.loop-c.yielded_by _ _ c.in-None.is c.next.ensures.steps in
    subst (λ cs. Appends (g.W.Write.contents c.args.writer.now) (g.W.Write.contents c.loop-c.writer) (encode_utf8_all (flat_map visible cs))) (sym (map-id c.loop-c.yielded) ∙ end.0) c.loop-c.invariant
