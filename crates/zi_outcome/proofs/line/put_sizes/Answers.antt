use Rattle.std.proofs.Common.{◌≡◌, ◌++◌, codes, subst, ◌∙◌, Ok, Err}
use Rattle.std.specs.Fmt.{decimal}
use Rattle.zi_outcome.specs.Writing.{PutsAll}
use Rattle.zi_outcome.proofs.WritingLemmas.{then_put, put_stops}
use Rattle.zi_outcome.proofs.line.put_sizes.Goals as goal

pub returns-in-Ok : goal.returns-in-Ok
returns-in-Ok g c =
    let old = g.E.Sink.seen c.args.err.now in
    let mid = g.E.Sink.seen c.put_two.new.err in
    let whole : c.as_bytes.result.now ≡ c.args.href.now = c.as_bytes.ensures.value ∙ c.as_str.ensures in
    then_put old mid (codes "zi: " ++ c.args.href.now) ((codes " has " ++ decimal c.args.got) ++ (codes " bytes, not " ++ decimal c.args.said ++ codes "\n")) c.put_numbers.result
    (g.E.Sink.seen c.put_numbers.new.err) (subst (λ x. PutsAll old (codes "zi: " ++ x) (Ok c.in-Ok.field-0) mid) whole c.in-Ok.ensures) c.put_numbers.ensures

pub returns-in-Err : goal.returns-in-Err
returns-in-Err g c =
    let old = g.E.Sink.seen c.args.err.now in
    let new = g.E.Sink.seen c.put_two.new.err in
    let whole : c.as_bytes.result.now ≡ c.args.href.now = c.as_bytes.ensures.value ∙ c.as_str.ensures in
    put_stops old (codes "zi: " ++ c.args.href.now) ((codes " has " ++ decimal c.args.got) ++ (codes " bytes, not " ++ decimal c.args.said ++ codes "\n")) c.in-Err.e new
    (subst (λ x. PutsAll old (codes "zi: " ++ x) (Err c.in-Err.e) new) whole c.in-Err.ensures)
