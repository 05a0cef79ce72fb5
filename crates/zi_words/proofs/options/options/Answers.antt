use Rattle.std.proofs.Common.{sym, ◌∙◌}
use Rattle.zi_words.proofs.TurnLemmas.{begun, again_read, refused_read, next_read}
use Rattle.zi_words.proofs.options.options.Goals as goal

pub loop-kind-init : goal.loop-kind-init
loop-kind-init c = begun c.args.loader c.args.words.now c.new-asked.result c.new-pairs.result c.new-asked.ensures c.new-pairs.ensures.empty

pub returns-then-has : goal.returns-then-has
returns-then-has c =
    again_read c.args.loader c.args.words.now c.loop-kind.left.now c.in-Some.behind.now c.loop-kind.asked c.loop-kind.pairs c.in-Some.kind c.loop-kind.invariant c.in-Some.ensures.0
    (sym c.has.ensures ∙ c.if-has.true)

pub returns-in-Err : goal.returns-in-Err
returns-in-Err c =
    refused_read c.args.loader c.args.words.now c.loop-kind.left.now c.in-Some.behind.now c.loop-kind.asked c.option.new.asked c.loop-kind.pairs c.option.new.pairs c.in-Some.kind c.in-Err.refusal
    c.loop-kind.invariant c.in-Some.ensures.0 (sym c.has.ensures ∙ c.if-has.false) c.in-Some.ensures.1 c.in-Err.ensures

pub loop-kind-preserved : goal.loop-kind-preserved
loop-kind-preserved c =
    let t = c.in-Ok.ensures in
    next_read c.args.loader c.args.words.now c.loop-kind.left.now c.in-Some.behind.now t.0 c.in-Ok.rest.now c.loop-kind.asked c.option.new.asked c.loop-kind.pairs c.option.new.pairs c.in-Some.kind
    c.loop-kind.invariant c.in-Some.ensures.0 (sym c.has.ensures ∙ c.if-has.false) c.in-Some.ensures.1 t.1 t.2 t.3 t.4
