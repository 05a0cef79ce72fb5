use Rattle.std.proofs.Common.{◌≡◌, None, ap, subst, ◌∙◌}
use Rattle.zi_memory.specs.Memory.{tops_of, are_apart, are_trees, IsPlace}
use Rattle.zi_memory.proofs.TopsLemmas.{found_at, tops_insert, apart_insert}
use Rattle.zi_memory.proofs.WholeLemmas.{whole_insert}
use Rattle.zi_memory.proofs.top_entry.put_in.Goals as goal

pub unreachable-requires : goal.unreachable-requires
unreachable-requires c =
    let es = c.args.entries.now.items in
    let there = found_at c.as_slice.result.now c.as_str.result.now c.in_default.field-0 c.args.entry c.in_default.ensures.1 in
    let none : tops_of c.as_slice.result.now c.as_str.result.now ≡ None = ap (λ l. tops_of l c.as_str.result.now) c.as_slice.ensures.value ∙ ap (tops_of es) c.as_str.ensures ∙ c.requires.free in
    absurd (cc (there, none))

pub returns-clause-tops : goal.returns-clause-tops
returns-clause-tops c = ap tops_of c.in-Ok.ensures.items ∙ tops_insert c.args.entries.now.items c.in-Err.place c.args.entry c.requires.free

pub returns-clause-apart : goal.returns-clause-apart
returns-clause-apart c =
    let es = c.args.entries.now.items in
    let here = subst (λ l. IsPlace c.as_str.result.now l c.in-Err.place) c.as_slice.ensures.value c.in-Err.ensures.1 in
    let at = subst (λ n. IsPlace n es c.in-Err.place) c.as_str.ensures here in
    ap are_apart c.in-Ok.ensures.items ∙ apart_insert es c.in-Err.place c.args.entry at c.requires.free c.requires.apart

pub returns-clause-whole : goal.returns-clause-whole
returns-clause-whole c w = ap are_trees c.in-Ok.ensures.items ∙ whole_insert c.args.entries.now.items c.in-Err.place c.args.entry c.is_whole.ensures w
