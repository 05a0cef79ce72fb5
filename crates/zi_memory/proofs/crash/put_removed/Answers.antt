use Rattle.std.proofs.Common.{◌≡◌, ◌++◌, ◌∙◌, ap, reverse, arith}
use Rattle.std.proofs.lemmas.List.{reverse-reverse}
use Rattle.zi_memory.specs.Comers.{removed_tops}
use Rattle.zi_memory.proofs.MovedLemmas.{removed_more, all_removed}
use Rattle.zi_memory.proofs.crash.put_removed.Goals as goal

pub loop-later-init : goal.loop-later-init
loop-later-init c = record {
  made = ap (λ ls. c.args.sources.now.items ++ removed_tops (reverse ls)) c.reverse.ensures.items ∙ ap (λ ls. c.args.sources.now.items ++ removed_tops ls) (reverse-reverse c.args.pending.items);
  room = omega (arith, c.requires, c.reverse.ensures.len);
}

pub loop-later-preserved : goal.loop-later-preserved
loop-later-preserved c = record {
  made = removed_more c.loop-later.sources.items c.put_gone.new.sources.items (c.args.sources.now.items ++ removed_tops c.args.pending.items) c.loop-later.pending.items c.pop.new.self.items c.in-Some.later c.in-Some.ensures.items c.put_gone.ensures.items c.loop-later.invariant.made;
  room = omega (arith, c.loop-later.invariant.room, c.put_gone.ensures.len, c.put_gone.ensures.capacity, c.in-Some.ensures.len);
}
