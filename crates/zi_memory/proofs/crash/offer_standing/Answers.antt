use Rattle.std.proofs.Common.{◌≡◌, ◌+◌, ◌∷◌, length, take, reverse, sym, ◌∙◌, ap, arith}
use Rattle.std.proofs.lemmas.List.{take_all, length-map, length-reverse}
use Rattle.zi_memory.specs.Memory.{later_of}
use Rattle.zi_memory.specs.Comers.{at, pending_of, best, removed_comers, standing_comers}
use Rattle.zi_memory.proofs.ComingLemmas.{entries_more, entries_length, standing_more}
use Rattle.zi_memory.proofs.crash.offer_standing.Goals as goal

pub loop-place-preserved : goal.loop-place-preserved
loop-place-preserved c =
    let es = c.args.entries.now in
    let ps = c.args.pending.now in
    let l = c.loop-place in
    let e = c.index-entries-place.result in
    let others = removed_comers c.args.pick (length es) (pending_of ps) in
    let more : reverse (take (l.place + 1) es) ≡ e ∷ reverse (take l.place es) = entries_more es l.place e (omega arith) c.index-entries-place.is in
    record {
      number = l.invariant.number;
      comers = λ n. standing_more c.args.pick (pending_of ps) (reverse (take l.place es)) others e l.place _ (at c.args.firsts.now) (at l.comers) (at c.offer_entry.new.comers) c.requires.firsts (l.invariant.number ∙ sym (length-map (reverse ps) later_of ∙ length-reverse ps)) (sym (entries_length es l.place (omega arith))) l.invariant.comers c.in_ok-offer_entry.ensures n
          ∙ ap (λ q. best (standing_comers c.args.pick (pending_of ps) q others) n) (sym more);
    }

pub returns : goal.returns
returns c = λ n. c.loop-place.invariant.comers n
    ∙ ap (λ q. best (standing_comers c.args.pick (pending_of c.args.pending.now) (reverse q) (removed_comers c.args.pick (length c.args.entries.now) (pending_of c.args.pending.now))) n) (take_all c.loop-place.place c.args.entries.now (omega arith))
