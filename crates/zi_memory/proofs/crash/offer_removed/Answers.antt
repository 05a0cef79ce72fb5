use Rattle.std.proofs.Common.{◌≡◌, ◌<◌, ◌≤◌, ◌+◌, ◌∷◌, length, take, sym, subst, ◌∙◌, ap, arith}
use Rattle.std.proofs.lemmas.List.{take_all}
use Rattle.zi_shelf.specs.Crash.{removed}
use Rattle.zi_memory.specs.Memory.{later_of}
use Rattle.zi_memory.specs.Comers.{at, pending_of, first_at, best, removed_comers}
use Rattle.zi_memory.proofs.ComingLemmas.{pending_more, pending_length, place_more, few_removed, first_more, comer_more}
use Rattle.zi_memory.proofs.crash.offer_removed.Goals as goal

pub take_back-requires : goal.take_back-requires
take_back-requires c =
    let older = pending_of (take c.loop-number.number c.args.pending.now) in
    let few = few_removed older in
    let long = pending_length c.args.pending.now c.loop-number.number (omega arith) in
    let place = c.loop-number.invariant.place in
    omega (arith, few, long, place, c.requires.few)

pub loop-number-preserved : goal.loop-number-preserved
loop-number-preserved c =
    let ps = c.args.pending.now in
    let i = c.loop-number.number in
    let older = pending_of (take i ps) in
    let l = c.index-pending-number.result in
    let more : pending_of (take (i + 1) ps) ≡ later_of l ∷ older = pending_more ps i l (omega arith) c.index-pending-number.is in
    let long : i ≡ length older = sym (pending_length ps i (omega arith)) in
    let inv = c.loop-number.invariant in
    let done = c.in_ok-place.ensures in
    record {
      place = done.place ∙ place_more c.args.standing c.loop-number.place (later_of l) older inv.place ∙ ap (λ q. c.args.standing + length (removed q)) (sym more);
      firsts = λ n. first_more c.args.pick.renames (later_of l) i older (at c.loop-number.firsts) (at c.take_back.new.firsts) inv.firsts long done.firsts n ∙ ap (λ q. first_at c.args.pick.renames n q) (sym more);
      comers = λ n. comer_more c.args.pick (later_of l) i c.loop-number.place c.args.standing older (at c.loop-number.firsts) (at c.loop-number.comers) (at c.take_back.new.comers) inv.firsts long inv.place inv.comers done.comers n
          ∙ ap (λ q. best (removed_comers c.args.pick c.args.standing q) n) (sym more);
    }

pub returns-clause-firsts : goal.returns-clause-firsts
returns-clause-firsts c = λ n. c.loop-number.invariant.firsts n ∙ ap (λ ps. first_at c.args.pick.renames n (pending_of ps)) (take_all c.loop-number.number c.args.pending.now (omega arith))

pub returns-clause-comers : goal.returns-clause-comers
returns-clause-comers c = λ n. c.loop-number.invariant.comers n ∙ ap (λ ps. best (removed_comers c.args.pick c.args.standing (pending_of ps)) n) (take_all c.loop-number.number c.args.pending.now (omega arith))
