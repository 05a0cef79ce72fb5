use Rattle.std.proofs.Common.{◌≡◌, ◌++◌, ◌∙◌, ap}
use Rattle.zi_shelf.specs.Names.{Name}
use Rattle.zi_memory.specs.Picked.{pick_of}
use Rattle.zi_memory.specs.Comers.{at, best, all_comers, removed_tops}
use Rattle.zi_memory.specs.declared.crash.Pick.{Pick}
use Rattle.zi_memory.proofs.LeftLemmas.{places, left_picked, left_apart, along}
use Rattle.zi_memory.proofs.held.Held.crash.Goals as goal

pub put_left-requires-clause-places : goal.put_left-requires-clause-places
put_left-requires-clause-places c =
    let p = pick_of c.args.pick in
    let es = c.args.self.now.entries.items in
    let ps = c.args.self.now.pending.items in
    let m = c.in_ok-comers.comers in
    let srcs = c.put_removed.new.sources.items in
    let is : (n : Name) → at m n ≡ best (all_comers p es ps) n = λ n. c.in_ok-comers.ensures n
    ∙ ap (λ (x : Pick). best (all_comers x c.as_slice.result.now c.as_slice-2.result.now) n) c.picked-pick.ensures
    ∙ ap (λ xs. best (all_comers p xs c.as_slice-2.result.now) n) c.as_slice.ensures.value
    ∙ ap (λ xs. best (all_comers p es xs) n) c.as_slice-2.ensures.value in
    let from : srcs ≡ es ++ removed_tops ps =
    c.put_removed.ensures
    ∙ ap (λ xs. xs ++ removed_tops c.replace-pending.result.items) (along c.replace-sources.result c.reserve.new.self c.replace-sources.ensures.value (λ v. v.items) ∙ c.reserve.ensures.items)
    ∙ ap (λ xs. es ++ removed_tops xs) (along c.replace-pending.result c.args.self.now.pending c.replace-pending.ensures.value (λ v. v.items)) in
    places p es srcs ps m c.args.self.now.apart c.len.ensures.ordered is from

pub invariant_of-self-2 : goal.invariant_of-self-2
invariant_of-self-2 c =
    let p = pick_of c.args.pick in
    let es = c.args.self.now.entries.items in
    let ps = c.args.self.now.pending.items in
    let m = c.in_ok-comers.comers in
    let srcs = c.put_removed.new.sources.items in
    let is : (n : Name) → at m n ≡ best (all_comers p es ps) n = λ n. c.in_ok-comers.ensures n
    ∙ ap (λ (x : Pick). best (all_comers x c.as_slice.result.now c.as_slice-2.result.now) n) c.picked-pick.ensures
    ∙ ap (λ xs. best (all_comers p xs c.as_slice-2.result.now) n) c.as_slice.ensures.value
    ∙ ap (λ xs. best (all_comers p es xs) n) c.as_slice-2.ensures.value in
    let from : srcs ≡ es ++ removed_tops ps =
    c.put_removed.ensures
    ∙ ap (λ xs. xs ++ removed_tops c.replace-pending.result.items) (along c.replace-sources.result c.reserve.new.self c.replace-sources.ensures.value (λ v. v.items) ∙ c.reserve.ensures.items)
    ∙ ap (λ xs. es ++ removed_tops xs) (along c.replace-pending.result c.args.self.now.pending c.replace-pending.ensures.value (λ v. v.items)) in
    record {
      apart = left_apart p es srcs ps m c.args.self.now.apart c.len.ensures.ordered is from c.put_left.new.left.items c.put_left.ensures.left;
      whole = c.put_left.ensures.whole;
    }

pub returns-clause-picked : goal.returns-clause-picked
returns-clause-picked c =
    let p = pick_of c.args.pick in
    let es = c.args.self.now.entries.items in
    let ps = c.args.self.now.pending.items in
    let m = c.in_ok-comers.comers in
    let srcs = c.put_removed.new.sources.items in
    let is : (n : Name) → at m n ≡ best (all_comers p es ps) n = λ n. c.in_ok-comers.ensures n
    ∙ ap (λ (x : Pick). best (all_comers x c.as_slice.result.now c.as_slice-2.result.now) n) c.picked-pick.ensures
    ∙ ap (λ xs. best (all_comers p xs c.as_slice-2.result.now) n) c.as_slice.ensures.value
    ∙ ap (λ xs. best (all_comers p es xs) n) c.as_slice-2.ensures.value in
    let from : srcs ≡ es ++ removed_tops ps =
    c.put_removed.ensures
    ∙ ap (λ xs. xs ++ removed_tops c.replace-pending.result.items) (along c.replace-sources.result c.reserve.new.self c.replace-sources.ensures.value (λ v. v.items) ∙ c.reserve.ensures.items)
    ∙ ap (λ xs. es ++ removed_tops xs) (along c.replace-pending.result c.args.self.now.pending c.replace-pending.ensures.value (λ v. v.items)) in
    left_picked p es srcs ps m c.args.self.now.apart c.len.ensures.ordered is from c.put_left.new.left.items c.put_left.ensures.left
