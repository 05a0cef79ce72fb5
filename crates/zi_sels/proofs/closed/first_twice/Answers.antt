use Rattle.std.proofs.Common.{ap, sym, ◌∙◌, Bool, true, cond, List, ℕ, Bor}
use Rattle.std.specs.Prelude.{bytes_eq}
use Rattle.std.specs.Ordering.{nat_cmp}
use Rattle.std.specs.Cmp.Lexicographic.{slice_cmp}
use Rattle.std.specs.BTreeSet as tree
use Rattle.std.proofs.lemmas.Map.Text.{is_eq-slice_cmp}
use Rattle.std.proofs.lemmas.Bool.{not-false, not-true}
use Rattle.zi_faults.proofs.RepeatLaws.{set_told}
use Rattle.zi_sels.proofs.ClosedLaws.{fresh_twice, fresh_next, fresh_end}
use Rattle.zi_sels.proofs.closed.first_twice.Goals as goal

pub returns-then-not-branch : goal.returns-then-not-branch
returns-then-not-branch c =
    fresh_twice _ c.args.items.now c.loop-item.item-index c.item-item.result c.as_str-interface.result c.loop-item-test.true c.item-item.is c.as_str-interface.ensures
    (not-false _ (sym (sym c.if-not-branch.true ∙ c.in_ok-insert.ensures.added))) c.loop-item.invariant

pub loop-item-preserved : goal.loop-item-preserved
loop-item-preserved c =
    fresh_next _ _ c.args.items.now c.loop-item.item-index c.item-item.result c.as_str-interface.result c.loop-item-test.true c.item-item.is c.as_str-interface.ensures
    (not-true _ (sym (sym c.if-not-branch.false ∙ c.in_ok-insert.ensures.added)))
    (λ q. let had : Bool = tree.contains (λ (v : Bor (List ℕ)) (x : Bor (List ℕ)). slice_cmp nat_cmp v.now x.now) c.loop-item.seen q in
    set_told _ (bytes_eq c.as_str-interface.result.now q.now) had
    (c.in_ok-insert.ensures.updates.0 q ∙ ap (λ b. cond b true had) (is_eq-slice_cmp c.as_str-interface.result.now q.now)))
    c.loop-item.invariant

pub returns : goal.returns
returns c = fresh_end _ c.args.items.now _ c.loop-item-test.false c.loop-item.invariant
