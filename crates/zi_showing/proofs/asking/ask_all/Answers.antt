use Rattle.std.proofs.Common.{◌≡◌, ◌-◌, ◌++◌, refl, sym, subst, arith}
use Rattle.zi_showing.specs.Steps.{at_level, asked_in}
use Rattle.zi_showing.proofs.PieceLaws.{asks_none, asks_more, asks_all, addresses, address_alone, item_next}
use Rattle.zi_showing.proofs.asking.ask_all.Goals as goal

pub loop-n-init : goal.loop-n-init
loop-n-init c = asks_none addresses address_alone item_next 0 c.args.items.now (asked_in c.args.pending.now.items) refl

pub loop-n-preserved : goal.loop-n-preserved
loop-n-preserved c =
    asks_more addresses address_alone item_next 0 c.args.items.now (c.loop-n.n - 1) c.loop-n.n c.index-items-n.result (asked_in c.args.pending.now.items) (asked_in c.loop-n.pending.items) (asked_in c.ask_next.new.pending.items)
    (omega arith) (omega arith) c.index-items-n.is (subst (λ x. asked_in c.ask_next.new.pending.items ≡ at_level 0 (address_alone x) ++ asked_in c.loop-n.pending.items) (sym c.index-items-n.is) (rw c.as_str.ensures at c.in_ok-ask_next.ensures)) c.loop-n.invariant

pub returns : goal.returns
returns c = asks_all addresses address_alone item_next 0 c.args.items.now c.loop-n.n (asked_in c.args.pending.now.items) (asked_in c.loop-n.pending.items) (omega arith) c.loop-n.invariant
