use Rattle.zi_sels.proofs.SelectionsLaws.{are_selected}
use Rattle.zi_sels.proofs.choosing.from_choice.Goals as goal

pub returns : goal.returns
returns c =
    are_selected c.args.u.now c.in_ok-names.names c.args.req.now c.args.choice.now.picks c.as_slice-picks.result.now c.in_ok-traced.traced c.as_slice.result.now
    c.in_ok-items.items.items c.sort.new.items.items (record { interface = c.in_ok-interface.interface; command = c.in_ok-command.command; items = c.from_vec.result })
    c.in_ok-names.ensures c.as_slice-picks.ensures c.in_ok-traced.ensures c.as_slice.ensures c.in_ok-items.ensures c.interfaces-whole.ensures.whole
    c.sort.ensures.same c.sort.ensures.sorted c.in_ok-interface.ensures c.in_ok-command.ensures c.from_vec.ensures
