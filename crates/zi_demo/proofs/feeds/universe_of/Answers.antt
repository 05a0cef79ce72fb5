use Rattle.zi_outside.specs.Memory.{sure_told}
use Rattle.zi_demo.proofs.HeldLemmas.{none_held, all_held}
use Rattle.zi_demo.proofs.feeds.universe_of.Goals as goal

pub returns-clause-held : goal.returns-clause-held
returns-clause-held c =
    all_held c.args.n (sure_told c.new-feeds.result).holds (sure_told c.put_three.new.into).holds (sure_told c.put_three-2.new.into).holds (sure_told c.put_three-3.new.into).holds
    (sure_told c.put_later_ones.new.into).holds (sure_told c.put_two.new.into).holds (sure_told c.put_root.new.into).holds (none_held c.new-feeds.result c.new-feeds.ensures)
    c.in_ok-put_three.ensures.held c.in_ok-put_three-2.ensures.held c.in_ok-put_three-3.ensures.held c.in_ok-put_later_ones.ensures.held c.in_ok-put_two.ensures.held
    c.in_ok-put_root.ensures.held
