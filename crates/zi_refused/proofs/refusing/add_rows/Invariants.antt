use Rattle.std.proofs.Common.{◌≡◌, ◌++◌, drop}
use Rattle.std.specs.List.{filter_map}
use Rattle.zi_packages.specs.Picks.{all_picked}
use Rattle.zi_universe.specs.Loading.{store_of}
use Rattle.zi_refused.specs.Refused.{refusal_at}
use Rattle.zi_refused.proofs.refusing.add_rows.Given as goal

abbrev pub invariant-loop-pick : goal.invariant-loop-pick
invariant-loop-pick l =
    l.refusals ++ filter_map (refusal_at l.terms.req l.terms.policy (store_of l.terms) l.interface) (all_picked (drop l.pick-index l.picks))
    ≡ l.initial.refusals ++ filter_map (refusal_at l.terms.req l.terms.policy (store_of l.terms) l.interface) (all_picked l.picks)
