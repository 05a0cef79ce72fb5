use Rattle.std.proofs.Common.{◌≡◌, ◌++◌, drop}
use Rattle.std.specs.List.{filter_map}
use Rattle.zi_universe.specs.Loading.{store_of}
use Rattle.zi_refused.specs.Refused.{refusal_at}
use Rattle.zi_refused.proofs.refusing.add_impls.Given as goal

abbrev pub invariant-loop-imp : goal.invariant-loop-imp
invariant-loop-imp l =
    l.refusals ++ filter_map (refusal_at l.terms.req l.terms.policy (store_of l.terms) l.interface) (drop l.imp-index l.impls)
    ≡ l.initial.refusals ++ filter_map (refusal_at l.terms.req l.terms.policy (store_of l.terms) l.interface) l.impls
