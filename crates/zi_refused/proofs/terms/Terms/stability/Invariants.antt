use Rattle.std.proofs.Common.{◌≡◌, ◌&&◌, bytes_eq, drop, find}
use Rattle.zi_refused.proofs.terms.Terms.stability.Given as goal

abbrev pub invariant-loop-one : goal.invariant-loop-one
invariant-loop-one l =
    find (λ o. bytes_eq o.interface l.interface && bytes_eq o.id l.imp.id) (drop l.one-index l.self.policy.overrides) ≡ find (λ o. bytes_eq o.interface l.interface && bytes_eq o.id l.imp.id) l.self.policy.overrides
