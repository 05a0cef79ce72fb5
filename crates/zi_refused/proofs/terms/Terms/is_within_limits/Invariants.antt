use Rattle.std.proofs.Common.{◌≡◌, ◌||◌, not, bytes_eq, drop}
use Rattle.std.specs.List.{list_all}
use Rattle.zi_version.specs.Range.{admits}
use Rattle.zi_refused.proofs.terms.Terms.is_within_limits.Given as goal

abbrev pub invariant-loop-limit : goal.invariant-loop-limit
invariant-loop-limit l =
    list_all (λ x. not (bytes_eq x.interface l.interface) || admits x.range l.version) (drop l.limit-index l.self.req.limits)
    ≡ list_all (λ x. not (bytes_eq x.interface l.interface) || admits x.range l.version) l.self.req.limits
