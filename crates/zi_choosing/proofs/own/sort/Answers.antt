use Rattle.std.proofs.Common.{◌≡◌, ap, rules}
use Rattle.std.proofs.lemmas.Fn.{always_returns_same}
use Rattle.std.proofs.lemmas.List.Sorted.{ranks_by}
use Rattle.std.proofs.lemmas.Cmp.{nat_list_cmp_total}
use Rattle.std.specs.Ordering.{is_lt, nat_cmp}
use Rattle.std.specs.Cmp.Lexicographic.{slice_cmp}
use Rattle.zi_sels.specs.declared.types.Selection.{Selection}
use Rattle.zi_choosing.proofs.own.sort.Goals as goal

pub returns-clause-sorted : goal.returns-clause-sorted
returns-clause-sorted c =
    c.sort_unstable_by.ensures.sorted
    (λ (x y : Selection). is_lt (slice_cmp nat_cmp x.interface y.interface))
    (ranks_by nat_list_cmp_total (λ (x : Selection). x.interface))
    (always_returns_same _ _ _ (λ a r f' k. (let e : r ≡ slice_cmp nat_cmp a.0.now.interface a.1.0.now.interface = search rules in ap is_lt e, search rules)))
