use Rattle.std.proofs.Common.{sym, ap, ◌∙◌}
use Rattle.std.specs.Prelude.{option_copied}
use Rattle.std.proofs.lemmas.Result.{err_from_is_err_and}
use Rattle.zi_outcome.specs.declared.outcome.Outcome.TheVariants.{NotInstalled}
use Rattle.zi_fetching.proofs.FetchLaws.{none_so_far, package_lacks}
use Rattle.zi_fetching.proofs.fetching.fetch_all.Goals as goal

pub returns-in_err-names : goal.returns-in_err-names
returns-in_err-names g c =
    let q = err_from_is_err_and c.from_residual.result c.from_residual.ensures.1 in
    rw q.1 (none_so_far _ _ q.0 q.2)

pub returns-in_err-package : goal.returns-in_err-package
returns-in_err-package g c =
    let q = err_from_is_err_and c.from_residual-in_err-package.result c.from_residual-in_err-package.ensures.1 in
    rw q.1 (none_so_far _ _ q.0 q.2)

pub returns-in-Some : goal.returns-in-Some
returns-in-Some g c =
    package_lacks _ _ c.in-Some.name.now _
    (rw c.in_ok-names.ensures at (rw c.as_slice-picks.ensures at (rw c.as_slice-items.ensures at (sym c.first_uninstalled.ensures ∙ ap option_copied c.in-Some.is))))
    (ap NotInstalled c.in_ok-package.ensures)

pub fetch_in_turn-requires-clause-installed : goal.fetch_in_turn-requires-clause-installed
fetch_in_turn-requires-clause-installed g c =
    rw c.in_ok-names.ensures at (rw c.as_slice-picks.ensures at (rw c.as_slice-items.ensures at (sym c.first_uninstalled.ensures ∙ ap option_copied c.in_default.is)))
