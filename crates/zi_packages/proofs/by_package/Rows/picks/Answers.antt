use Rattle.std.proofs.Common.{List, ap, sym, subst, ◌∙◌}
use Rattle.std.specs.Prelude.{fold}
use Rattle.std.proofs.lemmas.Result.{IfOk-weaker}
use Rattle.zi_packages.specs.declared.named.Named.{Named}
use Rattle.zi_packages.specs.Natives.{with_new}
use Rattle.zi_packages.specs.Picks.{AreNamedAt, all_named}
use Rattle.zi_packages.proofs.by_package.Rows.picks.Goals as goal

pub returns-clause-are : goal.returns-clause-are
returns-clause-are c = IfOk-weaker c.pick_all.result _ _ (λ ps e.
    sym (ap (λ (q : List Named). fold with_new c.args.impls.now (all_named q)) c.as_slice.ensures.value ∙ c.in_ok-named.ensures.same c.args.impls.now) ∙ e) c.pick_all.ensures.are

pub returns-clause-at : goal.returns-clause-at
returns-clause-at c =
    let P : List Named → Type 0 = λ q. AreNamedAt c.args.natives.now q in
    IfOk-weaker c.pick_all.result _ _ (λ ps f. f c.args.natives.now (subst P (sym c.as_slice.ensures.value) c.in_ok-named.ensures.at)) c.pick_all.ensures.at
