use Rattle.std.proofs.Common.{ap, sym, ◌∙◌}
use Rattle.std.proofs.lemmas.Result.{IfOk-weaker}
use Rattle.zi_elements.specs.Forest.{element_view}
use Rattle.zi_faults.specs.Faults.{is_impl, counts}
use Rattle.zi_feed.specs.Natives.{is_package, counts_native}
use Rattle.zi_feed.proofs.GatherLaws.{impl_counts, impl_no_package, package_counts, package_no_impl, is_other, added_counting, added_no}
use Rattle.zi_feed.proofs.walking.add_at.Goals as goal

pub returns-then-is-clause-impls : goal.returns-then-is-clause-impls
returns-then-is-clause-impls c =
    IfOk-weaker c.add_impl.result _ _
    (λ x h. added_counting (counts (element_view c.args.e.now)) _ _ _ (impl_counts (element_view c.args.e.now) (sym c.is.ensures ∙ c.if-is.true) c.requires.read) h) c.add_impl.ensures.impls

pub returns-then-is-clause-natives : goal.returns-then-is-clause-natives
returns-then-is-clause-natives c =
    IfOk-weaker c.add_impl.result _ _
    (λ x h. added_no (counts_native (element_view c.args.e.now)) _ _ _ (impl_no_package (element_view c.args.e.now) (sym c.is.ensures ∙ c.if-is.true)) h) c.add_impl.ensures.natives

pub returns-clause-impls : goal.returns-clause-impls
returns-clause-impls c =
    IfOk-weaker c.add_native.result _ _
    (λ x h. added_no (counts (element_view c.args.e.now)) _ _ _
    (package_no_impl (element_view c.args.e.now)
    (is_other (is_impl (element_view c.args.e.now)) (is_package (element_view c.args.e.now)) c.requires.one (sym c.is.ensures ∙ c.if-is.false))) h) c.add_native.ensures.impls

pub returns-clause-natives : goal.returns-clause-natives
returns-clause-natives c =
    IfOk-weaker c.add_native.result _ _
    (λ x h. added_counting (counts_native (element_view c.args.e.now)) _ _ _
    (package_counts (element_view c.args.e.now)
    (is_other (is_impl (element_view c.args.e.now)) (is_package (element_view c.args.e.now)) c.requires.one (sym c.is.ensures ∙ c.if-is.false)) c.requires.read) h) c.add_native.ensures.natives

pub add_native-requires-clause-langs : goal.add_native-requires-clause-langs
add_native-requires-clause-langs c = ap (λ m. m.langs) c.requires.made
