use Rattle.std.proofs.Common.{ap, sym, ◌∙◌}
use Rattle.std.specs.Prelude.{option_and_then}
use Rattle.zi_version.specs.Range.{a_version}
use Rattle.zi_elements.specs.declared.element.Element.{Element}
use Rattle.zi_elements.specs.Forest.{element_view}
use Rattle.zi_faults.specs.Said.{taken}
use Rattle.zi_feed.specs.Impls.{langs_of}
use Rattle.zi_faults.specs.Carrying.{said_by}
use Rattle.zi_feed.specs.Inward.{added_with}
use Rattle.zi_faults.proofs.SaidLaws.{same_version, same_langs}
use Rattle.zi_feed.proofs.ShareLaws.{around_own}
use Rattle.zi_feed.proofs.around.around_with.Goals as goal

pub made_at-requires-clause-said : goal.made_at-requires-clause-said
made_at-requires-clause-said c = c.in_ok-said.ensures.said

pub returns-clause-said : goal.returns-clause-said
returns-clause-said c = c.in_ok-said.ensures.said ∙ ap (λ (d : Element). taken (said_by c.args.outer.now.said) (element_view d)) c.element-e.ensures

pub returns-clause-added : goal.returns-clause-added
returns-clause-added c = c.in_ok-added.ensures.0 ∙ ap (added_with c.args.outer.now.added) c.in_ok-own.ensures

pub returns-clause-latest : goal.returns-clause-latest
returns-clause-latest c = c.in_ok-added.ensures.1

pub returns-clause-made : goal.returns-clause-made
returns-clause-made c = c.in_ok-made.ensures

pub numbers_at-requires-clause-version : goal.numbers_at-requires-clause-version
numbers_at-requires-clause-version c = λ h.
    ap (λ m. m.version) c.in_ok-made.ensures
    ∙ (ap (option_and_then a_version) (same_version (said_by c.args.outer.now.said) (said_by c.in_ok-said.said) (element_view c.element-e.result.now) c.in_ok-said.ensures.said h)
    ∙ sym (ap (λ m. m.version) c.requires.made))

pub numbers_at-requires-clause-langs : goal.numbers_at-requires-clause-langs
numbers_at-requires-clause-langs c = λ h.
    ap (λ m. m.langs) c.in_ok-made.ensures
    ∙ (ap langs_of (same_langs (said_by c.args.outer.now.said) (said_by c.in_ok-said.said) (element_view c.element-e.result.now) c.in_ok-said.ensures.said h)
    ∙ sym (ap (λ m. m.langs) c.requires.made))

pub numbers_at-requires-clause-deps : goal.numbers_at-requires-clause-deps
numbers_at-requires-clause-deps c = around_own c.args.outer.now.added.deps c.in_ok-added.added.deps c.in_ok-own.own.deps (ap (λ a. a.deps) c.in_ok-added.ensures.0)

pub returns-clause-adds : goal.returns-clause-adds
returns-clause-adds c = c.in_ok-numbers.ensures.adds

pub returns-clause-fit : goal.returns-clause-fit
returns-clause-fit c = c.in_ok-numbers.ensures.fit
