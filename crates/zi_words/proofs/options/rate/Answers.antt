use Rattle.std.proofs.Common.{◌≡◌, [], ◌∷◌, ◌||◌, sym, ap, ◌∙◌, inl, inr}
use Rattle.zi_text.proofs.ListLaws.{cond_or}
use Rattle.zi_words.proofs.options.rate.Goals as goal
use Rattle.std.proofs.Common.{refl}
use Rattle.std.specs.Ordering.{is_eq}
use Rattle.std.proofs.lemmas.Bool.{not-false, not-true}
use Rattle.zi_policy.specs.Stabilities.{stability_of}
use Rattle.zi_words.specs.Taken.{Key, key_cmp, holds}
use Rattle.zi_words.proofs.TakenLemmas.{is_there, unrated, rated, with_overrides}

pub returns-then-not-branch : goal.returns-then-not-branch
returns-then-not-branch c =
    let u = c.in_ok-interface.interface.now in
    let rest = c.in_ok-interface.behind.now in
    let id = c.in-Some.id.now in
    let last = c.in-Some.last.now in
    let key : Key = (c.as_str.result, c.as_str-2.result) in
    let there = not-false _ (sym (sym c.if-not-branch.true ∙ c.in_ok-insert.ensures.added)) in
    inr (u, rest, c.in_ok-interface.ensures.0, c.in_ok-interface.ensures.1, inr (id, last, key, c.in-Some.ensures.cases.0, (c.as_str.ensures, c.as_str-2.ensures), inl (there, refl)))

pub returns-in-Err : goal.returns-in-Err
returns-in-Err c =
    let u = c.in_ok-interface.interface.now in
    let rest = c.in_ok-interface.behind.now in
    let id = c.in-Some.id.now in
    let last = c.in-Some.last.now in
    let key : Key = (c.as_str.result, c.as_str-2.result) in
    let absent = not-true _ (sym (sym c.if-not-branch.false ∙ c.in_ok-insert.ensures.added)) in
    unrated c.args.asked.now c.args.asked.now c.args.pairs.now c.insert.new.self c.args.words.now rest last u id key c.in-Err.refusal
    c.in_ok-interface.ensures.0 c.in_ok-interface.ensures.1 c.in-Some.ensures.cases.0 (c.as_str.ensures, c.as_str-2.ensures) absent c.in-Err.ensures

pub returns : goal.returns
returns c =
    let u = c.in_ok-interface.interface.now in
    let rest = c.in_ok-interface.behind.now in
    let id = c.in-Some.id.now in
    let key : Key = (c.as_str.result, c.as_str-2.result) in
    let absent = not-true _ (sym (sym c.if-not-branch.false ∙ c.in_ok-insert.ensures.added)) in
    let e = c.in-Ok.ensures in
    let a = c.args.asked.now in
    let told : (q : Key) → holds c.insert.new.self q ≡ (holds c.args.pairs.now q || is_eq (key_cmp key q)) =
    λ q. c.in_ok-insert.ensures.updates.0 q ∙ cond_or (is_eq (key_cmp key q)) (holds c.args.pairs.now q) in (
      u ∷ id ∷ e.0 ∷ [],
      c.in_ok-interface.ensures.0 ∙ ap (λ v. u ∷ v) (c.in-Some.ensures.cases.0 ∙ ap (λ v. id ∷ v) e.1),
      (c.in_ok-interface.ensures.1, (tt, (is_there (stability_of e.0) c.in-Ok.rated.0 e.2, tt))),
      ap (with_overrides a) (rated a.overrides c.push.new.self c.in_ok-interface-2.interface u c.in_ok-id.id id c.in-Ok.rated.0 (stability_of e.0) c.in_ok-push.ensures.ok c.in_ok-interface-2.ensures c.in_ok-id.ensures e.2),
      (key, (c.as_str.ensures, c.as_str-2.ensures), absent, told),
    )
