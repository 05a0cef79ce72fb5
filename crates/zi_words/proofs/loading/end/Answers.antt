use Rattle.std.proofs.Common.{ℕ, ◌-◌, length, arith, sym, ap, ◌∙◌, subst}
use Rattle.zi_words.specs.Forms.{is_address}
use Rattle.zi_words.specs.Refused.{Asks, LeftAt}
use Rattle.zi_words.specs.Taken.{IsEnd}
use Rattle.zi_words.proofs.EndLemmas.{end_none, end_wrong, end_short, end_more, open_ended, just_ended}
use Rattle.zi_words.proofs.loading.end.Goals as goal

pub returns-in-None : goal.returns-in-None
returns-in-None c = end_none c.args.loader c.args.words.now c.in-None.ensures.cases

pub returns-then-not-is_address : goal.returns-then-not-is_address
returns-then-not-is_address c =
    end_wrong c.args.loader c.args.words.now c.in-Some.behind.now c.in-Some.root.now c.in-Some.ensures.cases.0
    (ap is_address (sym c.as_str.ensures) ∙ (sym c.is_address.ensures ∙ c.if-not-is_address.true))

pub returns-then-takes_more : goal.returns-then-takes_more
returns-then-takes_more c = (
  c.in-Some.ensures.cases.0,
  ap is_address (sym c.as_str.ensures) ∙ (sym c.is_address.ensures ∙ c.if-not-is_address.false),
  open_ended c.args.loader c.in-Some.behind.now (sym c.takes_more.ensures ∙ c.if-takes_more.true),
)

pub returns-then-behind-count : goal.returns-then-behind-count
returns-then-behind-count c =
    end_short c.args.loader c.args.words.now c.in-Some.behind.now c.in-Some.root.now (sym c.takes_more.ensures ∙ c.if-takes_more.false) c.in-Some.ensures.cases.0
    (ap is_address (sym c.as_str.ensures) ∙ (sym c.is_address.ensures ∙ c.if-not-is_address.false)) (omega (arith, c.if-behind-count.true, c.count.ensures))

pub returns-then-behind-count-2 : goal.returns-then-behind-count-2
returns-then-behind-count-2 c =
    let P : ℕ → Type 0 = λ n. LeftAt (Asks (IsEnd c.args.loader)) c.args.words.now (length c.in-Some.behind.now - n) in
    subst P (sym c.count-then-behind-count-2.ensures)
    (end_more c.args.loader c.args.words.now c.in-Some.behind.now c.in-Some.root.now (sym c.takes_more.ensures ∙ c.if-takes_more.false) c.in-Some.ensures.cases.0
    (ap is_address (sym c.as_str.ensures) ∙ (sym c.is_address.ensures ∙ c.if-not-is_address.false)) (omega (arith, c.if-behind-count-2.true, c.count-else-behind-count.ensures)))

pub returns-else-behind-count-2 : goal.returns-else-behind-count-2
returns-else-behind-count-2 c = (
  c.in-Some.ensures.cases.0,
  ap is_address (sym c.as_str.ensures) ∙ (sym c.is_address.ensures ∙ c.if-not-is_address.false),
  just_ended c.args.loader c.in-Some.behind.now (omega (arith, c.if-behind-count.false, c.if-behind-count-2.false, c.count.ensures, c.count-else-behind-count.ensures)),
)
