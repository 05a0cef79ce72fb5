-- At most one choice is best.
use Rattle.std.proofs.Common.{sym, inl, inr}
use Rattle.zi_choice.specs.Laws.{BestIsOne}
use Rattle.zi_choice.proofs.ChoiceLaws.{same_choice}
use Rattle.zi_choice.proofs.OrderLaws.{not_both_earlier}

pub best_one : BestIsOne
best_one u req s t bs bt =
    elim (same_choice s t) [
      | inl e ↦ e
      | inr apart ↦ absurd (not_both_earlier u req s t (bs.earlier t bt.valid (λ e. apart (sym e))) (bt.earlier s bs.valid apart))
    ]
