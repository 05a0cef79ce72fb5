use Rattle.std.proofs.Common.{List, sym, subst, option_copied, arith}
use Rattle.zi_reading.specs.Ways.{ways_of}
use Rattle.zi_faults.specs.declared.carrying.Seen.{Seen}
use Rattle.zi_faults.specs.Carrying.{AreChecked}
use Rattle.zi_feed.proofs.finding.seen_in.Goals as goal

pub walk-requires : goal.walk-requires
walk-requires c = c.nothing.ensures.checked (ways_of c.args.ways)

pub returns-clause-checked : goal.returns-clause-checked
returns-clause-checked c =
    let P : List Seen → Type 0 = λ v. AreChecked (ways_of c.args.ways) v in
    c.in_ok-walk.ensures.checked (subst P (sym c.new-seen.ensures.items) (λ k d h. absurd (omega (arith, h))))
