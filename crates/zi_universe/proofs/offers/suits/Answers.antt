use Rattle.std.proofs.Common.{◌∙◌, ap, sym, ltb, length, ◌||◌}
use Rattle.zi_universe.specs.Candidates.{suits, speaks}
use Rattle.zi_universe.proofs.OfferLemmas.{suits_by_place}
use Rattle.zi_universe.proofs.offers.suits.Goals as goal

pub returns-else-is_empty : goal.returns-else-is_empty
unfolding suits
returns-else-is_empty c =
    ap (λ n. ltb n (length c.args.wanted.now)) c.place_among.ensures
    ∙ suits_by_place c.args.wanted.now c.args.langs.now (sym c.if-is_empty.ensures)
    ∙ ap (λ b. b || speaks c.args.wanted.now c.args.langs.now) c.if-is_empty.ensures
